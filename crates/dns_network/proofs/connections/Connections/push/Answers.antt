use Rattle.std.proofs.Common.{arith, ◌<◌, vec_len}
use Rattle.dns_network.proofs.Pushed.{on_ok, pushed_one, pushed_none}
use Rattle.dns_network.proofs.connections.Connections.push.Goals as goal

pub returns-in-Some-clause-queued : goal.returns-in-Some-clause-queued
returns-in-Some-clause-queued g c =
    let places = c.args.self.now.places in
    let within : c.args.number < vec_len places = omega arith in
    on_ok c.push.result
    (λ queued. pushed_one c.args.number places.items (vec_len places) c.index_mut.result.now (omega (arith, places.ok)) within c.index_mut.ensures.value c.args.reply.now c.in-Some.connection c.push.new.self c.in-Some.is queued)
    c.push.ensures.queued

pub returns-in-None-clause-queued : goal.returns-in-None-clause-queued
returns-in-None-clause-queued g c =
    let places = c.args.self.now.places in
    let within : c.args.number < vec_len places = omega arith in
    pushed_none c.args.number places.items (vec_len places) c.index_mut.result.now (omega (arith, places.ok)) within c.index_mut.ensures.value c.args.reply.now c.in-None.is
