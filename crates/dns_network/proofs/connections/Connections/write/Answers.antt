use Rattle.std.proofs.Common.{arith, ◌<◌, vec_len}
use Rattle.dns_network.proofs.Pushed.{closed_there, moved_one, nothing_moved, nothing_there}
use Rattle.dns_network.proofs.connections.Connections.write.Goals as goal

pub returns-in-Some : goal.returns-in-Some
returns-in-Some g c =
    let places = c.args.self.now.places in
    let within : c.args.number < vec_len places = omega arith in
    moved_one c.args.number places.items (vec_len places) c.index_mut.result.now (omega (arith, places.ok)) within c.index_mut.ensures.value
    g.S.Stream c.args.now c.write.result c.in-Some.connection c.write.new.self c.in-Some.is (record { moved = c.write.ensures.moved; answered = c.write.ensures.answered; ended = c.write.ensures.ended })

pub returns-in-None : goal.returns-in-None
returns-in-None g c =
    let places = c.args.self.now.places in
    let within : c.args.number < vec_len places = omega arith in
    nothing_moved g.S.Stream c.args.now c.args.number places.items _
    (closed_there c.args.number places.items (vec_len places) c.index_mut.result.now (omega (arith, places.ok)) within c.index_mut.ensures.value c.in-None.is)
    (nothing_there c.args.number places.items (vec_len places) c.index_mut.result.now (omega (arith, places.ok)) within c.index_mut.ensures.value)
