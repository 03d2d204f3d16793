use Rattle.std.proofs.Common.{arith, inl, ◌<◌, vec_len, slice_set, Some}
use Rattle.dns_network.specs.Connection.{HasLost, HasRead}
use Rattle.dns_network.specs.Connections.{HasReadAt}
use Rattle.dns_network.proofs.Pushed.{become_one, closed_there, if_ok, nothing_moved, nothing_there, on_err, read_one}
use Rattle.dns_network.proofs.connections.Connections.read.Goals as goal

pub returns-in-Some-clause-moved : goal.returns-in-Some-clause-moved
returns-in-Some-clause-moved g c = λ now.
    let places = c.args.self.now.places in
    let within : c.args.number < vec_len places = omega arith in
    let d = c.read.new.self in
    if_ok (λ moved. HasRead g.S.Stream now moved c.in-Some.connection d)
    (λ moved. HasReadAt g.S.Stream now c.args.number moved places.items (slice_set places.items c.args.number (Some d)))
    c.read.result
    (λ moved on. read_one c.args.number places.items (vec_len places) c.index_mut.result.now (omega (arith, places.ok)) within c.index_mut.ensures.value g.S.Stream now moved c.in-Some.connection d c.in-Some.is on)
    (c.read.ensures.moved now)

pub returns-in-None-clause-moved : goal.returns-in-None-clause-moved
returns-in-None-clause-moved g c = λ now.
    let places = c.args.self.now.places in
    let within : c.args.number < vec_len places = omega arith in
    inl (
    nothing_moved g.S.Stream now c.args.number places.items _
    (closed_there c.args.number places.items (vec_len places) c.index_mut.result.now (omega (arith, places.ok)) within c.index_mut.ensures.value c.in-None.is)
    (nothing_there c.args.number places.items (vec_len places) c.index_mut.result.now (omega (arith, places.ok)) within c.index_mut.ensures.value)
    )

pub returns-in-Some-clause-lost : goal.returns-in-Some-clause-lost
returns-in-Some-clause-lost g c =
    let places = c.args.self.now.places in
    let within : c.args.number < vec_len places = omega arith in
    on_err c.read.result
    (λ lost. become_one c.args.number places.items (vec_len places) c.index_mut.result.now (omega (arith, places.ok)) within c.index_mut.ensures.value (HasLost g.S.Stream) c.in-Some.connection c.read.new.self c.in-Some.is lost)
    c.read.ensures.lost
