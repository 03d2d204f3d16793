use Rattle.std.proofs.Common.{arith, ◌≡◌, ◌<◌, length, vec_len}
use Rattle.dns_network.proofs.Pushed.{handed_one, none_waits, nothing_there}
use Rattle.dns_network.proofs.connections.Connections.next_message.Goals as goal

pub returns-in-Some : goal.returns-in-Some
returns-in-Some g c =
    let places = c.args.self.now.places in
    let within : c.args.number < vec_len places = omega arith in
    let handed = c.next_message.ensures in
    handed_one c.args.number places.items (vec_len places) c.index_mut.result.now (omega (arith, places.ok)) within c.index_mut.ensures.value
    (λ m. m.items) c.next_message.result c.args.now c.in-Some.connection c.next_message.new.self c.in-Some.is handed.first handed.left handed.stream handed.rest handed.used handed.none

pub returns-in-None : goal.returns-in-None
returns-in-None g c =
    let places = c.args.self.now.places in
    let within : c.args.number < vec_len places = omega arith in
    let long : vec_len places ≡ length places.items = omega (arith, places.ok) in (
      nothing_there c.args.number places.items (vec_len places) c.index_mut.result.now long within c.index_mut.ensures.value,
      none_waits c.args.number places.items (vec_len places) c.index_mut.result.now long within c.index_mut.ensures.value c.in-None.is,
    )
