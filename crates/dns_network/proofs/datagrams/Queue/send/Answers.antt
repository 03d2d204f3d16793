use Rattle.std.proofs.Common.{arith, ◌≡◌, ◌-◌, List, ℕ, [], map, take, drop, get_or, subst, ap, ◌∙◌}
use Rattle.std.specs.declared.net.ip_addr.IpAddr.TheVariants.{V4}
use Rattle.std.proofs.lemmas.List.{take_all}
use Rattle.dns_network.specs.declared.datagrams.Datagram.{Datagram as Place}
use Rattle.dns_network.specs.Datagrams.{Datagram, HaveGone, stands_in}
use Rattle.dns_network.proofs.ReadAhead.{between_places}
use Rattle.dns_network.proofs.Steps.{next_step}
use Rattle.dns_network.proofs.datagrams.Queue.send.Goals as goal

pub loop-datagram-preserved : goal.loop-datagram-preserved
loop-datagram-preserved g c =
    let places : List Place = take (c.self.inside.end - c.self.inside.done) (drop c.self.inside.done c.deref.result.now) in
    let none : Place = record { octets = []; count = 0; peer = record { address = V4 (record { octets = [] }); port = 0; local = 0 } } in
    next_step (λ old one new. g.S.DatagramSocket.sends old one new) stands_in places c.loop-datagram.datagram-index none
    c.args.socket.now c.loop-datagram.socket c.send.new.self c.loop-datagram-test.true c.loop-datagram.invariant
    (subst (λ (xs : List ℕ). g.S.DatagramSocket.sends c.loop-datagram.socket (xs, (get_or places c.loop-datagram.datagram-index none).peer) c.send.new.self) c.octets.ensures c.send.ensures)

pub returns-clause-sent : goal.returns-clause-sent
returns-clause-sent g c =
    let places : List Place = take (c.self.inside.end - c.self.inside.done) (drop c.self.inside.done c.deref.result.now) in
    let at = c.loop-datagram.datagram-index in
    let all : map stands_in (take at places) ≡ c.args.self.now =
    ap (map stands_in) (take_all at places (omega (arith, c.loop-datagram-test.false)))
    ∙ ap (λ (ps : List Place). map stands_in (take (c.self.inside.end - c.self.inside.done) (drop c.self.inside.done ps))) c.deref.ensures.value
    ∙ between_places c.self.inside.places.items c.self.inside.done c.self.inside.end c.self.invariant.0
    ∙ c.self.view_is in
    subst (λ (l : List Datagram). HaveGone g.S.DatagramSocket l c.args.socket.now c.loop-datagram.socket) all c.loop-datagram.invariant
