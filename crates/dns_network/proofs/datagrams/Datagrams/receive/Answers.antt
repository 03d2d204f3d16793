use Rattle.std.proofs.Common.{◌≡◌, List, ℕ, ◌∷◌, refl, ap, sym, subst, ◌∙◌}
use Rattle.dns_network.specs.declared.datagrams.Datagrams.{Datagrams}
use Rattle.dns_network.specs.Datagrams.{Datagram, AreRead, arrived_of, leaving_of, socket_of}
use Rattle.dns_network.proofs.ReadAhead.{copied_least, first_of, read_first, still_there}
use Rattle.dns_network.proofs.datagrams.Datagrams.receive.Goals as goal
use Rattle.dns_network.proofs.datagrams.Datagrams.receive.Goals.{then-is_empty, else-is_empty}

pub returns-clause-handed : goal.returns-clause-handed
returns-clause-handed g c =
    let D : Type 0 = Datagrams g.row.S.Denot in
    let octets = c.octets-octets.result.now in
    let peer = c.in_ok-first.first.now.peer in
    let one : Datagram = (octets, peer) in
    let after : D = c.if-is_empty.self in
    let new : D = record after { arrived = c.skip.new.self } in
    let stands : (rest : List Datagram) × (arrived_of after ≡ one ∷ rest) =
    subst (λ (xs : List ℕ). (rest : List Datagram) × (arrived_of after ≡ (xs, peer) ∷ rest)) (sym c.octets-octets.ensures) c.in_ok-first.ensures in
    let first : arrived_of after ≡ one ∷ arrived_of new = first_of (arrived_of after) (arrived_of new) one stands c.skip.ensures in (
      octets,
      copied_least octets c.args.into.now c.copy_from_slice.new.self c.min-count.result c.min-count.ensures c.copy_from_slice.ensures.after,
      elim c.if-is_empty.branch [
        | then-is_empty w ↦ read_first g.S.DatagramSocket one c.args.self.now w.send_all.new.self after new w.send_all.ensures
            (c.is_empty.ensures.none w.if-is_empty.true)
            (subst (λ (d : D). AreRead g.S.DatagramSocket (arrived_of d) (socket_of w.send_all.new.self) (socket_of d)) (sym w.self-is) w.read_ahead.ensures.read)
            (ap (λ (d : D). leaving_of d) w.self-is ∙ w.read_ahead.ensures.leaving) refl refl first
        | else-is_empty w ↦ still_there g.S.DatagramSocket one c.args.self.now new (ap (λ (d : D). socket_of d) w.self-is)
            (ap (λ (d : D). leaving_of d) w.self-is) (sym (ap (λ (d : D). arrived_of d) w.self-is) ∙ first)
      ],
    )
