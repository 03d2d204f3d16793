use Rattle.std.proofs.Common.{◌≡◌, ◌∙◌, List, refl, subst, ap}
use Rattle.dns_network.specs.declared.datagrams.Datagrams.{Datagrams}
use Rattle.dns_network.specs.Datagrams.{Datagram, IsLeaving}
use Rattle.dns_network.proofs.ReadAhead.{leaves_last}
use Rattle.dns_network.proofs.datagrams.Datagrams.send.Goals as goal
use Rattle.dns_network.proofs.datagrams.Datagrams.send.Goals.{then-is_empty-via-then-is_empty, then-is_empty-via-else-is_empty+then-not-push}

pub returns-then-is_empty-clause-leaving : goal.returns-then-is_empty-clause-leaving
returns-then-is_empty-clause-leaving g c =
    let new = record c.send_all.new.self { socket = c.send.new.self } in
    let from = leaves_last g.S.DatagramSocket (c.args.octets.now, c.args.to) c.then-is_empty.self c.send_all.new.self new c.send_all.ensures c.send.ensures refl refl in
    let same : c.then-is_empty.self ≡ c.args.self.now =
    elim c.then-is_empty.branch [
      | then-is_empty-via-then-is_empty w ↦ w.self-is
      | then-is_empty-via-else-is_empty+then-not-push w ↦ w.self-is ∙ ap (λ (q : List Datagram). record c.args.self.now { leaving = q }) (w.push.ensures.full w.if-not-push.true)
    ] in
    subst (λ (d : Datagrams g.row.S.Denot). IsLeaving g.S.DatagramSocket (c.args.octets.now, c.args.to) d new) same from
