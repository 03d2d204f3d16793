use Rattle.std.specs.Prelude.{IsTrue, false}
use Rattle.std.proofs.Common.{◌≡◌, ℕ, [], None, refl, sym, ap, subst, ◌∙◌, List}
use Rattle.dns_wire.specs.Building.{Building}
use Rattle.dns_request.specs.declared.request.Transport.{Transport}
use Rattle.dns_request.specs.declared.request.Transport.TheVariants.{Udp, Tcp}
use Rattle.dns_transfer.specs.Left.{left_at}
use Rattle.dns_transfer.specs.Messages.{message_with}
use Rattle.dns_transfer.specs.Session.{IsFilled, Sending, SendsBy}
use Rattle.dns_transfer.specs.declared.unsent.Place.{Place}
use Rattle.dns_transfer.proofs.Filled.{next_of, some_left}
use Rattle.dns_transfer.proofs.session.Session.next_message.Goals as goal
use Rattle.dns_transfer.proofs.session.Session.next_message.Goals.{in-Tcp+in_ok-message-in-Tcp+in_ok-fill-in-Tcp, in-Udp+in_ok-datagram-in-Udp}

pub returns-clause-sent : goal.returns-clause-sent
returns-clause-sent g c =
    let s = c.self.inside in
    let d = c.args.self.now in
    let at = left_at s.soa (g.I.ZoneIndex.records s.index) s.history in
    let made = c.match-self.octets in (
      ap (λ (x : Sending). record x { question = None; left = at made.1 }) c.self.view_is,
      elim (c.match-self.branch) [
        | in-Tcp+in_ok-message-in-Tcp+in_ok-fill-in-Tcp w ↦
            (let message = w.in_ok-message-in-Tcp.message in
            let octets = w.in_ok-fill-in-Tcp.octets.items in
            let rest = at w.in_ok-fill-in-Tcp.position in
            let as_begun = subst (λ (b : Building). IsFilled b.reply b.limit (at s.position) octets rest) w.in_ok-message-in-Tcp.ensures w.in_ok-fill-in-Tcp.ensures in
            let filled = subst (λ (x : Sending). IsFilled (message_with d.heading d.question []) 16384 x.left octets rest) c.self.view_is as_begun in
            let next = next_of d.heading d.question d.left rest octets filled in
            let by : d.transport ≡ Tcp = sym (ap (λ (x : Sending). x.transport) c.self.view_is) ∙ w.in-Tcp.is in
            let sends : SendsBy d.transport d octets rest = subst (λ (t : Transport). SendsBy t d octets rest) (sym by) next in
            let with_octets : SendsBy d.transport d made.0.items rest = subst (λ (xs : List ℕ). SendsBy d.transport d xs rest) (sym (λ i. (w.octets-is i).0.items)) sends in
            subst (λ (p : Place). SendsBy d.transport d made.0.items (at p)) (sym (λ i. (w.octets-is i).1)) with_octets)
        | in-Udp+in_ok-datagram-in-Udp w ↦
            (let octets = w.in_ok-datagram-in-Udp.field-0.items in
            let by : d.transport ≡ Udp = sym (ap (λ (x : Sending). x.transport) c.self.view_is) ∙ w.in-Udp.is in
            let sends : SendsBy d.transport d octets [] = subst (λ (t : Transport). SendsBy t d octets []) (sym by) (w.in_ok-datagram-in-Udp.ensures, refl) in
            let with_octets : SendsBy d.transport d made.0.items [] = subst (λ (xs : List ℕ). SendsBy d.transport d xs []) (sym (λ i. (w.octets-is i).0.items)) sends in
            subst (λ (p : Place). SendsBy d.transport d made.0.items (at p)) (sym (λ i. (w.octets-is i).1)) with_octets)
      ],
    )

pub returns-clause-more : goal.returns-clause-more
returns-clause-more g c none =
    let s = c.self.inside in
    let more = some_left s.soa (g.I.ZoneIndex.records s.index) s.history s.position (λ e. (let no : IsTrue false = c.if-is_end.ensures.1 e in cc)) in
    let left = ap (λ (x : Sending). x.left) c.self.view_is in
    absurd (let clash = sym more.2 ∙ left ∙ none in cc)
