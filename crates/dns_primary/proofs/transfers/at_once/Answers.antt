use Rattle.std.proofs.Common.{◌≡◌, inl, [], subst}
use Rattle.std.specs.Prelude.{MatchOption}
use Rattle.dns_transfer.specs.Session.{SendsMessage}
use Rattle.dns_primary.proofs.transfers.at_once.Goals as goal

pub returns-in-Some : goal.returns-in-Some
returns-in-Some g c =
    let s = c.args.session in
    let t = c.next_message.new.self in
    let h : SendsMessage s c.in-Some.octets.items t = subst (λ o. MatchOption o ((t ≡ s) × (s.left ≡ [])) (λ octets. SendsMessage s octets.items t)) c.in-Some.is c.in-Ok.ensures.sent in
    inl (c.in-Some.octets.items, t, h, c.message_to.ensures)
