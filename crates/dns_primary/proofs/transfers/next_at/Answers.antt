use Rattle.std.proofs.Common.{◌≡◌, List, [], sym, ap, subst, ◌∙◌}
use Rattle.std.specs.Prelude.{MatchOption, OnErr, true, false, Option, None, Some, Result, Ok, Err}
use Rattle.dns_transfer.specs.Session.{Sending, SendsMessage}
use Rattle.dns_primary.specs.declared.transfers.OpenTransfer.{OpenTransfer}
use Rattle.dns_primary.specs.Sending.{EndsOn, SendsOn}
use Rattle.dns_primary.proofs.Moved.{got}
use Rattle.dns_primary.proofs.Transferred.{found, is_first, ends, sends_last, sends_on, same_on}
use Rattle.dns_primary.proofs.transfers.next_at.Goals as goal

refused_by : {T E P : Type 0} (r : Result T E) → P → OnErr r P
refused_by (Ok v) p = tt
refused_by (Err e) p = p

-- of a message, or of none
of_message : {V A B : Type 0} {C D : V → Type 0} (o : Option V) → MatchOption o A C → (A → B) → ((v : V) → C v → D v) → MatchOption o B D
of_message None h none some = none h
of_message (Some v) h none some = some v h

pub returns-in_err-message-clause-refused : goal.returns-in_err-message-clause-refused
returns-in_err-message-clause-refused g c =
    let items = c.args.transfers.now.items in
    let u = c.next_of.new.transfer in
    let one = found c.args.number c.args.index items c.requires.first in
    let here : c.index_mut.result.now ≡ one.transfer =
    c.index_mut.ensures.value ∙ got items c.args.index one.transfer c.index_mut.result.now (is_first c.args.number c.args.index items one) in
    let number_is : u.number ≡ (one.transfer).number = c.in_err-message.ensures.number ∙ ap (λ (t : OpenTransfer g.row.I.Denot). t.number) here in
    let same : u.session ≡ (one.transfer).session = c.in_err-message.ensures.refused ∙ ap (λ (t : OpenTransfer g.row.I.Denot). t.session) here in
    refused_by c.from_residual.result (same_on c.args.number c.args.index items one u number_is same)

pub returns-then-not-is_done-clause-sent : goal.returns-then-not-is_done-clause-sent
returns-then-not-is_done-clause-sent g c =
    let items = c.args.transfers.now.items in
    let u = c.next_of.new.transfer in
    let one = found c.args.number c.args.index items c.requires.first in
    let here : c.index_mut.result.now ≡ one.transfer =
    c.index_mut.ensures.value ∙ got items c.args.index one.transfer c.index_mut.result.now (is_first c.args.number c.args.index items one) in
    let number_is : u.number ≡ (one.transfer).number = c.in_ok-message.ensures.number ∙ ap (λ (t : OpenTransfer g.row.I.Denot). t.number) here in
    let more : (u.session).left ≡ [] → ⊥ = λ none. (let clash : true ≡ false = sym (c.in_ok-message.ensures.done.1 none) ∙ c.if-not-is_done.true in cc) in
    of_message c.in_ok-message.message
    (subst
    (λ (t : OpenTransfer g.row.I.Denot). MatchOption c.in_ok-message.message ((u.session ≡ t.session) × ((t.session).left ≡ []))
    (λ octets. ((t.session).left ≡ [] → ⊥) × SendsMessage t.session octets.items u.session)) here c.in_ok-message.ensures.sent)
    (λ h. absurd (more (ap (λ (s : Sending). s.left) h.0 ∙ h.1))) (λ octets h. sends_on c.args.number c.args.index items one u number_is octets.items h.0 h.1 more)

pub returns-clause-sent : goal.returns-clause-sent
returns-clause-sent g c =
    let items = c.args.transfers.now.items in
    let u = c.next_of.new.transfer in
    let one = found c.args.number c.args.index items c.requires.first in
    let here : c.index_mut.result.now ≡ one.transfer =
    c.index_mut.ensures.value ∙ got items c.args.index one.transfer c.index_mut.result.now (is_first c.args.number c.args.index items one) in
    let number_is : u.number ≡ (one.transfer).number = c.in_ok-message.ensures.number ∙ ap (λ (t : OpenTransfer g.row.I.Denot). t.number) here in
    let none : (u.session).left ≡ [] = c.in_ok-message.ensures.done.0 c.if-not-is_done.false in
    of_message c.in_ok-message.message
    (subst
    (λ (t : OpenTransfer g.row.I.Denot). MatchOption c.in_ok-message.message ((u.session ≡ t.session) × ((t.session).left ≡ []))
    (λ octets. ((t.session).left ≡ [] → ⊥) × SendsMessage t.session octets.items u.session)) here c.in_ok-message.ensures.sent)
    (λ h. subst (λ (l : List (OpenTransfer g.row.I.Denot)). EndsOn c.args.number items l) (sym c.forget.ensures) (ends c.args.number c.args.index items one u number_is h.1))
    (λ octets h. subst (λ (l : List (OpenTransfer g.row.I.Denot)). SendsOn c.args.number octets.items items l) (sym c.forget.ensures)
    (sends_last c.args.number c.args.index items one u number_is octets.items h.0 h.1 none))
