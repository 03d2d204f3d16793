use Rattle.std.proofs.Common.{◌≡◌, true, true≢false, List, [], refl, sym, ap, subst, ◌∙◌, append-nil}
use Rattle.std.proofs.lemmas.Result.{err_from_is_err_and}
use Rattle.dns_records.specs.Record.{Record}
use Rattle.dns_changes.specs.Change.{Change, is_formed}
use Rattle.dns_changes.specs.Entry.{HasEntry, entry, counted}
use Rattle.dns_changes.proofs.Entries.{change_of, behind_old, behind_new, behind_removed, behind_added, is_that, has_entry, left_over}
use Rattle.dns_changes.proofs.change.Change.decode.Goals as goal

form_of : (old new a b : Record) (rs ss xs ys : List Record) → old ≡ a → rs ≡ xs → new ≡ b → ss ≡ ys → is_formed (change_of old rs new ss) ≡ is_formed (change_of a xs b ys)
form_of old new a b rs ss xs ys e f g h = λ i. is_formed (change_of (e i) (f i) (g i) (h i))

pub returns-in_err-new_soa-clause-only : goal.returns-in_err-new_soa-clause-only
returns-in_err-new_soa-clause-only c = λ change has e. (
    let at = behind_old change c.args.octets.now c.in_ok-old_soa.rest.now c.in_ok-old_soa.old_soa has e c.in_ok-old_soa.ensures.found in
    let p = err_from_is_err_and c.from_residual-in_err-new_soa.result c.from_residual-in_err-new_soa.ensures.1 in
    rw (p.1, p.2) (c.in_err-new_soa.ensures.only change.new_soa _ has.new_soa at.1))

pub returns-in_err-removed-clause-only : goal.returns-in_err-removed-clause-only
returns-in_err-removed-clause-only c = λ change has e. (
    let at = behind_new change c.args.octets.now c.in_ok-old_soa.rest.now c.in_ok-new_soa.rest.now c.in_ok-old_soa.old_soa c.in_ok-new_soa.new_soa has e c.in_ok-old_soa.ensures.found c.in_ok-new_soa.ensures.found in
    let p = err_from_is_err_and c.from_residual-in_err-removed.result c.from_residual-in_err-removed.ensures.1 in
    rw (p.1, p.2) (c.in_err-removed.ensures.only change.removed _ has.removed has.few.going at.1))

pub returns-in_err-added-clause-only : goal.returns-in_err-added-clause-only
returns-in_err-added-clause-only c = λ change has e. (
    let at = behind_removed change c.args.octets.now c.in_ok-old_soa.rest.now c.in_ok-new_soa.rest.now c.in_ok-removed.rest.now c.in_ok-old_soa.old_soa c.in_ok-new_soa.new_soa c.in_ok-removed.removed.items has e c.in_ok-old_soa.ensures.found c.in_ok-new_soa.ensures.found c.in_ok-removed.ensures.found in
    let p = err_from_is_err_and c.from_residual-in_err-added.result c.from_residual-in_err-added.ensures.1 in
    rw (p.1, p.2) (c.in_err-added.ensures.only change.added [] has.added has.few.coming (at.1 ∙ sym (append-nil (counted change.added)))))

pub returns-then-not-is_empty-clause-only : goal.returns-then-not-is_empty-clause-only
returns-then-not-is_empty-clause-only c = λ change has e. (
    let at = behind_added change c.args.octets.now c.in_ok-old_soa.rest.now c.in_ok-new_soa.rest.now c.in_ok-removed.rest.now c.in_ok-added.rest.now c.in_ok-old_soa.old_soa c.in_ok-new_soa.new_soa c.in_ok-removed.removed.items c.in_ok-added.added.items has e c.in_ok-old_soa.ensures.found c.in_ok-new_soa.ensures.found c.in_ok-removed.ensures.found c.in_ok-added.ensures.found in
    absurd (left_over c.in_ok-added.rest.now c.is_empty.result c.is_empty.ensures c.if-not-is_empty.true at.1))

pub returns-clause-found : goal.returns-clause-found
returns-clause-found c =
    let made = has_entry c.args.octets.now c.in_ok-old_soa.rest.now c.in_ok-new_soa.rest.now c.in_ok-removed.rest.now c.in_ok-added.rest.now c.in_ok-old_soa.old_soa c.in_ok-new_soa.new_soa c.in_ok-removed.removed.items c.in_ok-added.added.items c.in_ok-old_soa.ensures.found c.in_ok-new_soa.ensures.found c.in_ok-removed.ensures.found c.in_ok-added.ensures.found (sym c.is_empty.ensures ∙ c.if-not-is_empty.false) (sym (form_of c.in_ok-old_soa.old_soa c.in_ok-new_soa.new_soa c.in_ok-old_soa.old_soa c.in_ok-new_soa.new_soa _ _ _ _ refl c.deref.ensures.value refl c.deref-2.ensures.value) ∙ sym c.is_formed.ensures ∙ c.if-not-is_formed.false) in
    subst (λ (d : Change). HasEntry d × (entry d ≡ c.args.octets.now)) (sym c.new.ensures) made

pub returns-clause-only : goal.returns-clause-only
returns-clause-only c = λ change has e. c.new.ensures ∙ is_that change c.args.octets.now c.in_ok-old_soa.rest.now c.in_ok-new_soa.rest.now c.in_ok-removed.rest.now c.in_ok-added.rest.now c.in_ok-old_soa.old_soa c.in_ok-new_soa.new_soa c.in_ok-removed.removed.items c.in_ok-added.added.items has e c.in_ok-old_soa.ensures.found c.in_ok-new_soa.ensures.found c.in_ok-removed.ensures.found c.in_ok-added.ensures.found

pub new-requires-clause-formed : goal.new-requires-clause-formed
new-requires-clause-formed c = sym (form_of c.in_ok-old_soa.old_soa c.in_ok-new_soa.new_soa c.in_ok-old_soa.old_soa c.in_ok-new_soa.new_soa _ _ _ _ refl c.deref.ensures.value refl c.deref-2.ensures.value) ∙ sym c.is_formed.ensures ∙ c.if-not-is_formed.false

pub returns-then-not-is_formed-clause-only : goal.returns-then-not-is_formed-clause-only
returns-then-not-is_formed-clause-only c = λ change has e. (
    let same = is_that change c.args.octets.now c.in_ok-old_soa.rest.now c.in_ok-new_soa.rest.now c.in_ok-removed.rest.now c.in_ok-added.rest.now c.in_ok-old_soa.old_soa c.in_ok-new_soa.new_soa c.in_ok-removed.removed.items c.in_ok-added.added.items has e c.in_ok-old_soa.ensures.found c.in_ok-new_soa.ensures.found c.in_ok-removed.ensures.found c.in_ok-added.ensures.found in
    let formed : is_formed change ≡ true = has.formed in
    let read = sym (form_of c.in_ok-old_soa.old_soa c.in_ok-new_soa.new_soa c.in_ok-old_soa.old_soa c.in_ok-new_soa.new_soa _ _ _ _ refl c.deref.ensures.value refl c.deref-2.ensures.value) ∙ sym c.is_formed.ensures ∙ c.if-not-is_formed.true in
    absurd (true≢false (sym (ap is_formed same ∙ formed) ∙ read)))
