use Rattle.std.proofs.Common.{◌≡◌, ℕ, ◌<◌, Bool, true, false, List, [], ◌∷◌, Any, IsTrue, MatchBool, HoldsAt, length, get_or, subst, refl, sym, rules, arith}
use borrow.Author.Tests.{tests}
use Rattle.std.specs.Prelude.{◌↔◌}
use Rattle.std.specs.List.{AllWithin}
use Rattle.std.proofs.lemmas.Iterator.{YieldsList-from_slice, cases_from_any}
use Rattle.std.proofs.lemmas.List.{get_or_default}
use Rattle.dns_primary.specs.declared.primary.ZoneSpec.{ZoneSpec}
use Rattle.dns_primary.specs.Keeps.{IsInList}
use Rattle.dns_primary.proofs.admission.are_listing.Goals as goal

-- one of some is such
one_is : {X : Type 0} (P : X → Type 0) (xs : List X) (k : ℕ) → k < length xs → HoldsAt P xs k → Any P xs
one_is P [] k lt is = absurd (omega (arith, lt))
one_is P (x ∷ xs) k lt is =
    let y = get_or (x ∷ xs) k x in
    (k, y, lt, get_or_default (x ∷ xs) k y x lt, is x)

told : {X : Type 0} (P : X → Type 0) (xs : List X) (r : Bool) → MatchBool r ((k : ℕ) × (k < length xs) × HoldsAt P xs k) (AllWithin (λ x. P x → ⊥) xs 0 (length xs))
    → IsTrue r ↔ Any P xs
told P xs true (k, lt, is) = (λ _. one_is P xs k lt is, λ _. refl)
told P xs false none = (λ clash. absurd (cc clash), λ (k, x, lt, is, p). absurd (none k x (omega arith) lt (subst P (sym is) p)))

pub returns : goal.returns
returns c =
    let listed = λ (s : ZoneSpec). IsInList s c.args.address in
    told listed c.args.settings.now c.any.result
    (cases_from_any _ _ _ listed (λ (s : ZoneSpec). IsInList s c.args.address → ⊥) c.any.ensures.ran (YieldsList-from_slice c.args.settings.now cc) (λ x q k. search (rules, tests)) (λ x q k. search (rules, tests)))
