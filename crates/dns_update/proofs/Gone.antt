-- The record that an item names, which goes out of a set.
use Rattle.std.proofs.Common.{◌≡◌, Bool, true, false, not, List, [], ◌∷◌, Some, None, refl, sym, ap, ◌∙◌, cond}
use Rattle.std.specs.List.{find}
use Rattle.std.specs.Ordering.{is_eq}
use Rattle.std.specs.declared.cmp.Ordering.TheVariants.{Equal}
use Rattle.dns_records.specs.Record.{Record, record_cmp}
use Rattle.dns_zone.specs.Records.{alike, without}
use Rattle.dns_zone.specs.Order.{record_total}
use Rattle.dns_zone.specs.Sets.{equal_is}
use Rattle.dns_zone.specs.Twice.{alike_is}

-- a test of what the order compares: tied records pass it both or neither
abbrev pub IsOfKey : (Record → Bool) → Type 0
IsOfKey p = (a b : Record) → record_cmp a b ≡ Equal → p a ≡ p b

pub passes : (p : Record → Bool) (xs : List Record) (g : Record) → find p xs ≡ Some g → p g ≡ true
passes p [] g e = absurd cc
passes p (x ∷ xs) g e = at (p x) refl e (passes p xs g)
  where
    at : (b : Bool) → p x ≡ b → cond b (Some x) (find p xs) ≡ Some g → (find p xs ≡ Some g → p g ≡ true) → p g ≡ true
    at true f e rest = (let same : x ≡ g = cc in ap p (sym same) ∙ f)
    at false f e rest = rest e

-- ---- the record of an item
pub untied_all : (r : Record) (xs : List Record) → find (alike r) xs ≡ None → without r xs ≡ xs
untied_all r [] e = refl
untied_all r (x ∷ xs) e = at (alike r x) (alike_is r x) e (untied_all r xs)
  where
    at : (b : Bool) → is_eq (record_cmp r x) ≡ b → cond b (Some x) (find (alike r) xs) ≡ None → (find (alike r) xs ≡ None → without r xs ≡ xs) → cond (not (is_eq (record_cmp r x))) (x ∷ without r xs) (without r xs) ≡ x ∷ xs
    at true f e rest = absurd cc
    at false f e rest = ap (λ b. cond (not b) (x ∷ without r xs) (without r xs)) f ∙ ap (λ (ys : List Record). x ∷ ys) (rest e)

same_without : (r g : Record) → record_cmp r g ≡ Equal → (xs : List Record) → without g xs ≡ without r xs
same_without r g e [] = refl
same_without r g e (x ∷ xs) = λ i. cond (not (is_eq (sym (record_total.congr r g x e) i))) (x ∷ same_without r g e xs i) (same_without r g e xs i)

pub found_goes : (r g : Record) (xs : List Record) → find (alike r) xs ≡ Some g → without g xs ≡ without r xs
found_goes r g xs e = same_without r g (equal_is (record_cmp r g) (alike_is r g ∙ passes (alike r) xs g e)) xs
