-- The first of some things that have an owner each, and those after it that have the same.
use Rattle.std.proofs.Common.{◌≡◌, ℕ, zero, suc, ◌+◌, ◌<◌, ◌≤◌, get_or, true, inl, inr, List, [], ◌∷◌, ◌++◌, length, take, drop, refl, sym, ap, subst, ◌∙◌, arith, length-drop}
use Rattle.std.specs.Prelude.{◌&&◌}
use Rattle.std.specs.List.{AllWithin, list_all}
use Rattle.std.proofs.lemmas.List.{take-append-drop, get_or_default}
use Rattle.dns_names.specs.Name.{Labels, names_eq}
use Rattle.dns_zone.specs.Order.{names_itself}
use Rattle.dns_zone.proofs.Searching.{told_nat}
use Rattle.dns_changes.specs.Group.{IsOwnerGroup}

module _ {X : Type 0} (owner : X → Labels) where
  abbrev pub OwnedWithin : Labels → List X → ℕ → Type 0
  OwnedWithin name xs n = AllWithin (λ x. names_eq (owner x) name ≡ true) xs 0 n

  owned_front : (name : Labels) (xs : List X) (n : ℕ) → OwnedWithin name xs n → list_all (λ x. names_eq (owner x) name) (take n xs) ≡ true
  owned_front name [] zero h = refl
  owned_front name [] (suc n) h = refl
  owned_front name (x ∷ xs) zero h = refl
  owned_front name (x ∷ xs) (suc n) h = λ i. h 0 x (omega arith) (omega arith) i && owned_front name xs n (λ k d from to. h (suc k) d (omega arith) (omega arith)) i

  pub owned_more : (name : Labels) (xs : List X) (n : ℕ) (r : X) → n < length xs → r ≡ get_or xs n r → names_eq (owner r) name ≡ true → OwnedWithin name xs n → OwnedWithin name xs (n + 1)
  owned_more name xs n r lt is e h = λ k d from to. elim (told_nat k n) [
    | inl less ↦ h k d from less
    | inr more ↦ (let same : n ≡ k = omega arith in
        let there : r ≡ get_or xs k d = is ∙ get_or_default xs n r d lt ∙ ap (λ (m : ℕ). get_or xs m d) same in
        subst (λ (s : X). names_eq (owner s) name ≡ true) there e)
  ]

  pub group_is : (first : X) (others xs g rest : List X) (n m : ℕ) → xs ≡ first ∷ others → m ≡ suc n → n ≤ length others → OwnedWithin (owner first) others n → g ≡ take m xs → rest ≡ drop m xs → IsOwnerGroup owner xs first g rest
  group_is first others xs g rest n m e f bound h a b =
      let size = length-drop n others in
      let front : g ≡ first ∷ take n others = a ∙ (λ i. take (f i) (e i)) in
      let back : rest ≡ drop n others = b ∙ (λ i. drop (f i) (e i)) in
      let few : length rest ≡ length (drop n others) = ap length back in
      let all : length xs ≡ suc (length others) = ap length e in
      record {
        whole = sym (take-append-drop m xs) ∙ (λ i. sym a i ++ sym b i);
        owned = ap (list_all (λ x. names_eq (owner x) (owner first))) front ∙ ap (λ c. c && list_all (λ x. names_eq (owner x) (owner first)) (take n others)) (names_itself (owner first)) ∙ owned_front (owner first) others n h;
        fewer = omega (arith, size, few, all);
      }
