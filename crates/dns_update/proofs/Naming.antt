-- The names that an update touches, sorted, each once.
use Rattle.std.proofs.Common.{◌≡◌, suc, true, List, [], ◌∷◌, refl, sym, ap, subst, arith}
use Rattle.std.specs.Prelude.{map, Contains}
use Rattle.std.specs.List.{AllByRecursion, list_any, dedup}
use Rattle.std.specs.List.Sorted.{IsPermutation, IsSorted, IsStrictlySortedBy}
use Rattle.std.specs.Cmp.{IsEquivalence, both_ways}
use Rattle.std.proofs.lemmas.List.Kept.{IsStrictlySortedBy-dedup, Contains-dedup}
use Rattle.std.proofs.lemmas.List.Sorted.{Contains-permutation}
use Rattle.std.proofs.lemmas.Map.Views.{list_any-from_Contains}
use Rattle.dns_names.specs.Name.{Labels, names_eq, name_cmp}
use Rattle.dns_names.specs.Compare.{name_cmp-total, name_cmp-ties, names_eq-Decides, names_eq-equiv}
use Rattle.dns_zone.specs.Order.{names_same, names_itself}
use Rattle.dns_wire.specs.Message.{ResourceRecord}
use Rattle.dns_update.specs.Touched.{AreTouched}

names_equiv : IsEquivalence names_eq
names_equiv = record {
  refl = names_itself;
  symm = λ a b. both_ways (names_eq a b) (names_eq b a)
      (λ e. subst (λ (n : Labels). names_eq n a ≡ true) (names_same a b e) (names_itself a))
      (λ e. subst (λ (n : Labels). names_eq n b ≡ true) (names_same b a e) (names_itself b));
  congr = λ a b d e. ap (λ (n : Labels). names_eq n d) (names_same a b e);
}

first_in : (n : Labels) (names : List Labels) → Contains (n ∷ names) n
first_in n names = (0, omega arith, refl)

later_in : (m n : Labels) (names : List Labels) → Contains names n → Contains (m ∷ names) n
later_in m n names (k, inside, is) = (suc k, omega arith, is)

each_owner : (names : List Labels) (items : List ResourceRecord) → ((n : Labels) → Contains (map (λ i. i.owner) items) n → list_any (names_eq n) names ≡ true) → AllByRecursion (λ i. list_any (names_eq i.owner) names ≡ true) items
each_owner names [] h = tt
each_owner names (i ∷ rest) h = (h i.owner (first_in i.owner (map (λ j. j.owner) rest)), each_owner names rest (λ n c. h n (later_in i.owner n (map (λ j. j.owner) rest) c)))

pub touched_by : (apex : Labels) (items : List ResourceRecord) (xs ys zs : List Labels) → xs ≡ apex ∷ map (λ i. i.owner) items → IsPermutation xs ys → IsSorted name_cmp ys → zs ≡ dedup names_eq ys → AreTouched apex items zs
touched_by apex items xs ys zs is p s e = record {
  rise = subst (IsStrictlySortedBy name_cmp) (sym e) (IsStrictlySortedBy-dedup name_cmp-total name_cmp-ties ys s);
  top = among apex (first_in apex (map (λ i. i.owner) items));
  owners = each_owner zs items (λ n c. among n (later_in apex n (map (λ i. i.owner) items) c));
}
  where
    among : (n : Labels) → Contains (apex ∷ map (λ i. i.owner) items) n → list_any (names_eq n) zs ≡ true
    among n c =
        (let there : Contains xs n = subst (λ (ks : List Labels). Contains ks n) (sym is) c in
        let kept = Contains-dedup names_eq-equiv (λ a b. (names_eq-Decides a b).0) ys n (Contains-permutation xs ys n p there) in
        list_any-from_Contains names_equiv n zs (subst (λ (ks : List Labels). Contains ks n) (sym e) kept))
