-- Names held by their octets.
use Rattle.std.proofs.Common.{◌≡◌, ℕ, Bool, true, false, ◌||◌, List, [], ◌∷◌, map, Bor, refl, sym, ap, ◌∙◌}
use Rattle.std.specs.List.{AllByRecursion, list_any}
use Rattle.std.specs.Ordering.{is_eq, nat_cmp, match_ordering}
use Rattle.std.specs.Cmp.Lexicographic.{slice_cmp, texts_ties}
use Rattle.std.specs.FinMap.{nat_cmp-IsAntisymmetric, slice_cmp-IsAntisymmetric}
use Rattle.std.specs.declared.cmp.Ordering.{Ordering}
use Rattle.std.specs.declared.cmp.Ordering.TheVariants.{Less, Equal, Greater}
use Rattle.std.specs.BTreeSet.{insert_key}
use Rattle.dns_names.specs.Name.{Labels, IsName, wire, labels_of, names_eq}
use Rattle.dns_names.specs.Plain.{IsPlain}
use Rattle.dns_names.specs.PlainLaws.{plain_of}
use Rattle.dns_names.specs.Compare.{same_plain-labels}
use Rattle.dns_zone.specs.Order.{names_same}

abbrev pub by_octets : Bor (List ℕ) → Bor (List ℕ) → Ordering
by_octets a b = slice_cmp nat_cmp a.now b.now

abbrev pub names_in : List (Bor (List ℕ)) → List Labels
names_in keys = map (λ (o : Bor (List ℕ)). labels_of o.now) keys

abbrev pub ArePlain : List (Bor (List ℕ)) → Type 0
ArePlain keys = AllByRecursion (λ (o : Bor (List ℕ)). IsPlain o.now) keys

-- found by its octets, found
pub held : (name : Labels) (w : Bor (List ℕ)) (keys : List (Bor (List ℕ))) → w.now ≡ wire name → IsName name → ArePlain keys → list_any (λ (k : Bor (List ℕ)). is_eq (by_octets w k)) keys ≡ list_any (names_eq name) (names_in keys)
held name w [] e v h = refl
held name w (k ∷ keys) e v h =
    let plain = plain_of w.now name v e in
    let one : is_eq (by_octets w k) ≡ names_eq name (labels_of k.now) = sym (texts_ties w.now k.now) ∙ same_plain-labels w.now k.now plain.1 h.0 ∙ ap (λ (n : Labels). names_eq n (labels_of k.now)) plain.0 in
    let rest = held name w keys e v h.1 in
    λ i. one i || rest i

doubled : (a b : Bool) → (a || b) ≡ (a || (a || b))
doubled true b = refl
doubled false b = refl

pub turned : (a b c : Bool) → (b || (a || c)) ≡ (a || (b || c))
turned true true c = refl
turned true false c = refl
turned false b c = refl

-- a name put in is one of them
pub named_put : (other : Labels) (w : Bor (List ℕ)) (keys : List (Bor (List ℕ))) → list_any (names_eq other) (names_in (insert_key by_octets keys w)) ≡ (names_eq other (labels_of w.now) || list_any (names_eq other) (names_in keys))
named_put other w [] = refl
named_put other w (k ∷ keys) =
    elim (by_octets w k) as (λ o. by_octets w k ≡ o → list_any (names_eq other) (names_in (match_ordering o (w ∷ k ∷ keys) (k ∷ keys) (k ∷ insert_key by_octets keys w))) ≡ (names_eq other (labels_of w.now) || list_any (names_eq other) (names_in (k ∷ keys)))) [
      | Less ↦ λ e. refl
      | Equal ↦ λ e.
          let is : w.now ≡ k.now = slice_cmp-IsAntisymmetric nat_cmp-IsAntisymmetric w.now k.now e in
          doubled (names_eq other (labels_of k.now)) (list_any (names_eq other) (names_in keys))
          ∙ ap (λ (o : List ℕ). names_eq other (labels_of o) || list_any (names_eq other) (names_in (k ∷ keys))) (sym is)
      | Greater ↦ λ e.
          ap (λ (b : Bool). names_eq other (labels_of k.now) || b) (named_put other w keys)
          ∙ turned (names_eq other (labels_of w.now)) (names_eq other (labels_of k.now)) (list_any (names_eq other) (names_in keys))
    ] refl

pub plain_put : (w : Bor (List ℕ)) (keys : List (Bor (List ℕ))) → IsPlain w.now → ArePlain keys → ArePlain (insert_key by_octets keys w)
plain_put w [] v h = (v, tt)
plain_put w (k ∷ keys) v h =
    let rest = plain_put w keys v h.1 in
    elim (by_octets w k) as (λ o. ArePlain (match_ordering o (w ∷ k ∷ keys) (k ∷ keys) (k ∷ insert_key by_octets keys w)))
    [ Less ↦ (v, h) | Equal ↦ h | Greater ↦ (h.0, rest) ]

-- a name that is among others adds nothing to them
pub absorbed : (names : List Labels) (name other : Labels) → list_any (names_eq name) names ≡ true → list_any (names_eq other) names ≡ (names_eq other name || list_any (names_eq other) names)
absorbed names name other among = by_test (names_eq other name) refl
  where
    by_test : (b : Bool) → names_eq other name ≡ b → list_any (names_eq other) names ≡ (b || list_any (names_eq other) names)
    by_test true e = ap (λ (n : Labels). list_any (names_eq n) names) (names_same other name e) ∙ among
    by_test false e = refl
