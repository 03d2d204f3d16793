-- The octets of a version and of the next one: what stays has the same in both.
use Rattle.std.proofs.Common.{◌≡◌, ◌+◌, ℕ, Bool, true, false, not, ◌&&◌, inl, inr, List, [], ◌∷◌, Option, Some, None, length, refl, sym, ap, ◌∙◌, arith, length-append}
use Rattle.std.specs.Prelude.{cond, filter}
use Rattle.std.specs.List.{flat_map}
use Rattle.dns_records.specs.Record.{Record, plain}
use Rattle.dns_zone.specs.Records.{contains}
use Rattle.dns_zone.specs.Sets.{Sorted, found, true_or_false, found_tied, same_sets, sorted_filter, only, found_filter, found_contains, contains_found}
use Rattle.dns_changes.specs.Change.{Change, IsChange, is_soa}
use Rattle.dns_store.specs.Plain.{octets_of}

pub octets_more : (r : Record) (rest : List Record) → octets_of (r ∷ rest) ≡ length (plain r) + octets_of rest
octets_more r rest = length-append (plain r) (flat_map plain rest)

-- records by two tests
abbrev other : (Record → Bool) → (Record → Bool) → Record → Bool
other p q r = not (p r) && not (q r)

abbrev both : (Record → Bool) → (Record → Bool) → Record → Bool
both p q r = not (p r) && q r

parted : (p q : Record → Bool) (x : Record) (xs : List Record) (a b : Bool) → octets_of xs ≡ octets_of (filter p xs) + octets_of (filter (other p q) xs) + octets_of (filter (both p q) xs)
    → octets_of (x ∷ xs) ≡ octets_of (cond a (x ∷ filter p xs) (filter p xs)) + octets_of (cond (not a && not b) (x ∷ filter (other p q) xs) (filter (other p q) xs)) + octets_of (cond (not a && b) (x ∷ filter (both p q) xs) (filter (both p q) xs))
parted p q x xs true b e = omega (arith, e, octets_more x xs, octets_more x (filter p xs))
parted p q x xs false true e = omega (arith, e, octets_more x xs, octets_more x (filter (both p q) xs))
parted p q x xs false false e = omega (arith, e, octets_more x xs, octets_more x (filter (other p q) xs))

pub in_three : (p q : Record → Bool) (xs : List Record) → octets_of xs ≡ octets_of (filter p xs) + octets_of (filter (other p q) xs) + octets_of (filter (both p q) xs)
in_three p q [] = refl
in_three p q (x ∷ xs) = parted p q x xs (p x) (q x) (in_three p q xs)

-- what is found on one side and contained in the other is found there
across : (q a : Record) (xs ys : List Record) → Sorted ys → found q xs ≡ Some a → contains ys a ≡ true → found q ys ≡ Some a
across q a xs ys h e c = found_tied q a (found_contains q a xs e).0 ys ∙ contains_found a ys h c

abbrev stays : List Record → Record → Bool
stays others = both is_soa (contains others)

dropped : (t : Record → Bool) (a : Record) (ys : List Record) → contains ys a ≡ false → only (both t (contains ys)) (Some a) ≡ None
dropped t a ys e = ap (λ b. cond (not (t a) && b) (Some a) None) e ∙ none (not (t a))
  where
    none : (b : Bool) → cond (b && false) (Some a) None ≡ None
    none true = refl
    none false = refl

absent : (q a : Record) (xs ys : List Record) → Sorted ys → found q xs ≡ Some a → (y : Option Record) → found q ys ≡ y → (y ≡ Some a → ⊥) → contains ys a ≡ false
absent q a xs ys h e y f apart = elim (true_or_false (contains ys a)) [
  | inl t ↦ absurd (apart (sym f ∙ across q a xs ys h e t))
  | inr t ↦ t
]

at_key : (q : Record) (xs ys : List Record) → Sorted xs → Sorted ys → (x y : Option Record) → found q xs ≡ x → found q ys ≡ y → only (stays ys) x ≡ only (stays xs) y
at_key q xs ys hx hy None None e f = refl
at_key q xs ys hx hy (Some a) None e f = dropped is_soa a ys (absent q a xs ys hy e None f (λ n. absurd (cc n)))
at_key q xs ys hx hy None (Some b) e f = sym (dropped is_soa b xs (absent q b ys xs hx f None e (λ n. absurd (cc n))))
at_key q xs ys hx hy (Some a) (Some b) e f = elim (true_or_false (contains ys a)) [
  | inl t ↦
      (let there = across q a xs ys hy e t in
      let is : a ≡ b = cc (sym there ∙ f) in
      let other : contains xs a ≡ true = (found_contains q a xs e).1 in
      ap (λ c. cond (not (is_soa a) && c) (Some a) None) (t ∙ sym other) ∙ ap (λ (r : Record). cond (not (is_soa r) && contains xs r) (Some r) None) is)
  | inr t ↦ elim (true_or_false (contains xs b)) [
    | inl u ↦
        (let there = across q b ys xs hx f u in
        let is : a ≡ b = cc (sym e ∙ there) in
        let other : contains ys b ≡ true = (found_contains q b ys f).1 in
        let two : true ≡ false = sym other ∙ ap (contains ys) (sym is) ∙ t in
        absurd (cc two))
    | inr u ↦ dropped is_soa a ys t ∙ sym (dropped is_soa b xs u)
  ]
]

same_stays : (xs ys : List Record) → Sorted xs → Sorted ys → filter (stays ys) xs ≡ filter (stays xs) ys
same_stays xs ys hx hy = same_sets (filter (stays ys) xs) (filter (stays xs) ys) (sorted_filter (stays ys) xs hx) (sorted_filter (stays xs) ys hy)
    (λ q. found_filter q (stays ys) xs hx ∙ at_key q xs ys hx hy (found q xs) (found q ys) refl refl ∙ sym (found_filter q (stays xs) ys hy))

pub record Counts (before after : List Record) (c : Change) : Type 0 where
  pub kept : ℕ
  pub old : octets_of before ≡ octets_of (c.old_soa ∷ c.removed) + kept
  pub new : octets_of after ≡ octets_of (c.new_soa ∷ c.added) + kept

pub counts : (before after : List Record) (c : Change) → Sorted before → Sorted after → IsChange before after c → Counts before after c
counts before after c hb ha h =
    let old = in_three is_soa (contains after) before in
    let new = in_three is_soa (contains before) after in
    let one : octets_of (filter is_soa before) ≡ length (plain c.old_soa) = ap octets_of h.old_soa ∙ octets_more c.old_soa [] ∙ omega arith in
    let two : octets_of (filter is_soa after) ≡ length (plain c.new_soa) = ap octets_of h.new_soa ∙ octets_more c.new_soa [] ∙ omega arith in
    let gone : octets_of c.removed ≡ octets_of (filter (other is_soa (contains after)) before) = ap octets_of h.removed in
    let come : octets_of c.added ≡ octets_of (filter (other is_soa (contains before)) after) = ap octets_of h.added in
    let same : octets_of (filter (both is_soa (contains after)) before) ≡ octets_of (filter (both is_soa (contains before)) after) = ap octets_of (same_stays before after hb ha) in
    record {
      kept = octets_of (filter (both is_soa (contains after)) before);
      old = omega (arith, old, one, gone, octets_more c.old_soa c.removed);
      new = omega (arith, new, two, come, same, octets_more c.new_soa c.added);
    }
