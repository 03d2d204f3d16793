-- Names whose sort keys differ are in the order of these.
use Rattle.std.proofs.Common.{◌≡◌, inl, inr, ℕ, ◌+◌, ◌-◌, ◌<◌, ◌≤◌, ◌^◌, Bool, true, false, List, [], ◌∷◌, ◌++◌, length, map, get_or, reverse, refl, sym, ap, subst, ◌∙◌, length-append, arith}
use Rattle.std.specs.Prelude.{if◌then◌else◌}
use Rattle.std.specs.List.{All}
use Rattle.std.specs.List.Sorted.{IsSorted, IsSortedBy}
use Rattle.std.specs.Ordering.{is_lt, nat_cmp, ordering_then, ordering_reverse}
use Rattle.std.specs.Cmp.{IsTotalOrder, IsStrictWeakOrder, on_total, then_total, nat_cmp_total, nat_cmp_is, tied_itself, alike_right}
use Rattle.std.specs.Cmp.Lexicographic.{slice_cmp, nat_list_cmp_total}
use Rattle.std.specs.declared.cmp.Ordering.{Ordering}
use Rattle.std.specs.declared.cmp.Ordering.TheVariants.{Less, Equal, Greater}
use Rattle.std.proofs.lemmas.List.{reverse-append, get_or-append-add, length-reverse, get_or-map, length-map}
use Rattle.std.proofs.lemmas.List.Elements.{All-get_or}
use Rattle.std.proofs.lemmas.List.MinMax.{ranks_by}
use Rattle.std.proofs.lemmas.Bool.{cases_order}
use Rattle.dns_names.specs.Name.{Labels, IsUnder, under, wire, name_cmp}
use Rattle.dns_records.specs.Record.{Record, record_cmp}
use Rattle.dns_zone.specs.Ancestry.{under_from, under_with}
use Rattle.dns_zone.specs.Keys.{leading, leading_none, leading_below, leading_order}
use Rattle.dns_zone.specs.Order.{name_total, record_total}
use Rattle.dns_zone.specs.Sets.{true_or_false, less_is}
use Rattle.dns_zone.specs.SortKey.{label_below, sort_key, IsSortKey, HasSortKey, keyed_cmp}
use Rattle.dns_zone.specs.declared.sorting.Keyed.{Keyed}
use Rattle.dns_zone.proofs.Under.{convex, before_apart}

-- ---- the label next to the apex
pub under_rest : (l : List ℕ) (ls ancestor : Labels) → length (wire ancestor) < length (wire (l ∷ ls)) → IsUnder (l ∷ ls) ancestor → IsUnder ls ancestor
under_rest l ls ancestor longer (front, e) = go front e
  where
    go : (f : Labels) → l ∷ ls ≡ f ++ ancestor → IsUnder ls ancestor
    go [] same = (let n : length (wire (l ∷ ls)) ≡ length (wire ancestor) = ap (λ (x : Labels). length (wire x)) same in absurd (omega (arith, n, longer)))
    go (k ∷ ks) same = (let tails : ls ≡ ks ++ ancestor = cc in (ks, tails))

longer_under : (front name : Labels) → length (wire name) ≤ length (wire (front ++ name))
longer_under [] name = omega arith
longer_under (l ∷ front) name = omega (arith, longer_under front name, length-append l (wire (front ++ name)))

pub under_shorter : (name ancestor : Labels) → length (wire name) ≤ length (wire ancestor) → IsUnder name ancestor → name ≡ ancestor
under_shorter name ancestor short (front, e) = go front e
  where
    go : (f : Labels) → name ≡ f ++ ancestor → name ≡ ancestor
    go [] same = same
    go (k ∷ ks) same =
        (let n : length (wire name) ≡ length (wire (k ∷ (ks ++ ancestor))) = ap (λ (x : Labels). length (wire x)) same in
        absurd (omega (arith, n, short, longer_under ks ancestor, length-append k (wire (ks ++ ancestor)))))

pub some_wire : (name : Labels) → 0 < length (wire name)
some_wire [] = omega arith
some_wire (l ∷ name) = omega arith

pub first_in_front : (front : Labels) (first : List ℕ) → first ≡ get_or (reverse (front ++ first ∷ [])) 0 []
first_in_front front first = ap (λ (x : Labels). get_or x 0 []) (sym (reverse-append front (first ∷ [])))

pub label_is : (name front apex : Labels) (label : List ℕ) → name ≡ front ++ apex → label ≡ get_or (reverse front) 0 [] → label ≡ label_below apex name
label_is name front apex label e f =
    f ∙ sym (get_or-append-add (reverse apex) (reverse front) 0 [])
    ∙ (λ i. get_or (sym (reverse-append front apex) i) (at_end i) [])
    ∙ ap (λ (x : Labels). get_or (reverse x) (length apex) []) (sym e)
  where
    at_end : length (reverse apex) + 0 ≡ length apex
    at_end = omega (arith, length-reverse apex)

-- ---- names by their sort keys
-- a list of labels before another in the labels after those that both begin with
after_same : (r p q : Labels) → slice_cmp (slice_cmp nat_cmp) (r ++ p) (r ++ q) ≡ slice_cmp (slice_cmp nat_cmp) p q
after_same [] p q = refl
after_same (l ∷ r) p q = ap (λ (o : Ordering). ordering_then o (slice_cmp (slice_cmp nat_cmp) (r ++ p) (r ++ q))) (tied_itself nat_list_cmp_total l) ∙ after_same r p q

-- the label next to the apex decides
next_decides : (p q : Labels) → ((i : ℕ) → get_or (get_or p 0 []) i 0 < 256) → ((i : ℕ) → get_or (get_or q 0 []) i 0 < 256)
    → leading 8 (get_or p 0 []) < leading 8 (get_or q 0 []) → slice_cmp (slice_cmp nat_cmp) p q ≡ Less
next_decides p [] o k less = absurd (omega (arith, less, leading_none 8))
next_decides [] (m ∷ q) o k less = refl
next_decides (l ∷ p) (m ∷ q) o k less = ap (λ (x : Ordering). ordering_then x (slice_cmp (slice_cmp nat_cmp) p q)) (leading_order 8 l m o k less)

-- the label after those of the apex
label_after : (apex name : Labels) → (h : IsUnder name apex) → label_below apex name ≡ get_or (reverse h.0) 0 []
label_after apex name h = sym (label_is name h.0 apex (get_or (reverse h.0) 0 []) h.1 refl)

turned : (name apex : Labels) → (h : IsUnder name apex) → reverse name ≡ reverse apex ++ reverse h.0
turned name apex h = ap reverse h.1 ∙ reverse-append h.0 apex

both_under : (apex a b : Labels) → (j : ℕ) → (k : ℕ) → IsSortKey apex a j → IsSortKey apex b k → under a apex ≡ true → under b apex ≡ true
    → leading 8 (label_below apex a) < leading 8 (label_below apex b) → name_cmp a b ≡ Less
both_under apex a b j k f g u v less =
    let h = under_from a apex u in
    let i = under_from b apex v in
    let first = label_after apex a h in
    let second = label_after apex b i in
    (λ t. slice_cmp (slice_cmp nat_cmp) (turned a apex h t) (turned b apex i t))
    ∙ after_same (reverse apex) (reverse h.0) (reverse i.0)
    ∙ next_decides (reverse h.0) (reverse i.0) (subst (λ (x : List ℕ). (n : ℕ) → get_or x n 0 < 256) first (f.octets u))
    (subst (λ (x : List ℕ). (n : ℕ) → get_or x n 0 < 256) second (g.octets v)) (omega (arith, less, ap (leading 8) first, ap (leading 8) second))

-- a name that is not before another and not under it is behind all under that
behind_all : (apex a b : Labels) → under a apex ≡ true → under b apex ≡ false → is_lt (name_cmp b apex) ≡ false → name_cmp a b ≡ Less
behind_all apex a b u v w = step (name_cmp b a) refl
  where
    contrary : under b apex ≡ true → ⊥
    contrary t = absurd cc

    step : (o : Ordering) → name_cmp b a ≡ o → name_cmp a b ≡ Less
    step Less e = absurd (contrary (convex b a apex w (inl e) u))
    step Equal e = absurd (contrary (convex b a apex w (inr e) u))
    step Greater e = name_total.antisymm a b ∙ ap ordering_reverse e

-- a name before another is before all that are not
before_all : (apex a b : Labels) → is_lt (name_cmp a apex) ≡ true → is_lt (name_cmp b apex) ≡ false → name_cmp a b ≡ Less
before_all apex a b u v = step (name_cmp b apex) refl
  where
    less : name_cmp a apex ≡ Less
    less = less_is (name_cmp a apex) u

    step : (o : Ordering) → name_cmp b apex ≡ o → name_cmp a b ≡ Less
    step Less e = absurd (let lower : is_lt (name_cmp b apex) ≡ true = ap is_lt e in cc)
    step Equal e = alike_right name_total b apex a e ∙ less
    step Greater e = name_total.trans a apex b less (name_total.antisymm apex b ∙ ap ordering_reverse e)

key_in : (apex a : Labels) → under a apex ≡ true → sort_key apex a ≡ leading 8 (label_below apex a)
key_in apex a u = ap (λ (t : Bool). if t then leading 8 (label_below apex a) else if is_lt (name_cmp a apex) then 0 else 2 ^ 64 - 1) u

key_out : (apex a : Labels) (first : Bool) → under a apex ≡ false → is_lt (name_cmp a apex) ≡ first → sort_key apex a ≡ (if first then 0 else 2 ^ 64 - 1)
key_out apex a first u v =
    ap (λ (t : Bool). if t then leading 8 (label_below apex a) else if is_lt (name_cmp a apex) then 0 else 2 ^ 64 - 1) u
    ∙ ap (λ (t : Bool). if t then 0 else 2 ^ 64 - 1) v

-- no key is more than that of the names behind the apex
key_most : (apex a : Labels) (j : ℕ) → IsSortKey apex a j → j ≤ 2 ^ 64 - 1
key_most apex a j f = elim (true_or_false (under a apex)) [
  | inl u ↦ omega (arith, f.is, key_in apex a u, leading_below 8 (label_below apex a) (f.octets u))
  | inr u ↦ elim (true_or_false (is_lt (name_cmp a apex))) [
    | inl v ↦ omega (arith, f.is, key_out apex a true u v)
    | inr v ↦ omega (arith, f.is, key_out apex a false u v)
  ]
]

pub key_decides : (apex a b : Labels) (j k : ℕ) → IsSortKey apex a j → IsSortKey apex b k → j < k → name_cmp a b ≡ Less
key_decides apex a b j k f g less = elim (true_or_false (under a apex)) [
  | inl u ↦ elim (true_or_false (under b apex)) [
    | inl v ↦ both_under apex a b j k f g u v (omega (arith, less, f.is, g.is, key_in apex a u, key_in apex b v))
    | inr v ↦ elim (true_or_false (is_lt (name_cmp b apex))) [
      | inl w ↦ absurd (omega (arith, less, g.is, key_out apex b true v w))
      | inr w ↦ behind_all apex a b u v w
    ]
  ]
  | inr u ↦ elim (true_or_false (is_lt (name_cmp a apex))) [
    | inl v ↦ elim (true_or_false (is_lt (name_cmp b apex))) [
      | inl w ↦ absurd (omega (arith, less, g.is, key_out apex b true (before_apart b apex w) w))
      | inr w ↦ before_all apex a b v w
    ]
    | inr v ↦ absurd (omega (arith, less, f.is, key_out apex a false u v, key_most apex b k g))
  ]
]

-- ---- records by the sort keys of their owners
keyed_total : IsTotalOrder keyed_cmp
keyed_total = then_total (on_total (λ (k : Keyed). k.key) nat_cmp_total) (on_total (λ (k : Keyed). k.value) record_total)

pub keyed_strict : IsStrictWeakOrder (λ (x y : Keyed). is_lt (keyed_cmp x y))
keyed_strict = ranks_by keyed_total (λ (k : Keyed). k)

-- what is not before another by the sort keys is not before it
not_before : (apex : Labels) (x y : Keyed) → HasSortKey apex x → HasSortKey apex y → is_lt (keyed_cmp y x) ≡ false → is_lt (record_cmp y.value x.value) ≡ false
not_before apex x y f g h = elim (cases_order y.key x.key) [
  | inl e ↦ (λ i. is_lt (ordering_then (nat_cmp_is y.key x.key Equal e i) (record_cmp y.value x.value))) ∙ h
  | inr (inl l) ↦ absurd (let lower : is_lt (keyed_cmp y x) ≡ true = ap (λ (o : Ordering). is_lt (ordering_then o (record_cmp y.value x.value))) (sym (nat_cmp_is y.key x.key Less l)) in cc)
  | inr (inr m) ↦
      (let below : name_cmp x.value.owner y.value.owner ≡ Less = key_decides apex x.value.owner y.value.owner x.key y.key f g m in
      let above : name_cmp y.value.owner x.value.owner ≡ Greater = name_total.antisymm y.value.owner x.value.owner ∙ ap ordering_reverse below in
      ap (λ (o : Ordering). is_lt (ordering_then o (ordering_then (nat_cmp y.value.rtype x.value.rtype) (slice_cmp nat_cmp y.value.rdata x.value.rdata)))) above)
]

-- so records that are sorted by keys are sorted
pub sorted_by_keys : (apex : Labels) (xs : List Keyed) → All (HasSortKey apex) xs → IsSortedBy (λ (x y : Keyed). is_lt (keyed_cmp x y)) xs → IsSorted record_cmp (map (λ (k : Keyed). k.value) xs)
sorted_by_keys apex xs keys up k d low high =
    let value = λ (x : Keyed). x.value in
    let e : Keyed = record { key = 0; value = d } in
    let later : k + 1 < length xs = omega (arith, high, length-map xs value) in
    let here : k < length xs = omega (arith, later) in
    let first = get_or-map value xs k e d here in
    let second = get_or-map value xs (k + 1) e d later in
    (λ i. is_lt (record_cmp (second i) (first i)))
    ∙ not_before apex (get_or xs k e) (get_or xs (k + 1) e) (All-get_or (HasSortKey apex) xs k e here keys) (All-get_or (HasSortKey apex) xs (k + 1) e later keys)
    (up k e low later)
