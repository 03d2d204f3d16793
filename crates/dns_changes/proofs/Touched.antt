-- The change between two sets that differ only in what some names own, name by name.
use Rattle.std.proofs.Common.{◌≡◌, ℕ, zero, suc, ◌+◌, ◌<◌, ◌≤◌, length, drop, get_or, arith, Bool, true, false, not, ◌&&◌, ◌||◌, inl, inr, List, [], ◌∷◌, ◌++◌, refl, sym, ap, subst, ◌∙◌, cond, append_assoc, append-nil}
use Rattle.std.proofs.lemmas.List.{drop_all}
use Rattle.std.specs.Prelude.{filter}
use Rattle.std.specs.List.{list_any, flat_map, AllByRecursion}
use Rattle.std.specs.List.Sorted.{IsStrictlySortedBy}
use Rattle.std.specs.Cmp.{tied_itself}
use Rattle.std.specs.declared.cmp.Ordering.TheVariants.{Less, Equal}
use Rattle.dns_names.specs.Name.{Labels, names_eq, name_cmp}
use Rattle.dns_names.specs.Compare.{name_cmp-same}
use Rattle.dns_records.specs.Record.{Record, record_cmp}
use Rattle.dns_zone.specs.Records.{contains, records_at, same}
use Rattle.dns_zone.specs.Order.{name_total, names_same, same_itself}
use Rattle.dns_zone.specs.Sets.{Sorted, Below, true_or_false, either_true, filter_contains, contains_filter}
use Rattle.dns_zone.proofs.Searching.{then_less}
use Rattle.dns_changes.specs.Change.{is_soa, is_lone, only_in}
use Rattle.dns_changes.specs.Touched.{is_owned_by, records_aside, DifferAt}
use Rattle.dns_changes.proofs.Steps.{contains_kept, next_at}
use Rattle.dns_changes.proofs.Walking.{kept_next}

later : (b c : Bool) → c ≡ true → (b || c) ≡ true
later true c e = refl
later false c e = e

and_true : (b : Bool) → (b && true) ≡ b
and_true true = refl
and_true false = refl

and_false : (b : Bool) → (b && false) ≡ false
and_false true = refl
and_false false = refl

-- tests that agree on the records of a list keep the same of them
pub filter_by : (p q : Record → Bool) (xs : List Record) → ((r : Record) → contains xs r ≡ true → p r ≡ q r) → filter p xs ≡ filter q xs
filter_by p q [] h = refl
filter_by p q (x ∷ xs) h =
    let head : p x ≡ q x = h x (ap (λ b. b || contains xs x) (same_itself x)) in
    let rest : filter p xs ≡ filter q xs = filter_by p q xs (λ r e. h r (later (same r x) (contains xs r) e)) in
    λ i. cond (head i) (x ∷ rest i) (rest i)

-- a record that none of the names owns is in both sets
pub stays : (names : List Labels) (xs ys : List Record) (r : Record) → records_aside names xs ≡ records_aside names ys → contains xs r ≡ true → is_owned_by names r ≡ false → contains ys r ≡ true
stays names xs ys r e c o =
    let there = contains_filter r (λ s. not (is_owned_by names s)) xs c (ap not o) in
    (filter_contains r (λ s. not (is_owned_by names s)) ys (subst (λ (zs : List Record). contains zs r ≡ true) e there)).1

owned_lone : (names : List Labels) (xs ys : List Record) → records_aside names xs ≡ records_aside names ys → only_in xs ys ≡ filter (λ r. is_owned_by names r && is_lone ys r) xs
owned_lone names xs ys e = filter_by (is_lone ys) (λ r. is_owned_by names r && is_lone ys r) xs (λ r c. at r c (is_owned_by names r) refl)
  where
    at : (r : Record) → contains xs r ≡ true → (b : Bool) → is_owned_by names r ≡ b → is_lone ys r ≡ (b && is_lone ys r)
    at r c true o = refl
    at r c false o = ap (λ b. not (is_soa r) && not b) (stays names xs ys r e c o) ∙ and_false (not (is_soa r))

-- ---- names in order, and what they own
above_name : (n : Labels) (x y : Record) → name_cmp n x.owner ≡ Less → record_cmp x y ≡ Less → name_cmp n y.owner ≡ Less
above_name n x y e h = elim (then_less (name_cmp x.owner y.owner) _ h) [
  | inl l ↦ name_total.trans n x.owner y.owner e l
  | inr q ↦ subst (λ (m : Labels). name_cmp n m ≡ Less) (name_cmp-same x.owner y.owner q) e
]

other_name : (n m : Labels) → name_cmp n m ≡ Less → names_eq m n ≡ false
other_name n m e = elim (true_or_false (names_eq m n)) [
  | inr f ↦ f
  | inl t ↦ (let is : name_cmp n n ≡ Less = subst (λ (k : Labels). name_cmp n k ≡ Less) (names_same m n t) e in
      let tied : name_cmp n n ≡ Equal = tied_itself name_total n in absurd cc)
]

behind_name : (n : Labels) (x : Record) (xs : List Record) → name_cmp n x.owner ≡ Less → Below x xs → records_at xs n ≡ []
behind_name n x [] e h = refl
behind_name n x (y ∷ ys) e h =
    ap (λ b. cond b (y ∷ records_at ys n) (records_at ys n)) (other_name n y.owner (above_name n x y e h.0)) ∙ behind_name n x ys e h.1

above_all : (n : Labels) (names : List Labels) (m : Labels) → AllByRecursion (λ k. name_cmp n k ≡ Less) names → list_any (names_eq m) names ≡ true → name_cmp n m ≡ Less
above_all n [] m h e = absurd cc
above_all n (k ∷ ks) m h e = elim (either_true (names_eq m k) (list_any (names_eq m) ks) e) [
  | inl t ↦ subst (λ (x : Labels). name_cmp n x ≡ Less) (sym (names_same m k t)) h.0
  | inr t ↦ above_all n ks m h.1 t
]

pushed : (t : Bool) (x : Record) (kept front back : List Record) → kept ≡ front ++ back → cond t (x ∷ kept) kept ≡ cond t (x ∷ front) front ++ back
pushed true x kept front back e = ap (λ (zs : List Record). x ∷ zs) e
pushed false x kept front back e = e

-- what the first name owns comes before what those above it own
module _ (p : Record → Bool) (n : Labels) (rest : List Labels) where
  abbrev both_of : List Record → List Record
  both_of xs = filter (λ r. is_owned_by (n ∷ rest) r && p r) xs

  abbrev others_of : List Record → List Record
  others_of xs = filter (λ r. is_owned_by rest r && p r) xs

  split : (xs : List Record) → AllByRecursion (λ m. name_cmp n m ≡ Less) rest → Sorted xs → both_of xs ≡ filter p (records_at xs n) ++ others_of xs
  split [] a h = refl
  split (x ∷ xs) a h = at (names_eq x.owner n) (is_owned_by rest x) refl refl (split xs a h.1)
    where
      at : (b d : Bool) → names_eq x.owner n ≡ b → is_owned_by rest x ≡ d → both_of xs ≡ filter p (records_at xs n) ++ others_of xs
          → cond ((b || d) && p x) (x ∷ both_of xs) (both_of xs) ≡ filter p (cond b (x ∷ records_at xs n) (records_at xs n)) ++ cond (d && p x) (x ∷ others_of xs) (others_of xs)
      at true true e f ih = (let less = other_name n x.owner (above_all n rest x.owner a f) in absurd cc)
      at true false e f ih = pushed (p x) x (both_of xs) (filter p (records_at xs n)) (others_of xs) ih
      at false false e f ih = ih
      at false true e f ih =
          (let none : records_at xs n ≡ [] = behind_name n x xs (above_all n rest x.owner a f) h.0 in
          let is : both_of xs ≡ others_of xs = ih ∙ ap (λ (zs : List Record). filter p zs ++ others_of xs) none in
          (λ i. cond (p x) (x ∷ is i) (is i)) ∙ sym (ap (λ (zs : List Record). filter p zs ++ cond (p x) (x ∷ others_of xs) (others_of xs)) none))

none_owned : (p : Record → Bool) (xs : List Record) → filter (λ r. is_owned_by [] r && p r) xs ≡ []
none_owned p [] = refl
none_owned p (x ∷ xs) = none_owned p xs

-- the records that names own, name by name
pub spread : (p : Record → Bool) (names : List Labels) (xs : List Record) → IsStrictlySortedBy name_cmp names → Sorted xs → filter (λ r. is_owned_by names r && p r) xs ≡ flat_map (λ n. filter p (records_at xs n)) names
unfolding IsStrictlySortedBy
spread p [] xs s h = none_owned p xs
spread p (n ∷ rest) xs s h = split p n rest xs s.0 h ∙ ap (λ (zs : List Record). filter p (records_at xs n) ++ zs) (spread p rest xs s.1 h)

-- ---- what is in one set alone, name by name
lone_at : (n : Labels) (xs ys : List Record) → filter (is_lone ys) (records_at xs n) ≡ only_in (records_at xs n) (records_at ys n)
lone_at n xs ys = filter_by (is_lone ys) (is_lone (records_at ys n)) (records_at xs n) (λ r c.
    (let owned = (filter_contains r (λ s. names_eq s.owner n) xs c).0 in
    let here : contains (records_at ys n) r ≡ contains ys r = contains_kept r (λ s. names_eq s.owner n) ys ∙ ap (λ b. contains ys r && b) owned ∙ and_true (contains ys r) in
    ap (λ b. not (is_soa r) && not b) (sym here)))

abbrev pub lone_of : List Record → List Record → Labels → List Record
lone_of xs ys n = only_in (records_at xs n) (records_at ys n)

each_at : (xs ys : List Record) (names : List Labels) → flat_map (λ n. filter (is_lone ys) (records_at xs n)) names ≡ flat_map (lone_of xs ys) names
each_at xs ys [] = refl
each_at xs ys (n ∷ rest) = λ i. lone_at n xs ys i ++ each_at xs ys rest i

pub only_by_name : (names : List Labels) (xs ys : List Record) → DifferAt names xs ys → Sorted xs → only_in xs ys ≡ flat_map (lone_of xs ys) names
only_by_name names xs ys d h = owned_lone names xs ys d.others ∙ spread (is_lone ys) names xs d.rise h ∙ each_at xs ys names

-- ---- the loops
pub name_at : (names : List Labels) (i : ℕ) (n : Labels) → i < length names → n ≡ get_or names i n → drop i names ≡ n ∷ drop (i + 1) names
name_at [] i n lt is = absurd (omega arith)
name_at (m ∷ names) zero n lt is = ap (λ (k : Labels). k ∷ names) (sym is)
name_at (m ∷ names) (suc i) n lt is =
    let next : suc i + 1 ≡ suc (i + 1) = omega arith in
    name_at names i n (omega arith) is ∙ ap (λ (k : ℕ). n ∷ drop k (m ∷ names)) (sym next)

pub pieces_next : (f : Labels → List Record) (names : List Labels) (i : ℕ) (n : Labels) (kept next all : List Record) → i < length names → n ≡ get_or names i n → next ≡ kept ++ f n
    → kept ++ flat_map f (drop i names) ≡ all → next ++ flat_map f (drop (i + 1) names) ≡ all
pieces_next f names i n kept next all lt is e h =
    ap (λ (zs : List Record). zs ++ flat_map f (drop (i + 1) names)) e ∙ append_assoc kept (f n) (flat_map f (drop (i + 1) names))
    ∙ ap (λ (ns : List Labels). kept ++ flat_map f ns) (sym (name_at names i n lt is)) ∙ h

pub pieces_end : (f : Labels → List Record) (names : List Labels) (i : ℕ) (kept all : List Record) → length names ≤ i → kept ++ flat_map f (drop i names) ≡ all → kept ≡ all
pieces_end f names i kept all past h = sym (append-nil kept) ∙ ap (λ (ns : List Labels). kept ++ flat_map f ns) (sym (drop_all i names past)) ∙ h

pub lone_next : (others records : List Record) (i : ℕ) (r : Record) (kept next all : List Record) (b : Bool) → i < length records → r ≡ get_or records i r → b ≡ is_lone others r → next ≡ cond b (kept ++ r ∷ []) kept
    → kept ++ only_in (drop i records) others ≡ all → next ++ only_in (drop (i + 1) records) others ≡ all
lone_next others records i r kept next all b lt is f e h =
    ap (λ (zs : List Record). zs ++ only_in (drop (i + 1) records) others) (e ∙ ap (λ d. cond d (kept ++ r ∷ []) kept) f)
    ∙ kept_next (is_lone others) kept all r (drop (i + 1) records) (ap (λ (zs : List Record). kept ++ only_in zs others) (sym (next_at records i r lt is)) ∙ h)

pub lone_end : (others records : List Record) (i : ℕ) (kept all : List Record) → length records ≤ i → kept ++ only_in (drop i records) others ≡ all → kept ≡ all
lone_end others records i kept all past h = sym (append-nil kept) ∙ ap (λ (rs : List Record). kept ++ only_in rs others) (sym (drop_all i records past)) ∙ h
