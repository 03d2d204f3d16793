-- What each record of a set is, where one comes from, and a CNAME that is alone at its owner (RFC 1034 section 3.6.2).
use Rattle.std.proofs.Common.{◌≡◌, ℕ, suc, Bool, true, false, ◌&&◌, ◌||◌, ◌⊎◌, inl, inr, List, [], ◌∷◌, length, refl, sym, ap, ◌∙◌, arith}
use Rattle.std.specs.Prelude.{◌==◌, nat_lt}
use Rattle.std.specs.List.{list_any, list_all}
use Rattle.std.specs.Cmp.{tied_itself}
use Rattle.std.specs.FinMap.Entries.{by_order}
use Rattle.std.specs.declared.cmp.Ordering.TheVariants.{Less, Equal, Greater}
use Rattle.std.proofs.lemmas.Bool.Decides.{nat_tests}
use Rattle.dns_names.specs.Name.{names_eq}
use Rattle.dns_records.specs.Types.{type_ns, type_cname}
use Rattle.dns_records.specs.Record.{Record, record_cmp}
use Rattle.dns_zone.specs.Records.{put, contains, same, records_at}
use Rattle.dns_zone.specs.Zone.{has_cname_and_other, is_wildcard}
use Rattle.dns_zone.specs.Order.{record_total, both_true, names_itself, same_is, same_itself}
use Rattle.dns_zone.specs.Sets.{Sorted, true_or_false, either_true, filter_contains, contains_filter, sorted_filter}

abbrev pub is_alias : Record → Bool
is_alias r = r.rtype == type_cname

abbrev pub is_wild : Record → Bool
is_wild r = r.rtype == type_ns && is_wildcard r.owner

abbrev pub AreAlone : List Record → Type 0
AreAlone xs = (r s : Record) → contains xs r ≡ true → contains xs s ≡ true → is_alias r ≡ true → names_eq s.owner r.owner ≡ true → s ≡ r

-- ---- tests
pub later : (a b : Bool) → b ≡ true → (a || b) ≡ true
later true b e = refl
later false b e = e

pub neither : (a b : Bool) → (a || b) ≡ false → (a ≡ false) × (b ≡ false)
neither true b e = absurd cc
neither false b e = (refl, e)

pub refuted : {A : Type 0} (b : Bool) → b ≡ true → b ≡ false → A
refuted true e f = absurd cc
refuted false e f = absurd cc

pub of_all : (p : Record → Bool) (xs : List Record) → list_all p xs ≡ true → (r : Record) → contains xs r ≡ true → p r ≡ true
of_all p [] e r h = absurd cc
of_all p (x ∷ xs) e r h =
    let both = both_true (p x) (list_all p xs) e in
    elim (either_true (same r x) (contains xs r) h) [
      | inl s ↦ ap p (same_is r x s) ∙ both.0
      | inr s ↦ of_all p xs both.1 r s
    ]

pub all_of : (p : Record → Bool) (xs : List Record) → ((r : Record) → contains xs r ≡ true → p r ≡ true) → list_all p xs ≡ true
all_of p [] h = refl
all_of p (x ∷ xs) h = ap (λ b. b && list_all p xs) (h x (ap (λ b. b || contains xs x) (same_itself x))) ∙ all_of p xs (λ r e. h r (later (same r x) (contains xs r) e))

pub of_none : (p : Record → Bool) (xs : List Record) → list_any p xs ≡ false → (r : Record) → contains xs r ≡ true → p r ≡ false
of_none p [] e r h = absurd cc
of_none p (x ∷ xs) e r h =
    let both = neither (p x) (list_any p xs) e in
    elim (either_true (same r x) (contains xs r) h) [
      | inl s ↦ ap p (same_is r x s) ∙ both.0
      | inr s ↦ of_none p xs both.1 r s
    ]

pub none_of : (p : Record → Bool) (xs : List Record) → ((r : Record) → contains xs r ≡ true → p r ≡ false) → list_any p xs ≡ false
none_of p [] h = refl
none_of p (x ∷ xs) h = ap (λ b. b || list_any p xs) (h x (ap (λ b. b || contains xs x) (same_itself x))) ∙ none_of p xs (λ r e. h r (later (same r x) (contains xs r) e))

pub one_any : (p : Record → Bool) (xs : List Record) (r : Record) → contains xs r ≡ true → p r ≡ true → list_any p xs ≡ true
one_any p [] r h e = absurd cc
one_any p (x ∷ xs) r h e = elim (either_true (same r x) (contains xs r) h) [
  | inl s ↦ ap (λ b. b || list_any p xs) (ap p (sym (same_is r x s)) ∙ e)
  | inr s ↦ later (p x) (list_any p xs) (one_any p xs r s e)
]

-- ---- where a record of a set comes from
pub put_from : (r : Record) (xs : List Record) (a : Record) → contains (put r xs) a ≡ true → (a ≡ r) ⊎ (contains xs a ≡ true)
put_from r [] a h = elim (either_true (same a r) false h) [ inl s ↦ inl (same_is a r s) | inr s ↦ absurd cc ]
put_from r (x ∷ xs) a h =
    elim (record_cmp r x) as (λ o. contains (by_order o (r ∷ x ∷ xs) (r ∷ xs) (x ∷ put r xs)) a ≡ true → (a ≡ r) ⊎ (contains (x ∷ xs) a ≡ true)) [
      | Less ↦ λ e. elim (either_true (same a r) (contains (x ∷ xs) a) e) [ inl s ↦ inl (same_is a r s) | inr s ↦ inr s ]
      | Equal ↦ λ e. elim (either_true (same a r) (contains xs a) e) [ inl s ↦ inl (same_is a r s) | inr s ↦ inr (later (same a x) (contains xs a) s) ]
      | Greater ↦ λ e. elim (either_true (same a x) (contains (put r xs) a) e) [
        | inl s ↦ inr (ap (λ b. b || contains xs a) s)
        | inr s ↦ elim (put_from r xs a s) [ inl t ↦ inl t | inr t ↦ inr (later (same a x) (contains xs a) t) ]
      ]
    ] h

-- ---- a CNAME and its owner
many : (n : ℕ) → nat_lt 1 (suc (suc n)) ≡ true
many n = grind (arith, nat_tests)

pub one_of : (ys : List Record) → nat_lt 1 (length ys) ≡ false → (r s : Record) → contains ys r ≡ true → contains ys s ≡ true → s ≡ r
one_of [] few r s there here = absurd cc
one_of (a ∷ []) few r s there here =
    elim (either_true (same r a) false there) [
      | inl e ↦ elim (either_true (same s a) false here) [ inl f ↦ same_is s a f ∙ sym (same_is r a e) | inr f ↦ absurd cc ]
      | inr e ↦ absurd cc
    ]
one_of (a ∷ b ∷ ys) few r s there here = refuted (nat_lt 1 (suc (suc (length ys)))) (many (length ys)) few

pub alone_from : (xs : List Record) → has_cname_and_other xs ≡ false → AreAlone xs
alone_from xs none r s there here e o =
    let few : nat_lt 1 (length (records_at xs r.owner)) ≡ false = ap (λ b. b && nat_lt 1 (length (records_at xs r.owner))) (sym e) ∙ of_none (λ x. is_alias x && nat_lt 1 (length (records_at xs x.owner))) xs none r there in
    one_of (records_at xs r.owner) few r s (contains_filter r (λ x. names_eq x.owner r.owner) xs there (names_itself r.owner)) (contains_filter s (λ x. names_eq x.owner r.owner) xs here o)

pub few_of : (ys : List Record) (r : Record) → Sorted ys → ((s : Record) → contains ys s ≡ true → s ≡ r) → nat_lt 1 (length ys) ≡ false
few_of [] r h one = refl
few_of (a ∷ []) r h one = refl
few_of (a ∷ b ∷ ys) r h one =
    let first = one a (ap (λ c. c || contains (b ∷ ys) a) (same_itself a)) in
    let second = one b (later (same b a) (contains (b ∷ ys) b) (ap (λ c. c || contains ys b) (same_itself b))) in
    let tied : record_cmp a b ≡ Equal = ap (record_cmp a) (second ∙ sym first) ∙ tied_itself record_total a in
    let less : record_cmp a b ≡ Less = h.0.0 in absurd cc

pub from_alone : (xs : List Record) → Sorted xs → AreAlone xs → has_cname_and_other xs ≡ false
from_alone xs h alone = none_of (λ x. is_alias x && nat_lt 1 (length (records_at xs x.owner))) xs (λ r there. elim (true_or_false (is_alias r)) [
  | inr f ↦ ap (λ b. b && nat_lt 1 (length (records_at xs r.owner))) f
  | inl f ↦ ap (λ b. b && nat_lt 1 (length (records_at xs r.owner))) f ∙ few_of (records_at xs r.owner) r (sorted_filter (λ x. names_eq x.owner r.owner) xs h)
      (λ s e. (let here = filter_contains s (λ x. names_eq x.owner r.owner) xs e in alone r s there here.1 f here.0))
])
