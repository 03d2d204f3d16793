-- A change leads from its version to the other.
use Rattle.std.proofs.Common.{◌≡◌, ℕ, Bool, true, false, not, ◌&&◌, ◌||◌, ◌⊎◌, inl, inr, List, [], ◌∷◌}
use Rattle.std.proofs.Common.{Option, Some, None, refl, sym, ap, subst, ◌∙◌}
use Rattle.std.specs.Prelude.{cond, filter, ◌==◌, if◌then◌else◌}
use Rattle.std.specs.List.{list_any, list_all}
use Rattle.dns_records.specs.Types.{type_soa}
use Rattle.dns_records.specs.Record.{Record}
use Rattle.dns_zone.specs.Records.{has, same, alike, contains}
use Rattle.dns_zone.specs.Zone.{soas, has_twice}
use Rattle.dns_changes.specs.Change.{Change, IsChange, are_present, are_new, is_soa, removed_from, applied}
use Rattle.dns_changes.specs.Change.{change_fault}
use Rattle.dns_changes.specs.declared.ChangeError.TheVariants.{WrongSoa, RemovesAbsent, AddsPresent}
use Rattle.dns_changes.specs.Laws.{ChangeLeads, ChangeIsOne}
use Rattle.dns_zone.specs.Order.{both_true, same_is, same_itself, tied_key}
use Rattle.dns_zone.specs.Twice.{alike_tied, once}
use Rattle.dns_zone.specs.Sets.{ties, found, Sorted, true_or_false, sorted_from, found_tied, same_sets, joins}
use Rattle.dns_zone.specs.Sets.{sorted_filter, only, found_filter, or_else, found_united, sorted_united}
use Rattle.dns_zone.specs.Sets.{found_contains, either_true, contains_found, filter_contains, contains_filter}

pub not_true : (b : Bool) → not b ≡ true → b ≡ false
not_true true e = absurd cc
not_true false e = refl

pub apart : {A : Type 0} (b : Bool) → b ≡ true → b ≡ false → A
apart true e f = absurd cc
apart false e f = absurd cc

all_of : (test : Record → Bool) (xs : List Record) → ((r : Record) → contains xs r ≡ true → test r ≡ true)
    → list_all test xs ≡ true
all_of test [] h = refl
all_of test (x ∷ xs) h =
    let head : test x ≡ true = h x (ap (λ b. b || contains xs x) (same_itself x)) in
    ap (λ b. b && list_all test xs) head ∙ all_of test xs (λ r e. h r (later (same r x) (contains xs r) e))
  where
    later : (b c : Bool) → c ≡ true → (b || c) ≡ true
    later true c e = refl
    later false c e = e

none_of : (test : Record → Bool) (xs : List Record)
    → ((r : Record) → contains xs r ≡ true → test r ≡ false)
    → list_any test xs ≡ false
none_of test [] h = refl
none_of test (x ∷ xs) h =
    let head : test x ≡ false = h x (ap (λ b. b || contains xs x) (same_itself x)) in
    ap (λ b. b || list_any test xs) head ∙ none_of test xs (λ r e. h r (later (same r x) (contains xs r) e))
  where
    later : (b c : Bool) → c ≡ true → (b || c) ≡ true
    later true c e = refl
    later false c e = e

pub unfound : (q : Record) (xs : List Record) → found q xs ≡ None → list_any (ties q) xs ≡ false
unfound q [] e = refl
unfound q (x ∷ xs) e = elim (true_or_false (ties q x)) [
  | inl t ↦ (let at : found q (x ∷ xs) ≡ Some x = ap (λ b. cond b (Some x) (found q xs)) t in absurd cc)
  | inr t ↦ (let at : found q (x ∷ xs) ≡ found q xs = ap (λ b. cond b (Some x) (found q xs)) t in
      ap (λ b. b || list_any (ties q) xs) t ∙ unfound q xs (sym at ∙ e))
]

-- the one SOA of a set
pub one_in : (xs : List Record) (s : Record) → soas xs ≡ s ∷ [] → (is_soa s ≡ true) × (contains xs s ≡ true)
one_in xs s e =
    let alone : contains (s ∷ []) s ≡ true = ap (λ b. b || false) (same_itself s) in
    filter_contains s is_soa xs (subst (λ ys. contains ys s ≡ true) (sym e) alone)

pub one_is : (xs : List Record) (s a : Record) → soas xs ≡ s ∷ [] → contains xs a ≡ true
    → is_soa a ≡ true → a ≡ s
one_is xs s a e h i =
    let there : contains (s ∷ []) a ≡ true =
    subst (λ ys. contains ys a ≡ true) e (contains_filter a is_soa xs h i) in
    elim (either_true (same a s) false there) [ inl t ↦ same_is a s t | inr t ↦ absurd cc ]

pub soa_tied : (q s b : Record) → ties q s ≡ true → ties q b ≡ true → is_soa s ≡ true → is_soa b ≡ true
soa_tied q s b f g i = subst (λ (n : ℕ). (n == type_soa) ≡ true) (tied_key s b (joins q s b f g)).rtype i

-- a SOA and other records of a set in order are each named once
not_alike : (s : Record) (test : Record → Bool) (xs : List Record)
    → is_soa s ≡ true
    → ((r : Record) → test r ≡ true → not (is_soa r) ≡ true)
    → list_any (alike s) (filter test xs) ≡ false
not_alike s test xs i other = none_of (alike s) (filter test xs) (λ r e. elim (true_or_false (alike s r)) [
  | inr f ↦ f
  | inl t ↦ (let passes = filter_contains r test xs e in
      let key = tied_key s r (alike_tied s r t) in
      apart (is_soa r) (subst (λ (n : ℕ). (n == type_soa) ≡ true) key.rtype i)
      (not_true (is_soa r) (other r passes.0)))
])

one_once : (s : Record) (rs xs : List Record)
    → is_soa s ≡ true
    → Sorted xs
    → (test : Record → Bool)
    → rs ≡ filter test xs
    → ((r : Record) → test r ≡ true → not (is_soa r) ≡ true)
    → has_twice (s ∷ rs) ≡ false
one_once s rs xs i h test is other =
    let none : list_any (alike s) rs ≡ false = ap (list_any (alike s)) is ∙ not_alike s test xs i other in
    let single : has_twice rs ≡ false = ap has_twice is ∙ once (filter test xs) (sorted_filter test xs h) in
    λ j. none j || single j

module _ (before after : List Record) (c : Change) (hb : Sorted before) (ha : Sorted after)
    (h : IsChange before after c) where
  gone : List Record
  gone = c.old_soa ∷ c.removed

  abbrev stays : Record → Bool
  stays r = not (contains (c.old_soa ∷ c.removed) r)

  abbrev comes : Record → Bool
  comes r = not (is_soa r) && not (contains before r)

  abbrev goes : Record → Bool
  goes r = not (is_soa r) && not (contains after r)

  -- a record of both versions that is no SOA stays
  kept : (b : Record) → is_soa b ≡ false → contains after b ≡ true → stays b ≡ true
  kept b i e = elim (true_or_false (contains (c.old_soa ∷ c.removed) b)) [
    | inr f ↦ ap not f
    | inl t ↦ elim (either_true (same b c.old_soa) (contains c.removed b) t) [
      | inl s ↦ apart (is_soa b)
          (subst (λ r. is_soa r ≡ true) (sym (same_is b c.old_soa s)) (one_in before c.old_soa h.old_soa).0) i
      | inr s ↦
          (let there = filter_contains b goes before (subst (λ xs. contains xs b ≡ true) h.removed s) in
          let out = both_true (not (is_soa b)) (not (contains after b)) there.0 in
          apart (contains after b) e (not_true (contains after b) out.1))
    ]
  ]

  -- one of the old version that is a SOA or is not in the new version goes
  lost : (a : Record) → contains before a ≡ true → (is_soa a ≡ true) ⊎ (contains after a ≡ false)
      → stays a ≡ false
  lost a e (inl i) =
      let is = one_is before c.old_soa a h.old_soa e i in
      let self : same a c.old_soa ≡ true = subst (λ r. same a r ≡ true) is (same_itself a) in
      ap (λ b. not (b || contains c.removed a)) self
  lost a e (inr f) = elim (true_or_false (is_soa a)) [
    | inl i ↦ lost_soa i
    | inr i ↦
        (let passes : goes a ≡ true = ap (λ b. not b && not (contains after a)) i ∙ ap not f in
        let there : contains c.removed a ≡ true =
        subst (λ xs. contains xs a ≡ true) (sym h.removed) (contains_filter a goes before e passes) in
        ap not (later (same a c.old_soa) (contains c.removed a) there))
  ]
    where
      later : (b d : Bool) → d ≡ true → (b || d) ≡ true
      later true d e = refl
      later false d e = e

      lost_soa : is_soa a ≡ true → stays a ≡ false
      lost_soa i =
          let is = one_is before c.old_soa a h.old_soa e i in
          let self : same a c.old_soa ≡ true = subst (λ r. same a r ≡ true) is (same_itself a) in
          ap (λ b. not (b || contains c.removed a)) self

  without_new : (q : Record) (x y : Option Record)
      → ties q c.new_soa ≡ false
      → or_else (cond (ties q c.new_soa) (Some c.new_soa) (only comes x)) (only stays y)
      ≡ or_else (only comes x) (only stays y)
  without_new q x y e = ap (λ b. or_else (cond b (Some c.new_soa) (only comes x)) (only stays y)) e

  new_untied : (q : Record) → found q after ≡ None → ties q c.new_soa ≡ false
  new_untied q e = elim (true_or_false (ties q c.new_soa)) [
    | inr f ↦ f
    | inl t ↦ (let one = found_tied q c.new_soa t after in let two =
        contains_found c.new_soa after ha (one_in after c.new_soa h.new_soa).1 in absurd cc)
  ]

  stays_none : (q : Record) (y : Option Record) → found q after ≡ None → found q before ≡ y
      → only stays y ≡ None
  stays_none q None e f = refl
  stays_none q (Some a) e f =
      let there = found_contains q a before f in
      let absent : contains after a ≡ false = elim (true_or_false (contains after a)) [
        | inr g ↦ g
        | inl t ↦
            (let one = found_tied q a there.0 after in let two = contains_found a after ha t in absurd cc)
      ] in
      ap (λ b. cond b (Some a) None) (lost a there.1 (inr absent))

  stays_some : (q b : Record) (y : Option Record)
      → ties q b ≡ true
      → is_soa b ≡ false
      → contains after b ≡ true
      → contains before b ≡ true
      → found q before ≡ y
      → only stays y ≡ Some b
  stays_some q b y t i e g f =
      let is : y ≡ Some b = sym f ∙ found_tied q b t before ∙ contains_found b before hb g in
      ap (only stays) is ∙ ap (λ d. cond d (Some b) None) (kept b i e)

  at_key : (q : Record) (x y : Option Record)
      → found q after ≡ x
      → found q before ≡ y
      → or_else (cond (ties q c.new_soa) (Some c.new_soa) (only comes x)) (only stays y) ≡ x
  at_key q None y e f = without_new q None y (new_untied q e) ∙ stays_none q y e f
  at_key q (Some b) y e f =
      let there = found_contains q b after e in
      elim (true_or_false (is_soa b)) [
        | inl i ↦
            (let is = one_is after c.new_soa b h.new_soa there.1 i in
            let t : ties q c.new_soa ≡ true = subst (λ r. ties q r ≡ true) is there.0 in
            ap (λ d. or_else (cond d (Some c.new_soa) (only comes (Some b))) (only stays y)) t
            ∙ ap (λ (r : Record). Some r) (sym is))
        | inr i ↦
            (let t : ties q c.new_soa ≡ false = elim (true_or_false (ties q c.new_soa)) [
              | inr g ↦ g
              | inl g ↦
                  apart (is_soa b) (soa_tied q c.new_soa b g there.0 (one_in after c.new_soa h.new_soa).0) i
            ] in
            without_new q (Some b) y t ∙ elim (true_or_false (contains before b)) [
              | inr g ↦
                  (let passes : comes b ≡ true = ap (λ d. not d && not (contains before b)) i ∙ ap not g in
                  ap (λ d. or_else (cond d (Some b) None) (only stays y)) passes)
              | inl g ↦
                  (let fails : comes b ≡ false = ap (λ d. not d && not (contains before b)) i ∙ ap not g in
                  ap (λ d. or_else (cond d (Some b) None) (only stays y)) fails
                  ∙ stays_some q b y there.0 i there.1 g f)
            ])
      ]

  same_found : (q : Record) → found q (applied c before) ≡ found q after
  same_found q =
      found_united q (removed_from before (c.old_soa ∷ c.removed)) (c.new_soa ∷ c.added)
      ∙ ap (λ x. or_else (cond (ties q c.new_soa) (Some c.new_soa) x)
      (found q (removed_from before (c.old_soa ∷ c.removed))))
      (ap (found q) h.added ∙ found_filter q comes after ha)
      ∙ ap (or_else (cond (ties q c.new_soa) (Some c.new_soa) (only comes (found q after))))
      (found_filter q stays before hb)
      ∙ at_key q (found q after) (found q before) refl refl

  pub applied_is : applied c before ≡ after
  applied_is =
      same_sets (applied c before) after
      (sorted_united (removed_from before (c.old_soa ∷ c.removed)) (c.new_soa ∷ c.added)
      (sorted_filter stays before hb)) ha
      same_found

  -- none that comes is there
  absent_at : (r : Record) (y : Option Record) → contains (c.new_soa ∷ c.added) r ≡ true → found r before ≡ y
      → only stays y ≡ None
  absent_at r None e f = refl
  absent_at r (Some a) e f =
      let there = found_contains r a before f in
      let out : (is_soa a ≡ true) ⊎ (contains after a ≡ false) =
      elim (either_true (same r c.new_soa) (contains c.added r) e) [
        | inl s ↦ (let is = same_is r c.new_soa s in
            let self : ties r c.new_soa ≡ true = subst (λ x. ties r x ≡ true) is (itself r) in
            inl (soa_tied r c.new_soa a self there.0 (one_in after c.new_soa h.new_soa).0))
        | inr s ↦
            (let new = filter_contains r comes after (subst (λ xs. contains xs r ≡ true) h.added s) in
            let both = both_true (not (is_soa r)) (not (contains before r)) new.0 in
            elim (true_or_false (contains after a)) [
              | inr g ↦ inr g
              | inl g ↦
                  (let one = found_tied r a there.0 after in
                  let two = contains_found a after ha g in
                  let three = contains_found r after ha new.1 in
                  let is : a ≡ r = cc in
                  apart (contains before r) (subst (λ x. contains before x ≡ true) is there.1)
                  (not_true (contains before r) both.1))
            ])
      ] in
      ap (λ b. cond b (Some a) None) (lost a there.1 out)
    where
      itself : (x : Record) → ties x x ≡ true
      itself x =
          (found_contains x x (x ∷ [])
          (contains_found x (x ∷ []) (tt, tt) (ap (λ b. b || false) (same_itself x)))).0

  -- none is named twice
  gone_once : has_twice (c.old_soa ∷ c.removed) ≡ false
  gone_once =
      one_once c.old_soa c.removed before (one_in before c.old_soa h.old_soa).0 hb goes h.removed
      (λ r e. (both_true (not (is_soa r)) (not (contains after r)) e).0)

  come_once : has_twice (c.new_soa ∷ c.added) ≡ false
  come_once =
      one_once c.new_soa c.added after (one_in after c.new_soa h.new_soa).0 ha comes h.added
      (λ r e. (both_true (not (is_soa r)) (not (contains before r)) e).0)

  pub fits_is : change_fault c before ≡ None
  fits_is =
      let old : contains before c.old_soa ≡ true = (one_in before c.old_soa h.old_soa).1 in
      let removes : list_all (contains before) c.removed ≡ true =
      all_of (contains before) c.removed (λ r e. (filter_contains r goes before
      (subst (λ xs. contains xs r ≡ true) h.removed e)).1) in
      let adds : list_any (λ r. has r (removed_from before (c.old_soa ∷ c.removed))) (c.new_soa ∷ c.added)
      ≡ false =
      none_of (λ r. has r (removed_from before (c.old_soa ∷ c.removed))) (c.new_soa ∷ c.added)
      (λ r e. unfound r (removed_from before (c.old_soa ∷ c.removed)) (found_filter r stays before hb
      ∙ absent_at r (found r before) e refl)) in
      let going : are_present before (c.old_soa ∷ c.removed) ≡ true =
      λ i. (old i && removes i) && not (gone_once i) in
      let coming : are_new (removed_from before (c.old_soa ∷ c.removed)) (c.new_soa ∷ c.added) ≡ true =
      λ i. not (adds i) && not (come_once i) in
      λ i. if not (old i) then Some WrongSoa else if not (going i) then Some RemovesAbsent
      else if not (coming i) then Some AddsPresent else None

pub change_leads : ChangeLeads
change_leads before after c ob oa h = record {
  fits = fits_is before after c (sorted_from before ob) (sorted_from after oa) h;
  result = applied_is before after c (sorted_from before ob) (sorted_from after oa) h;
}

pub change_is_one : ChangeIsOne
change_is_one before after c d h g =
    let old : c.old_soa ≡ d.old_soa = cc (sym h.old_soa ∙ g.old_soa) in
    let new : c.new_soa ≡ d.new_soa = cc (sym h.new_soa ∙ g.new_soa) in
    let removed = h.removed ∙ sym g.removed in
    let added = h.added ∙ sym g.added in
    λ i. record { old_soa = old i; removed = removed i; new_soa = new i; added = added i }
