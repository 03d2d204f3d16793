-- Where what came by a change may stay, the set is a zone's again.
use Rattle.std.proofs.Common.{◌≡◌, ℕ, suc, Bool, true, false, not, ◌&&◌, ◌||◌, ◌⊎◌, inl, inr, List, [], ◌∷◌, Some, None, length, sym, ap, subst, ◌∙◌, arith}
use Rattle.std.specs.Prelude.{◌==◌, nat_lt, if◌then◌else◌}
use Rattle.std.specs.List.{list_any, list_all}
use Rattle.std.proofs.lemmas.Bool.Decides.{nat_tests}
use Rattle.dns_names.specs.Name.{Labels, names_eq, under}
use Rattle.dns_records.specs.Types.{type_ns, type_cname, type_soa}
use Rattle.dns_records.specs.Record.{Record}
use Rattle.dns_zone.specs.Records.{united, contains, same, is_ordered, records_at, rrset, is_none_of}
use Rattle.dns_zone.specs.Zone.{IsZone, soas, zone_fault}
use Rattle.dns_zone.specs.declared.ZoneError.TheVariants.{NoSoa, ManySoa, NoNs, OutOfZone, Duplicate, CnameAndOther, WildcardNs, TooMany}
use Rattle.dns_zone.specs.Order.{both_true, names_same, names_itself, same_is, same_itself}
use Rattle.dns_zone.specs.Owned.{owns_no_type}
use Rattle.dns_zone.specs.Sets.{Sorted, true_or_false, either_true, filter_contains, contains_filter, sorted_filter, sorted_from, sorted_united}
use Rattle.dns_zone.specs.Twice.{once}
use Rattle.dns_zone.proofs.OneSoa.{Conditions, conditions, past, untrue, zone_soa}
use Rattle.dns_zone.proofs.Alone.{AreAlone, is_alias, is_wild, later, refuted, of_all, all_of, of_none, none_of, put_from, one_of, few_of, alone_from, from_alone}
use Rattle.dns_changes.specs.Applied.{not_true, one_is}
use Rattle.dns_changes.specs.Change.{Change, applied, change_fault, is_formed, is_soa, removed_from}
use Rattle.dns_changes.proofs.Formed.{form_parts}
use Rattle.dns_store.specs.Staying.{has_crowded_alias, may_stand, stays_zone}

-- ---- where a record of the set comes from
first_in : (r a : Record) (rs : List Record) → a ≡ r → contains (r ∷ rs) a ≡ true
first_in r a rs is = ap (λ b. b || contains rs a) (subst (λ (x : Record). same a x ≡ true) is (same_itself a))

united_from : (xs rs : List Record) (a : Record) → contains (united xs rs) a ≡ true → (contains rs a ≡ true) ⊎ (contains xs a ≡ true)
united_from xs [] a h = inr h
united_from xs (r ∷ rs) a h = elim (put_from r (united xs rs) a h) [
  | inl is ↦ inl (first_in r a rs is)
  | inr rest ↦ elim (united_from xs rs a rest) [ inl s ↦ inl (later (same a r) (contains rs a) s) | inr s ↦ inr s ]
]

-- ---- a CNAME and its owner
some : (n : ℕ) → (suc n == 0) ≡ false
some n = grind (arith, nat_tests)

none_there : (ys : List Record) (r : Record) → contains ys r ≡ true → is_none_of ys ≡ true → ⊥
none_there [] r h e = absurd cc
none_there (y ∷ ys) r h e = refuted (suc (length ys) == 0) e (some (length ys))

-- at a name where no CNAME has others beside it
by_name : (xs : List Record) (n : Labels) → has_crowded_alias xs n ≡ false → (r s : Record) → contains xs r ≡ true → contains xs s ≡ true → names_eq r.owner n ≡ true → names_eq s.owner n ≡ true → is_alias r ≡ true → s ≡ r
by_name xs n none r s there here a b e = elim (true_or_false (nat_lt 1 (length (records_at xs n)))) [
  | inr few ↦ one_of (records_at xs n) few r s (contains_filter r (λ x. names_eq x.owner n) xs there a) (contains_filter s (λ x. names_eq x.owner n) xs here b)
  | inl more ↦
      (let no : not (is_none_of (rrset xs n type_cname)) ≡ false = ap (λ c. c && not (is_none_of (rrset xs n type_cname))) (sym more) ∙ none in
      let mine = contains_filter r (λ x. names_eq x.owner n && x.rtype == type_cname) xs there (λ i. a i && e i) in
      absurd (none_there (rrset xs n type_cname) r mine (untrue (is_none_of (rrset xs n type_cname)) no)))
]

-- ---- the change
module _ (apex : Labels) (before : List Record) (c : Change) (h : IsZone (record { apex = apex; records = before })) (formed : is_formed c ≡ true) (fits : change_fault c before ≡ None) where
  abbrev stays : Record → Bool
  stays r = not (contains (c.old_soa ∷ c.removed) r)

  sorted_before : Sorted before
  sorted_before = sorted_from before h.ordered

  sorted_after : Sorted (applied c before)
  sorted_after = sorted_united (removed_from before (c.old_soa ∷ c.removed)) (c.new_soa ∷ c.added) (sorted_filter stays before sorted_before)

  so_far : Conditions apex before
  so_far = conditions apex before h.valid

  comes_from : (r : Record) → contains (applied c before) r ≡ true → (contains (c.new_soa ∷ c.added) r ≡ true) ⊎ ((contains before r ≡ true) × (stays r ≡ true))
  comes_from r e = elim (united_from (removed_from before (c.old_soa ∷ c.removed)) (c.new_soa ∷ c.added) r e) [
    | inl s ↦ inl s
    | inr s ↦ (let kept = filter_contains r stays before s in inr (kept.1, kept.0))
  ]

  -- a SOA that is there is the new one
  soa_is : (r : Record) → contains (applied c before) r ≡ true → is_soa r ≡ true → r ≡ c.new_soa
  soa_is r there e =
      let parts = form_parts c formed in
      elim (comes_from r there) [
        | inl s ↦ elim (either_true (same r c.new_soa) (contains c.added r) s) [
          | inl t ↦ same_is r c.new_soa t
          | inr t ↦ refuted (is_soa r) e (of_none is_soa c.added parts.come r t)
        ]
        | inr s ↦
            (let had = zone_soa (record { apex = apex; records = before }) h in
            let old_there = untrue (contains before c.old_soa) (past (not (contains before c.old_soa)) _ _ fits).0 in
            let is : r ≡ c.old_soa = one_is before had.soa r had.one s.0 e ∙ sym (one_is before had.soa c.old_soa had.one old_there parts.old_soa) in
            refuted (contains (c.old_soa ∷ c.removed) r) (first_in c.old_soa r c.removed is) (not_true (contains (c.old_soa ∷ c.removed) r) s.1))
      ]

  module _ (all : list_all (may_stand apex (applied c before)) (c.new_soa ∷ c.added) ≡ true) where
    came : (r : Record) → contains (c.new_soa ∷ c.added) r ≡ true → ((under r.owner apex && not (is_wild r)) ≡ true) × (not (has_crowded_alias (applied c before) r.owner) ≡ true)
    came r e = both_true (under r.owner apex && not (is_wild r)) (not (has_crowded_alias (applied c before) r.owner)) (of_all (may_stand apex (applied c before)) (c.new_soa ∷ c.added) all r e)

    inside : (r : Record) → contains (applied c before) r ≡ true → under r.owner apex ≡ true
    inside r there = elim (comes_from r there) [
      | inl s ↦ (both_true (under r.owner apex) (not (is_wild r)) (came r s).0).0
      | inr s ↦ of_all (λ x. under x.owner apex) before so_far.inside r s.0
    ]

    no_wild : (r : Record) → contains (applied c before) r ≡ true → is_wild r ≡ false
    no_wild r there = elim (comes_from r there) [
      | inl s ↦ not_true (is_wild r) (both_true (under r.owner apex) (not (is_wild r)) (came r s).0).1
      | inr s ↦ of_none is_wild before so_far.servers r s.0
    ]

    at_came : (x : Record) → contains (c.new_soa ∷ c.added) x ≡ true → has_crowded_alias (applied c before) x.owner ≡ false
    at_came x e = not_true (has_crowded_alias (applied c before) x.owner) (came x e).1

    alone : AreAlone (applied c before)
    alone r s there here e o = elim (comes_from r there) [
      | inl f ↦ by_name (applied c before) r.owner (at_came r f) r s there here (names_itself r.owner) o e
      | inr f ↦ elim (comes_from s here) [
        | inl g ↦
            (let same_owner : names_eq r.owner s.owner ≡ true = subst (λ (n : Labels). names_eq n s.owner ≡ true) (names_same s.owner r.owner o) (names_itself s.owner) in
            by_name (applied c before) s.owner (at_came s g) r s there here same_owner (names_itself s.owner) e)
        | inr g ↦ alone_from before so_far.alone r s f.0 g.0 e o
      ]
    ]

  pub zone_stays : stays_zone apex (applied c before) c ≡ true → zone_fault apex (applied c before) ≡ None
  zone_stays e =
      let xs = applied c before in
      let has_soa = not (is_none_of (rrset xs apex type_soa)) in
      let has_ns = not (is_none_of (rrset xs apex type_ns)) in
      let is_few = not (nat_lt 65536 (length xs)) in
      let four = both_true (has_soa && has_ns && is_few && may_stand apex xs c.new_soa) (list_all (may_stand apex xs) c.added) e in
      let three = both_true (has_soa && has_ns && is_few) (may_stand apex xs c.new_soa) four.0 in
      let two = both_true (has_soa && has_ns) is_few three.0 in
      let one = both_true has_soa has_ns two.0 in
      let all : list_all (may_stand apex xs) (c.new_soa ∷ c.added) ≡ true = λ i. three.1 i && four.1 i in
      let soa = sym (owns_no_type xs apex type_soa) ∙ not_true (is_none_of (rrset xs apex type_soa)) one.0 in
      let ns = sym (owns_no_type xs apex type_ns) ∙ not_true (is_none_of (rrset xs apex type_ns)) one.1 in
      let few = not_true (nat_lt 65536 (length xs)) two.1 in
      let single = few_of (soas xs) c.new_soa (sorted_filter is_soa xs sorted_after) (λ s at. (let here = filter_contains s is_soa xs at in soa_is s here.1 here.0)) in
      let within = all_of (λ r. under r.owner apex) xs (inside all) in
      let twice = once xs sorted_after in
      let alias = from_alone xs sorted_after (alone all) in
      let wild = none_of is_wild xs (no_wild all) in
      λ i. if soa i then Some NoSoa else if single i then Some ManySoa else if ns i then Some NoNs else if not (within i) then Some OutOfZone else if twice i then Some Duplicate else if alias i then Some CnameAndOther else if wild i then Some WildcardNs else if few i then Some TooMany else None
