-- How the set grows in an answer that is a whole zone.
use Rattle.std.proofs.Common.{◌≡◌, ℕ, ◌+◌, ◌<◌, ◌≤◌, Bool, true, false, not, ◌&&◌, ◌||◌, ◌⊎◌, inl, inr, List, [], ◌∷◌, length, Option, Some, None, refl, sym, ap, subst, ◌∙◌, arith}
use Rattle.std.specs.Prelude.{◌==◌, nat_lt, Result, Ok, Err, IfOk, if◌then◌else◌}
use Rattle.std.specs.List.{list_any, list_all}
use Rattle.std.proofs.lemmas.Bool.Decides.{nat_tests}
use Rattle.std.specs.FinMap.Entries.{by_order}
use Rattle.std.specs.Ordering.{is_eq}
use Rattle.std.specs.declared.cmp.Ordering.{Ordering}
use Rattle.std.specs.declared.cmp.Ordering.TheVariants.{Less, Equal, Greater}
use Rattle.dns_names.specs.Name.{Labels, names_eq, under, is_wildcard}
use Rattle.dns_records.specs.Record.{Record, record_cmp, serial_of}
use Rattle.dns_records.specs.Types.{type_ns, type_soa}
use Rattle.dns_zone.specs.Records.{put, without, has, contains, same, owns_type}
use Rattle.dns_zone.specs.Zone.{Zone, soas, zone_fault, has_twice, has_cname_and_other}
use Rattle.dns_changes.specs.Change.{is_soa}
use Rattle.dns_wire.specs.Message.{ResourceRecord, record_of_item}
use Rattle.dns_secondary.specs.State.{State, Begun, Led, Whole, Removing, Adding, Ended, IsUnfinished}
use Rattle.dns_secondary.specs.Step.{step, second, within_whole, last, collect, first_sequence, sequence_from, remove, new_soa, add}
use Rattle.dns_secondary.specs.Rest.{Means, Rest, Reaches}
use Rattle.dns_secondary.specs.Receiving.{Receiving}
use Rattle.dns_secondary.specs.Received.{received_count, is_incremental}
use Rattle.dns_secondary.specs.Told.{Feeds}
use Rattle.dns_secondary.specs.declared.fault.Fault.{Fault}
use Rattle.dns_secondary.specs.declared.fault.Fault.TheVariants.{BadSequence, RemovesAbsent, AddsPresent, InvalidZone}
use Rattle.dns_secondary.specs.declared.fault.Progress.TheVariants.{More}
use Rattle.dns_secondary.proofs.Ends.{end_of}
use Rattle.dns_secondary.proofs.Forms.{passed}
use Rattle.dns_secondary.proofs.Shapes.{not_true, not_false}
use Rattle.dns_secondary.proofs.Soas.{apart}

neither : (a b : Bool) → (a || b) ≡ false → (a ≡ false) × (b ≡ false)
neither true b e = absurd cc
neither false b e = (refl, e)

longer_at : (r x : Record) (xs : List Record) (order : Ordering)
    → record_cmp r x ≡ order
    → has r (x ∷ xs) ≡ false
    → (has r xs ≡ false → length (put r xs) ≡ length xs + 1)
    → length (by_order order (r ∷ x ∷ xs) (r ∷ xs) (x ∷ put r xs)) ≡ length (x ∷ xs) + 1
longer_at r x xs Less e free more = omega arith
longer_at r x xs Equal e free more =
    (let tied = ap is_eq e in let none = (neither (is_eq (record_cmp r x)) (has r xs) free).0 in absurd cc)
longer_at r x xs Greater e free more =
    let rest = more (neither (is_eq (record_cmp r x)) (has r xs) free).1 in omega (arith, rest)

-- a record that was not there makes the set longer
longer : (r : Record) (xs : List Record) → has r xs ≡ false → length (put r xs) ≡ length xs + 1
longer r [] free = refl
longer r (x ∷ xs) free = longer_at r x xs (record_cmp r x) refl free (λ none. longer r xs none)

by_test : (P : State → Type 0) (b : Bool) (x y : Result State Fault)
    → (b ≡ true → IfOk x P)
    → (b ≡ false → IfOk y P)
    → IfOk (if b then x else y) P
by_test P true x y h k = h refl
by_test P false x y h k = k refl

-- changes, or the end
abbrev IsOther : State → Type 0
IsOther Begun = ⊥
IsOther (Led soa) = ⊥
IsOther (Whole soa set) = ⊥
IsOther (Removing soa set) = Unit {0}
IsOther (Adding soa set reached) = Unit {0}
IsOther (Ended set) = Unit {0}

last_other : (soa : Record) (set : List Record) (r : Record) → IfOk (last soa set r) IsOther
last_other soa set r = by_test IsOther (same r soa) (Ok (Ended set)) (Err BadSequence) (λ e. tt) (λ e. tt)

remove_other : (soa : Record) (set : List Record) (r : Record) → IfOk (remove soa set r) IsOther
remove_other soa set r =
    by_test IsOther (contains set r) (Ok (Removing soa (without r set))) (Err RemovesAbsent) (λ e. tt) (λ e. tt)

sequence_other : (soa : Record) (set : List Record) (reached r : Record) → IfOk (sequence_from soa set reached r) IsOther
sequence_other soa set reached r =
    by_test IsOther (same r reached) (remove soa set r) (Err BadSequence) (λ e. remove_other soa set r) (λ e. tt)

first_other : (soa : Record) (set firsts : List Record) (r : Record) → IfOk (first_sequence soa set firsts r) IsOther
first_other soa set [] r = tt
first_other soa set (reached ∷ rest) r =
    by_test IsOther (serial_of soa == serial_of reached) (Err BadSequence) (sequence_from soa set reached r) (λ e. tt)
    (λ e. sequence_other soa set reached r)

add_other : (soa : Record) (set : List Record) (reached r : Record) → IfOk (add soa set reached r) IsOther
add_other soa set reached r =
    by_test IsOther (has r set) (Err AddsPresent) (Ok (Adding soa (put r set) reached)) (λ e. tt) (λ e. tt)

new_other : (soa : Record) (set : List Record) (r : Record) → IfOk (new_soa soa set r) IsOther
new_other soa set r =
    by_test IsOther (serial_of r == serial_of soa && not (same r soa)) (Err BadSequence) (add soa set r r) (λ e. tt)
    (λ e. add_other soa set r r)

abbrev size : State → ℕ
size at = received_count (Some at)

-- no changes, and the same or more
abbrev Grown : State → State → Type 0
Grown at next = IsOther next ⊎ (next ≡ at) ⊎ (size at < size next)

-- what leads is a SOA
abbrev IsLedBySoa : State → Type 0
IsLedBySoa Begun = Unit {0}
IsLedBySoa (Led soa) = is_soa soa ≡ true
IsLedBySoa (Whole soa set) = Unit {0}
IsLedBySoa (Removing soa set) = Unit {0}
IsLedBySoa (Adding soa set reached) = Unit {0}
IsLedBySoa (Ended set) = Unit {0}

abbrev Steps : State → State → Type 0
Steps at next = IsLedBySoa next × Grown at next

other_steps : (at next : State) → IsOther next → Steps at next
other_steps at Begun h = absurd h
other_steps at (Led soa) h = absurd h
other_steps at (Whole soa set) h = absurd h
other_steps at (Removing soa set) h = (tt, inl tt)
other_steps at (Adding soa set reached) h = (tt, inl tt)
other_steps at (Ended set) h = (tt, inl tt)

others_step : (at : State) (r : Result State Fault) → IfOk r IsOther → IfOk r (Steps at)
others_step at (Ok next) h = other_steps at next h
others_step at (Err fault) h = tt

first_of : (a b : Bool) → (a && b) ≡ true → a ≡ true
first_of true b e = refl
first_of false b e = absurd cc

-- a SOA and another record
second_new : (soa r : Record) → is_soa soa ≡ true → is_soa r ≡ false → IfOk (collect soa (soa ∷ []) r) (Steps (Led soa))
second_new soa r leading other =
    let free : has r (soa ∷ []) ≡ false = ap (λ b. b || false) (apart r soa (λ e. (let one = sym other ∙ e ∙ leading in absurd cc))) in
    by_test (Steps (Led soa)) (not (has r (soa ∷ []))) (Ok (Whole soa (put r (soa ∷ []))))
    (if contains (soa ∷ []) r then Ok (Whole soa (soa ∷ [])) else Err InvalidZone)
    (λ e. (tt, inr (inr (omega (arith, longer r (soa ∷ []) free)))))
    (λ e. (let there = sym free ∙ not_false (has r (soa ∷ [])) e in absurd cc))

second_steps : (held : Option Zone) (soa r : Record) → is_soa soa ≡ true → IfOk (second held soa r) (Steps (Led soa))
second_steps None soa r leading =
    by_test (Steps (Led soa)) (is_soa r) (last soa (soa ∷ []) r) (collect soa (soa ∷ []) r)
    (λ e. others_step (Led soa) (last soa (soa ∷ []) r) (last_other soa (soa ∷ []) r)) (λ e. second_new soa r leading e)
second_steps (Some z) soa r leading =
    by_test (Steps (Led soa)) (is_soa r) (first_sequence soa z.records (soas z.records) r) (collect soa (soa ∷ []) r)
    (λ e. others_step (Led soa) (first_sequence soa z.records (soas z.records) r) (first_other soa z.records (soas z.records) r))
    (λ e. second_new soa r leading e)

whole_steps : (soa : Record) (set : List Record) (r : Record) → IfOk (within_whole soa set r) (Steps (Whole soa set))
whole_steps soa set r =
    by_test (Steps (Whole soa set)) (is_soa r) (last soa set r) (collect soa set r)
    (λ e. others_step (Whole soa set) (last soa set r) (last_other soa set r))
    (λ e. by_test (Steps (Whole soa set)) (not (has r set)) (Ok (Whole soa (put r set))) (if contains set r then Ok (Whole soa set) else Err InvalidZone)
    (λ f. (tt, inr (inr (omega (arith, longer r set (not_true (has r set) f))))))
    (λ f. by_test (Steps (Whole soa set)) (contains set r) (Ok (Whole soa set)) (Err InvalidZone) (λ g. (tt, inr (inl refl))) (λ g. tt)))

joined : (at mid end : State) → Grown at mid → Grown mid end → (IsOther mid → IsOther end) → Grown at end
joined at mid end (inl other) g on = inl (on other)
joined at mid end (inr (inl is)) g on = subst (λ s. Grown s end) is g
joined at mid end (inr (inr less)) (inl other) on = inl other
joined at mid end (inr (inr less)) (inr (inl is)) on = inr (inr (subst (λ s. size at < size s) (sym is) less))
joined at mid end (inr (inr less)) (inr (inr more)) on = inr (inr (omega (arith, less, more)))

module _ (apex : Labels) (held : Option Zone) where
  step_other : (at : State) (r : Record) → IsOther at → IfOk (step apex held at r) IsOther
  step_other Begun r h = absurd h
  step_other (Led soa) r h = absurd h
  step_other (Whole soa set) r h = absurd h
  step_other (Removing soa set) r h =
      by_test IsOther (is_soa r) (new_soa soa set r) (remove soa set r) (λ e. new_other soa set r) (λ e. remove_other soa set r)
  step_other (Adding soa set reached) r h =
      by_test IsOther (not (is_soa r)) (add soa set reached r) (if serial_of reached == serial_of soa then last soa set r else sequence_from soa set reached r)
      (λ e. add_other soa set reached r)
      (λ e. by_test IsOther (serial_of reached == serial_of soa) (last soa set r) (sequence_from soa set reached r) (λ f. last_other soa set r)
      (λ f. sequence_other soa set reached r))
  step_other (Ended set) r h = tt

  step_steps : (at : State) (r : Record) → IsLedBySoa at → IfOk (step apex held at r) (Steps at)
  step_steps Begun r h =
      by_test (Steps Begun) (is_soa r && names_eq r.owner apex) (Ok (Led r)) (Err BadSequence)
      (λ e. (first_of (is_soa r) (names_eq r.owner apex) e, inr (inr (omega arith)))) (λ e. tt)
  step_steps (Led soa) r h = second_steps held soa r h
  step_steps (Whole soa set) r h = whole_steps soa set r
  step_steps (Removing soa set) r h =
      others_step (Removing soa set) (step apex held (Removing soa set) r) (step_other (Removing soa set) r tt)
  step_steps (Adding soa set reached) r h =
      others_step (Adding soa set reached) (step apex held (Adding soa set reached) r) (step_other (Adding soa set reached) r tt)
  step_steps (Ended set) r h = tt

  other_on : (at end : State) (xs : List ResourceRecord) → IsOther at → Reaches apex held at xs end → IsOther end
  other_on at end [] h e = subst IsOther (sym e) h
  other_on at end (x ∷ xs) h go =
      other_on go.0 end xs (subst (λ (r : Result State Fault). IfOk r IsOther) (go.1).steps (step_other at (record_of_item x) h)) go.2

  grown : (at end : State) (xs : List ResourceRecord) → IsLedBySoa at → Reaches apex held at xs end → Steps at end
  grown at end [] h e = (subst IsLedBySoa (sym e) h, inr (inl e))
  grown at end (x ∷ xs) h go =
      let one = subst (λ (r : Result State Fault). IfOk r (Steps at)) (go.1).steps (step_steps at (record_of_item x) h) in
      let more = grown go.0 end xs one.0 go.2 in
      (more.0, joined at go.0 end one.1 more.1 (λ other. other_on go.0 end xs other go.2))

state_is : (a b : State) → ◌≡◌ {A = Option State} (Some a) (Some b) → a ≡ b
state_is a b e = cc

not_other : (next : State) → IsOther next → IsUnfinished next → is_incremental (Some next) ≡ false → ⊥
not_other Begun h on e = h
not_other (Led soa) h on e = h
not_other (Whole soa set) h on e = h
not_other (Removing soa set) h on e = absurd cc
not_other (Adding soa set reached) h on e = absurd cc
not_other (Ended set) h on e = on

module _ (s new : Receiving) (at next : State) (is : s.state ≡ Some at) (new_is : new ≡ record s { state = Some next }) where
  state_new : new.state ≡ Some next
  state_new = ap (λ (u : Receiving). u.state) new_is

  unchanged : next ≡ at → new ≡ s
  unchanged same = new_is ∙ ap (λ (u : Option State). record s { state = u }) (ap (λ (u : State). Some u) same ∙ sym is)

  decided : IsUnfinished next → is_incremental new.state ≡ false → received_count new.state ≡ received_count s.state → Grown at next → new ≡ s
  decided on whole count (inl other) = absurd (not_other next other on (sym (ap is_incremental state_new) ∙ whole))
  decided on whole count (inr (inl same)) = unchanged same
  decided on whole count (inr (inr more)) =
      absurd (omega (arith, more, count, ap received_count state_new, ap received_count is))

-- as many records as before: nothing has changed
pub idle : (s new : Receiving) (before : List ResourceRecord) (at : State) (octets : List ℕ)
    → s.state ≡ Some at
    → Reaches s.apex s.held Begun before at
    → Feeds s octets More new
    → is_incremental new.state ≡ false
    → received_count new.state ≡ received_count s.state
    → new ≡ s
idle s new before at octets is so_far fed whole count =
    let told = (fed.2).tells in
    let led : IsLedBySoa fed.0 =
    subst IsLedBySoa (state_is at fed.0 (sym is ∙ fed.1)) (grown s.apex s.held Begun at before tt so_far).0 in
    decided s new fed.0 told.0 fed.1 told.3 told.2 whole count
    (grown s.apex s.held fed.0 told.0 ((fed.2).message).answers led told.1).1

-- a whole zone of so many records or more, or its end
abbrev IsNoLess : ℕ → State → Type 0
IsNoLess n Begun = ⊥
IsNoLess n (Led soa) = ⊥
IsNoLess n (Whole soa set) = n ≤ length set
IsNoLess n (Removing soa set) = ⊥
IsNoLess n (Adding soa set reached) = ⊥
IsNoLess n (Ended set) = n ≤ length set

few : (apex : Labels) (xs : List Record) → zone_fault apex xs ≡ None → length xs ≤ 65536
few apex xs e =
    let a = passed (not (owns_type xs apex type_soa)) _ _ e in
    let b = passed (nat_lt 1 (length (soas xs))) _ _ a.1 in
    let c = passed (not (owns_type xs apex type_ns)) _ _ b.1 in
    let d = passed (not (list_all (λ r. under r.owner apex) xs)) _ _ c.1 in
    let f = passed (has_twice xs) _ _ d.1 in
    let g = passed (has_cname_and_other xs) _ _ f.1 in
    let h = passed (list_any (λ r. r.rtype == type_ns && is_wildcard r.owner) xs) _ _ g.1 in
    let k = (passed (nat_lt 65536 (length xs)) _ _ h.1).0 in
    grind (arith, nat_tests)

module _ (apex : Labels) (held : Option Zone) (n : ℕ) where
  step_no_less : (at : State) (r : Record) → IsNoLess n at → IfOk (step apex held at r) (IsNoLess n)
  step_no_less Begun r h = absurd h
  step_no_less (Led soa) r h = absurd h
  step_no_less (Whole soa set) r h =
      by_test (IsNoLess n) (is_soa r) (last soa set r) (collect soa set r)
      (λ e. by_test (IsNoLess n) (same r soa) (Ok (Ended set)) (Err BadSequence) (λ f. h) (λ f. tt))
      (λ e. by_test (IsNoLess n) (not (has r set)) (Ok (Whole soa (put r set))) (if contains set r then Ok (Whole soa set) else Err InvalidZone)
      (λ f. omega (arith, h, longer r set (not_true (has r set) f)))
      (λ f. by_test (IsNoLess n) (contains set r) (Ok (Whole soa set)) (Err InvalidZone) (λ g. h) (λ g. tt)))
  step_no_less (Removing soa set) r h = absurd h
  step_no_less (Adding soa set reached) r h = absurd h
  step_no_less (Ended set) r h = tt

  no_less_on : (at end : State) (xs : List ResourceRecord) → IsNoLess n at → Reaches apex held at xs end → IsNoLess n end
  no_less_on at end [] h e = subst (IsNoLess n) (sym e) h
  no_less_on at end (x ∷ xs) h go =
      no_less_on go.0 end xs (subst (λ (r : Result State Fault). IfOk r (IsNoLess n)) (go.1).steps (step_no_less at (record_of_item x) h)) go.2

no_meaning : (apex : Labels) (held : Option Zone) (end : State) (set : List Record) → IsNoLess 65537 end → Means apex held end set → ⊥
no_meaning apex held Begun set h m = h
no_meaning apex held (Led soa) set h m = h
no_meaning apex held (Whole soa so_far) set h m = m
no_meaning apex held (Removing soa so_far) set h m = h
no_meaning apex held (Adding soa so_far reached) set h m = h
no_meaning apex held (Ended ended) set h m =
    let most = few apex ended (m.1).valid in absurd (omega (arith, h, most))

many_at : (at : State) → is_incremental (Some at) ≡ false → 65536 < size at → IsNoLess 65537 at
many_at Begun e h = absurd (omega (arith, h))
many_at (Led soa) e h = absurd (omega (arith, h))
many_at (Whole soa set) e h = omega (arith, h)
many_at (Removing soa set) e h = absurd cc
many_at (Adding soa set reached) e h = absurd cc
many_at (Ended set) e h = omega (arith, h)

-- more records than a zone has
pub too_many : (apex : Labels) (held : Option Zone) (at : State) (more : List ResourceRecord) (set : List Record)
    → is_incremental (Some at) ≡ false
    → 65536 < received_count (Some at)
    → Rest apex held at more set
    → ⊥
too_many apex held at more set whole count rest =
    let e = end_of apex held at more set rest in
    no_meaning apex held e.end set (no_less_on apex held 65537 at e.end more (many_at at whole count) e.reaches) e.means
