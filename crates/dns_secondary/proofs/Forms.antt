-- Whole answers, from their form to their reading record by record.
use Rattle.std.proofs.Common.{◌≡◌, ◌≢◌, ℕ, arith, ◌⊎◌, inl, inr, Bool, true, false, not, List, [], ◌∷◌, ◌++◌, map, Option, Some, None, refl, sym, ap, subst, ◌∙◌, append_assoc}
use Rattle.std.specs.Prelude.{◌==◌, ◌&&◌, ◌||◌, nat_lt, length, Result, Ok, if◌then◌else◌}
use Rattle.std.specs.List.{AllByRecursion, flat_map}
use Rattle.std.proofs.lemmas.Bool.Decides.{nat_tests}
use Rattle.dns_names.specs.Name.{Labels, names_eq}
use Rattle.dns_records.specs.Record.{Record, serial_of}
use Rattle.dns_records.specs.Types.{type_ns, type_soa}
use Rattle.dns_zone.specs.Records.{put, without, has, contains, same, owns_type}
use Rattle.dns_zone.specs.Order.{same_itself}
use Rattle.dns_zone.specs.Zone.{Zone, IsZone, soas, zone_fault}
use Rattle.dns_changes.specs.Change.{Change, is_soa}
use Rattle.dns_zone.specs.declared.ZoneError.{ZoneError}
use Rattle.dns_wire.specs.Message.{ResourceRecord, record_of_item}
use Rattle.dns_secondary.specs.State.{State, Begun, Led, Whole, Removing, Adding, Ended}
use Rattle.dns_secondary.specs.Step.{step, within_whole, sequence_from, first_sequence, second, IsFit}
use Rattle.dns_secondary.specs.Rest.{Means, Rest, Reaches}
use Rattle.dns_secondary.specs.Taken.{IsSoaAt, AreOthers, Collects, Removes, Adds, sequence_records, Applies, Leads, IsCurrent, IsWholeZone, HasChangedForm, IsChanged, Taken}
use Rattle.dns_secondary.specs.declared.fault.Fault.{Fault}
use Rattle.dns_secondary.proofs.Runs.{rest_of}

-- records that are fit lead from a state to another
abbrev pub Goes : Labels → Option Zone → State → List Record → State → Type 0
Goes apex held at [] end = end ≡ at
Goes apex held at (r ∷ rs) end = (next : State) × (step apex held at r ≡ Ok next) × Goes apex held next rs end

pub when : (b : Bool) (x y : Result State Fault) → b ≡ true → (if b then x else y) ≡ x
when true x y e = refl
when false x y e = absurd cc

pub unless : (b : Bool) (x y : Result State Fault) → b ≡ false → (if b then x else y) ≡ y
unless false x y e = refl
unless true x y e = absurd cc

pub and_false : (b : Bool) → (b && false) ≡ false
and_false true = refl
and_false false = refl

serials_same : (m n : ℕ) → m ≡ n → (m == n) ≡ true
serials_same m n e = grind (arith, nat_tests)

pub passed : (b : Bool) (e : ZoneError) (x : Option ZoneError) → (if b then Some e else x) ≡ None → (b ≡ false) × (x ≡ None)
passed true e x h = absurd cc
passed false e x h = (refl, h)

-- a SOA alone is no zone
lone_fault : (apex : Labels) (soa : Record) → is_soa soa ≡ true → zone_fault apex (soa ∷ []) ≢ None
lone_fault apex soa is e =
    let other : (soa.rtype == type_ns) ≡ false = grind (arith, nat_tests) in
    let owns : owns_type (soa ∷ []) apex type_ns ≡ false =
    ap (λ b. (names_eq soa.owner apex && b) || false) other ∙ ap (λ b. b || false) (and_false (names_eq soa.owner apex)) in
    let first = passed (not (owns_type (soa ∷ []) apex type_soa)) _ _ e in
    let second = passed (nat_lt 1 (length (soas (soa ∷ [])))) _ _ first.1 in
    let third = passed (not (owns_type (soa ∷ []) apex type_ns)) _ _ second.1 in
    let fault : not (owns_type (soa ∷ []) apex type_ns) ≡ true = ap not owns in
    let none = third.0 in
    absurd cc

-- sequences and what is after them
abbrev pub along : List Change → List Record → List Record
along [] end = end
along (c ∷ rest) end = c.old_soa ∷ (c.removed ++ (c.new_soa ∷ (c.added ++ along rest end)))

pub along_is : (changes : List Change) (end : List Record) → flat_map sequence_records changes ++ end ≡ along changes end
along_is [] end = refl
along_is (c ∷ rest) end =
    append_assoc (sequence_records c) (flat_map sequence_records rest) end
    ∙ ap (λ (xs : List Record). sequence_records c ++ xs) (along_is rest end)
    ∙ ap (λ (xs : List Record). c.old_soa ∷ xs) (append_assoc c.removed (c.new_soa ∷ c.added) (along rest end))

module _ (apex : Labels) (held : Option Zone) where
  adds_run : (soa reached : Record) (set rs more final : List Record) (out : State)
      → AreOthers rs
      → Adds set rs final
      → Goes apex held (Adding soa final reached) more out
      → Goes apex held (Adding soa set reached) (rs ++ more) out
  adds_run soa reached set [] more final out o h run = subst (λ (s : List Record). Goes apex held (Adding soa s reached) more out) h run
  adds_run soa reached set (r ∷ rs) more final out o h run = (
    Adding soa (put r set) reached,
    when (not (is_soa r)) _ _ (ap not o.0) ∙ unless (has r set) _ _ h.0,
    adds_run soa reached (put r set) rs more final out o.1 h.1 run,
  )

  removes_run : (soa : Record) (set rs more left : List Record) (out : State)
      → AreOthers rs
      → Removes set rs left
      → Goes apex held (Removing soa left) more out
      → Goes apex held (Removing soa set) (rs ++ more) out
  removes_run soa set [] more left out o h run = subst (λ (s : List Record). Goes apex held (Removing soa s) more out) h run
  removes_run soa set (r ∷ rs) more left out o h run = (
    Removing soa (without r set),
    unless (is_soa r) _ _ o.0 ∙ when (contains set r) _ _ h.0,
    removes_run soa (without r set) rs more left out o.1 h.1 run,
  )

  collects_run : (soa : Record) (set rs more whole : List Record) (out : State)
      → AreOthers rs
      → Collects set rs whole
      → Goes apex held (Whole soa whole) more out
      → Goes apex held (Whole soa set) (rs ++ more) out
  collects_run soa set [] more whole out o h run = subst (λ (s : List Record). Goes apex held (Whole soa s) more out) h run
  collects_run soa set (r ∷ rs) more whole out o (inl h) run = (
    Whole soa (put r set),
    unless (is_soa r) _ _ o.0 ∙ when (not (has r set)) _ _ (ap not h.0),
    collects_run soa (put r set) rs more whole out o.1 h.1 run,
  )
  collects_run soa set (r ∷ rs) more whole out o (inr h) run = (
    Whole soa set,
    unless (is_soa r) _ _ o.0 ∙ unless (not (has r set)) _ _ (ap not h.1) ∙ when (contains set r) _ _ h.0,
    collects_run soa set rs more whole out o.1 h.2 run,
  )

  -- one sequence, from a state in which the next SOA begins one
  sequence_run : (at : State) (soa reached : Record) (set result : List Record) (c : Change) (more : List Record) (out : State)
      → ((r : Record) → is_soa r ≡ true → step apex held at r ≡ sequence_from soa set reached r)
      → c.old_soa ≡ reached
      → (serial_of c.new_soa == serial_of soa && not (same c.new_soa soa)) ≡ false
      → Applies c set result
      → Goes apex held (Adding soa result c.new_soa) more out
      → Goes apex held at (c.old_soa ∷ (c.removed ++ (c.new_soa ∷ (c.added ++ more)))) out
  sequence_run at soa reached set result c more out begins from fine a run =
      let same_old : same c.old_soa reached ≡ true = subst (λ (s : Record). same c.old_soa s ≡ true) from (same_itself c.old_soa) in
      let goes = a.goes in
      let comes = a.comes in
      let behind = adds_run soa c.new_soa (put c.new_soa a.left) c.added more result out a.no_soas_come comes.1 run in
      let step_new : step apex held (Removing soa a.left) c.new_soa ≡ Ok (Adding soa (put c.new_soa a.left) c.new_soa) =
      when (is_soa c.new_soa) _ _ a.new_soa ∙ unless (serial_of c.new_soa == serial_of soa && not (same c.new_soa soa)) _ _ fine
      ∙ unless (has c.new_soa a.left) _ _ comes.0 in (
        Removing soa (without c.old_soa set),
        begins c.old_soa a.old_soa ∙ when (same c.old_soa reached) _ _ same_old ∙ when (contains set c.old_soa) _ _ goes.0,
        removes_run soa (without c.old_soa set) c.removed (c.new_soa ∷ (c.added ++ more)) a.left out a.no_soas_go goes.1
            (Adding soa (put c.new_soa a.left) c.new_soa, step_new, behind),
      )

  -- all of them, and the SOA at the end
  leads_run : (at : State) (soa reached : Record) (set : List Record) (changes : List Change) (out : List Record)
      → ((r : Record) → is_soa r ≡ true → step apex held at r ≡ sequence_from soa set reached r)
      → is_soa soa ≡ true
      → Leads soa reached set changes out
      → Goes apex held at (along changes (soa ∷ [])) (Ended out)
  leads_run at soa reached set [] out begins leading h = absurd h
  leads_run at soa reached set (c ∷ []) out begins leading h =
      let same_new : same c.new_soa soa ≡ true = subst (λ (s : Record). same c.new_soa s ≡ true) h.1 (same_itself c.new_soa) in
      let one_serial : (serial_of c.new_soa == serial_of soa) ≡ true = serials_same (serial_of c.new_soa) (serial_of soa) (ap serial_of h.1) in
      let fine : (serial_of c.new_soa == serial_of soa && not (same c.new_soa soa)) ≡ false =
      ap (λ b. serial_of c.new_soa == serial_of soa && not b) same_new ∙ and_false (serial_of c.new_soa == serial_of soa) in
      let ends : step apex held (Adding soa out c.new_soa) soa ≡ Ok (Ended out) =
      unless (not (is_soa soa)) _ _ (ap not leading) ∙ when (serial_of c.new_soa == serial_of soa) _ _ one_serial
      ∙ when (same soa soa) _ _ (same_itself soa) in
      sequence_run at soa reached set out c (soa ∷ []) (Ended out) begins h.0 fine h.2 (Ended out, ends, refl)
  leads_run at soa reached set (c ∷ d ∷ rest) out begins leading h =
      let fine : (serial_of c.new_soa == serial_of soa && not (same c.new_soa soa)) ≡ false =
      ap (λ b. b && not (same c.new_soa soa)) h.1 in
      let goes_on : (r : Record) → is_soa r ≡ true → step apex held (Adding soa h.2 c.new_soa) r ≡ sequence_from soa h.2 c.new_soa r =
      λ r is. unless (not (is_soa r)) _ _ (ap not is) ∙ unless (serial_of c.new_soa == serial_of soa) _ _ h.1 in
      sequence_run at soa reached set h.2 c (along (d ∷ rest) (soa ∷ [])) (Ended out) begins h.0 fine h.3
      (leads_run (Adding soa h.2 c.new_soa) soa c.new_soa h.2 (d ∷ rest) out goes_on leading h.4)

  -- the three forms
  pub soa_of : (a b : Bool) → (a && b) ≡ true → a ≡ true
  soa_of true b e = refl
  soa_of false b e = absurd cc

  -- a SOA alone is no zone
  lone_soa : (soa : Record) → is_soa soa ≡ true → IsZone (record { apex = apex; records = soa ∷ [] }) → ⊥
  lone_soa soa is z = lone_fault apex soa is z.valid

  pub begins : (soa : Record) → IsSoaAt apex soa → step apex held Begun soa ≡ Ok (Led soa)
  begins soa leading = when (is_soa soa && names_eq soa.owner apex) _ _ leading

  whole_second : (held' : Option Zone) (soa r : Record) → is_soa r ≡ false → second held' soa r ≡ within_whole soa (soa ∷ []) r
  whole_second None soa r o = refl
  whole_second (Some z) soa r o = unless (is_soa r) _ _ o ∙ sym (unless (is_soa r) _ _ o)

  pub whole_others : (soa r : Record) (rs set : List Record) → is_soa soa ≡ true → AreOthers (r ∷ rs) → Collects (soa ∷ []) (r ∷ rs) set
      → Goes apex held (Led soa) (r ∷ rs ++ soa ∷ []) (Ended set)
  whole_others soa r rs set leading o h =
      let ends : step apex held (Whole soa set) soa ≡ Ok (Ended set) = when (is_soa soa) _ _ leading ∙ when (same soa soa) _ _ (same_itself soa) in
      let all = collects_run soa (soa ∷ []) (r ∷ rs) (soa ∷ []) set (Ended set) o h (Ended set, ends, refl) in
      (all.0, whole_second held soa r o.0 ∙ all.1, all.2)

  changed_second : (held' : Option Zone) (z : Zone) (soa first r : Record) (more : List Record)
      → held' ≡ Some z
      → soas z.records ≡ first ∷ more
      → (serial_of soa == serial_of first) ≡ false
      → is_soa r ≡ true
      → second held' soa r ≡ sequence_from soa z.records first r
  changed_second held' z soa first r more is one other o =
      ap (λ (h : Option Zone). second h soa r) is ∙ when (is_soa r) _ _ o
      ∙ ap (λ (rs : List Record). first_sequence soa z.records rs r) one ∙ unless (serial_of soa == serial_of first) _ _ other

  pub changed_goes : (answer set : List Record) → HasChangedForm apex held answer set → Goes apex held Begun answer (Ended set)
  changed_goes answer set h =
      let leading = soa_of (is_soa h.soa) _ h.at_apex in
      let framed : answer ≡ h.soa ∷ along h.changes (h.soa ∷ []) =
      h.framed ∙ ap (λ (xs : List Record). h.soa ∷ xs) (along_is h.changes (h.soa ∷ [])) in
      subst (λ (xs : List Record). Goes apex held Begun xs (Ended set)) (sym framed) (
        Led h.soa,
        begins h.soa h.at_apex,
        leads_run (Led h.soa) h.soa h.first (h.from).records h.changes set
            (λ r is. changed_second held h.from h.soa h.first r h.more h.held_is h.first_is h.other_serial is) leading h.leads,
      )

  -- an answer that leads to a state which has a meaning
  record HasMeaning (answer set : List Record) : Type 0 where
    end : State
    goes : Goes apex held Begun answer end
    means : Means apex held end set

  current_means : (answer set : List Record) → IsCurrent apex held answer set → HasMeaning answer set
  current_means answer set h = record {
    end = Led h.soa;
    goes = subst (λ (xs : List Record). Goes apex held Begun xs (Led h.soa)) (sym h.alone) (Led h.soa, begins h.soa h.at_apex, refl);
    means = (h.not_newer, h.stays);
  }

  whole_means : (answer set : List Record) → IsWholeZone apex answer set → HasMeaning answer set
  whole_means answer set h = at (h.form).soa (h.form).others (h.form).framed (h.form).at_apex (h.form).no_soas (h.form).all
    where
      at : (soa : Record) (others : List Record) → answer ≡ soa ∷ others ++ soa ∷ [] → IsSoaAt apex soa → AreOthers others
          → Collects (soa ∷ []) others set → HasMeaning answer set
      at soa [] framed leading o all =
          absurd (lone_soa soa (soa_of (is_soa soa) _ leading) (subst (λ (s : List Record). IsZone (record { apex = apex; records = s })) all h.valid))
      at soa (r ∷ rs) framed leading o all = record {
        end = Ended set;
        goes = subst (λ (xs : List Record). Goes apex held Begun xs (Ended set)) (sym framed)
            (Led soa, begins soa leading, whole_others soa r rs set (soa_of (is_soa soa) _ leading) o all);
        means = (refl, h.valid);
      }

  changed_means : (answer set : List Record) → IsChanged apex held answer set → HasMeaning answer set
  changed_means answer set h = record { end = Ended set; goes = changed_goes answer set h.form; means = (refl, h.valid) }

  -- of records of a message
  pub reaches_of : (at : State) (items : List ResourceRecord) (end : State)
      → AllByRecursion IsFit items
      → Goes apex held at (map record_of_item items) end
      → Reaches apex held at items end
  reaches_of at [] end fit go = go
  reaches_of at (i ∷ items) end fit go = (go.0, record { fit = fit.0; steps = go.1 }, reaches_of go.0 items end fit.1 go.2)

  pub goes_of : (at : State) (items : List ResourceRecord) (end : State)
      → Reaches apex held at items end
      → AllByRecursion IsFit items × Goes apex held at (map record_of_item items) end
  goes_of at [] end go = (tt, go)
  goes_of at (i ∷ items) end go =
      let more = goes_of go.0 items end go.2 in
      (((go.1).fit, more.0), (go.0, (go.1).steps, more.1))

  pub taken_rest : (items : List ResourceRecord) (set : List Record) → Taken apex held items set → Rest apex held Begun items set
  taken_rest items set h =
      let m = of h.form in
      (rest_of apex held Begun m.end items set (reaches_of Begun items m.end h.fit m.goes)).1 m.means
    where
      of : IsCurrent apex held (map record_of_item items) set ⊎ IsWholeZone apex (map record_of_item items) set ⊎ IsChanged apex held (map record_of_item items) set
          → HasMeaning (map record_of_item items) set
      of (inl c) = current_means (map record_of_item items) set c
      of (inr (inl w)) = whole_means (map record_of_item items) set w
      of (inr (inr c)) = changed_means (map record_of_item items) set c
