-- Whole answers, from their reading record by record to their form.
use Rattle.std.proofs.Common.{◌≡◌, ◌⊎◌, inl, inr, Bool, true, false, not, List, [], ◌∷◌, ◌++◌, map, Option, Some, None, refl, sym, ap, subst, ◌∙◌}
use Rattle.std.specs.Prelude.{◌==◌, ◌&&◌, Result, Ok, Err, if◌then◌else◌}
use Rattle.dns_names.specs.Name.{Labels, names_eq}
use Rattle.dns_records.specs.Record.{Record, serial_of}
use Rattle.dns_zone.specs.Records.{put, without, has, contains, same}
use Rattle.dns_zone.specs.Order.{same_is}
use Rattle.dns_zone.specs.Zone.{Zone, IsZone, soas}
use Rattle.dns_changes.specs.Change.{Change, is_soa}
use Rattle.dns_wire.specs.Message.{ResourceRecord, record_of_item}
use Rattle.dns_secondary.specs.State.{State, Begun, Led, Whole, Removing, Adding, Ended}
use Rattle.dns_secondary.specs.Step.{add, remove, last, within_whole, collect, sequence_from, new_soa, first_sequence}
use Rattle.dns_secondary.specs.Rest.{Means, Rest}
use Rattle.dns_secondary.specs.Taken.{IsSoaAt, AreOthers, Collects, Removes, Adds, Applies, Leads, IsCurrent, HasWholeForm, IsWholeZone, HasChangedForm, IsChanged, Taken}
use Rattle.dns_secondary.specs.declared.fault.Fault.{Fault}
use Rattle.dns_secondary.specs.declared.fault.Fault.TheVariants.{BadSequence, RemovesAbsent, AddsPresent, InvalidZone}
use Rattle.dns_secondary.proofs.Forms.{Goes, along, along_is, goes_of, unless}
use Rattle.dns_secondary.proofs.Ends.{Late, never_led, second_late, end_of}

if_ok : (b : Bool) (x y : Result State Fault) (next : State) → (if b then x else y) ≡ Ok next
    → ((b ≡ true) × (x ≡ Ok next)) ⊎ ((b ≡ false) × (y ≡ Ok next))
if_ok true x y next e = inl (refl, e)
if_ok false x y next e = inr (refl, e)

then_on : (b : Bool) (y : Result State Fault) (f : Fault) (next : State) → (if b then y else Err f) ≡ Ok next → (b ≡ true) × (y ≡ Ok next)
then_on true y f next e = (refl, e)
then_on false y f next e = absurd cc

else_on : (b : Bool) (y : Result State Fault) (f : Fault) (next : State) → (if b then Err f else y) ≡ Ok next → (b ≡ false) × (y ≡ Ok next)
else_on true y f next e = absurd cc
else_on false y f next e = (refl, e)

ok_is : (x next : State) → ◌≡◌ {A = Result State Fault} (Ok x) (Ok next) → next ≡ x
ok_is x next e = cc

pub not_true : (b : Bool) → not b ≡ true → b ≡ false
not_true true e = absurd cc
not_true false e = refl

pub not_false : (b : Bool) → not b ≡ false → b ≡ true
not_false true e = refl
not_false false e = absurd cc

pub both_is : (a b : Bool) → a ≡ true → (a && b) ≡ false → b ≡ false
both_is a b t e = ap (λ x. x && b) (sym t) ∙ e

-- what is after the records that come
abbrev Closes : Labels → (soa reached : Record) → List Record → List Record → List Record → Type 0
Closes apex soa reached mid rest out =
    (((serial_of reached == serial_of soa) ≡ true) × (rest ≡ soa ∷ []) × (out ≡ mid))
    ⊎ (((serial_of reached == serial_of soa) ≡ false)
    × (changes : List Change)
    × (rest ≡ along changes (soa ∷ []))
    × Leads soa reached mid changes out)

record FromAdding (apex : Labels) (soa reached : Record) (set list out : List Record) : Type 0 where
  pub added : List Record
  pub behind : List Record
  pub mid : List Record
  pub others : AreOthers added
  pub adds : Adds set added mid
  pub list_is : list ≡ added ++ behind
  pub closes : Closes apex soa reached mid behind out

record FromRemoving (apex : Labels) (soa : Record) (set list out : List Record) : Type 0 where
  pub removed : List Record
  pub left : List Record
  pub reached : Record
  pub tail : List Record
  pub others : AreOthers removed
  pub removes : Removes set removed left
  pub is_new : is_soa reached ≡ true
  pub fine : (serial_of reached == serial_of soa && not (same reached soa)) ≡ false
  pub free : has reached left ≡ false
  pub list_is : list ≡ removed ++ reached ∷ tail
  pub comes : FromAdding apex soa reached (put reached left) tail out

record FromWhole (apex : Labels) (soa : Record) (set list out : List Record) : Type 0 where
  pub others : List Record
  pub list_is : list ≡ others ++ soa ∷ []
  pub no_soas : AreOthers others
  pub all : Collects set others out

record FromOld (apex : Labels) (soa reached : Record) (set list out : List Record) : Type 0 where
  pub changes : List Change
  pub list_is : list ≡ along changes (soa ∷ [])
  pub leads : Leads soa reached set changes out

-- the sequence of an old SOA
begun : (apex : Labels) (soa reached : Record) (set : List Record) (r : Record) (rs out : List Record)
    → is_soa r ≡ true
    → same r reached ≡ true
    → contains set r ≡ true
    → FromRemoving apex soa (without r set) rs out
    → FromOld apex soa reached set (r ∷ rs) out
begun apex soa reached set r rs out is old there f = closed (f.comes).behind (f.comes).list_is (f.comes).closes
  where
    c : Change
    c = record { old_soa = r; removed = f.removed; new_soa = f.reached; added = (f.comes).added }

    applies : Applies c set (f.comes).mid
    applies = record {
      old_soa = is;
      new_soa = f.is_new;
      no_soas_go = f.others;
      no_soas_come = (f.comes).others;
      left = f.left;
      goes = (there, f.removes);
      comes = (f.free, (f.comes).adds);
    }

    framed : (behind end : List Record) → f.tail ≡ (f.comes).added ++ behind → behind ≡ end
        → r ∷ rs ≡ r ∷ (f.removed ++ (f.reached ∷ ((f.comes).added ++ end)))
    framed behind end e h =
        ap (λ (xs : List Record). r ∷ xs) (f.list_is ∙ ap (λ (xs : List Record). f.removed ++ (f.reached ∷ xs)) (e ∙ ap (λ (xs : List Record). (f.comes).added ++ xs) h))

    goes_on : (behind : List Record) (changes : List Change) → f.tail ≡ (f.comes).added ++ behind
        → (serial_of f.reached == serial_of soa) ≡ false
        → behind ≡ along changes (soa ∷ [])
        → Leads soa f.reached (f.comes).mid changes out
        → FromOld apex soa reached set (r ∷ rs) out
    goes_on behind [] e serial h leads = absurd leads
    goes_on behind (d ∷ rest) e serial h leads = record {
      changes = c ∷ d ∷ rest;
      list_is = framed behind (along (d ∷ rest) (soa ∷ [])) e h;
      leads = (same_is r reached old, serial, (f.comes).mid, applies, leads);
    }

    closed : (behind : List Record) → f.tail ≡ (f.comes).added ++ behind → Closes apex soa f.reached (f.comes).mid behind out
        → FromOld apex soa reached set (r ∷ rs) out
    closed behind e (inl h) = record {
      changes = c ∷ [];
      list_is = framed behind (soa ∷ []) e h.1;
      leads = (
        same_is r reached old,
        same_is f.reached soa (not_false (same f.reached soa) (both_is (serial_of f.reached == serial_of soa) (not (same f.reached soa)) h.0 f.fine)),
        subst (λ (s : List Record). Applies c set s) (sym h.2) applies,
      );
    }
    closed behind e (inr h) = goes_on behind h.1 e h.0 h.2 h.3

module _ (apex : Labels) (held : Option Zone) where
  ended_is : (a b : List Record) → Ended a ≡ Ended b → a ≡ b
  ended_is a b e = cc

  ended_only : (set rs out : List Record) → Goes apex held (Ended set) rs (Ended out) → (rs ≡ []) × (out ≡ set)
  ended_only set [] out h = (refl, ended_is out set h)
  ended_only set (r ∷ rs) out h = (let e = h.1 in absurd cc)

  abbrev OfAdding : List Record → Type 0
  OfAdding list = (soa reached : Record) (set out : List Record) → Goes apex held (Adding soa set reached) list (Ended out) → FromAdding apex soa reached set list out

  abbrev OfRemoving : List Record → Type 0
  OfRemoving list = (soa : Record) (set out : List Record) → Goes apex held (Removing soa set) list (Ended out) → FromRemoving apex soa set list out

  sequence_of : (soa reached : Record) (set : List Record) (r : Record) (rs out : List Record) (next : State)
      → OfRemoving rs
      → is_soa r ≡ true
      → sequence_from soa set reached r ≡ Ok next
      → Goes apex held next rs (Ended out)
      → FromOld apex soa reached set (r ∷ rs) out
  sequence_of soa reached set r rs out next more is e run =
      let old = then_on (same r reached) (remove soa set r) BadSequence next e in
      let there = then_on (contains set r) (Ok (Removing soa (without r set))) RemovesAbsent next old.1 in
      let at = ok_is (Removing soa (without r set)) next there.1 in
      begun apex soa reached set r rs out is old.0 there.0 (more soa (without r set) out (subst (λ n. Goes apex held n rs (Ended out)) at run))

  last_of : (soa : Record) (set : List Record) (r : Record) (rs out : List Record) (next : State)
      → last soa set r ≡ Ok next
      → Goes apex held next rs (Ended out)
      → (r ∷ rs ≡ soa ∷ []) × (out ≡ set)
  last_of soa set r rs out next e run =
      let same_soa = then_on (same r soa) (Ok (Ended set)) BadSequence next e in
      let at = ok_is (Ended set) next same_soa.1 in
      let end = ended_only set rs out (subst (λ n. Goes apex held n rs (Ended out)) at run) in
      let is : r ≡ soa = same_is r soa same_soa.0 in
      let none : rs ≡ [] = end.0 in
      ((λ i. is i ∷ none i), end.1)

  adding_soa : (soa reached : Record) (set : List Record) (r : Record) (rs out : List Record) (next : State)
      → OfRemoving rs
      → is_soa r ≡ true
      → Goes apex held next rs (Ended out)
      → (((serial_of reached == serial_of soa) ≡ true) × (last soa set r ≡ Ok next))
      ⊎ (((serial_of reached == serial_of soa) ≡ false) × (sequence_from soa set reached r ≡ Ok next))
      → FromAdding apex soa reached set (r ∷ rs) out
  adding_soa soa reached set r rs out next more is run (inl h) =
      let end = last_of soa set r rs out next h.1 run in
      record { added = []; behind = r ∷ rs; mid = set; others = tt; adds = refl; list_is = refl; closes = inl (h.0, end.0, end.1) }
  adding_soa soa reached set r rs out next more is run (inr h) =
      let f = sequence_of soa reached set r rs out next more is h.1 run in
      record { added = []; behind = r ∷ rs; mid = set; others = tt; adds = refl; list_is = refl; closes = inr (h.0, f.changes, f.list_is, f.leads) }

  adding_at : (soa reached : Record) (set : List Record) (r : Record) (rs out : List Record) (next : State)
      → OfAdding rs
      → OfRemoving rs
      → Goes apex held next rs (Ended out)
      → ((not (is_soa r) ≡ true) × (add soa set reached r ≡ Ok next))
      ⊎ ((not (is_soa r) ≡ false) × ((if serial_of reached == serial_of soa then last soa set r else sequence_from soa set reached r) ≡ Ok next))
      → FromAdding apex soa reached set (r ∷ rs) out
  adding_at soa reached set r rs out next goes more run (inl h) =
      let new = else_on (has r set) (Ok (Adding soa (put r set) reached)) AddsPresent next h.1 in
      let at = ok_is (Adding soa (put r set) reached) next new.1 in
      let f = goes soa reached (put r set) out (subst (λ n. Goes apex held n rs (Ended out)) at run) in
      record {
        added = r ∷ f.added;
        behind = f.behind;
        mid = f.mid;
        others = (not_true (is_soa r) h.0, f.others);
        adds = (new.0, f.adds);
        list_is = ap (λ (xs : List Record). r ∷ xs) f.list_is;
        closes = f.closes;
      }
  adding_at soa reached set r rs out next goes more run (inr h) =
      adding_soa soa reached set r rs out next more (not_false (is_soa r) h.0) run
      (if_ok (serial_of reached == serial_of soa) (last soa set r) (sequence_from soa set reached r) next h.1)

  removing_at : (soa : Record) (set : List Record) (r : Record) (rs out : List Record) (next : State)
      → OfAdding rs
      → OfRemoving rs
      → Goes apex held next rs (Ended out)
      → ((is_soa r ≡ true) × (new_soa soa set r ≡ Ok next)) ⊎ ((is_soa r ≡ false) × (remove soa set r ≡ Ok next))
      → FromRemoving apex soa set (r ∷ rs) out
  removing_at soa set r rs out next goes more run (inl h) =
      let fine = else_on (serial_of r == serial_of soa && not (same r soa)) (add soa set r r) BadSequence next h.1 in
      let new = else_on (has r set) (Ok (Adding soa (put r set) r)) AddsPresent next fine.1 in
      let at = ok_is (Adding soa (put r set) r) next new.1 in
      let f = goes soa r (put r set) out (subst (λ n. Goes apex held n rs (Ended out)) at run) in
      record {
        removed = [];
        left = set;
        reached = r;
        tail = rs;
        others = tt;
        removes = refl;
        is_new = h.0;
        fine = fine.0;
        free = new.0;
        list_is = refl;
        comes = f;
      }
  removing_at soa set r rs out next goes more run (inr h) =
      let there = then_on (contains set r) (Ok (Removing soa (without r set))) RemovesAbsent next h.1 in
      let at = ok_is (Removing soa (without r set)) next there.1 in
      let f = more soa (without r set) out (subst (λ n. Goes apex held n rs (Ended out)) at run) in
      record {
        removed = r ∷ f.removed;
        left = f.left;
        reached = f.reached;
        tail = f.tail;
        others = (h.0, f.others);
        removes = (there.0, f.removes);
        is_new = f.is_new;
        fine = f.fine;
        free = f.free;
        list_is = ap (λ (xs : List Record). r ∷ xs) f.list_is;
        comes = f.comes;
      }

  both : (list : List Record) → OfAdding list × OfRemoving list
  both [] = ((λ soa reached set out run. absurd cc), (λ soa set out run. absurd cc))
  both (r ∷ rs) =
      let more = both rs in (
        (λ soa reached set out run. adding_at soa reached set r rs out run.0 more.0 more.1 run.2
            (if_ok (not (is_soa r)) (add soa set reached r) (if serial_of reached == serial_of soa then last soa set r else sequence_from soa set reached r) run.0 run.1)),
        (λ soa set out run. removing_at soa set r rs out run.0 more.0 more.1 run.2
            (if_ok (is_soa r) (new_soa soa set r) (remove soa set r) run.0 run.1)),
      )

  whole_soa : (soa : Record) (set : List Record) (r : Record) (rs out : List Record) (next : State)
      → Goes apex held next rs (Ended out)
      → last soa set r ≡ Ok next
      → FromWhole apex soa set (r ∷ rs) out
  whole_soa soa set r rs out next run e =
      let end = last_of soa set r rs out next e run in
      record { others = []; list_is = end.0; no_soas = tt; all = end.1 }

  abbrev OfWhole : List Record → Type 0
  OfWhole list = (soa : Record) (set out : List Record) → Goes apex held (Whole soa set) list (Ended out) → FromWhole apex soa set list out

  whole_other : (soa : Record) (set : List Record) (r : Record) (rs out : List Record) (next : State)
      → OfWhole rs
      → Goes apex held next rs (Ended out)
      → is_soa r ≡ false
      → ((not (has r set) ≡ true) × (◌≡◌ {A = Result State Fault} (Ok (Whole soa (put r set))) (Ok next)))
      ⊎ ((not (has r set) ≡ false) × ((if contains set r then Ok (Whole soa set) else Err InvalidZone) ≡ Ok next))
      → FromWhole apex soa set (r ∷ rs) out
  whole_other soa set r rs out next more run o (inl h) =
      let at = ok_is (Whole soa (put r set)) next h.1 in
      let f = more soa (put r set) out (subst (λ n. Goes apex held n rs (Ended out)) at run) in
      record {
        others = r ∷ f.others;
        list_is = ap (λ (xs : List Record). r ∷ xs) f.list_is;
        no_soas = (o, f.no_soas);
        all = inl (not_true (has r set) h.0, f.all);
      }
  whole_other soa set r rs out next more run o (inr h) =
      let there = then_on (contains set r) (Ok (Whole soa set)) InvalidZone next h.1 in
      let at = ok_is (Whole soa set) next there.1 in
      let f = more soa set out (subst (λ n. Goes apex held n rs (Ended out)) at run) in
      record {
        others = r ∷ f.others;
        list_is = ap (λ (xs : List Record). r ∷ xs) f.list_is;
        no_soas = (o, f.no_soas);
        all = inr (there.0, not_false (has r set) h.0, f.all);
      }

  whole_at : (soa : Record) (set : List Record) (r : Record) (rs out : List Record) (next : State)
      → OfWhole rs
      → Goes apex held next rs (Ended out)
      → ((is_soa r ≡ true) × (last soa set r ≡ Ok next)) ⊎ ((is_soa r ≡ false) × (collect soa set r ≡ Ok next))
      → FromWhole apex soa set (r ∷ rs) out
  whole_at soa set r rs out next more run (inl h) = whole_soa soa set r rs out next run h.1
  whole_at soa set r rs out next more run (inr h) =
      whole_other soa set r rs out next more run h.0
      (if_ok (not (has r set)) (Ok (Whole soa (put r set))) (if contains set r then Ok (Whole soa set) else Err InvalidZone) next h.1)

  whole_of : (list : List Record) → OfWhole list
  whole_of [] soa set out run = absurd cc
  whole_of (r ∷ rs) soa set out run =
      whole_at soa set r rs out run.0 (λ soa set out run. whole_of rs soa set out run) run.2
      (if_ok (is_soa r) (last soa set r) (collect soa set r) run.0 run.1)

-- the form of an answer that leads to its end
abbrev pub HasLongForm : Labels → Option Zone → List Record → List Record → Type 0
HasLongForm apex held answer set = HasWholeForm apex answer set ⊎ HasChangedForm apex held answer set

whole_form : (apex : Labels) (held : Option Zone) (soa : Record) (list out : List Record)
    → IsSoaAt apex soa
    → FromWhole apex soa (soa ∷ []) list out
    → HasLongForm apex held (soa ∷ list) out
whole_form apex held soa list out leading f = inl (record {
  soa = soa;
  others = f.others;
  framed = ap (λ (xs : List Record). soa ∷ xs) f.list_is;
  at_apex = leading;
  no_soas = f.no_soas;
  all = f.all;
})

changed_form : (apex : Labels) (z : Zone) (soa r : Record) (rs out : List Record) (next : State) (firsts : List Record)
    → IsSoaAt apex soa
    → is_soa r ≡ true
    → Goes apex (Some z) next rs (Ended out)
    → soas z.records ≡ firsts
    → first_sequence soa z.records firsts r ≡ Ok next
    → HasLongForm apex (Some z) (soa ∷ r ∷ rs) out
changed_form apex z soa r rs out next [] leading is run one e = absurd cc
changed_form apex z soa r rs out next (first ∷ more) leading is run one e =
    let other = else_on (serial_of soa == serial_of first) (sequence_from soa z.records first r) BadSequence next e in
    let f = sequence_of apex (Some z) soa first z.records r rs out next (both apex (Some z) rs).1 is other.1 run in
    inr (record {
      soa = soa;
      changes = f.changes;
      framed = ap (λ (xs : List Record). soa ∷ xs) (f.list_is ∙ sym (along_is f.changes (soa ∷ [])));
      at_apex = leading;
      from = z;
      held_is = refl;
      first = first;
      more = more;
      first_is = one;
      other_serial = other.0;
      leads = f.leads;
    })

second_form : (apex : Labels) (z : Zone) (soa r : Record) (rs out : List Record) (next : State)
    → IsSoaAt apex soa
    → Goes apex (Some z) next rs (Ended out)
    → ((is_soa r ≡ true) × (first_sequence soa z.records (soas z.records) r ≡ Ok next))
    ⊎ ((is_soa r ≡ false) × (collect soa (soa ∷ []) r ≡ Ok next))
    → HasLongForm apex (Some z) (soa ∷ r ∷ rs) out
second_form apex z soa r rs out next leading run (inl h) = changed_form apex z soa r rs out next (soas z.records) leading h.0 run refl h.1
second_form apex z soa r rs out next leading run (inr h) =
    let step_is : within_whole soa (soa ∷ []) r ≡ Ok next = unless (is_soa r) _ _ h.0 ∙ h.1 in
    whole_form apex (Some z) soa (r ∷ rs) out leading (whole_of apex (Some z) (r ∷ rs) soa (soa ∷ []) out (next, step_is, run))

led_form : (apex : Labels) (held : Option Zone) (soa : Record) (list out : List Record)
    → IsSoaAt apex soa
    → Goes apex held (Led soa) list (Ended out)
    → HasLongForm apex held (soa ∷ list) out
led_form apex held soa [] out leading run = absurd cc
led_form apex None soa (r ∷ rs) out leading run =
    whole_form apex None soa (r ∷ rs) out leading (whole_of apex None (r ∷ rs) soa (soa ∷ []) out run)
led_form apex (Some z) soa (r ∷ rs) out leading run =
    second_form apex z soa r rs out run.0 leading run.2
    (if_ok (is_soa r) (first_sequence soa z.records (soas z.records) r) (collect soa (soa ∷ []) r) run.0 run.1)

-- the SOA that leads
record IsLed (apex : Labels) (held : Option Zone) (r : Record) (rs : List Record) (end : State) : Type 0 where
  at_apex : IsSoaAt apex r
  goes : Goes apex held (Led r) rs end

led_of : (apex : Labels) (held : Option Zone) (r : Record) (rs : List Record) (end : State) → Goes apex held Begun (r ∷ rs) end → IsLed apex held r rs end
led_of apex held r rs end run =
    let leads = then_on (is_soa r && names_eq r.owner apex) (Ok (Led r)) BadSequence run.0 run.1 in
    let at = ok_is (Led r) run.0 leads.1 in
    record { at_apex = leads.0; goes = subst (λ n. Goes apex held n rs end) at run.2 }

pub long_form : (apex : Labels) (held : Option Zone) (list out : List Record) → Goes apex held Begun list (Ended out) → HasLongForm apex held list out
long_form apex held [] out run = absurd cc
long_form apex held (r ∷ rs) out run = (let led = led_of apex held r rs (Ended out) run in led_form apex held r rs out led.at_apex led.goes)

-- a SOA alone
pub record IsLone (apex : Labels) (list : List Record) (soa : Record) : Type 0 where
  pub alone : list ≡ soa ∷ []
  pub at_apex : IsSoaAt apex soa

led_is : (a b : Record) → Led a ≡ Led b → a ≡ b
led_is a b e = cc

pub lone_form : (apex : Labels) (held : Option Zone) (list : List Record) (soa : Record) → Goes apex held Begun list (Led soa) → IsLone apex list soa
lone_form apex held [] soa run = absurd cc
lone_form apex held (r ∷ rs) soa run = (let led = led_of apex held r rs (Led soa) run in at rs led.at_apex led.goes)
  where
    at : (rs : List Record) → IsSoaAt apex r → Goes apex held (Led r) rs (Led soa) → IsLone apex (r ∷ rs) soa
    at [] leading e = (let is = led_is soa r e in record { alone = ap (λ (s : Record). s ∷ []) (sym is); at_apex = subst (IsSoaAt apex) (sym is) leading })
    at (x ∷ xs) leading go = absurd (never_led apex held go.0 xs soa (subst Late go.1 (second_late held r x)) go.2)

pub led_at : (apex : Labels) (held : Option Zone) (soa : Record) (next : State) → Goes apex held Begun (soa ∷ []) next → next ≡ Led soa
led_at apex held soa next run = (led_of apex held soa [] next run).goes

pub rest_taken : (apex : Labels) (held : Option Zone) (items : List ResourceRecord) (set : List Record)
    → Rest apex held Begun items set
    → Taken apex held items set
rest_taken apex held items set rest =
    let e = end_of apex held Begun items set rest in
    let go = goes_of apex held Begun items e.end e.reaches in
    record { fit = go.0; form = at e.end go.1 e.means }
  where
    answer : List Record
    answer = map record_of_item items

    long : (out : List Record) → set ≡ out → IsZone (record { apex = apex; records = out }) → HasLongForm apex held answer out
        → IsCurrent apex held answer set ⊎ IsWholeZone apex answer set ⊎ IsChanged apex held answer set
    long out is valid (inl h) = inr (inl (record {
      form = subst (HasWholeForm apex answer) (sym is) h;
      valid = subst (λ (s : List Record). IsZone (record { apex = apex; records = s })) (sym is) valid;
    }))
    long out is valid (inr h) = inr (inr (record {
      form = subst (HasChangedForm apex held answer) (sym is) h;
      valid = subst (λ (s : List Record). IsZone (record { apex = apex; records = s })) (sym is) valid;
    }))

    at : (end : State) → Goes apex held Begun answer end → Means apex held end set
        → IsCurrent apex held answer set ⊎ IsWholeZone apex answer set ⊎ IsChanged apex held answer set
    at Begun go m = absurd m
    at (Led soa) go m =
        let lone = lone_form apex held answer soa go in
        inl (record { soa = soa; alone = lone.alone; at_apex = lone.at_apex; not_newer = m.0; stays = m.1 })
    at (Whole soa so_far) go m = absurd m
    at (Removing soa so_far) go m = absurd m
    at (Adding soa so_far reached) go m = absurd m
    at (Ended out) go m = long out m.0 m.1 (long_form apex held answer out go)
