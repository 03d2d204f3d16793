-- The state to which the records of an answer lead.
use Rattle.std.proofs.Common.{◌≡◌, Bool, true, false, not, ◌&&◌, List, [], ◌∷◌, Option, Some, None, refl, sym, subst, ◌∙◌}
use Rattle.std.specs.Prelude.{◌==◌, Result, Ok, Err, IfOk, if◌then◌else◌}
use Rattle.dns_names.specs.Name.{Labels}
use Rattle.dns_records.specs.Record.{Record, serial_of}
use Rattle.dns_zone.specs.Records.{put, without, has, contains, same}
use Rattle.dns_zone.specs.Zone.{Zone, soas}
use Rattle.dns_changes.specs.Change.{is_soa}
use Rattle.dns_wire.specs.Message.{ResourceRecord}
use Rattle.dns_secondary.specs.State.{State, Begun, Led, Whole, Removing, Adding, Ended}
use Rattle.dns_secondary.specs.Step.{step, second, within_whole, last, collect, first_sequence, sequence_from, remove, new_soa, add}
use Rattle.dns_secondary.specs.Rest.{Means, Rest, Reaches, AreHeld}
use Rattle.dns_secondary.specs.declared.fault.Fault.{Fault}
use Rattle.dns_secondary.specs.declared.fault.Fault.TheVariants.{BadSequence, RemovesAbsent, AddsPresent, InvalidZone}
use Rattle.dns_secondary.proofs.Forms.{Goes}
use Rattle.dns_secondary.proofs.Runs.{one_reached}

-- a state after two records or more
abbrev pub IsLate : State → Type 0
IsLate Begun = ⊥
IsLate (Led soa) = ⊥
IsLate (Whole soa set) = Unit {0}
IsLate (Removing soa set) = Unit {0}
IsLate (Adding soa set reached) = Unit {0}
IsLate (Ended set) = Unit {0}

abbrev pub Late : Result State Fault → Type 0
Late r = IfOk r IsLate

either_late : (b : Bool) (x y : Result State Fault) → Late x → Late y → Late (if b then x else y)
either_late true x y h k = h
either_late false x y h k = k

last_late : (soa : Record) (set : List Record) (r : Record) → Late (last soa set r)
last_late soa set r = either_late (same r soa) (Ok (Ended set)) (Err BadSequence) tt tt

collect_late : (soa : Record) (set : List Record) (r : Record) → Late (collect soa set r)
collect_late soa set r =
    either_late (not (has r set)) (Ok (Whole soa (put r set))) (if contains set r then Ok (Whole soa set) else Err InvalidZone) tt
    (either_late (contains set r) (Ok (Whole soa set)) (Err InvalidZone) tt tt)

whole_late : (soa : Record) (set : List Record) (r : Record) → Late (within_whole soa set r)
whole_late soa set r = either_late (is_soa r) (last soa set r) (collect soa set r) (last_late soa set r) (collect_late soa set r)

remove_late : (soa : Record) (set : List Record) (r : Record) → Late (remove soa set r)
remove_late soa set r = either_late (contains set r) (Ok (Removing soa (without r set))) (Err RemovesAbsent) tt tt

sequence_late : (soa : Record) (set : List Record) (reached r : Record) → Late (sequence_from soa set reached r)
sequence_late soa set reached r = either_late (same r reached) (remove soa set r) (Err BadSequence) (remove_late soa set r) tt

first_late : (soa : Record) (set held : List Record) (r : Record) → Late (first_sequence soa set held r)
first_late soa set [] r = tt
first_late soa set (reached ∷ rest) r =
    either_late (serial_of soa == serial_of reached) (Err BadSequence) (sequence_from soa set reached r) tt (sequence_late soa set reached r)

pub second_late : (held : Option Zone) (soa r : Record) → Late (second held soa r)
second_late None soa r = whole_late soa (soa ∷ []) r
second_late (Some z) soa r =
    either_late (is_soa r) (first_sequence soa z.records (soas z.records) r) (collect soa (soa ∷ []) r) (first_late soa z.records (soas z.records) r) (collect_late soa (soa ∷ []) r)

add_late : (soa : Record) (set : List Record) (reached r : Record) → Late (add soa set reached r)
add_late soa set reached r = either_late (has r set) (Err AddsPresent) (Ok (Adding soa (put r set) reached)) tt tt

new_late : (soa : Record) (set : List Record) (r : Record) → Late (new_soa soa set r)
new_late soa set r = either_late (serial_of r == serial_of soa && not (same r soa)) (Err BadSequence) (add soa set r r) tt (add_late soa set r r)

module _ (apex : Labels) (held : Option Zone) where
  step_late : (at : State) (r : Record) → IsLate at → Late (step apex held at r)
  step_late Begun r h = absurd h
  step_late (Led soa) r h = absurd h
  step_late (Whole soa set) r h = whole_late soa set r
  step_late (Removing soa set) r h = either_late (is_soa r) (new_soa soa set r) (remove soa set r) (new_late soa set r) (remove_late soa set r)
  step_late (Adding soa set reached) r h =
      either_late (not (is_soa r)) (add soa set reached r) (if serial_of reached == serial_of soa then last soa set r else sequence_from soa set reached r) (add_late soa set reached r)
      (either_late (serial_of reached == serial_of soa) (last soa set r) (sequence_from soa set reached r) (last_late soa set r) (sequence_late soa set reached r))
  step_late (Ended set) r h = tt

  pub never_led : (at : State) (rs : List Record) (soa : Record) → IsLate at → Goes apex held at rs (Led soa) → ⊥
  never_led at [] soa h e = subst IsLate (sym e) h
  never_led at (r ∷ rs) soa h go = never_led go.0 rs soa (subst Late go.1 (step_late at r h)) go.2

  pub record HasEnd (at : State) (xs : List ResourceRecord) (set : List Record) : Type 0 where
    pub end : State
    pub reaches : Reaches apex held at xs end
    pub means : Means apex held end set

  pub end_of : (at : State) (xs : List ResourceRecord) (set : List Record) → Rest apex held at xs set → HasEnd at xs set
  end_of at [] set h = record { end = at; reaches = refl; means = h }
  end_of at (x ∷ xs) set h =
      let more = end_of h.0 xs set h.2 in
      record { end = more.end; reaches = (h.0, h.1, more.reaches); means = more.means }

  held_once : (o : Option Zone) (a b : List Record) → AreHeld o a → AreHeld o b → a ≡ b
  held_once None a b h k = absurd h
  held_once (Some z) a b h k = h ∙ sym k

  means_once : (at : State) (a b : List Record) → Means apex held at a → Means apex held at b → a ≡ b
  means_once Begun a b h k = absurd h
  means_once (Led soa) a b h k = held_once held a b h.1 k.1
  means_once (Whole soa set) a b h k = absurd h
  means_once (Removing soa set) a b h k = absurd h
  means_once (Adding soa set reached) a b h k = absurd h
  means_once (Ended set) a b h k = h.0 ∙ sym k.0

  -- there is one meaning
  pub rest_once : (at : State) (xs : List ResourceRecord) (a b : List Record) → Rest apex held at xs a → Rest apex held at xs b → a ≡ b
  rest_once at xs a b h k =
      let one = end_of at xs a h in
      let two = end_of at xs b k in
      let same = one_reached apex held at one.end two.end xs one.reaches two.reaches in
      means_once one.end a b one.means (subst (λ (s : State). Means apex held s b) (sym same) two.means)
