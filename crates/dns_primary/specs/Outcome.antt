-- What becomes of an update of a zone that isn't closed, by its verdict.
use Rattle.std.specs.Prelude.{◌≡◌, ◌≤◌, ℕ, true, false, List, Option, None, if◌then◌else◌}
use Rattle.dns_records.specs.Record.{Record}
use Rattle.dns_zone.specs.Zone.{Zone}
use Rattle.dns_wire.specs.declared.codes.Rcode.{Rcode}
use Rattle.dns_wire.specs.declared.codes.Rcode.TheVariants.{NoError, ServFail}
use Rattle.dns_update.specs.Verdict.{Verdict, Refuses, Keeps, Leaves}
use Rattle.dns_store.specs.Versions.{Kept, newest_of, staged_with}
use Rattle.dns_store.specs.Room.{entry_between, sectors_left}
use Rattle.dns_journal.specs.declared.journal.StageError.{StageError}
use Rattle.dns_journal.specs.declared.journal.StageError.TheVariants as refusal
use Rattle.dns_versions.specs.Staging.{HasPlanRoom, IsPlan, has_room}
use Rattle.dns_primary.specs.declared.update.Planned.{Planned}
use Rattle.dns_primary.specs.declared.update.Planned.TheVariants.{Unchanged, Accepted}
use Rattle.dns_primary.specs.declared.update.Outcome.{Outcome}
use Rattle.dns_primary.specs.declared.update.Outcome.TheVariants.{Waits, AtOnce, OutOfMemory}

-- What becomes of the reply, and the versions that are held then.
pub record Ends : Type 0 where
  pub outcome : Outcome
  pub versions : Kept

-- What is refused, and what changes nothing, waits. What leaves a version without room is SERVFAIL, and
-- waits; else it is staged.
abbrev pub end_of : Kept → Verdict → Ends
end_of k (Refuses rcode) = record { outcome = Waits rcode; versions = k }
end_of k Keeps = record { outcome = Waits NoError; versions = k }
end_of k (Leaves after) =
    if has_room k after then record { outcome = Waits NoError; versions = staged_with after k }
    else record { outcome = Waits ServFail; versions = k }

-- Where the verdict leaves a version for which there is room, its entry fits in what is left of the journal.
abbrev pub HasLeft : Kept → Verdict → Type 0
HasLeft k v =
    (after : List Record) → v ≡ Leaves after → has_room k after ≡ true
    → entry_between (newest_of k) after ≤ sectors_left k

-- It ends so, or memory was refused and the versions stay.
abbrev pub IsDone : (Kept → Type 0) → Kept → Verdict → Outcome → Type 0
IsDone held k v OutOfMemory = held k
IsDone held k v (Waits rcode) = (Waits rcode ≡ (end_of k v).outcome) × held (end_of k v).versions
IsDone held k v (AtOnce rcode) = (AtOnce rcode ≡ (end_of k v).outcome) × held (end_of k v).versions

abbrev pub refused_as : StageError → Outcome
refused_as refusal.Full = AtOnce ServFail
refused_as refusal.Closed = AtOnce ServFail
refused_as refusal.OutOfMemory = OutOfMemory

-- The update changes nothing, and is answered with this code: it is refused, all of it is done already, or
-- there is no room for its version.
abbrev pub ChangesNothing : Kept → Verdict → Rcode → Type 0
ChangesNothing k (Refuses code) rcode = rcode ≡ code
ChangesNothing k Keeps rcode = rcode ≡ NoError
ChangesNothing k (Leaves after) rcode = (has_room k after ≡ false) × (rcode ≡ ServFail)

-- What an update of a zone comes to, by its verdict on the newest version.
abbrev pub IsPlannedBy : {X : Type 0} → Kept → Verdict → Planned X → Type 0
IsPlannedBy k v (Unchanged rcode) = ChangesNothing k v rcode
IsPlannedBy k v (Accepted plan lacked) =
    (v ≡ Leaves plan.version.records) × HasPlanRoom k plan

-- How many sectors it lacks.
abbrev pub lacked_of : {X : Type 0} → Planned X → Option ℕ
lacked_of (Unchanged rcode) = None
lacked_of (Accepted plan lacked) = lacked

-- The plan leads from this version to its next one.
abbrev pub IsStageable : {X : Type 0} → Zone → Planned X → Type 0
IsStageable before (Unchanged rcode) = Unit {0}
IsStageable before (Accepted plan lacked) = IsPlan before plan.version.records plan
