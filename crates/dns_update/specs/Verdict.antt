-- What becomes of an update (RFC 2136 3.2 to 3.6).
use Rattle.std.specs.Prelude.{◌≡◌, Bool, true, false, ◌&&◌, ◌==◌, List, [], ◌∷◌, Option, Some, None}
use Rattle.std.specs.Prelude.{if◌then◌else◌}
use Rattle.dns_records.specs.Record.{Record, serial_of, with_serial}
use Rattle.dns_zone.specs.Records.{put, without, same}
use Rattle.dns_zone.specs.Zone.{Zone, soas}
use Rattle.dns_serial.specs.Serial.{greater, next_serial}
use Rattle.dns_wire.specs.Message.{ResourceRecord}
use Rattle.dns_changes.specs.Change.{Change, IsChange}
use Rattle.dns_changes.specs.Version.{serial_in}
use Rattle.dns_update.specs.ResourceRecord.{first_fault, otherwise}
use Rattle.dns_update.specs.Prerequisites.{prerequisites_fault}
use Rattle.dns_update.specs.Prescan.{prescan_fault}
use Rattle.dns_update.specs.Effect.{effects}
use Rattle.dns_wire.specs.declared.codes.Rcode.{Rcode}
use Rattle.dns_wire.specs.declared.codes.Rcode.TheVariants.{Refused}
use Rattle.dns_update.specs.declared.Judged.{Judged}
use Rattle.dns_update.specs.declared.Judged.TheVariants as judged

-- The update is refused with a code, changes nothing, or leaves a set of records.
pub data Verdict : Type 0 where
  Refuses : Rcode → Verdict
  Keeps : Verdict
  Leaves : List Record → Verdict

-- The two sets are the same, with all TTLs.
abbrev pub same_set : List Record → List Record → Bool
same_set [] [] = true
same_set [] (b ∷ bs) = false
same_set (a ∷ as') [] = false
same_set (a ∷ as') (b ∷ bs) = same a b && same_set as' bs

-- The records with the next serial in their SOA.
abbrev pub with_next_serial : List Record → List Record → List Record
with_next_serial [] records = records
with_next_serial (soa ∷ rest) records =
    put (with_serial soa (next_serial (serial_of soa))) (without soa records)

-- What the items did becomes a version: nothing where the set is the same, else a set with a greater serial.
-- A serial that the items left is advanced by one (RFC 2136 3.6); one that isn't greater than before is
-- refused (RFC 1982).
abbrev pub versioned : List Record → List Record → Verdict
versioned before after =
    if same_set before after then Keeps
    else if serial_in (soas after) == serial_in (soas before)
    then Leaves (with_next_serial (soas after) after)
    else if greater (serial_in (soas after)) (serial_in (soas before)) then Leaves after
    else Refuses Refused

abbrev pub unless : Option Rcode → Verdict → Verdict
unless (Some rcode) verdict = Refuses rcode
unless None verdict = verdict

-- The prerequisites, then the scan of all items, then their effect (RFC 2136 3.2, 3.4).
abbrev pub verdict : Zone → List ResourceRecord → List ResourceRecord → Verdict
verdict z prerequisites items =
    unless (otherwise (prerequisites_fault z prerequisites) (first_fault (prescan_fault z.apex) items))
    (versioned z.records (effects z.apex z.records items))

-- The judgement is this verdict: the set that is left comes with the change to it. `records` is what a set of
-- the code contains.
abbrev pub IsVerdict : {X : Type 0} → (X → List Record) → List Record → Verdict → Judged X → Type 0
IsVerdict records before (Refuses rcode) j = j ≡ judged.Refused rcode
IsVerdict records before Keeps j = j ≡ judged.NoChange
IsVerdict {X} records before (Leaves after) j =
    (c : Change) × (next : X) × (j ≡ judged.Accepted c next) × (records next ≡ after)
    × IsChange before after c

-- The answer section of an update is its prerequisites, the authority section what is to be done (RFC 2136
-- 2).
abbrev pub IsJudged : {X : Type 0} → (X → List Record) → Zone → List ResourceRecord → List ResourceRecord
    → Judged X → Type 0
IsJudged records z prerequisites items j = IsVerdict records z.records (verdict z prerequisites items) j
