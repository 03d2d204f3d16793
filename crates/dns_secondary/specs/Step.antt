-- What one record of an answer does, or the fault that it is.
use Rattle.std.specs.Prelude.{◌≡◌, ◌⊎◌, not, ◌&&◌, ◌==◌, List, [], ◌∷◌, Option, Some, None, Result, Ok, Err}
use Rattle.std.specs.Prelude.{if◌then◌else◌}
use Rattle.dns_names.specs.Name.{Labels, names_eq}
use Rattle.dns_records.specs.Record.{Record, IsData, serial_of}
use Rattle.dns_records.specs.Types.{class_in}
use Rattle.dns_zone.specs.Records.{put, without, has, same, contains}
use Rattle.dns_zone.specs.Zone.{Zone, soas}
use Rattle.dns_changes.specs.Change.{is_soa}
use Rattle.dns_wire.specs.Message.{ResourceRecord, data_of_item, record_of_item}
use Rattle.dns_secondary.specs.State.{State, Begun, Led, Whole, Removing, Adding, Ended}
use Rattle.dns_secondary.specs.declared.fault.Fault.{Fault}
use Rattle.dns_secondary.specs.declared.fault.Fault.TheVariants.{BadSequence, RemovesAbsent, AddsPresent}
use Rattle.dns_secondary.specs.declared.fault.Fault.TheVariants.{InvalidZone}

-- A record of a whole zone. One that comes twice counts once; with two TTLs the zone is none (RFC 2181 5).
abbrev pub collect : Record → List Record → Record → Result State Fault
collect soa set r =
    if not (has r set) then Ok (Whole soa (put r set))
    else if contains set r then Ok (Whole soa set)
    else Err InvalidZone

-- The leading SOA comes last, too (RFC 5936 2.2).
abbrev pub last : Record → List Record → Record → Result State Fault
last soa set r = if same r soa then Ok (Ended set) else Err BadSequence

abbrev pub within_whole : Record → List Record → Record → Result State Fault
within_whole soa set r = if is_soa r then last soa set r else collect soa set r

-- A record that goes is there, with its TTL.
abbrev pub remove : Record → List Record → Record → Result State Fault
remove soa set r = if contains set r then Ok (Removing soa (without r set)) else Err RemovesAbsent

-- Of a record that comes, owner, type and data are not there, whatever the TTL.
abbrev pub add : Record → List Record → Record → Record → Result State Fault
add soa set reached r = if has r set then Err AddsPresent else Ok (Adding soa (put r set) reached)

-- A sequence begins with the SOA that was reached (RFC 1995 4).
abbrev pub sequence_from : Record → List Record → Record → Record → Result State Fault
sequence_from soa set reached r = if same r reached then remove soa set r else Err BadSequence

-- A new SOA that has the serial of the leading one is that one.
abbrev pub new_soa : Record → List Record → Record → Result State Fault
new_soa soa set r =
    if serial_of r == serial_of soa && not (same r soa) then Err BadSequence else add soa set r r

-- The first sequence begins with the SOA of the version that is held, whose serial is not the leading one.
abbrev pub first_sequence : Record → List Record → List Record → Record → Result State Fault
first_sequence soa set [] r = Err BadSequence
first_sequence soa set (reached ∷ rest) r =
    if serial_of soa == serial_of reached then Err BadSequence else sequence_from soa set reached r

-- The second record: where a version is held, a SOA marks changes of it (RFC 1995 4).
abbrev pub second : Option Zone → Record → Record → Result State Fault
second None soa r = within_whole soa (soa ∷ []) r
second (Some z) soa r =
    if is_soa r then first_sequence soa z.records (soas z.records) r else collect soa (soa ∷ []) r

-- The first record is a SOA at the apex (RFC 5936 2.2).
abbrev pub begin : Labels → Record → Result State Fault
begin apex r = if is_soa r && names_eq r.owner apex then Ok (Led r) else Err BadSequence

abbrev pub removing : Record → List Record → Record → Result State Fault
removing soa set r = if is_soa r then new_soa soa set r else remove soa set r

-- After the new SOA that is the leading one, the answer ends; after another, the next sequence begins.
abbrev pub adding : Record → List Record → Record → Record → Result State Fault
adding soa set reached r =
    if not (is_soa r) then add soa set reached r
    else if serial_of reached == serial_of soa then last soa set r
    else sequence_from soa set reached r

-- What a record makes of the state, for one who holds a version or nothing, of the zone with that apex.
abbrev pub step : Labels → Option Zone → State → Record → Result State Fault
step apex held Begun r = begin apex r
step apex held (Led soa) r = second held soa r
step apex held (Whole soa set) r = within_whole soa set r
step apex held (Removing soa set) r = removing soa set r
step apex held (Adding soa set reached) r = adding soa set reached r
step apex held (Ended set) r = Err BadSequence

-- A record of a message that a zone can have: its class is IN, and its data has its form, so none of a known
-- type is empty.
pub record IsFit (i : ResourceRecord) : Type 0 where
  pub class : i.class ≡ class_in
  pub data_is : IsData (data_of_item i)

-- A record of a message leads from a state to the next, or is a fault.
pub record TakesRecord (apex : Labels) (held : Option Zone) (state : State) (i : ResourceRecord)
    (next : State) : Type 0 where
  pub fit : IsFit i
  pub steps : step apex held state (record_of_item i) ≡ Ok next

abbrev pub RefusesRecord : Labels → Option Zone → State → ResourceRecord → Fault → Type 0
RefusesRecord apex held state i fault =
    ((IsFit i → ⊥) × (fault ≡ BadSequence))
    ⊎ (IsFit i × (step apex held state (record_of_item i) ≡ Err fault))
