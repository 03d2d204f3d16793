-- The state in the code.
use Rattle.std.specs.Prelude.{◌≡◌, true, List}
use Rattle.dns_records.specs.Record.{Record}
use Rattle.dns_changes.specs.Change.{is_soa}
use Rattle.dns_secondary.specs.State as state
use Rattle.dns_records.specs.declared.record.RecordError.{RecordError}
use Rattle.dns_records.specs.declared.record.RecordError.TheVariants as refusal
use Rattle.dns_secondary.specs.declared.fault.Fault.{Fault}
use Rattle.dns_secondary.specs.declared.fault.Fault.TheVariants.{OutOfMemory, BadSequence}
use Rattle.dns_secondary.specs.declared.reading.Phase.{Phase}
use Rattle.dns_secondary.specs.declared.reading.Phase.TheVariants.{Begun, Led, Whole, Removing, Adding, Ended}

abbrev pub state_of : Phase → List Record → state.State
state_of Begun set = state.Begun
state_of (Led soa) set = state.Led soa
state_of (Whole soa) set = state.Whole soa set
state_of (Removing soa) set = state.Removing soa set
state_of (Adding soa reached) set = state.Adding soa set reached
state_of Ended set = state.Ended set

-- What leads an answer, or a sequence, is a SOA.
abbrev pub AreSoas : Phase → Type 0
AreSoas Begun = Unit {0}
AreSoas (Led soa) = is_soa soa ≡ true
AreSoas (Whole soa) = is_soa soa ≡ true
AreSoas (Removing soa) = is_soa soa ≡ true
AreSoas (Adding soa reached) = (is_soa soa ≡ true) × (is_soa reached ≡ true)
AreSoas Ended = Unit {0}

-- The fault that a record is whose data is refused.
abbrev pub fault_of : RecordError → Fault
fault_of refusal.OutOfMemory = OutOfMemory
fault_of refusal.BadData = BadSequence
fault_of refusal.TooLong = BadSequence
fault_of refusal.UnknownType = BadSequence
