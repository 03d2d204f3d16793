-- What a message tells one who asked for a transfer.
use Rattle.std.specs.Prelude.{◌≡◌, ◌≢◌, ◌↔◌, ◌⊎◌, ℕ, true, false, List, [], ◌∷◌, ◌++◌, map, Option, Some}
use Rattle.std.specs.Prelude.{None, if◌then◌else◌}
use Rattle.dns_records.specs.Record.{Record}
use Rattle.dns_zone.specs.Zone.{IsZone, zone_fault}
use Rattle.dns_wire.specs.Message.{Message, ResourceRecord, record_of_item}
use Rattle.dns_wire.specs.Reads.{Reads}
use Rattle.dns_request.specs.declared.request.Transport.TheVariants.{Udp, Tcp}
use Rattle.dns_secondary.specs.State.{State, Begun, Led, Whole, Removing, Adding, Ended, IsUnfinished}
use Rattle.dns_secondary.specs.Rest.{is_current, Rest, Reaches, FailsBy}
use Rattle.dns_secondary.specs.Taken.{IsBeginning}
use Rattle.dns_secondary.specs.Received.{is_incremental, received_count}
use Rattle.dns_secondary.specs.Receiving.{Receiving, header_fault}
use Rattle.dns_secondary.specs.declared.fault.Fault.{Fault}
use Rattle.dns_secondary.specs.declared.fault.Fault.TheVariants.{OutOfMemory, BadMessage, InvalidZone}
use Rattle.dns_secondary.specs.declared.fault.Fault.TheVariants.{AfterEnd}
use Rattle.dns_secondary.specs.declared.fault.Progress.{Progress}
use Rattle.dns_secondary.specs.declared.fault.Progress.TheVariants.{More, Done, UpToDate, RetryTcp}

-- The answer is over.
abbrev pub over : Receiving → Receiving
over s = record s { state = None }

-- These records are held in place of the others.
abbrev pub holding : Receiving → List Record → Receiving
holding s set = record s { held = Some (record { apex = s.apex; records = set }); state = None }

-- The records so far are that SOA alone.
abbrev pub IsAlone : Receiving → State → List ResourceRecord → Record → Type 0
IsAlone s at records soa = Reaches s.apex s.held at records (Led soa)

-- What the records of a message tell, after the state in which it was read, and what it makes of the
-- receiver. More: they lead to a state that is not at the end, from which the next message is read. There is
-- no meaning yet, and whatever follows means from there on what it means after these records. A SOA alone
-- that is newer is no more than the beginning, by TCP.
abbrev pub TellsProgress : Receiving → State → List ResourceRecord → Progress → Receiving → Type 0
TellsProgress s at records More new =
    (next : State)
    × Reaches s.apex s.held at records next
    × IsUnfinished next
    × (new ≡ record s { state = Some next })
    × ((more : List ResourceRecord) (set : List Record)
    → (Rest s.apex s.held at (records ++ more) set ↔ Rest s.apex s.held next more set))
    × ((set : List Record) → Rest s.apex s.held at records set → ⊥)
    × ((soa : Record) → IsAlone s at records soa → s.transport ≡ Tcp)
-- Done: the set that they mean is held.
TellsProgress s at records Done new =
    (set : List Record)
    × Rest s.apex s.held at records set
    × ((soa : Record) → IsAlone s at records soa → ⊥)
    × (new ≡ holding s set)
-- A SOA alone that is not newer: what is held is current (RFC 1995 2).
TellsProgress s at records UpToDate new =
    (soa : Record) × IsAlone s at records soa × (is_current s.held soa ≡ true) × (new ≡ over s)
-- A SOA alone that is newer, by UDP: the answer is too long for it (RFC 1995 2).
TellsProgress s at records RetryTcp new =
    (soa : Record) × IsAlone s at records soa × (is_current s.held soa ≡ false) × (s.transport ≡ Udp)
    × (new ≡ over s)

-- More is to come, by the form of the records so far alone: they begin a longer list of a form, and a SOA
-- alone is newer, by TCP.
pub record IsMore (s : Receiving) (records : List ResourceRecord) : Type 0 where
  pub begins : IsBeginning s.apex s.held records
  pub newer : (soa : Record)
      → map record_of_item records ≡ soa ∷ []
      → (is_current s.held soa ≡ false) × (s.transport ≡ Tcp)

-- The records of a message are refused: the first that is a fault, or the set at the end, which is no zone.
-- No list that begins with them has a meaning.
pub record Fails (s : Receiving) (at : State) (records : List ResourceRecord) (fault : Fault) : Type 0 where
  pub cause : FailsBy s.apex s.held at records fault
      ⊎ ((set : List Record)
      × Reaches s.apex s.held at records (Ended set)
      × (zone_fault s.apex set ≢ None)
      × (fault ≡ InvalidZone))
  pub lost : (more : List ResourceRecord) (set : List Record)
      → Rest s.apex s.held at (records ++ more) set → ⊥

-- Octets that come in a state are read as a message that is accepted by its header, and its records tell
-- this.
pub record Hears (s : Receiving) (at : State) (octets : List ℕ) (progress : Progress)
    (new : Receiving) : Type 0 where
  pub message : Message
  pub stands : Reads octets message
  pub accepted : header_fault s message ≡ None
  pub tells : TellsProgress s at message.answers progress new

-- The answer is not over, and octets are heard.
abbrev pub Feeds : Receiving → List ℕ → Progress → Receiving → Type 0
Feeds s octets progress new = (at : State) × (s.state ≡ Some at) × Hears s at octets progress new

-- If no more records have come than before, and the answer is no changes, nothing has changed.
abbrev pub StaysIfNoneCame : Receiving → Receiving → Type 0
StaysIfNoneCame old new =
    is_incremental new.state ≡ false
    → received_count new.state ≡ received_count old.state
    → new ≡ old

-- Octets are no message; or it is refused by its header.
abbrev pub RefusesMessage : Receiving → List ℕ → Fault → Type 0
RefusesMessage s octets fault =
    (((m : Message) → Reads octets m → ⊥) × (fault ≡ BadMessage))
    ⊎ ((m : Message) × Reads octets m × (header_fault s m ≡ Some fault))

-- Why octets are refused: the answer is over; or the message is refused; or its records are.
abbrev pub RefusesFrom : Receiving → Option State → List ℕ → Fault → Type 0
RefusesFrom s None octets fault = fault ≡ AfterEnd
RefusesFrom s (Some at) octets fault =
    RefusesMessage s octets fault
    ⊎ ((m : Message) × Reads octets m × (header_fault s m ≡ None) × Fails s at m.answers fault)

abbrev pub RefusesFeed : Receiving → List ℕ → Fault → Type 0
RefusesFeed s octets fault = RefusesFrom s s.state octets fault

-- What a fault makes of the receiver: where memory was refused it is as it was, and can be fed the same
-- message again; by every other fault the answer is over.
abbrev pub after_fault : Receiving → Fault → Receiving
after_fault s OutOfMemory = s
after_fault s fault = over s

-- What is reported after the last record of a message.
abbrev pub progress_at_end : Receiving → State → Progress
progress_at_end s (Led soa) =
    if is_current s.held soa then UpToDate else elim s.transport [ Udp ↦ RetryTcp | Tcp ↦ More ]
progress_at_end s (Ended set) = Done
progress_at_end s Begun = More
progress_at_end s (Whole soa set) = More
progress_at_end s (Removing soa set) = More
progress_at_end s (Adding soa set reached) = More

-- What that makes of the receiver.
abbrev pub Concludes : Receiving → State → Progress → Receiving → Type 0
Concludes s at More new = new ≡ record s { state = Some at }
Concludes s at Done new =
    (set : List Record) × (at ≡ Ended set) × IsZone (record { apex = s.apex; records = set })
    × (new ≡ holding s set)
Concludes s at UpToDate new = new ≡ over s
Concludes s at RetryTcp new = new ≡ over s

-- The set at the end is no zone.
abbrev pub EndsInNoZone : Receiving → State → Fault → Type 0
EndsInNoZone s at fault =
    (set : List Record) × (at ≡ Ended set) × (zone_fault s.apex set ≢ None) × (fault ≡ InvalidZone)
