-- The meaning of the rest of an answer, from any state on.
use Rattle.std.specs.Prelude.{◌≡◌, Bool, true, false, not, ◌⊎◌, List, [], ◌∷◌, Option, Some, None}
use Rattle.dns_names.specs.Name.{Labels}
use Rattle.dns_records.specs.Record.{Record, serial_of}
use Rattle.dns_zone.specs.Zone.{Zone, IsZone, soas}
use Rattle.dns_serial.specs.Serial.{greater}
use Rattle.dns_changes.specs.Version.{serial_in}
use Rattle.dns_wire.specs.Message.{ResourceRecord}
use Rattle.dns_secondary.specs.State.{State, Begun, Led, Whole, Removing, Adding, Ended}
use Rattle.dns_secondary.specs.Step.{TakesRecord, RefusesRecord}
use Rattle.dns_secondary.specs.declared.fault.Fault.{Fault}

-- A version is held, and the SOA is not newer than its own.
abbrev pub is_current : Option Zone → Record → Bool
is_current None soa = false
is_current (Some z) soa = not (greater (serial_of soa) (serial_in (soas z.records)))

-- The records are those of the version that is held.
abbrev pub AreHeld : Option Zone → List Record → Type 0
AreHeld None set = ⊥
AreHeld (Some z) set = set ≡ z.records

-- What an answer means that ends in that state. A SOA alone that is not newer: what is held is current (RFC
-- 1995 2). After the end: the set, if it is a valid zone. Else nothing.
abbrev pub Means : Labels → Option Zone → State → List Record → Type 0
Means apex held (Led soa) set = (is_current held soa ≡ true) × AreHeld held set
Means apex held (Ended ended) set = (set ≡ ended) × IsZone (record { apex = apex; records = ended })
Means apex held Begun set = ⊥
Means apex held (Whole soa so_far) set = ⊥
Means apex held (Removing soa reached) set = ⊥
Means apex held (Adding soa so_far reached) set = ⊥

-- What it means if these records follow.
abbrev pub Rest : Labels → Option Zone → State → List ResourceRecord → List Record → Type 0
Rest apex held state [] set = Means apex held state set
Rest apex held state (i ∷ more) set =
    (next : State) × TakesRecord apex held state i next × Rest apex held next more set

-- The state after some records.
abbrev pub Reaches : Labels → Option Zone → State → List ResourceRecord → State → Type 0
Reaches apex held state [] next = next ≡ state
Reaches apex held state (i ∷ more) next =
    (mid : State) × TakesRecord apex held state i mid × Reaches apex held mid more next

-- The first of some records that is a fault, and which.
abbrev pub FailsBy : Labels → Option Zone → State → List ResourceRecord → Fault → Type 0
FailsBy apex held state [] fault = ⊥
FailsBy apex held state (i ∷ more) fault =
    RefusesRecord apex held state i fault
    ⊎ ((mid : State) × TakesRecord apex held state i mid × FailsBy apex held mid more fault)
