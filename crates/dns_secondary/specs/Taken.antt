-- What the whole answer to a transfer means, by its form alone.
use Rattle.std.specs.Prelude.{◌≡◌, ◌≢◌, ◌⊎◌, ◌==◌, ◌&&◌, true, false, List, [], ◌∷◌, ◌++◌, map, Option, Some}
use Rattle.std.specs.List.{AllByRecursion, flat_map}
use Rattle.dns_names.specs.Name.{Labels, names_eq}
use Rattle.dns_records.specs.Record.{Record, serial_of}
use Rattle.dns_zone.specs.Records.{put, without, has, contains}
use Rattle.dns_zone.specs.Zone.{Zone, IsZone, soas}
use Rattle.dns_changes.specs.Change.{Change, is_soa}
use Rattle.dns_wire.specs.Message.{ResourceRecord, record_of_item}
use Rattle.dns_secondary.specs.Step.{IsFit}
use Rattle.dns_secondary.specs.Rest.{is_current, AreHeld}

-- A SOA of the zone.
abbrev pub IsSoaAt : Labels → Record → Type 0
IsSoaAt apex r = (is_soa r && names_eq r.owner apex) ≡ true

abbrev pub AreOthers : List Record → Type 0
AreOthers records = AllByRecursion (λ r. is_soa r ≡ false) records

-- One SOA that is not newer than that of the version that is held, which is current (RFC 1995 2).
pub record IsCurrent (apex : Labels) (held : Option Zone) (answer set : List Record) : Type 0 where
  pub soa : Record
  pub alone : answer ≡ soa ∷ []
  pub at_apex : IsSoaAt apex soa
  pub not_newer : is_current held soa ≡ true
  pub stays : AreHeld held set

-- A set and records put into it. One that comes twice counts once; none comes with two TTLs (RFC 2181 5).
abbrev pub Collects : List Record → List Record → List Record → Type 0
Collects set [] whole = whole ≡ set
Collects set (r ∷ rest) whole =
    ((has r set ≡ false) × Collects (put r set) rest whole)
    ⊎ ((contains set r ≡ true) × (has r set ≡ true) × Collects set rest whole)

-- A SOA, records that are none, and the same SOA, with the set of them all.
pub record HasWholeForm (apex : Labels) (answer set : List Record) : Type 0 where
  pub soa : Record
  pub others : List Record
  pub framed : answer ≡ soa ∷ others ++ soa ∷ []
  pub at_apex : IsSoaAt apex soa
  pub no_soas : AreOthers others
  pub all : Collects (soa ∷ []) others set

-- A whole zone (RFC 5936 2.2).
pub record IsWholeZone (apex : Labels) (answer set : List Record) : Type 0 where
  pub form : HasWholeForm apex answer set
  pub valid : IsZone (record { apex = apex; records = set })

-- A set but for records, each of which is there, with its TTL, when it goes.
abbrev pub Removes : List Record → List Record → List Record → Type 0
Removes set [] left = left ≡ set
Removes set (r ∷ rest) left = (contains set r ≡ true) × Removes (without r set) rest left

-- A set and records, of none of which owner, type and data are there when it comes.
abbrev pub Adds : List Record → List Record → List Record → Type 0
Adds set [] whole = whole ≡ set
Adds set (r ∷ rest) whole = (has r set ≡ false) × Adds (put r set) rest whole

-- A sequence: the old SOA, what goes, the new SOA, what comes (RFC 1995 4).
abbrev pub sequence_records : Change → List Record
sequence_records c = c.old_soa ∷ c.removed ++ c.new_soa ∷ c.added

-- It occurs in an answer, and leads from a set to another.
pub record Applies (c : Change) (set result : List Record) : Type 0 where
  pub old_soa : is_soa c.old_soa ≡ true
  pub new_soa : is_soa c.new_soa ≡ true
  pub no_soas_go : AreOthers c.removed
  pub no_soas_come : AreOthers c.added
  pub left : List Record
  pub goes : Removes set (c.old_soa ∷ c.removed) left
  pub comes : Adds left (c.new_soa ∷ c.added) result

-- Sequences lead from a set to another, each from the SOA that was reached. The new SOA of the last is the
-- leading one, and no new SOA before has its serial (RFC 1995 4).
abbrev pub Leads : (soa reached : Record) → List Record → List Change → List Record → Type 0
Leads soa reached set [] result = ⊥
Leads soa reached set (c ∷ []) result = (c.old_soa ≡ reached) × (c.new_soa ≡ soa) × Applies c set result
Leads soa reached set (c ∷ d ∷ rest) result =
    (c.old_soa ≡ reached)
    × ((serial_of c.new_soa == serial_of soa) ≡ false)
    × (mid : List Record)
    × Applies c set mid
    × Leads soa c.new_soa mid (d ∷ rest) result

-- A SOA whose serial is not that of the version that is held, sequences from that version on, and the same
-- SOA, with the set that the sequences lead to.
pub record HasChangedForm (apex : Labels) (held : Option Zone) (answer set : List Record) : Type 0 where
  pub soa : Record
  pub changes : List Change
  pub framed : answer ≡ soa ∷ flat_map sequence_records changes ++ soa ∷ []
  pub at_apex : IsSoaAt apex soa
  pub from : Zone
  pub held_is : held ≡ Some from
  pub first : Record
  pub more : List Record
  pub first_is : soas from.records ≡ first ∷ more
  pub other_serial : (serial_of soa == serial_of first) ≡ false
  pub leads : Leads soa first from.records changes set

-- Changes that lead to a zone (RFC 1995 4).
pub record IsChanged (apex : Labels) (held : Option Zone) (answer set : List Record) : Type 0 where
  pub form : HasChangedForm apex held answer set
  pub valid : IsZone (record { apex = apex; records = set })

-- The records of a message are records that a zone can have, and one of the three forms.
pub record Taken (apex : Labels) (held : Option Zone) (answer : List ResourceRecord)
    (set : List Record) : Type 0 where
  pub fit : AllByRecursion IsFit answer
  pub form : IsCurrent apex held (map record_of_item answer) set
      ⊎ IsWholeZone apex (map record_of_item answer) set
      ⊎ IsChanged apex held (map record_of_item answer) set

-- A list of one of the three forms, whether the set is a zone or not.
abbrev pub HasAnswerForm : Labels → Option Zone → List Record → Type 0
HasAnswerForm apex held answer =
    ((soa : Record) × (answer ≡ soa ∷ []) × IsSoaAt apex soa)
    ⊎ ((set : List Record) × HasWholeForm apex answer set)
    ⊎ ((set : List Record) × HasChangedForm apex held answer set)

-- Records that a zone can have, which begin a longer list of a form.
pub record IsBeginning (apex : Labels) (held : Option Zone) (records : List ResourceRecord) : Type 0 where
  pub fit : AllByRecursion IsFit records
  pub later : List Record
  pub longer : later ≢ []
  pub form : HasAnswerForm apex held (map record_of_item records ++ later)
