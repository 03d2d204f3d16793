-- Why octets are no data of a record, and why no plain record is at their front.
use Rattle.std.specs.Prelude.{◌≡◌, ℕ, ◌<◌, ◌≤◌, ◌^◌, ◌⊎◌, true, false, List, ◌++◌, length}
use Rattle.dns_names.specs.Name.{IsName}
use Rattle.dns_records.specs.Types.{is_data_type}
use Rattle.dns_records.specs.Record.{Record, Data, data_of, plain, IsRData, IsData}
use Rattle.dns_records.specs.declared.record.RecordError.{RecordError}
use Rattle.dns_records.specs.declared.record.RecordError.TheVariants.{OutOfMemory, BadData, TooLong}
use Rattle.dns_records.specs.declared.record.RecordError.TheVariants.{UnknownType}

-- The first that applies: the type, the length, the form. Memory is refused to data that is valid.
abbrev pub RefusesData : Data → RecordError → Type 0
RefusesData d OutOfMemory = IsData d
RefusesData d UnknownType = is_data_type d.rtype ≡ false
RefusesData d TooLong = (is_data_type d.rtype ≡ true) × (4096 < length d.octets)
RefusesData d BadData =
    (is_data_type d.rtype ≡ true) × (length d.octets ≤ 4096) × (IsRData d.rtype d.octets → ⊥)

-- Octets begin as a plain record does: an owner, a type, a TTL, a length, and so many octets, whatever they
-- are.
pub record IsRecordFrame (octets : List ℕ) (r : Record) (rest : List ℕ) : Type 0 where
  pub owner : IsName r.owner
  pub rtype : r.rtype < 2 ^ 16
  pub ttl : r.ttl < 2 ^ 32
  pub size : length r.rdata < 2 ^ 16
  pub whole : octets ≡ plain r ++ rest

-- The octets end too early, or have no owner; or what is there has no valid data.
abbrev pub RefusesPlain : List ℕ → RecordError → Type 0
RefusesPlain octets e =
    (((r : Record) (rest : List ℕ) → IsRecordFrame octets r rest → ⊥) × (e ≡ BadData))
    ⊎ ((r : Record) × (rest : List ℕ) × IsRecordFrame octets r rest × RefusesData (data_of r) e)
