-- The next version of a zone, and the change that leads to it.
use Rattle.std.specs.Prelude.{◌≡◌, ℕ, true, nat_lt, List, [], ◌∷◌, length, Some, None, if◌then◌else◌}
use Rattle.std.specs.List.{AllByRecursion}
use Rattle.dns_records.specs.Record.{Record, IsRecord, serial_of}
use Rattle.dns_zone.specs.Records.{is_ordered}
use Rattle.dns_zone.specs.Zone.{Zone, soas, zone_fault}
use Rattle.dns_zone.specs.declared.ZoneError.TheVariants.{TooMany}
use Rattle.dns_serial.specs.Serial.{greater}
use Rattle.dns_changes.specs.Change.{Change}
use Rattle.dns_changes.specs.Laws.{LeadsTo}

-- The serial of a zone's one SOA.
abbrev pub serial_in : List Record → ℕ
serial_in [] = 0
serial_in (soa ∷ rest) = serial_of soa

-- The records are a valid zone of that apex, where they are not too many: room is no matter of an update. The
-- serial is greater than before, an advance of 1 to 2^31 - 1 (RFC 1982 3.2).
pub record IsVersion (before : Zone) (after : List Record) : Type 0 where
  pub ordered : is_ordered after ≡ true
  pub each : ∥ AllByRecursion IsRecord after ∥₁
  pub valid : zone_fault before.apex after ≡ (if nat_lt 65536 (length after) then Some TooMany else None)
  pub serial : greater (serial_in (soas after)) (serial_in (soas before.records)) ≡ true

-- The change can be applied to the zone and gives those records, which are such a version.
pub record IsVersionAfter (z : Zone) (c : Change) (after : List Record) : Type 0 where
  pub leads : LeadsTo c z.records after
  pub version : IsVersion z after
