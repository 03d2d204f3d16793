-- How many octets records have in plain form, and how many sectors their snapshot takes.
use Rattle.std.specs.Prelude.{ℕ, List, length}
use Rattle.std.specs.List.{flat_map}
use Rattle.dns_records.specs.Record.{Record, plain}
use Rattle.dns_layout.specs.Sector.{snapshot_sectors, snapshot_sectors_in}
use Rattle.dns_layout.specs.declared.format.Format.{Format}

abbrev pub octets_of : List Record → ℕ
octets_of records = length (flat_map plain records)

-- how many sectors the snapshot of these records takes, in a format and in format 2
abbrev pub sectors_of_snapshot_in : Format → List Record → ℕ
sectors_of_snapshot_in f records = snapshot_sectors_in f (octets_of records)

abbrev pub sectors_of_snapshot : List Record → ℕ
sectors_of_snapshot records = snapshot_sectors (octets_of records)
