-- What holds of every master file, and of every zone in print.
use Rattle.std.specs.Prelude.{◌≡◌, ◌↔◌, ℕ, List, Ok}
use Rattle.dns_names.specs.Name.{Labels}
use Rattle.dns_records.specs.Record.{Record}
use Rattle.dns_zone.specs.Zone.{Zone, IsZone}
use Rattle.dns_zone.specs.Made.{IsSetOf}
use Rattle.dns_masterfile.specs.Meaning.{FileMeans}
use Rattle.dns_masterfile.specs.Reading.{read_file}
use Rattle.dns_masterfile.specs.Printed.{in_print_order, printed_zone}

-- A file means what is read of it, which is one list of records at most.
abbrev pub FileIsRead : Type 0
FileIsRead =
    (octets : List ℕ) (origin : Labels) (records : List Record)
    → FileMeans octets origin records ↔ (read_file octets origin ≡ Ok records)

abbrev pub FileMeansOnce : Type 0
FileMeansOnce =
    (octets : List ℕ) (origin : Labels) (xs ys : List Record)
    → FileMeans octets origin xs
    → FileMeans octets origin ys
    → xs ≡ ys

-- A zone in print means its records, whatever the origin: none more, none less, the SOA first.
abbrev pub PrintMeansZone : Type 0
PrintMeansZone =
    (zone : Zone) → IsZone zone → (origin : Labels)
    → FileMeans (printed_zone zone.records) origin (in_print_order zone.records)

abbrev pub PrintKeepsRecords : Type 0
PrintKeepsRecords = (zone : Zone) → IsZone zone → IsSetOf (in_print_order zone.records) zone.records

-- The set of the records that are read of a zone in print is the zone's.
abbrev pub PrintIsZone : Type 0
PrintIsZone =
    (zone : Zone) → IsZone zone → (set : List Record) → IsSetOf (in_print_order zone.records) set
    → set ≡ zone.records
