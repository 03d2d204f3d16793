-- The records that prerequisites list, counted against their RRsets.
use Rattle.std.specs.Prelude.{Bool, not, ◌&&◌, ◌||◌, ◌==◌, List, length, filter}
use Rattle.std.specs.List.{list_any}
use Rattle.dns_records.specs.Types.{class_in}
use Rattle.dns_records.specs.Record.{Record}
use Rattle.dns_zone.specs.Records.{has, rrset}
use Rattle.dns_wire.specs.Message.{ResourceRecord}
use Rattle.dns_update.specs.ResourceRecord.{as_record}
use Rattle.dns_update.specs.Prerequisites.{lists}

-- The records that one of the items lists.
abbrev pub listed : List Record → List ResourceRecord → List Record
listed records items = filter (λ r. list_any (lists r) items) records

-- The item's record is there, and of its RRset as many are among the listed as there are.
abbrev pub is_counted : (listed records : List Record) → ResourceRecord → Bool
is_counted listed records i =
    has (as_record i) records
    && length (rrset listed i.owner i.rtype) == length (rrset records i.owner i.rtype)

-- The item is not of class IN, or its RRset is listed.
abbrev pub is_met : (listed records : List Record) → ResourceRecord → Bool
is_met listed records i = not (i.class == class_in) || is_counted listed records i
