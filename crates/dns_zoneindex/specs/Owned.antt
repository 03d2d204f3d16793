-- A set of records as its entries: each is at the labels of its owner, from the root down.
use Rattle.std.specs.Prelude.{Bool, List, map, reverse}
use Rattle.std.specs.List.{list_all}
use Rattle.dns_names.specs.Name.{names_eq}
use Rattle.dns_records.specs.Record.{Record}
use Rattle.dns_zoneindex.specs.Entries.{PathRecord}

abbrev pub path_records : List PathRecord → List Record
path_records es = map (λ e. e.record_there) es

abbrev pub stands_at_owner : PathRecord → Bool
stands_at_owner e = names_eq e.path (reverse e.record_there.owner)

abbrev pub are_owned : List PathRecord → Bool
are_owned es = list_all stands_at_owner es
