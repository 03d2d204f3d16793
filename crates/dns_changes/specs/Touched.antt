-- Two sets that differ only in what some names own.
use Rattle.std.specs.Prelude.{◌≡◌, Bool, not, List, filter}
use Rattle.std.specs.List.{list_any}
use Rattle.std.specs.List.Sorted.{IsStrictlySortedBy}
use Rattle.dns_names.specs.Name.{Labels, names_eq, name_cmp}
use Rattle.dns_records.specs.Record.{Record}

-- One of the names owns the record.
abbrev pub is_owned_by : List Labels → Record → Bool
is_owned_by names r = list_any (names_eq r.owner) names

-- The records that none of the names owns.
abbrev pub records_aside : List Labels → List Record → List Record
records_aside names records = filter (λ r. not (is_owned_by names r)) records

-- The names are in order, each once, and aside from what they own the two sets have the same records.
pub record DifferAt (names : List Labels) (before after : List Record) : Type 0 where
  pub rise : IsStrictlySortedBy name_cmp names
  pub others : records_aside names before ≡ records_aside names after
