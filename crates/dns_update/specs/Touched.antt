-- The names whose records an update can touch.
use Rattle.std.specs.Prelude.{◌≡◌, true, List}
use Rattle.std.specs.List.{AllByRecursion, list_any}
use Rattle.std.specs.List.Sorted.{IsStrictlySortedBy}
use Rattle.dns_names.specs.Name.{Labels, names_eq, name_cmp}
use Rattle.dns_wire.specs.Message.{ResourceRecord}

-- The names are in order, each once, and among them are the apex, whose serial is advanced, and the owner of
-- each item.
pub record AreTouched (apex : Labels) (items : List ResourceRecord) (names : List Labels) : Type 0 where
  pub rise : IsStrictlySortedBy name_cmp names
  pub top : list_any (names_eq apex) names ≡ true
  pub owners : AllByRecursion (λ i. list_any (names_eq i.owner) names ≡ true) items
