use Rattle.std.proofs.Common.{◌≡◌, drop}
use Rattle.std.specs.List.{list_any}
use Rattle.dns_names.specs.Name.{names_eq}
use Rattle.dns_lookup.specs.Represented.{names_searched}
use Rattle.dns_lookup.proofs.chain.is_among.Given as goal

abbrev pub invariant-loop-one : goal.invariant-loop-one
invariant-loop-one l = list_any (names_eq l.name) (names_searched l.found) ≡ list_any (names_eq l.name) (names_searched (drop l.one-index l.found))
