use Rattle.std.proofs.Common.{◌≡◌, drop}
use Rattle.std.specs.List.{list_any, find}
use Rattle.dns_names.specs.Name.{names_eq}
use Rattle.dns_lookup.proofs.zones.place_of.Given as goal

abbrev pub invariant-loop-i : goal.invariant-loop-i
invariant-loop-i g l = record {
  found : find (λ z. names_eq z.apex l.apex) l.zones ≡ find (λ z. names_eq z.apex l.apex) (drop l.i l.zones);
  some : list_any (λ z. names_eq z.apex l.apex) l.zones ≡ list_any (λ z. names_eq z.apex l.apex) (drop l.i l.zones);
}
