use Rattle.std.proofs.Common.{◌≡◌, map, take}
use Rattle.dns_zone.specs.declared.sorting.Keyed.{Keyed}
use Rattle.dns_zone.proofs.sorting.without_keys.Given as goal

abbrev pub invariant-loop-each : goal.invariant-loop-each
invariant-loop-each l = l.records.items ≡ map (λ (k : Keyed). k.value) (take l.each-index l.keyed)
