use Rattle.std.proofs.Common.{◌≡◌, map, take}
use Rattle.std.specs.List.{All}
use Rattle.dns_zone.specs.SortKey.{HasSortKey}
use Rattle.dns_zone.specs.declared.sorting.Keyed.{Keyed}
use Rattle.dns_zone.proofs.sorting.with_keys.Given as goal

abbrev pub invariant-loop-record : goal.invariant-loop-record
invariant-loop-record l = record {
  values : map (λ (k : Keyed). k.value) l.keyed.items ≡ take l.record-index l.records;
  keys : All (HasSortKey l.apex) l.keyed.items;
}
