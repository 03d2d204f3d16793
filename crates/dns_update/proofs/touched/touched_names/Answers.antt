use Rattle.std.proofs.lemmas.List.Filters.{dedup_is}
use Rattle.dns_names.specs.Name.{names_eq}
use Rattle.dns_update.proofs.Naming.{touched_by}
use Rattle.dns_update.proofs.touched.touched_names.Goals as goal

pub returns : goal.returns
returns c = touched_by c.args.apex.now c.args.items.now _ _ _ c.in_ok-names.ensures c.sort.ensures.permutation c.in_ok-sort.ensures.sorted (dedup_is names_eq _ _ c.dedup.ensures.filtered)
