use Rattle.std.proofs.Common.{rules}
use Rattle.std.specs.Ordering.{is_lt}
use Rattle.std.proofs.lemmas.Fn.{always_returns_same}
use Rattle.dns_records.specs.Record.{record_cmp}
use Rattle.dns_zone.proofs.Gathering.{neighbours}
use Rattle.dns_zone.proofs.sorting.rises.Goals as goal

pub returns : goal.returns
returns c = neighbours c.args.records.now c.is_sorted_by.result (c.is_sorted_by.ensures.cases (λ x y. is_lt (record_cmp x y)) (always_returns_same _ _ _ (λ a r f' k. search rules)))
