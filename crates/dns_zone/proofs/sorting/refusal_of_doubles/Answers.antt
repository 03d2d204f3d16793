use Rattle.std.proofs.Common.{◌≤◌, length, arith}
use Rattle.dns_zone.specs.Zone.{soas}
use Rattle.dns_zone.proofs.Gathering.{doubled}
use Rattle.dns_zone.proofs.sorting.refusal_of_doubles.Goals as goal

pub returns-else-not-all_stand_under : goal.returns-else-not-all_stand_under
returns-else-not-all_stand_under c =
    let one : length (soas c.args.records.now) ≤ 1 = omega (arith, c.count_soas.ensures, c.if-count_soas-gt1.false) in
    doubled c.args.apex.now c.args.records.now c.if-not-one_is_of.ensures one c.if-not-one_is_of-2.ensures c.if-not-all_stand_under.ensures c.requires
