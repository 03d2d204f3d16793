use Rattle.std.proofs.Common.{length, ap, arith}
use Rattle.dns_zoneindex.specs.Entries.{flat}
use Rattle.dns_zoneindex.specs.Children.{joined}
use Rattle.dns_zoneindex.proofs.Counts.{length-flat-append}
use Rattle.dns_zoneindex.proofs.Results.{if_ok}
use Rattle.dns_zoneindex.proofs.group.+count_of.Goals as goal

pub count_of-requires : goal.count_of-requires
count_of-requires t c = (omega (arith, c.decreases, c.in-Some.ensures.cases.1), tt)

pub returns-in_ok-count_of-in-Some : goal.returns-in_ok-count_of-in-Some
returns-in_ok-count_of-in-Some t c =
    let own = ap (λ x. length (flat x)) c.slot.view_is in
    let all = ap (λ x. length (flat (joined x))) c.in-Some.ensures.cases.0 in
    let parts = length-flat-append c.in-Some.slot.now (joined c.in-Some.rest.now) in
    if_ok c.sum.result (λ n m. omega (arith, m, c.slot.invariant.0, own, c.in_ok-count_of-in-Some.ensures, all, parts)) c.sum.ensures
