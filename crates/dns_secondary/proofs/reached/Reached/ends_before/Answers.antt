use Rattle.dns_secondary.proofs.Behind.{ends}
use Rattle.dns_secondary.proofs.reached.Reached.ends_before.Goals as goal

pub returns-in-Some : goal.returns-in-Some
returns-in-Some g c =
    ends c.args.self.now c.in-Some.last.now c.args.next.now c.compare.result c.is_lt.result c.in-Some.ensures.last c.in-Some.ensures.ordered c.compare.ensures c.is_lt.ensures
