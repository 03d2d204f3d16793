use Rattle.dns_masterfile.proofs.Starts.{starts}
use Rattle.dns_masterfile.proofs.scanner.start_at.Goals as goal

pub returns-in-Some-clause-begun : goal.returns-in-Some-clause-begun
returns-in-Some-clause-begun c =
    starts c.args.octets.now c.in-Some.first.now c.in-Some.field-0-1.now c.args.line c.is_blank-blank.result c.in-Some.ensures.cases.0 c.is_blank-blank.ensures
