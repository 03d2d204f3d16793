use Rattle.dns_zone.specs.Side.{side_of}
use Rattle.dns_zone.proofs.Searching.{matches}
use Rattle.dns_zone.proofs.search.matching.Goals as goal

pub returns : goal.returns
returns c =
    let begin = c.count_before-begin in
    let end = c.end_of_match in
    matches (side_of c.args.key.now) c.args.records.now begin.result end.result end.ensures.from end.ensures.bound begin.ensures.before end.ensures.here end.ensures.past
