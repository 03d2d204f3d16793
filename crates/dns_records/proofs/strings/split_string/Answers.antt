use Rattle.dns_records.proofs.StringParts.{SplitString, split_string, string_long}
use Rattle.dns_records.proofs.strings.split_string.Goals as goal
use Rattle.dns_records.proofs.strings.split_string.Goals.{After-split_at}

parts_of : (c : After-split_at) → SplitString c.args.octets.now c.split_at.result.0.now c.split_at.result.1.now
parts_of c = split_string c.args.octets.now c.split_at.result.0.now c.split_at.result.1.now c.requires.strings c.requires.some c.split_at.ensures.front c.split_at.ensures.back

pub split_at-requires : goal.split_at-requires
split_at-requires c = string_long c.args.octets.now c.requires.strings c.requires.some

pub returns-clause-parts : goal.returns-clause-parts
returns-clause-parts c = (parts_of (goal.at.returns-clause-parts c).After-split_at).parts

pub returns-clause-rest : goal.returns-clause-rest
returns-clause-rest c = (parts_of (goal.at.returns-clause-rest c).After-split_at).others
