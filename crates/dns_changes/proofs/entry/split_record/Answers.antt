use Rattle.std.proofs.Common.{length}
use Rattle.dns_records.specs.Record.{plain}
use Rattle.dns_changes.proofs.Entries.{at_front}
use Rattle.dns_changes.proofs.entry.split_record.Goals as goal

pub returns-in-Err-clause-only : goal.returns-in-Err-clause-only
returns-in-Err-clause-only c = λ r rest valid e. (let front = at_front c.args.octets.now (plain r) rest e in c.fault_of.ensures.memory (c.in-Err.ensures.only r (length (plain r)) valid front.0 front.1))
