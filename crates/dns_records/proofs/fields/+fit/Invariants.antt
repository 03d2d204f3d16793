use Rattle.std.proofs.Common.{length}
use Rattle.dns_records.proofs.fields.+fit.Given as goal

abbrev pub decreases-fit : goal.decreases-fit
decreases-fit l = length l.fields.now
