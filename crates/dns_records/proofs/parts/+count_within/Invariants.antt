use Rattle.std.proofs.Common.{length}
use Rattle.dns_records.proofs.parts.+count_within.Given as goal

abbrev pub decreases-count_within : goal.decreases-count_within
decreases-count_within l = length l.values.now
