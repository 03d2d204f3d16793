use Rattle.std.proofs.Common.{◌≡◌, ◌-◌, ◌++◌, length, drop}
use Rattle.dns_transfer.proofs.history.History.copied.Given as goal

abbrev pub invariant-changes : goal.invariant-changes
invariant-changes l = l.history ++ drop l.number l.changes ≡ drop l.fn.first l.changes

abbrev pub decreases-changes : goal.decreases-changes
decreases-changes l = length l.changes - l.number
