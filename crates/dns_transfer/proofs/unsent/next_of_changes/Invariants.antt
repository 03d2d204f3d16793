use Rattle.std.proofs.Common.{◌≡◌, ◌-◌, length}
use Rattle.dns_transfer.specs.Left.{left_in}
use Rattle.dns_transfer.proofs.unsent.next_of_changes.Given as goal

abbrev pub invariant-changes : goal.invariant-changes
invariant-changes l = left_in l.history l.first l.passed ≡ left_in l.history l.number l.behind

abbrev pub decreases-changes : goal.decreases-changes
decreases-changes l = length l.history - l.number
