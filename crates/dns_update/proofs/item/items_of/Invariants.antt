use Rattle.std.proofs.Common.{◌≡◌, ◌++◌, length}
use Rattle.dns_update.proofs.item.items_of.Given as goal

abbrev pub invariant-items : goal.invariant-items
invariant-items l = l.items.items ++ l.copied ≡ l.initial.copied

abbrev pub decreases-items : goal.decreases-items
decreases-items l = length l.copied
