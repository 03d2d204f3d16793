use Rattle.std.proofs.Common.{ℕ, ◌+◌, ◌≤◌, length}
use Rattle.dns_sectors.specs.Phase.{pairs, AllWithin}
use Rattle.dns_layout.specs.Sector.{snapshot_sectors}
use Rattle.dns_journal.specs.Bank.{PushesParts}
use Rattle.dns_journal.proofs.turn.push_parts.Given as goal

abbrev pub invariant-loop-index : goal.invariant-loop-index
invariant-loop-index l = record {
  pushes : PushesParts l.at l.bank_open l.base l.octets l.index (pairs l.fn.writes.items) (pairs l.writes.items);
  within : (n : ℕ) → l.at + snapshot_sectors (length l.octets) ≤ n → AllWithin n l.fn.writes.items → AllWithin n l.writes.items;
}
