use Rattle.std.proofs.Common.{ℕ, ◌≡◌, ◌+◌, ◌≤◌, take, drop}
use Rattle.std.specs.Prelude.{sum_by}
use Rattle.dns_sectors.specs.Phase.{pairs, AllWithin}
use Rattle.dns_journal.specs.Bank.{PushesEntries, sectors_for}
use Rattle.dns_journal.proofs.turn.push_entries.Given as goal

abbrev pub invariant-loop-change : goal.invariant-loop-change
invariant-loop-change l = record {
  pushes : PushesEntries l.fn.next l.next (take l.change-index l.changes) (pairs l.fn.writes.items) (pairs l.writes.items);
  room : l.next.at + sum_by sectors_for (drop l.change-index l.changes) ≤ l.next.until;
  number : l.next.version ≡ l.fn.next.version + l.change-index;
  until : l.next.until ≡ l.fn.next.until;
  within : (n : ℕ) → l.fn.next.until ≤ n → AllWithin n l.fn.writes.items → AllWithin n l.writes.items;
}
