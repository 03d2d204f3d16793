use Rattle.std.proofs.Common.{ℕ, ◌-◌, ◌≤◌, ◌<◌, length}
use Rattle.dns_wire.specs.Lengths.{AreLengths}
use Rattle.dns_wire.specs.Walk.{SomeItem, Times}
use Rattle.dns_wire.specs.Refusals.{ResourceRecordRefused, TimesRefused}
use Rattle.dns_wire.specs.declared.ReadError.{ReadError}
use Rattle.dns_wire.proofs.item.items_over.Given as goal

abbrev pub invariant-loop-i : goal.invariant-loop-i
invariant-loop-i l = record {
  inside : l.next ≤ length l.message;
  known : AreLengths l.message l.lengths;
  some : 0 < length l.lengths;
  completes : (stop : ℕ) → Times (SomeItem l.message) (l.count - l.i) l.next stop → Times (SomeItem l.message) l.count l.at stop;
  leaves : (stop : ℕ) → Times (SomeItem l.message) l.count l.at stop → Times (SomeItem l.message) (l.count - l.i) l.next stop;
  causes : (e : ReadError) → TimesRefused (SomeItem l.message) (ResourceRecordRefused l.message) (l.count - l.i) l.next e → TimesRefused (SomeItem l.message) (ResourceRecordRefused l.message) l.count l.at e;
}
