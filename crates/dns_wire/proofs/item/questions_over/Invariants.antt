use Rattle.std.proofs.Common.{ℕ, ◌-◌, ◌≤◌, ◌<◌, length}
use Rattle.dns_wire.specs.Lengths.{AreLengths}
use Rattle.dns_wire.specs.Walk.{SomeQuestion, Times}
use Rattle.dns_wire.specs.Refusals.{QuestionRefused, TimesRefused}
use Rattle.dns_wire.specs.declared.ReadError.{ReadError}
use Rattle.dns_wire.proofs.item.questions_over.Given as goal

abbrev pub invariant-loop-i : goal.invariant-loop-i
invariant-loop-i l = record {
  inside : l.next ≤ length l.message;
  known : AreLengths l.message l.lengths;
  some : 0 < length l.lengths;
  completes : (stop : ℕ) → Times (SomeQuestion l.message) (l.count - l.i) l.next stop → Times (SomeQuestion l.message) l.count l.at stop;
  leaves : (stop : ℕ) → Times (SomeQuestion l.message) l.count l.at stop → Times (SomeQuestion l.message) (l.count - l.i) l.next stop;
  causes : (e : ReadError) → TimesRefused (SomeQuestion l.message) (QuestionRefused l.message) (l.count - l.i) l.next e → TimesRefused (SomeQuestion l.message) (QuestionRefused l.message) l.count l.at e;
}
