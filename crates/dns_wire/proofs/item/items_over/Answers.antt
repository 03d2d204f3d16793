use Rattle.std.proofs.Common.{ℕ, ◌-◌, ◌+◌, arith}
use Rattle.dns_wire.specs.Refusals.{ResourceRecordRefused, TimesRefused}
use Rattle.dns_wire.specs.Walk.{SomeItem, Times}
use Rattle.dns_wire.proofs.Causes.{times_here, times_behind}
use Rattle.dns_wire.proofs.Ends.{item_once}
use Rattle.dns_wire.proofs.Loops.{all_left, times_more, times_less, times_first}
use Rattle.dns_wire.proofs.item.items_over.Goals as goal

pub loop-i-init : goal.loop-i-init
loop-i-init c =
    let m = c.args.message.now in
    record {
      inside = c.requires.inside;
      known = c.requires.known;
      some = c.requires.some;
      completes = λ stop. (all_left (λ (n : ℕ). Times (SomeItem m) n c.args.at stop) c.args.count).0;
      leaves = λ stop. (all_left (λ (n : ℕ). Times (SomeItem m) n c.args.at stop) c.args.count).1;
      causes = λ e. (all_left (λ (n : ℕ). TimesRefused (SomeItem m) (ResourceRecordRefused m) n c.args.at e) c.args.count).0;
    }

pub returns-in-Err-Refused-clause-refused : goal.returns-in-Err-Refused-clause-refused
returns-in-Err-Refused-clause-refused c = λ stop h.
    (let m = c.args.message.now in
    let none = rw c.in-Err-Refused.field-0-is at c.in-Err-Refused.ensures.refused in
    let first = times_first (SomeItem m) (c.args.count - c.loop-i.i) c.loop-i.next stop (omega arith) (c.loop-i.invariant.leaves stop h) in
    none first.0 first.1)

pub returns-in-Err-Refused-clause-cause : goal.returns-in-Err-Refused-clause-cause
returns-in-Err-Refused-clause-cause c =
    let m = c.args.message.now in
    let why = rw c.in-Err-Refused.field-0-is at c.in-Err-Refused.ensures.cause in
    c.loop-i.invariant.causes c.in-Err-Refused.e (times_here (SomeItem m) (ResourceRecordRefused m) (c.args.count - c.loop-i.i) c.loop-i.next c.in-Err-Refused.e (omega arith) why)

pub loop-i-preserved : goal.loop-i-preserved
loop-i-preserved c =
    let m = c.args.message.now in
    let rest = c.args.count - (c.loop-i.i + 1) in
    let all = c.args.count - c.loop-i.i in
    record {
      inside = c.in-Ok.ensures.inside;
      known = c.in-Ok.ensures.known;
      some = omega (arith, c.in-Ok.ensures.size, c.loop-i.invariant.some);
      completes = λ stop h. c.loop-i.invariant.completes stop (times_more (SomeItem m) rest all c.loop-i.next c.in-Ok.stop stop (omega arith) c.in-Ok.ensures.found h);
      leaves = λ stop h. times_less (SomeItem m) rest all c.loop-i.next c.in-Ok.stop stop (λ at i j a b. item_once m at i j a b) (omega arith) c.in-Ok.ensures.found (c.loop-i.invariant.leaves stop h);
      causes = λ e h. c.loop-i.invariant.causes e (times_behind (SomeItem m) (ResourceRecordRefused m) all rest c.loop-i.next c.in-Ok.stop e (omega arith) c.in-Ok.ensures.found h);
    }
