use Rattle.std.proofs.Common.{◌≡◌, ◌-◌, ◌^◌, ◌<◌, ◌≤◌, ◌∷◌, true, false, Some, drop, sym, ap, ◌∙◌, arith}
use Rattle.std.specs.Prelude.{◌==◌, slice_get}
use Rattle.dns_records.specs.Record.{serial_of}
use Rattle.dns_transfer.specs.Form.{advances, since}
use Rattle.dns_transfer.proofs.Lists.{get_at}
use Rattle.dns_transfer.proofs.Since.{list_before, advances_before, too_far, found_here, not_here, journalled, same_number, other_number}
use Rattle.dns_transfer.proofs.form.first_since.Goals as goal

pub returns-then-gone : goal.returns-then-gone
returns-then-gone c =
    let h = c.args.changes.now in
    let n = c.newest.number in
    let change = c.index-changes-number.result in
    let here : slice_get h (n - 1) ≡ Some change = get_at h (n - 1) change (omega (arith, c.newest.invariant.inside, c.newest-test.true)) c.index-changes-number.is in
    let at = advances_before h n change c.newest-test.true here in
    let far : 2 ^ 31 ≤ advances (drop (n - 1) h) = omega (arith, at, c.newest.invariant.gone, c.advance_of.ensures, c.if-gone.true) in
    c.newest.invariant.found ∙ sym (too_far c.args.serial h n c.newest-test.true far)

pub newest-preserved-then-old_serial-serial : goal.newest-preserved-then-old_serial-serial
newest-preserved-then-old_serial-serial c =
    let h = c.args.changes.now in
    let n = c.newest.number in
    let change = c.index-changes-number.result in
    let here : slice_get h (n - 1) ≡ Some change = get_at h (n - 1) change (omega (arith, c.newest.invariant.inside, c.newest-test.true)) c.index-changes-number.is in
    let at = advances_before h n change c.newest-test.true here in
    let all = list_before h n change c.newest-test.true here in
    let near : advances (change ∷ drop n h) < 2 ^ 31 = omega (arith, c.newest.invariant.gone, c.advance_of.ensures, c.if-gone.false) in
    let is : (serial_of change.old_soa == c.args.serial) ≡ true = same_number _ _ (sym c.old_serial.ensures ∙ c.if-old_serial-serial.true) in
    record {
      inside = omega arith;
      gone = omega (arith, at, c.newest.invariant.gone, c.advance_of.ensures);
      near = c.if-gone.false;
      found = ap (λ cs. Some cs) all ∙ sym (found_here c.args.serial change (drop n h) (journalled (change ∷ drop n h) near) is) ∙ ap (since c.args.serial) (sym all);
    }

pub newest-preserved : goal.newest-preserved
newest-preserved c =
    let h = c.args.changes.now in
    let n = c.newest.number in
    let change = c.index-changes-number.result in
    let here : slice_get h (n - 1) ≡ Some change = get_at h (n - 1) change (omega (arith, c.newest.invariant.inside, c.newest-test.true)) c.index-changes-number.is in
    let at = advances_before h n change c.newest-test.true here in
    let all = list_before h n change c.newest-test.true here in
    let is : (serial_of change.old_soa == c.args.serial) ≡ false = other_number _ _ (λ e. c.if-old_serial-serial.false (c.old_serial.ensures ∙ e)) in
    record {
      inside = omega arith;
      gone = omega (arith, at, c.newest.invariant.gone, c.advance_of.ensures);
      near = c.if-gone.false;
      found = c.newest.invariant.found ∙ sym (not_here c.args.serial change (drop n h) is) ∙ ap (since c.args.serial) (sym all);
    }
