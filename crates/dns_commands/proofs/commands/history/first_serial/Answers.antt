use Rattle.std.proofs.Common.{◌≡◌, ◌<◌, length, sym, ap, ◌∙◌, arith}
use Rattle.std.proofs.lemmas.Bool.Decides.{nat_tests}
use Rattle.dns_records.specs.Record.{serial_of}
use Rattle.dns_zone.specs.Zone.{soas}
use Rattle.dns_changes.specs.Version.{serial_in}
use Rattle.dns_commands.proofs.Historied.{led_begins, led_none}
use Rattle.dns_commands.proofs.commands.history.first_serial.Goals as goal

pub returns-then-is_empty : goal.returns-then-is_empty
returns-then-is_empty g c first vs led newest =
    let none : length c.args.changes.now ≡ 0 = grind (arith, nat_tests, c.is_empty.ensures, c.if-is_empty.true) in
    let is = newest ∙ led_none first vs c.args.changes.now led none in
    c.serial.ensures ∙ sym (ap serial_in c.soa.ensures.one) ∙ ap (λ rs. serial_in (soas rs)) is

pub returns : goal.returns
returns g c first vs led newest =
    let some : 0 < length c.args.changes.now = grind (arith, nat_tests, c.is_empty.ensures, c.if-is_empty.false) in
    c.serial-2.ensures ∙ ap serial_of c.old_soa.ensures ∙ sym (ap serial_in (led_begins first vs c.args.changes.now c.index-changes-0.result led some c.index-changes-0.is))
