use Rattle.std.proofs.Common.{◌<◌, length, drop, sym, arith}
use Rattle.std.proofs.lemmas.List.{length-take-le}
use Rattle.dns_store.proofs.Lent.{led_take, zones_take}
use Rattle.dns_commands.specs.DumpAt.{IsIncremental}
use Rattle.dns_commands.proofs.DumpedAt.{chosen_made, incremental, incremental_begins, inside}
use Rattle.dns_commands.proofs.commands.dump_at.version_with.Goals as goal

pub slice_bounds-version_or_fault-end : goal.slice_bounds-version_or_fault-end
slice_bounds-version_or_fault-end g c =
    let n = c.in-Incremental.first in
    let changes = c.args.changes.now in
    let begins = incremental_begins c.serial-current.result c.args.serial changes (drop n changes) (sym c.in-Incremental.ensures) in
    let lt : n < length changes = inside n changes c.args.serial begins in
    sym (length-take-le n changes (omega (arith, lt)))

pub returns-in-Incremental-clause-chosen : goal.returns-in-Incremental-clause-chosen
returns-in-Incremental-clause-chosen g c vs led zones =
    let n = c.in-Incremental.first in
    let changes = c.args.changes.now in
    let base = c.args.base.now in
    let begins = incremental_begins c.serial-current.result c.args.serial changes (drop n changes) (sym c.in-Incremental.ensures) in
    let lt : n < length changes = inside n changes c.args.serial begins in
    let is : IsIncremental c.args.newest.records changes c.args.serial (drop n changes) = incremental c.args.newest.records c.soa.result.now changes (drop n changes) c.serial-current.result c.args.serial c.soa.ensures.one c.serial-current.ensures c.if-current-serial.false c.in-Incremental.ensures in
    chosen_made base c.args.newest changes vs c.args.serial n c.version_or_fault.result lt is (c.version_or_fault.ensures.made _ (led_take n base.records vs changes led) (zones_take base.apex n vs zones))
