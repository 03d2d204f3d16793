use Rattle.std.proofs.Common.{◌≡◌, ◌<◌, ◌≤◌, length, ap, ◌∙◌, arith}
use Rattle.dns_layout.specs.Sector.{entry_sectors}
use Rattle.dns_journal.specs.Bank.{sectors_for}
use Rattle.dns_store.proofs.Keeping.{newest_more, most_here}
use Rattle.dns_store.proofs.checkpoint.most_kept.Goals as goal

pub returns-then-sectors-left : goal.returns-then-sectors-left
returns-then-sectors-left c =
    let takes = sectors_for in
    let lt : c.loop-kept.kept < length c.args.changes.now = omega (arith, c.loop-kept-test.true, c.min-most.ensures) in
    let few : c.loop-kept.kept ≤ c.args.keep = omega (arith, c.loop-kept-test.true, c.min-most.ensures) in
    let more = newest_more takes c.args.changes.now c.loop-kept.kept c.index-changes-changes.result lt c.index-changes-changes.is in
    let size : c.entry_sectors-sectors.result ≡ sectors_for c.index-changes-changes.result = c.entry_sectors-sectors.ensures ∙ ap entry_sectors c.encoded_len.ensures.octets in
    most_here takes c.args.changes.now c.args.keep c.args.room c.loop-kept.kept few (omega (arith, lt)) (omega (arith, c.loop-kept.invariant)) (omega (arith, more, size, c.if-sectors-left.true, c.loop-kept.invariant))

pub loop-kept-preserved : goal.loop-kept-preserved
loop-kept-preserved c =
    let lt : c.loop-kept.kept < length c.args.changes.now = omega (arith, c.loop-kept-test.true, c.min-most.ensures) in
    let more = newest_more sectors_for c.args.changes.now c.loop-kept.kept c.index-changes-changes.result lt c.index-changes-changes.is in
    let size : c.entry_sectors-sectors.result ≡ sectors_for c.index-changes-changes.result = c.entry_sectors-sectors.ensures ∙ ap entry_sectors c.encoded_len.ensures.octets in
    omega (arith, more, size, c.if-sectors-left.false, c.loop-kept.invariant)
