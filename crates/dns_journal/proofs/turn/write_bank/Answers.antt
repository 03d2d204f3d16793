use Rattle.std.proofs.Common.{◌≡◌, ◌≤◌, ◌+◌, ◌*◌, List, length, refl, subst, arith, ap, ◌∙◌}
use Rattle.dns_sectors.specs.Phase.{pairs}
use Rattle.dns_sectors.specs.declared.phase.SectorWrite.{SectorWrite}
use Rattle.dns_layout.specs.Sector.{snapshot_sectors}
use Rattle.dns_layout.specs.Store.{Sizes, other_of}
use Rattle.dns_journal.specs.Bank.{PushesParts}
use Rattle.dns_journal.proofs.Laying.{entries_end, entries_count, entries_behind, versions_count, bank_ends, other_small, lays}
use Rattle.dns_layout.specs.Forms.{bank_number}
use Rattle.dns_journal.proofs.turn.write_bank.Goals as goal

pub returns-clause-next : goal.returns-clause-next
returns-clause-next c =
    let p = c.in_ok-push_entries.ensures.pushed in
    let s = c.args.root.now.snapshot_room in
    let j = c.args.root.now.journal_room in
    let start = 1 + c.number.result * (c.args.root.now.snapshot_room + c.args.root.now.journal_room) + c.args.root.now.snapshot_room in
    let small : c.number.result ≤ 1 = omega (arith, c.number.ensures, c.other_bank.ensures, other_small (bank_number c.args.root.now.bank)) in
    let end = bank_ends c.number.result s j small in (
      omega (arith, p.position, p.until_stays, entries_end p.entries (start + j) start c.args.base c.args.root.now.open_count (omega arith) p.batch),
      omega (arith, p.until_stays, end),
      p.version_is ∙ versions_count p.entries c.args.base ∙ ap (λ n. c.args.base + n) (entries_count c.args.changes.now p.entries p.are),
      omega (arith, p.position, p.until_stays, entries_behind c.args.changes.now p.entries start p.are),
    )

pub returns-clause-laid : goal.returns-clause-laid
returns-clause-laid c =
    let s : Sizes = record { snapshot = c.args.root.now.snapshot_room; journal = c.args.root.now.journal_room; apex = c.args.root.now.apex } in
    let bank = c.number.ensures ∙ c.other_bank.ensures in
    let first : 1 + c.number.result * (c.args.root.now.snapshot_room + c.args.root.now.journal_room) ≡ 1 + other_of (bank_number c.args.root.now.bank) * (c.args.root.now.snapshot_room + c.args.root.now.journal_room) =
    ap (λ n. 1 + n * (c.args.root.now.snapshot_room + c.args.root.now.journal_room)) bank in
    lays s (other_of (bank_number c.args.root.now.bank)) c.args.root.now.open_count c.args.base _ c.args.octets.now c.args.changes.now _ c.push_entries.new.next (pairs c.push_parts.new.writes.items) (pairs c.push_entries.new.writes.items)
    first (ap (λ n. n + c.args.root.now.snapshot_room) first) (ap (λ n. n + c.args.root.now.snapshot_room + c.args.root.now.journal_room) first) refl refl
    (subst (λ (l : List SectorWrite). PushesParts (1 + c.number.result * (c.args.root.now.snapshot_room + c.args.root.now.journal_room)) c.args.root.now.open_count c.args.base c.args.octets.now (snapshot_sectors (length c.args.octets.now)) (pairs l) (pairs c.push_parts.new.writes.items)) c.new-writes.ensures.items c.in_ok-push_parts.ensures.pushed)
    c.in_ok-push_entries.ensures.pushed
