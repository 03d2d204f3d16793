use Rattle.std.proofs.Common.{arith, ◌≡◌, ◌<◌, ◌^◌, take, List, ℕ, length, sym, ◌∙◌, subst}
use Rattle.dns_changes.specs.Change.{Change}
use Rattle.dns_changes.specs.Entry.{entry}
use Rattle.dns_sectors.specs.Phase.{pairs}
use Rattle.dns_journal.specs.Bank.{PushesEntry, PushesEntries}
use Rattle.dns_journal.proofs.Encoded.{is_short}
use Rattle.dns_journal.proofs.Laying.{entries_more, entry_room, changes_next}
use Rattle.dns_journal.proofs.turn.push_entries.Goals as goal

pub push_entry-requires-clause-len : goal.push_entry-requires-clause-len
push_entry-requires-clause-len c =
    let change = c.change-item.result in
    let octets_are : c.deref.result.now ≡ entry c.change-item.result = c.deref.ensures.value ∙ c.in_ok-octets.ensures.octets in
    let room = entry_room c.args.changes.now c.loop-change.change-index change c.loop-change.next.at c.loop-change.next.until c.loop-change-test.true c.change-item.is c.loop-change.invariant.room in
    subst (λ (l : List ℕ). length l < 2 ^ 32) (sym octets_are)
    (is_short (length (entry change)) c.loop-change.next.until c.loop-change.next.at (omega (arith, c.requires.small, c.loop-change.invariant.until)) (omega (arith, room)))

pub loop-change-preserved : goal.loop-change-preserved
loop-change-preserved c =
    let change = c.change-item.result in
    let octets_are : c.deref.result.now ≡ entry c.change-item.result = c.deref.ensures.value ∙ c.in_ok-octets.ensures.octets in
    let room = entry_room c.args.changes.now c.loop-change.change-index change c.loop-change.next.at c.loop-change.next.until c.loop-change-test.true c.change-item.is c.loop-change.invariant.room in
    let one = subst (λ (l : List ℕ). PushesEntry c.loop-change.next c.push_entry.new.next l (pairs c.loop-change.writes.items) (pairs c.push_entry.new.writes.items)) octets_are c.in_ok-push_entry.ensures.pushed in
    record {
      pushes =
          subst (λ (l : List Change). PushesEntries c.args.next.now c.push_entry.new.next l (pairs c.args.writes.now.items) (pairs c.push_entry.new.writes.items)) (changes_next c.args.changes.now c.loop-change.change-index change c.loop-change-test.true c.change-item.is)
          (entries_more c.args.next.now c.loop-change.next c.push_entry.new.next (take c.loop-change.change-index c.args.changes.now) change (pairs c.args.writes.now.items) (pairs c.loop-change.writes.items) (pairs c.push_entry.new.writes.items) c.loop-change.invariant.pushes one);
      room = omega (arith, room, one.position, one.size, one.until_stays);
      number = omega (arith, one.version_is, c.loop-change.invariant.number);
      until = one.until_stays ∙ c.loop-change.invariant.until;
      within = λ n le all. c.push_entry.ensures.within n (omega (arith, le, c.loop-change.invariant.until)) (c.loop-change.invariant.within n le all);
    }
