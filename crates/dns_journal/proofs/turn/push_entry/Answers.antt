use Rattle.std.proofs.Common.{rules, arith, refl, ◌∙◌, ◌<◌, ◌≤◌, ◌-◌, ◌+◌, sym, ap, subst, ℕ, List, length}
use Rattle.std.proofs.lemmas.List.{take_rest}
use Rattle.std.proofs.lemmas.List.Elements.{All-append}
use Rattle.dns_journal.specs.Staging.{PushesBodies}
use Rattle.dns_sectors.specs.Phase.{pairs, AllWithin}
use Rattle.dns_sectors.specs.declared.phase.SectorWrite.{SectorWrite}
use Rattle.dns_sectors.proofs.Phases.{pairs-append}
use Rattle.dns_layout.specs.Sector.{entry_sectors}
use Rattle.dns_journal.proofs.Encoded.{stages}
use Rattle.dns_journal.proofs.Laying.{entry_pushed}
use Rattle.dns_journal.proofs.turn.push_entry.Goals as goal

pub returns-clause-pushed : goal.returns-clause-pushed
returns-clause-pushed c =
    entry_pushed c.args.next.now _ c.args.writes.now.items c.push.new.self.items c.push_bodies.new.bodies.items c.args.octets.now
    (stages c.args.next.now _ _ c.encode.result c.args.octets.now c.min-in_head.result (entry_sectors (length c.args.octets.now) - 1) c.push.new.self.items c.push_bodies.new.bodies.items c.args.writes.now.items c.push.new.self.items
    c.encode.ensures.says refl refl refl c.min-in_head.ensures c.encode.ensures.first c.encode.ensures.own (omega (arith, c.bodies.ensures))
    (subst (λ (l : List ℕ). PushesBodies (c.args.next.now.at + 1) (record { open_count = c.args.next.now.opened; version = c.args.next.now.version + 1; length = length c.args.octets.now }) l
    (entry_sectors (length c.args.octets.now) - 1) (pairs c.push.new.self.items) (pairs c.push_bodies.new.bodies.items)) (take_rest c.args.octets.now c.min-in_head.result) c.in_ok-push_bodies.ensures.pushed)
    (ap (λ (l : List SectorWrite). pairs l) c.in_ok-push.ensures.items ∙ pairs-append c.args.writes.now.items _)
    c.requires.room (omega (arith, c.bodies.ensures)) refl refl refl)

inside : (at until n len : ℕ) → at + entry_sectors len ≤ until → until ≤ n → at < n
unfolding entry_sectors
inside at until n len room le = omega (arith, room, le)

pub returns-clause-within : goal.returns-clause-within
returns-clause-within c n le all =
    let room = c.requires.room in
    let fact : c.args.next.now.at < n = inside c.args.next.now.at c.args.next.now.until n (length c.args.octets.now) room le in
    c.push_bodies.ensures.within n (omega (arith, room, le))
    (subst (λ (l : List SectorWrite). AllWithin n l) (sym c.in_ok-push.ensures.items) (All-append (λ (w : SectorWrite). w.at < n) c.args.writes.now.items _ all (search (rules, fact))))

pub returns-in_err-push_bodies-clause-within : goal.returns-in_err-push_bodies-clause-within
returns-in_err-push_bodies-clause-within c n le all =
    let room = c.requires.room in
    let fact : c.args.next.now.at < n = inside c.args.next.now.at c.args.next.now.until n (length c.args.octets.now) room le in
    c.push_bodies.ensures.within n (omega (arith, room, le))
    (subst (λ (l : List SectorWrite). AllWithin n l) (sym c.in_ok-push.ensures.items) (All-append (λ (w : SectorWrite). w.at < n) c.args.writes.now.items _ all (search (rules, fact))))
