use Rattle.std.proofs.Common.{◌≡◌, ◌+◌, ◌-◌, List, refl, sym, length, subst, arith}
use Rattle.dns_sectors.specs.Phase.{pairs}
use Rattle.dns_sectors.specs.declared.phase.SectorWrite.{SectorWrite}
use Rattle.dns_sectors.proofs.Moments.{started, weaker}
use Rattle.dns_layout.specs.Forms.{bank_number}
use Rattle.dns_layout.specs.Sector.{open_count}
use Rattle.dns_layout.specs.Store.{other_of}
use Rattle.dns_journal.specs.State.{OpensAsOneOf}
use Rattle.dns_journal.specs.Bank.{LaysBank, LeavesEither}
use Rattle.dns_journal.proofs.Turned.{still_stored, rooms_of, stored, is_turned, turns, leaves_either, turned_keeps}
use Rattle.dns_journal.proofs.journal.Journal.turn.Goals as goal

pub returns-in_err-writes-clause-any_moment : goal.returns-in_err-writes-clause-any_moment
returns-in_err-writes-clause-any_moment g c shape k keeps =
    started g.D.Sectors.moment g.D.Sectors.left_since c.args.self.now.device (LeavesEither shape k c.args.octets.now c.args.changes.now c.args.self.now.root.open_count)
    (λ d left. still_stored shape c.args.self.now k keeps c.args.octets.now c.args.changes.now d (keeps.2.durable d (g.met.D.Sectors.only_now c.args.self.now.device d keeps.2.honest left)))

pub returns-in-Ok-clause-any_moment : goal.returns-in-Ok-clause-any_moment
returns-in-Ok-clause-any_moment g c shape k keeps =
    let old = c.args.self.now in
    let base = c.args.self.now.next.version - length c.args.changes.now in
    let base_is : c.args.self.now.next.version - length c.args.changes.now + length c.args.changes.now ≡ c.args.self.now.next.version = omega (arith, c.requires.few) in
    let ws = pairs c.deref.result.now in
    let lays = subst (λ (l : List SectorWrite). LaysBank (rooms_of old.root) (other_of (bank_number old.root.bank)) old.root.open_count base c.args.octets.now c.args.changes.now (pairs l) c.in_ok-writes.next) (sym c.deref.ensures.value) c.in_ok-writes.ensures.laid in
    let new = stored shape old k keeps c.args.octets.now c.args.changes.now c.other_bank-self.result base ws c.in_ok-writes.next c.other_bank-self.ensures base_is c.requires.fits lays in
    let turn = turns shape old k keeps c.args.octets.now c.args.changes.now c.other_bank-self.result base ws c.in_ok-writes.next c.other_bank-self.ensures base_is c.requires.fits lays in
    weaker g.D.Sectors.moment g.D.Sectors.left_since c.args.self.now.device c.turn_to.new.device (OpensAsOneOf shape k new (open_count keeps.0))
    (LeavesEither shape k c.args.octets.now c.args.changes.now c.args.self.now.root.open_count)
    (c.turn_to.ensures.any_moment shape k new keeps.0 keeps.1 keeps.2.content keeps.2.honest keeps.2.durable keeps.2.altered keeps.2.opens keeps.2.bank
    keeps.2.behind turn)
    (λ d left. leaves_either shape old k keeps c.args.octets.now c.args.changes.now c.other_bank-self.result base ws c.in_ok-writes.next c.other_bank-self.ensures base_is c.requires.fits lays d left)

pub returns-in-Ok-clause-turned : goal.returns-in-Ok-clause-turned
returns-in-Ok-clause-turned g c shape k keeps =
    let old = c.args.self.now in
    let base = c.args.self.now.next.version - length c.args.changes.now in
    let base_is : c.args.self.now.next.version - length c.args.changes.now + length c.args.changes.now ≡ c.args.self.now.next.version = omega (arith, c.requires.few) in
    let ws = pairs c.deref.result.now in
    let lays = subst (λ (l : List SectorWrite). LaysBank (rooms_of old.root) (other_of (bank_number old.root.bank)) old.root.open_count base c.args.octets.now c.args.changes.now (pairs l) c.in_ok-writes.next) (sym c.deref.ensures.value) c.in_ok-writes.ensures.laid in
    let new = stored shape old k keeps c.args.octets.now c.args.changes.now c.other_bank-self.result base ws c.in_ok-writes.next c.other_bank-self.ensures base_is c.requires.fits lays in
    let turn = turns shape old k keeps c.args.octets.now c.args.changes.now c.other_bank-self.result base ws c.in_ok-writes.next c.other_bank-self.ensures base_is c.requires.fits lays in
    let to = c.in-Ok.ensures.turned shape k new keeps.0 keeps.1 keeps.2.content keeps.2.honest keeps.2.durable keeps.2.altered keeps.2.opens keeps.2.bank
    keeps.2.behind turn in (
      new,
      is_turned shape old k keeps c.args.octets.now c.args.changes.now c.other_bank-self.result base ws c.in_ok-writes.next c.other_bank-self.ensures base_is c.requires.fits lays,
      turned_keeps shape old k keeps c.args.octets.now c.args.changes.now c.other_bank-self.result base ws c.in_ok-writes.next c.other_bank-self.ensures base_is c.requires.fits lays _ keeps.2.is_open (c.turn_to.ensures.honest.1 keeps.2.honest)
          (c.in-Ok.ensures.durable keeps.2.honest) to refl refl refl refl,
    )

pub returns-clause-any_moment : goal.returns-clause-any_moment
returns-clause-any_moment g c shape k keeps =
    let old = c.args.self.now in
    let base = c.args.self.now.next.version - length c.args.changes.now in
    let base_is : c.args.self.now.next.version - length c.args.changes.now + length c.args.changes.now ≡ c.args.self.now.next.version = omega (arith, c.requires.few) in
    let ws = pairs c.deref.result.now in
    let lays = subst (λ (l : List SectorWrite). LaysBank (rooms_of old.root) (other_of (bank_number old.root.bank)) old.root.open_count base c.args.octets.now c.args.changes.now (pairs l) c.in_ok-writes.next) (sym c.deref.ensures.value) c.in_ok-writes.ensures.laid in
    let new = stored shape old k keeps c.args.octets.now c.args.changes.now c.other_bank-self.result base ws c.in_ok-writes.next c.other_bank-self.ensures base_is c.requires.fits lays in
    let turn = turns shape old k keeps c.args.octets.now c.args.changes.now c.other_bank-self.result base ws c.in_ok-writes.next c.other_bank-self.ensures base_is c.requires.fits lays in
    weaker g.D.Sectors.moment g.D.Sectors.left_since c.args.self.now.device c.turn_to.new.device (OpensAsOneOf shape k new (open_count keeps.0))
    (LeavesEither shape k c.args.octets.now c.args.changes.now c.args.self.now.root.open_count)
    (c.turn_to.ensures.any_moment shape k new keeps.0 keeps.1 keeps.2.content keeps.2.honest keeps.2.durable keeps.2.altered keeps.2.opens keeps.2.bank
    keeps.2.behind turn)
    (λ d left. leaves_either shape old k keeps c.args.octets.now c.args.changes.now c.other_bank-self.result base ws c.in_ok-writes.next c.other_bank-self.ensures base_is c.requires.fits lays d left)
