use Rattle.std.proofs.Common.{◌+◌, sym, subst, arith, refl}
use Rattle.std.specs.Prelude.{slice_set}
use Rattle.dns_sectors.specs.Device.{Content}
use Rattle.dns_sectors.specs.Crash.{SomeApplied}
use Rattle.dns_sectors.proofs.Applied.{set_applied}
use Rattle.dns_sectors.proofs.Moments.{weaker}
use Rattle.dns_store.specs.Turn.{StaysStored}
use Rattle.dns_store.proofs.Turns as root
use Rattle.dns_store.proofs.Raising.{on_ok, is_raised, is_root, says_clear, raise_crash, still_raised, to_clear, bank_after}
use Rattle.dns_store.proofs.raise.raise_root.Goals as goal

pub returns-then-was_clear-clause-any_moment : goal.returns-then-was_clear-clause-any_moment
returns-then-was_clear-clause-any_moment g c honest only =
    weaker g.D.Sectors.moment g.D.Sectors.left_since c.args.device.now c.write_phase.new.device _ (StaysStored (g.D.Sectors.seen c.args.device.now) c.args.root.now) (c.write_phase.ensures.any_moment honest)
    (λ d left s k x parts altered says.
    raise_crash s k (g.D.Sectors.seen c.args.device.now) x c.encode-sector.result parts c.args.root.now (g.D.Sectors.may_leave c.args.device.now) c.if-was_clear.true altered says c.encode-sector.ensures.says c.encode-sector.ensures.own only d left)

pub returns-then-was_clear-clause-raised : goal.returns-then-was_clear-clause-raised
returns-then-was_clear-clause-raised g c = λ s k x parts honest only altered says.
    let y = c.encode-sector.result in
    let d = altered.0 in
    let opens = altered.2.0 in
    let tidy = altered.2.1 in
    let clear = says_clear x c.args.root.now says c.if-was_clear.true in
    let raised = is_raised x y c.args.root.now says c.encode-sector.ensures.says in
    let valid = is_root s x y c.args.root.now opens.valid says c.encode-sector.ensures.says in
    on_ok c.write_phase.result (λ written. (
      slice_set d 0 y,
      subst (λ (z : Content). SomeApplied k.altered (slice_set d 0 y) z) (sym written) (set_applied k.altered d (g.D.Sectors.seen c.args.device.now) 0 y altered.1),
      (
        y,
        c.encode-sector.ensures.says,
        raised,
        root.raised_opens s k d x parts opens clear tidy y raised valid c.encode-sector.ensures.own,
        root.bank_lower s k d x parts opens clear tidy y raised valid c.encode-sector.ensures.own,
        root.all_lower s k d x parts opens clear tidy y raised valid c.encode-sector.ensures.own,
      ),
    )) (c.write_phase.ensures.written honest)

pub returns-else-was_clear-clause-any_moment : goal.returns-else-was_clear-clause-any_moment
returns-else-was_clear-clause-any_moment g c honest only =
    let r = c.args.root.now in
    weaker g.D.Sectors.moment g.D.Sectors.left_since c.args.device.now c.clear_bank.new.device _ (StaysStored (g.D.Sectors.seen c.args.device.now) r) (c.clear_bank.ensures.any_moment honest only)
    (λ d left s k x parts altered says.
    still_raised s k x c.encode-sector.result d (is_raised x c.encode-sector.result r says c.encode-sector.ensures.says)
    (left s k x parts
    (to_clear s k (g.D.Sectors.seen c.args.device.now) x c.encode-sector.result parts r (r.snapshot_room + r.journal_room) c.other_bank_at-from.result (c.other_bank_at-from.result + (r.snapshot_room + r.journal_room))
    c.if-was_clear.false altered says c.encode-sector.ensures.says c.encode-sector.ensures.own refl c.other_bank_at-from.ensures refl)))

pub returns-else-was_clear-clause-raised : goal.returns-else-was_clear-clause-raised
returns-else-was_clear-clause-raised g c = λ s k x parts honest only altered says.
    let r = c.args.root.now in
    let y = c.encode-sector.result in
    let d = g.D.Sectors.seen c.args.device.now in
    let raised = is_raised x y r says c.encode-sector.ensures.says in
    let begun = to_clear s k d x y parts r (r.snapshot_room + r.journal_room) c.other_bank_at-from.result (c.other_bank_at-from.result + (r.snapshot_room + r.journal_room))
    c.if-was_clear.false altered says c.encode-sector.ensures.says c.encode-sector.ensures.own refl c.other_bank_at-from.ensures refl in
    on_ok c.clear_bank.result (λ after. (
      after.0,
      after.1,
      (
        y,
        c.encode-sector.ensures.says,
        raised,
        after.2.opens,
        bank_after s after.0 k y parts after.2.opens after.2.tidy,
        after.2.behind (omega (arith, raised.count)),
      ),
    )) (c.clear_bank.ensures.cleared s k x parts honest begun)
