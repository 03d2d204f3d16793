use Rattle.std.proofs.Common.{◌≡◌, inl, inr, ⊎_elim, ap, subst}
use Rattle.dns_journal.specs.State.{device_of}
use Rattle.dns_store.proofs.Holding.{held_again}
use Rattle.dns_store.proofs.kept_store.KeptStoreZoneStore.checkpoint.Goals as goal

pub returns-in-Ok-clause-any_moment : goal.returns-in-Ok-clause-any_moment
returns-in-Ok-clause-any_moment g c k n kept honest none is =
    let run = c.move_base.ensures.any_moment k n kept honest none is in
    record { later = run.later; each = run.each; before = run.before }

pub returns-in-Err-clause-any_moment : goal.returns-in-Err-clause-any_moment
returns-in-Err-clause-any_moment g c k n kept honest none is =
    let run = c.move_base.ensures.any_moment k n kept honest none is in
    record { later = run.later; each = run.each; before = run.before }

pub returns-in-Ok-clause-moved : goal.returns-in-Ok-clause-moved
returns-in-Ok-clause-moved g c k n kept none is = c.in-Ok.ensures.moved k n kept none is

pub returns-in-Err-clause-device : goal.returns-in-Err-clause-device
returns-in-Err-clause-device g c k n kept none is failed = c.in-Err.ensures.failed k n kept none is failed

pub returns-in-Ok-clause-closed : goal.returns-in-Ok-clause-closed
returns-in-Ok-clause-closed g c k kept = let both = c.in-Ok.ensures.closed k kept in (λ is. absurd cc, λ shut. absurd (let is = both.1 shut in cc))

pub returns-in-Err-clause-closed : goal.returns-in-Err-clause-closed
returns-in-Err-clause-closed g c k kept = c.in-Err.ensures.closed k kept

pub returns-in-Err-clause-stays : goal.returns-in-Err-clause-stays
returns-in-Err-clause-stays g c k kept =
    let same = c.in-Err.ensures.lent in
    ⊎_elim (λ failed. inl failed)
    (λ journals. inr (held_again c.move_base.new.self.journal c.args.self.now.journal c.move_base.new.self.base c.args.self.now.base c.move_base.new.self.changes.items c.args.self.now.changes.items k journals same.0 (λ i. (same.1 i).items) kept)) c.in-Err.ensures.stays

pub returns-in-Err-clause-still : goal.returns-in-Err-clause-still
returns-in-Err-clause-still g c =
    ⊎_elim (λ failed. inl failed)
    (λ journals.
    (let same : device_of c.move_base.new.self.journal ≡ device_of c.args.self.now.journal = λ i. device_of (journals i) in
    inr (record { no_later = ap g.D.Sectors.moment same; same = λ t x left. subst (λ d. g.D.Sectors.left_since d t x) same left }, ap g.D.Sectors.failed same))) c.in-Err.ensures.stays
