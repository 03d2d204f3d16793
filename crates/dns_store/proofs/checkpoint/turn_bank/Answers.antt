use Rattle.std.proofs.Common.{rules, ◌≡◌, ⊎_elim, true}
use Rattle.dns_journal.specs.State.{is_closed, device_of}
use Rattle.dns_store.proofs.Moving.{turn_leaves, turn_keeps, turn_closes}
use Rattle.dns_store.proofs.checkpoint.turn_bank.Goals as goal

pub returns-in-Ok-clause-any_moment : goal.returns-in-Ok-clause-any_moment
returns-in-Ok-clause-any_moment g c k base kept none is =
    let not : is_closed c.args.journal.now ≡ true → ⊥ = search (rules, c.in-Ok.ensures.closed) in
    turn_leaves c.args.journal.now c.turn.new.self k none base c.args.octets.now c.args.changes.now is (λ d x honest now. g.met.D.Sectors.only_now d x honest now) c.turn.ensures.any_moment (λ closed. absurd (not closed)) k.closed kept

pub returns-in-Ok-clause-moved : goal.returns-in-Ok-clause-moved
returns-in-Ok-clause-moved g c k base kept none is =
    let not : is_closed c.args.journal.now ≡ true → ⊥ = search (rules, c.in-Ok.ensures.closed) in
    turn_keeps c.args.journal.now c.turn.new.self k none base c.args.octets.now c.args.changes.now is c.in-Ok.ensures.turned c.turn.ensures.opened not k.closed kept

pub returns-in-Err-clause-any_moment : goal.returns-in-Err-clause-any_moment
returns-in-Err-clause-any_moment g c k base kept none is =
    let still : is_closed c.args.journal.now ≡ true → device_of c.turn.new.self ≡ device_of c.args.journal.now = λ closed.
    ⊎_elim (λ failed. let refused = c.in-Err.ensures.closed.0 closed in absurd cc) (λ same. λ i. device_of (same i)) c.in-Err.ensures.stays in
    turn_leaves c.args.journal.now c.turn.new.self k none base c.args.octets.now c.args.changes.now is (λ d x honest now. g.met.D.Sectors.only_now d x honest now) c.turn.ensures.any_moment still k.closed kept

pub returns-in-Err-clause-failed : goal.returns-in-Err-clause-failed
returns-in-Err-clause-failed g c k base kept none is failed =
    let not : is_closed c.args.journal.now ≡ true → ⊥ = λ closed. let refused = c.in-Err.ensures.closed.0 closed in absurd cc in
    turn_closes c.args.journal.now c.turn.new.self k none base c.args.octets.now c.args.changes.now is (λ d t x honest le left. g.met.D.Sectors.counts_now d t x honest le left) c.turn.ensures.any_moment c.turn.ensures.honest.1 not
    (c.in-Err.ensures.closes failed) c.in-Err.ensures.left c.turn.ensures.newest k.closed kept
