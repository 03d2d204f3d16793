use Rattle.std.proofs.Common.{arith}
use Rattle.dns_store.proofs.Chosen.{none_fits, is_chosen}
use Rattle.dns_store.proofs.choosing.chosen.Goals as goal

pub returns-then-first-changes-clause-chosen : goal.returns-then-first-changes-clause-chosen
returns-then-first-changes-clause-chosen g c = λ vs led zones. none_fits c.args.snapshot c.args.base.now.records vs c.args.changes.now c.first_fitting-first.result led (c.first_fitting-first.ensures vs led zones) c.if-first-changes.true

pub returns-clause-chosen : goal.returns-clause-chosen
returns-clause-chosen g c = λ vs led zones. is_chosen c.args.snapshot c.args.journal c.args.base.now.records vs c.args.changes.now c.first_fitting-first.result c.most_kept.result led (c.first_fitting-first.ensures vs led zones) (omega (arith, c.if-first-changes.false)) c.most_kept.ensures
