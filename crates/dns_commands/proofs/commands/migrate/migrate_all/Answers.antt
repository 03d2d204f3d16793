use Rattle.std.proofs.Common.{ℕ, []}
use Rattle.dns_configuration.proofs.Told.{fault_told}
use Rattle.dns_configuration.proofs.Called.{ended_as, no_calls}
use Rattle.dns_commands.specs.Frame.{run_end}
use Rattle.dns_commands.specs.Migrate.{MigrateEnds}
use Rattle.dns_commands.proofs.Migrated.{configuration_refused, migrate_failed, migrate_ran}
use Rattle.dns_commands.proofs.commands.migrate.migrate_all.Goals as goal

pub returns-in-Err : goal.returns-in-Err
returns-in-Err g c =
    let config = c.args.config.now in
    let fault = c.in-Err.fault in
    let out = g.W.Write.contents c.args.run.now.out in
    let err = g.E.Write.contents c.args.run.now.err in
    let err_after = g.E.Write.contents c.tell.new.err in
    let ends : ℕ → Type 0 = λ status. MigrateEnds g.D.Sectors config (run_end [] c.args.run.now.explain out out err err_after status) in
    let failed = migrate_failed g.D.Sectors config c.args.run.now.explain out out err err_after in
    no_calls _ _ (ended_as ends c.tell.result failed (fault_told ends config.path.now fault err err_after c.tell.result c.tell.ensures failed
    (λ _ said. configuration_refused g.D.Sectors config fault c.args.run.now.explain out err err_after c.in-Err.ensures.held said)))

pub returns : goal.returns
returns g c =
    let ended = rw c.deref.ensures.value at c.migrate_zones.ensures in
    (ended.0, ended.1, migrate_ran g.D.Sectors _ c.args.config.now c.in-Ok.configuration c.args.run.now.explain _ _ _ _ _ c.in-Ok.ensures.held ended.2)
