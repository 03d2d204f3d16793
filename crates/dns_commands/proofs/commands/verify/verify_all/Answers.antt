use Rattle.std.proofs.Common.{ℕ, [], inl, inr, refl}
use Rattle.std.proofs.KnownBytes.{Keeps-refl}
use Rattle.dns_configuration.proofs.Told.{fault_told}
use Rattle.dns_configuration.proofs.Called.{ended_as, no_calls}
use Rattle.dns_commands.specs.Frame.{run_end}
use Rattle.dns_commands.specs.Verify.{EndsForAll, VerifyingEnds}
use Rattle.dns_commands.proofs.commands.verify.verify_all.Goals as goal

pub returns-in-Ok : goal.returns-in-Ok
returns-in-Ok g c =
    let ended = rw c.deref.ensures.value at c.verify_zones.ensures in
    (ended.0, ended.1, inl (c.in-Ok.configuration, c.in-Ok.ensures.held, ended.2))

pub returns-in-Err : goal.returns-in-Err
returns-in-Err g c =
    let config = c.args.config.now in
    let fault = c.in-Err.fault in
    let out = g.W.Write.contents c.args.run.now.out in
    let err = g.E.Write.contents c.args.run.now.err in
    let err_after = g.E.Write.contents c.tell.new.err in
    let ends : ℕ → Type 0 = λ status. EndsForAll config (VerifyingEnds g.D.Sectors c.args.every_sector) (run_end [] c.args.run.now.explain out out err err_after status) in
    let failed : ends 3 = inr (refl, Keeps-refl out, inl refl) in
    no_calls _ _ (ended_as ends c.tell.result failed (fault_told ends config.path.now fault err err_after c.tell.result c.tell.ensures failed
    (λ _ said. inr (refl, Keeps-refl out, inr (refl, fault, c.in-Err.ensures.held, said)))))
