use Rattle.std.proofs.Common.{ℕ}
use Rattle.dns_configuration.proofs.Told.{unwrapped}
use Rattle.dns_commands.specs.CheckConfiguration.{ConfigurationCheckEnds}
use Rattle.dns_commands.proofs.Checked.{check_failed}
use Rattle.dns_commands.proofs.commands.check_configuration.check_configuration.Goals as goal

pub returns : goal.returns
returns g c =
    let config = c.args.config.now in
    let files = c.args.files.now in
    let out = g.W.Write.contents c.args.run.now.out in
    let out_after = g.W.Write.contents c.checked_configuration.new.run.out in
    let err = g.E.Write.contents c.args.run.now.err in
    let err_after = g.E.Write.contents c.checked_configuration.new.run.err in
    unwrapped (λ (status : ℕ). ConfigurationCheckEnds config files c.args.run.now.explain out out_after err err_after status) c.checked_configuration.result c.unwrap_or.result c.unwrap_or.ensures c.checked_configuration.ensures
    (check_failed config files c.args.run.now.explain out out_after err err_after)
