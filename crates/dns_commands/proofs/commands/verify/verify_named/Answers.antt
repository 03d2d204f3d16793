use Rattle.std.proofs.Common.{inl, [], ◌∷◌}
use Rattle.dns_configuration.proofs.Called.{no_calls}
use Rattle.dns_commands.specs.Verify.{VerifyingEnds}
use Rattle.dns_commands.proofs.Framed.{unnamed_told}
use Rattle.dns_commands.proofs.commands.verify.verify_named.Goals as goal

pub returns-in-Ok : goal.returns-in-Ok
returns-in-Ok g c = (_, c.verify_zones.ensures.1, inl (c.in-Ok.own, c.in-Ok.ensures, c.verify_zones.ensures.2))

pub returns-in-Err : goal.returns-in-Err
returns-in-Err g c =
    no_calls _ _ (unnamed_told (λ own. VerifyingEnds g.D.Sectors c.args.every_sector (own ∷ [])) c.args.config.now c.args.origin.now c.in-Err.word.now c.in-Err.fault c.args.run.now.explain (g.W.Write.contents c.args.run.now.out) (g.E.Write.contents c.args.run.now.err) (g.E.Write.contents c.tell.new.err) c.tell.result c.in-Err.ensures c.tell.ensures)
