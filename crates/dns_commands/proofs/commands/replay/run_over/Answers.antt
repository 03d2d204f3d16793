use Rattle.std.proofs.Common.{map}
use Rattle.dns_zone.specs.Zone.{Zone}
use Rattle.dns_commands.proofs.Replayed.{syntax_over}
use Rattle.dns_commands.proofs.commands.replay.run_over.Goals as goal

pub returns-in-Ok-Syntax : goal.returns-in-Ok-Syntax
returns-in-Ok-Syntax g c =
    syntax_over (map (λ (z : Zone). z.apex) c.args.zones.items) _ c.args.own.now c.args.zones.items c.args.known.items c.args.script.now c.in-Ok-Syntax.line (g.W.Write.contents c.args.run.now.out) (g.W.Write.contents c.replay_zones.new.out) (g.E.Write.contents c.args.run.now.err) (g.E.Write.contents c.tell-in-Ok-Syntax.new.err) c.tell-in-Ok-Syntax.result (rw c.deref.ensures.value at c.in_default-first_too_large.ensures)
    (λ m f. rw c.in-Some.is (let ran = rw c.in-Ok-Syntax.field-0-is at c.in-Ok-Syntax.ensures.ran in (ran (λ e. absurd (cc e))).leads m f))
    c.tell-in-Ok-Syntax.ensures
