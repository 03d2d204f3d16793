use Rattle.std.proofs.Common.{Ok, Err}
use Rattle.dns_commands.proofs.Verified.{reported_as, told_as}
use Rattle.dns_commands.proofs.commands.verify.verify_one.Goals as goal

pub returns-in-Ok-clause-told : goal.returns-in-Ok-clause-told
returns-in-Ok-clause-told g c = (
  c.in-Ok.ensures.0,
  c.in-Ok.ensures.1,
  (
    Ok c.in-Ok.found,
    c.in-Ok.ensures.2,
    told_as c.in-Ok.ensures.0 c.args.own.now c.in-Ok.found c.args.run.now.explain (g.W.Write.contents c.args.run.now.out) (g.W.Write.contents c.tell_found.new.out) (g.E.Write.contents c.args.run.now.err) (g.E.Write.contents c.tell_found.new.err) c.tell_found.result c.tell_found.ensures.status c.tell_found.ensures.printed c.tell_found.ensures.reported,
  ),
)

pub returns-in-Err-clause-told : goal.returns-in-Err-clause-told
returns-in-Err-clause-told g c = (
  c.in-Err.ensures.0,
  c.in-Err.ensures.1,
  (
    Err c.in-Err.fault,
    c.in-Err.ensures.2,
    reported_as c.in-Err.ensures.0 c.args.own.now c.in-Err.fault c.args.run.now.explain (g.W.Write.contents c.args.run.now.out) (g.E.Write.contents c.args.run.now.err) (g.E.Write.contents c.report.new.err) c.report.result c.report.ensures.status c.report.ensures.reported,
  ),
)
