use Rattle.std.proofs.Common.{◌+◌, List, ℕ, take, sym, subst, arith}
use Rattle.std.specs.Io.KnownBytes.{Appends}
use Rattle.dns_masterfile.proofs.PrintedZone.{appends_two}
use Rattle.dns_commands.specs.History.{step_text, steps_text}
use Rattle.dns_commands.proofs.Historied.{steps_more}
use Rattle.dns_commands.proofs.commands.history.print_steps.Goals as goal

pub loop-change-preserved : goal.loop-change-preserved
loop-change-preserved g c =
    let w = c.args.with_records in
    let base = c.args.base in
    let changes = c.args.changes.now in
    let i = c.loop-change.change-index in
    let change = c.change-item.result in
    let version = c.loop-change.version in
    let text = steps_more w base changes i version change (omega (arith, c.loop-change-test.true)) c.change-item.is c.loop-change.invariant.number in
    record {
      number = omega (arith, c.loop-change.invariant.number);
      printed = subst (λ (t : List ℕ). Appends (g.W.Write.contents c.args.out.now) (g.W.Write.contents c.print_step.new.out) t) (sym text)
          (appends_two (g.W.Write.contents c.args.out.now) (g.W.Write.contents c.loop-change.out) (g.W.Write.contents c.print_step.new.out) (steps_text w base (take i changes)) (step_text w (version + 1) change) c.loop-change.invariant.printed c.in_ok-print_step.ensures);
    }
