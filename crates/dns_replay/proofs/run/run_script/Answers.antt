use Rattle.std.proofs.Common.{◌≡◌, List, ℕ, Option, Some, None, ap, subst, ◌∙◌, arith, rules}
use Rattle.std.specs.Option.{option_copied}
use Rattle.dns_replay.specs.Lines.{lines, lines_left, room}
use Rattle.dns_replay.proofs.Running.{AreRunUpTo, begin_all, ends_all, more_all, refused_all, stops_all}
use Rattle.dns_replay.proofs.run.run_script.Goals as goal

pub returns-in-Ok-NoCommand : goal.returns-in-Ok-NoCommand
returns-in-Ok-NoCommand g c = λ _. (
    let pending = option_copied c.split_line.result.1 in
    let rest : option_copied c.lines.rest ≡ Some c.in-Some.text.now = search rules in
    let whole = ap lines_left rest ∙ c.split_line.ensures.line in
    let none = rw c.in-Ok-NoCommand.field-0-is at c.in-Ok-NoCommand.ensures in
    stops_all g.D.ScriptDevice.left_by c.args.world.origins.now c.args.world.settings.now (lines c.args.script.now) c.args.primary c.lines.number c.split_line.result.0.now (lines_left pending) (lines_left (option_copied c.lines.rest)) (g.W.Write.contents c.args.out.now) (g.W.Write.contents c.lines.out) (g.W.Write.contents c.run_line.new.out) c.lines.running c.lines.devices.items whole c.lines.invariant.run none.0 none.3)

pub returns-in-Ok-Refused : goal.returns-in-Ok-Refused
returns-in-Ok-Refused g c = λ _. (
    let pending = option_copied c.split_line.result.1 in
    let rest : option_copied c.lines.rest ≡ Some c.in-Some.text.now = search rules in
    let whole = ap lines_left rest ∙ c.split_line.ensures.line in
    let refused = rw c.in-Ok-Refused.field-0-is at c.in-Ok-Refused.ensures in
    refused_all g.D.ScriptDevice.left_by c.args.world.origins.now c.args.world.settings.now (lines c.args.script.now) c.args.primary c.lines.number c.split_line.result.0.now (lines_left pending) (lines_left (option_copied c.lines.rest)) (g.W.Write.contents c.args.out.now) (g.W.Write.contents c.lines.out) (g.W.Write.contents c.run_line.new.out) c.lines.running c.lines.devices.items refused.0 whole c.lines.invariant.run refused.1 refused.2)

pub lines-preserved : goal.lines-preserved
lines-preserved g c =
    let pending = option_copied c.split_line.result.1 in
    let rest : option_copied c.lines.rest ≡ Some c.in-Some.text.now = search rules in
    let whole = ap lines_left rest ∙ c.split_line.ensures.line in
    let less = c.split_line.ensures.less in
    let was = ap room rest in
    let count = c.lines.invariant.count in
    record {
      count = omega (arith, less, was, count);
      run = more_all g.D.ScriptDevice.left_by c.args.world.origins.now c.args.world.settings.now (lines c.args.script.now) c.args.primary c.lines.number c.split_line.result.0.now (lines_left pending) (lines_left (option_copied c.lines.rest)) (g.W.Write.contents c.args.out.now) (g.W.Write.contents c.lines.out) (g.W.Write.contents c.run_line.new.out) c.lines.running c.run_line.new.primary c.lines.devices.items c.run_line.new.devices.items whole c.lines.invariant.run (rw c.in-Ok-GoesOn.field-0-is at c.in-Ok-GoesOn.ensures);
    }

pub returns : goal.returns
returns g c = λ _. (
    let none : option_copied c.lines.rest ≡ None = search rules in
    ends_all g.D.ScriptDevice.left_by c.args.world.origins.now c.args.world.settings.now (lines c.args.script.now) c.args.primary c.lines.number (g.W.Write.contents c.args.out.now) (g.W.Write.contents c.lines.out) c.lines.running c.lines.devices.items (subst (λ (o : Option (List ℕ)). AreRunUpTo g.D.ScriptDevice.left_by c.args.world.origins.now c.args.world.settings.now (lines c.args.script.now) c.args.primary c.lines.number (lines_left o) (g.W.Write.contents c.args.out.now) (g.W.Write.contents c.lines.out) c.lines.running c.lines.devices.items) none c.lines.invariant.run))

pub lines-init : goal.lines-init
lines-init g c = record {
  count = omega arith;
  run = begin_all g.D.ScriptDevice.left_by c.args.world.origins.now c.args.world.settings.now (lines c.args.script.now) c.args.primary (g.W.Write.contents c.args.out.now) c.new-devices.result.items;
}
