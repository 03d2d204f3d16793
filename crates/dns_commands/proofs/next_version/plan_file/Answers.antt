use Rattle.std.proofs.Common.{◌∙◌}
use Rattle.dns_commands.proofs.Planned.{plan_change, plan_next}
use Rattle.dns_commands.proofs.next_version.plan_file.Goals as goal

pub plan-requires-clause-next : goal.plan-requires-clause-next
plan-requires-clause-next g c =
    plan_next c.args.shown.now c.args.zone.now c.args.versions.now.tip c.args.change c.in-Ok.entry (g.I.ZoneIndex.records c.in-Ok-fork.records) c.requires.tip c.apex-before.ensures.valid c.apex-after.ensures.valid c.requires.apex c.requires.change c.in-Ok.ensures
    (c.in-Ok-fork.ensures ∙ c.index.ensures)

pub plan-requires-clause-change : goal.plan-requires-clause-change
plan-requires-clause-change g c =
    plan_change c.args.shown.now c.args.zone.now c.args.versions.now.tip c.args.change c.in-Ok.entry (g.I.ZoneIndex.records c.in-Ok-fork.records) c.requires.tip c.requires.change c.in-Ok.ensures (c.in-Ok-fork.ensures ∙ c.index.ensures)
