use Rattle.std.proofs.Common.{ap, ◌∙◌}
use Rattle.dns_zoneindex.specs.Children.{items}
use Rattle.dns_zoneindex.specs.Slots.{is_before}
use Rattle.dns_zoneindex.proofs.Slots.{key_decides}
use Rattle.dns_zoneindex.proofs.node.Slot.is_behind.Goals as goal

pub returns-then-key-own : goal.returns-then-key-own
returns-then-key-own c =
    key_decides c.args.key c.self.inside.key c.args.label.now (items c.self.inside.children) c.requires c.self.invariant.1 c.if-key-own.true
    ∙ ap (is_before c.args.label.now) c.self.view_is
