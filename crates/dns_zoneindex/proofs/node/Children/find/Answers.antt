use Rattle.std.proofs.Common.{sym, ap, ◌∙◌}
use Rattle.dns_zoneindex.specs.Children.{items}
use Rattle.dns_zoneindex.specs.Assoc.{child_of}
use Rattle.dns_zoneindex.proofs.Slots.{child_one, child_other}
use Rattle.dns_zoneindex.proofs.node.Children.find.Goals as goal

pub returns-then-has_label : goal.returns-then-has_label
returns-then-has_label c =
    let q = c.args.label.now in
    let n = c.in-One.node in
    sym (child_one q n (sym c.has_label.ensures ∙ c.if-has_label.true)) ∙ ap (child_of q) (sym (ap items c.in-One.is))

pub returns-else-has_label : goal.returns-else-has_label
returns-else-has_label c =
    let q = c.args.label.now in
    let n = c.in-One.node in
    sym (child_other q n (sym c.has_label.ensures ∙ c.if-has_label.false)) ∙ ap (child_of q) (sym (ap items c.in-One.is))
