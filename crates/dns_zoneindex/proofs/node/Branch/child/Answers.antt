use Rattle.std.proofs.Common.{ap, sym, ◌∙◌}
use Rattle.dns_zoneindex.specs.Entries.{under_label, own_at}
use Rattle.dns_zoneindex.specs.Children.{items}
use Rattle.dns_zoneindex.specs.Held.{held}
use Rattle.dns_zoneindex.proofs.Under.{step-own}
use Rattle.dns_zoneindex.proofs.node.Branch.child.Goals as goal

pub returns-clause-found : goal.returns-clause-found
returns-clause-found c = ap own_at c.find.ensures ∙ sym (step-own c.args.label.now (held c.self.inside.records) (items c.self.inside.children) c.self.invariant.1) ∙ ap (λ x. under_label c.args.label.now x.own) c.self.view_is
