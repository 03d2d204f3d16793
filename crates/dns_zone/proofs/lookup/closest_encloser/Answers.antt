use Rattle.std.proofs.Common.{◌≡◌, true, false, sym, ap, ◌∙◌}
use Rattle.dns_zone.specs.Records.{exists}
use Rattle.dns_zone.specs.Node.{encloser}
use Rattle.dns_zone.proofs.Beside.{beside_is}
use Rattle.dns_zone.proofs.Enclosers.{encloser_here, encloser_parent}
use Rattle.dns_zone.proofs.Uncut.{under_itself, under_above}
use Rattle.dns_zone.proofs.lookup.closest_encloser.Goals as goal

pub ancestors-init : goal.ancestors-init
ancestors-init c = record { above = under_itself c.args.name.now c.reborrow-here.result c.reborrow-here.ensures; same = ap (encloser c.args.records.now) c.reborrow-here.ensures }

pub ancestors-preserved : goal.ancestors-preserved
ancestors-preserved c =
    let records = c.args.records.now in
    let here = c.ancestors.here in
    let none : exists records here ≡ false = sym (beside_is records c.args.name.now here c.args.position c.requires.order c.requires.position c.ancestors.invariant.above) ∙ sym c.ancestors-test.ensures in
    record {
      above = under_above c.args.name.now here c.in-Some.above c.in-Some.ensures c.ancestors.invariant.above;
      same = sym (encloser_parent records here c.in-Some.above c.in-Some.ensures none) ∙ c.ancestors.invariant.same;
    }

pub returns : goal.returns
returns c =
    let records = c.args.records.now in
    let here = c.ancestors.here in
    let there : exists records here ≡ true = sym (beside_is records c.args.name.now here c.args.position c.requires.order c.requires.position c.ancestors.invariant.above) ∙ sym c.ancestors-test.ensures in
    sym (encloser_here records here there) ∙ c.ancestors.invariant.same
