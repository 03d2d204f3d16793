use Rattle.std.proofs.Common.{sym, ap, ◌∙◌}
use Rattle.dns_zone.proofs.Surveying.{dropped_next}
use Rattle.dns_transfer.specs.Records.{all_but_soa}
use Rattle.dns_transfer.proofs.Sequences.{not_other}
use Rattle.dns_transfer.proofs.unsent.next_other.Goals as goal

pub returns-then-rtype-ne-SOA-clause-ready : goal.returns-then-rtype-ne-SOA-clause-ready
returns-then-rtype-ne-SOA-clause-ready g c =
    sym (dropped_next (g.I.ZoneIndex.records c.args.index.now) c.records.at c.in-Some.record.now c.next.new.self (sym c.records.invariant.ready ∙ c.in-Some.ensures.steps))

pub records-preserved : goal.records-preserved
records-preserved g c = record {
  ready = sym (dropped_next (g.I.ZoneIndex.records c.args.index.now) c.records.at c.in-Some.record.now c.next.new.self (sym c.records.invariant.ready ∙ c.in-Some.ensures.steps));
  left = c.records.invariant.left ∙ ap all_but_soa c.in-Some.ensures.steps ∙ not_other c.in-Some.record.now c.next.new.self (sym c.rtype.ensures ∙ c.if-rtype-ne-SOA.false);
}
