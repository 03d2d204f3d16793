use Rattle.dns_zone.specs.Survey.{Surveys}
use Rattle.dns_zone.proofs.survey.survey_of.Given as goal

abbrev pub invariant-loop-record : goal.invariant-loop-record
invariant-loop-record g l = record {
  can : (goal.iterator-loop-record g).can_next l.record-iterator;
  ends : (goal.iterator-loop-record g).is_finite l.record-iterator;
  told : Surveys l.apex (g.I.ZoneIndex.records l.index) l.record-iterator l.survey;
}
