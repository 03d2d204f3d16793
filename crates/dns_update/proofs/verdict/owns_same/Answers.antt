use Rattle.std.proofs.Common.{◌∙◌}
use Rattle.std.specs.Cmp.Lexicographic.{pointwise}
use Rattle.dns_records.specs.Compare.{same_record}
use Rattle.dns_zone.specs.Records.{records_at}
use Rattle.dns_update.proofs.Aside.{pairs_same}
use Rattle.dns_update.proofs.verdict.owns_same.Goals as goal

pub returns : goal.returns
returns g c =
    let a = records_at (g.I.ZoneIndex.records c.args.a.now) c.args.name.now in
    let b = records_at (g.I.ZoneIndex.records c.args.b.now) c.args.name.now in
    c.eq.ensures ∙ (λ i. pointwise same_record (c.records_at.ensures i) (c.records_at-2.ensures i)) ∙ pairs_same a b
