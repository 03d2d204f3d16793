use Rattle.std.proofs.Common.{◌≡◌, sym, ap, ◌∙◌}
use Rattle.std.specs.Cmp.Lexicographic.{pointwise}
use Rattle.dns_records.specs.Compare.{same_record}
use Rattle.dns_zone.specs.Records.{others, records_at, united}
use Rattle.dns_update.proofs.Aside.{pairs_same, same_set_is}
use Rattle.dns_update.proofs.AtOwner.{whole}
use Rattle.dns_update.proofs.effect.put_back.Goals as goal

pub returns-then-eq : goal.returns-then-eq
returns-then-eq g c =
    let set = c.args.set.now in
    let xs = g.I.ZoneIndex.records set in
    let name = c.args.name.now in
    let ys = c.args.held.items in
    let same : records_at xs name ≡ ys = same_set_is (records_at xs name) ys (sym (pairs_same (records_at xs name) ys) ∙ (λ i. pointwise same_record (sym c.records_at.ensures i) (sym c.as_slice.ensures.value i)) ∙ sym c.eq.ensures ∙ c.if-eq.true) in
    sym (ap (united (others xs name)) (sym same) ∙ whole name xs (g.met.I.ZoneIndex.ordered set))
