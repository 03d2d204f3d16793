use Rattle.std.proofs.Common.{sym, ap, ◌∙◌, cond}
use Rattle.std.specs.Prelude.{Some, None}
use Rattle.dns_zone.specs.Records.{records_at}
use Rattle.dns_zone.specs.Zone.{Zone}
use Rattle.dns_zone.proofs.lookup.match_owner.Goals as goal

pub returns-then-is_cut : goal.returns-then-is_cut
returns-then-is_cut c =
    let z : Zone = record { apex = c.args.apex.now; records = c.args.records.now } in
    let cuts = sym c.if-is_cut.true ∙ c.is_cut.ensures c.args.records.now c.requires.order c.records_from-owned.ensures in
    record {
      cut = c.in_default.ensures.none ∙ ap (λ b. cond b (Some c.args.name.now) None) (sym cuts) ∙ ap (λ n. Some n) (sym c.reborrow.ensures);
      owned = c.records_from-owned.ensures ∙ ap (records_at c.args.records.now) (sym c.reborrow.ensures);
    }

pub returns : goal.returns
returns c =
    let cuts = sym c.if-is_cut.false ∙ c.is_cut.ensures c.args.records.now c.requires.order c.records_from-owned.ensures in
    record {
      uncut = c.in_default.ensures.none ∙ ap (λ b. cond b (Some c.args.name.now) None) (sym cuts);
      there = c.requires.there;
      owned = c.records_from-owned.ensures;
    }
