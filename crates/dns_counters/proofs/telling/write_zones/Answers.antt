use Rattle.std.proofs.Common.{subst}
use Rattle.std.specs.Prelude.{slice_get}
use Rattle.std.specs.Io.KnownBytes.{Appends}
use Rattle.dns_names.specs.Name.{Labels}
use Rattle.dns_counters.specs.Lines.{zone_told}
use Rattle.dns_counters.proofs.Folds.{told_more}
use Rattle.dns_counters.proofs.telling.write_zones.Goals as goal

pub loop-index-preserved : goal.loop-index-preserved
loop-index-preserved g c m kept =
    let text = g.W.Write.contents in
    let index = c.loop-index.index in
    let before = text c.loop-index.out in
    let after = text c.write_zone_at.new.out in
    let origin = c.index-origins-index.result in
    told_more c.args.origins.now origin m.zones index (text c.args.out.now) before after c.loop-index-test.true (c.loop-index.invariant m kept)
    (subst (λ (x : Labels). Appends before after (zone_told x (slice_get m.zones index))) c.index-origins-index.is (c.in_ok-write_zone_at.ensures m kept))
