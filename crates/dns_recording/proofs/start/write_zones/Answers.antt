use Rattle.std.proofs.Common.{ℕ, [], List, Option, ap, subst, sym}
use Rattle.std.specs.Prelude.{get_or, slice_get}
use Rattle.std.specs.Io.KnownBytes.{Appends}
use Rattle.dns_names.specs.Name.{Labels}
use Rattle.dns_recording.specs.Script.{zone_comment}
use Rattle.dns_recording.proofs.Started.{no_zone, one_zone, told_more}
use Rattle.dns_recording.proofs.start.write_zones.Goals.{in-Some+in_ok-write_zone, in_default}
use Rattle.dns_recording.proofs.start.write_zones.Goals as goal

pub loop-index-preserved : goal.loop-index-preserved
loop-index-preserved g c m kept =
    let text = g.W.Write.contents in
    let origins = c.args.origins.now in
    let index = c.loop-index.index in
    let start = text c.args.out.now in
    let before = text c.loop-index.out in
    let after = text c.match-shown.out in
    let z = slice_get m.zones index in
    let first = c.loop-index.invariant m kept in
    elim c.match-shown.branch [
      | in-Some+in_ok-write_zone w ↦
          let number = w.in-Some.version in
          let zone = w.in-Some.zone.now in
          let origin = w.index-origins-index.result in
          let here = get_or origins index origin in
          let said = subst (λ (x : Labels). Appends before (text w.write_zone.new.out) (zone_comment x number zone)) w.index-origins-index.is w.in_ok-write_zone.ensures in
          told_more origins origin m.zones index start before after c.loop-index-test.true first
          (one_zone here z number zone before after (w.in-Some.ensures m kept)
          (subst (λ (x : Option (List ℕ)). Appends before x (zone_comment here number zone)) (sym (ap text w.out-is)) said))
      | in_default w ↦ told_more origins [] m.zones index start before after c.loop-index-test.true first
          (no_zone (get_or origins index []) z before after (w.in_default.ensures m kept) (ap text w.out-is))
    ]
