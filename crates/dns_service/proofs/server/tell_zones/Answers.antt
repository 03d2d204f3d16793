use Rattle.std.proofs.Common.{ℕ, [], List, Option, ap, subst, sym}
use Rattle.std.specs.Prelude.{get_or, slice_get}
use Rattle.std.specs.Io.KnownBytes.{Appends}
use Rattle.dns_names.specs.Name.{Labels}
use Rattle.dns_service.specs.Log.{zone_line}
use Rattle.dns_service.proofs.Logged.{no_line, one_line, told_more}
use Rattle.dns_service.proofs.server.tell_zones.Goals.{in-Some+in_ok-tell_zone, in_default}
use Rattle.dns_service.proofs.server.tell_zones.Goals as goal

pub loop-index-preserved : goal.loop-index-preserved
loop-index-preserved g c m kept =
    let text = g.E.Write.contents in
    let origins = c.args.origins.now in
    let index = c.loop-index.index in
    let start = text c.args.err.now in
    let before = text c.loop-index.err in
    let after = text c.match-shown.err in
    let z = slice_get m.zones index in
    let first = c.loop-index.invariant m kept in
    elim c.match-shown.branch [
      | in-Some+in_ok-tell_zone w ↦
          let number = w.in-Some.version in
          let zone = w.in-Some.zone.now in
          let origin = w.index-origins-index.result in
          let here = get_or origins index origin in
          let said = subst (λ (x : Labels). Appends before (text w.tell_zone.new.err) (zone_line x number zone)) w.index-origins-index.is w.in_ok-tell_zone.ensures in
          told_more origins origin m.zones index start before after c.loop-index-test.true first
          (one_line here z number zone before after (w.in-Some.ensures m kept)
          (subst (λ (x : Option (List ℕ)). Appends before x (zone_line here number zone)) (sym (ap text w.err-is)) said))
      | in_default w ↦ told_more origins [] m.zones index start before after c.loop-index-test.true first
          (no_line (get_or origins index []) z before after (w.in_default.ensures m kept) (ap text w.err-is))
    ]
