use Rattle.std.proofs.Common.{subst, ap, sym}
use Rattle.dns_sectors.specs.Device.{LeavesOnly}
use Rattle.dns_store.specs.Versions.{Shape}
use Rattle.dns_commands.specs.Load.{IsLoadedInto, OpensAsLoading}
use Rattle.dns_commands.proofs.next_version.load_store.Goals as goal

pub returns-clause-loaded : goal.returns-clause-loaded
returns-clause-loaded g c k kept is =
    let z = g.S.ZoneStore in
    let file = c.args.file in
    let held = c.new-versions.ensures.held k kept (is.rests).none_staged is.newest_is (ap (λ (s : Shape). s.snapshot) is.shape_is) (ap (λ (s : Shape). s.journal) is.shape_is) in
    let after = c.load_file-loaded.new.versions.store in
    let into = c.load_file-loaded.ensures.loaded k held is.rests in
    subst (λ (s : g.row.S.Denot). IsLoadedInto (z.keeps after) (z.failed s) (z.failed after) file.own.now.keep file.zone.now.records k c.load_file-loaded.result) c.new-versions.ensures.store into

pub returns-clause-any_moment : goal.returns-clause-any_moment
returns-clause-any_moment g c k kept honest is =
    let z = g.S.ZoneStore in
    let file = c.args.file in
    let held = c.new-versions.ensures.held k kept (is.rests).none_staged is.newest_is (ap (λ (s : Shape). s.snapshot) is.shape_is) (ap (λ (s : Shape). s.journal) is.shape_is) in
    let after = c.load_file-loaded.new.versions.store in
    let honest_here = subst (λ (s : g.row.S.Denot). z.is_honest s) (sym c.new-versions.ensures.store) honest in
    let run = c.load_file-loaded.ensures.any_moment k held honest_here is.rests in
    subst (λ (s : g.row.S.Denot). LeavesOnly z.moment z.left_since s after (OpensAsLoading z.opens file.own.now.keep file.zone.now.records k)) c.new-versions.ensures.store run
