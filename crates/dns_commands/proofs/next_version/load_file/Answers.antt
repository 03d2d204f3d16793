use Rattle.std.proofs.Common.{◌≡◌, inl, Option, Ok, subst, ap, ◌∙◌}
use Rattle.dns_changes.specs.Change.{Change}
use Rattle.dns_zone.specs.Zone.{Zone}
use Rattle.dns_sectors.proofs.Moments.{started}
use Rattle.dns_commands.specs.Load.{IsChangeTo, OpensAsLoading}
use Rattle.dns_commands.proofs.Stored.{change_refused, shown_newest}
use Rattle.dns_commands.proofs.next_version.load_file.Goals as goal

pub load_change-requires-clause-change : goal.load_change-requires-clause-change
load_change-requires-clause-change g c =
    subst (λ (o : Option Change). IsChangeTo c.args.shown.now.records c.args.zone.now.records (Ok o)) c.in-Ok-Some.field-0-is c.in-Ok-Some.ensures

pub returns-in-Ok-None-clause-loaded : goal.returns-in-Ok-None-clause-loaded
returns-in-Ok-None-clause-loaded g c k held rests =
    let z = g.S.ZoneStore in
    let records = c.args.zone.now.records in
    let shown = c.args.shown.now in
    let b = c.args.versions.now in
    let newest = ap (λ (s : Zone). s.records) (shown_newest z.keeps shown b k c.requires.tip held) in
    let same : records ≡ shown.records = subst (λ (o : Option Change). IsChangeTo shown.records records (Ok o)) c.in-Ok-None.field-0-is c.in-Ok-None.ensures in
    (same ∙ newest, held.kept)

pub returns-in-Ok-None-clause-any_moment : goal.returns-in-Ok-None-clause-any_moment
returns-in-Ok-None-clause-any_moment g c k held honest rests =
    let z = g.S.ZoneStore in
    let records = c.args.zone.now.records in
    let shown = c.args.shown.now in
    let b = c.args.versions.now in
    started z.moment z.left_since b.store (OpensAsLoading z.opens c.args.keep records k) (λ x left. inl (g.met.S.ZoneStore.at_rest b.store k held.kept honest x left))

pub returns-in-Err-clause-loaded : goal.returns-in-Err-clause-loaded
returns-in-Err-clause-loaded g c k held rests =
    let z = g.S.ZoneStore in
    let records = c.args.zone.now.records in
    let shown = c.args.shown.now in
    let b = c.args.versions.now in
    let newest = ap (λ (s : Zone). s.records) (shown_newest z.keeps shown b k c.requires.tip held) in
    change_refused (z.keeps b.store) (z.failed b.store) (z.failed b.store) c.args.keep shown.records records k c.in-Err.fault newest held.kept c.in-Err.ensures

pub returns-in-Err-clause-any_moment : goal.returns-in-Err-clause-any_moment
returns-in-Err-clause-any_moment g c k held honest rests =
    let z = g.S.ZoneStore in
    let records = c.args.zone.now.records in
    let shown = c.args.shown.now in
    let b = c.args.versions.now in
    started z.moment z.left_since b.store (OpensAsLoading z.opens c.args.keep records k) (λ x left. inl (g.met.S.ZoneStore.at_rest b.store k held.kept honest x left))
