use Rattle.std.proofs.Common.{true, false, refl, sym, ap, subst, ◌∙◌, arith}
use Rattle.std.specs.Prelude.{slice_index_or, slice_set}
use Rattle.dns_zone.specs.Zone.{Zone}
use Rattle.dns_wire.specs.Message.{header_of}
use Rattle.dns_wire.specs.declared.codes.Rcode.TheVariants.{NoError}
use Rattle.dns_versions.specs.declared.zone_versions.ZoneVersions.{ZoneVersions}
use Rattle.dns_versions.specs.Held.{HasVersions, newer}
use Rattle.dns_versions.proofs.Lists.{newest_at}
use Rattle.dns_primary.specs.Machine.{kept_of}
use Rattle.dns_primary.specs.declared.update.Outcome.TheVariants as outcome
use Rattle.dns_primary.specs.declared.update.Planned.{Planned}
use Rattle.dns_primary.specs.Update.{answer}
use Rattle.dns_primary.specs.Outcome.{IsDone, IsPlannedBy, IsStageable, end_of, refused_as}
use Rattle.dns_primary.specs.Queue.{HoldsZones, IsUntouched, asked_of, verdict_on}
use Rattle.dns_primary.proofs.Judged.{done_staged, done_unchanged, done_unstaged}
use Rattle.dns_primary.proofs.Places.{changed2, itself2}
use Rattle.dns_primary.proofs.Queued.{was_held}
use Rattle.dns_primary.proofs.Staged.{answered_closed, answered_unstaged, answered_waiting, kept_on, kept_unstaged}
use Rattle.dns_primary.proofs.primary.Primary.stage.Goals as goal

pub stage-requires : goal.stage-requires
stage-requires g c =
    let self = c.args.self.now in
    let zones = self.zones.items in
    let pending = self.pending.items in
    let index = c.args.index in
    let zone = c.index-zone.result.now in
    let b = c.index_mut-versions.result.now in
    let at = newest_at zones pending index zone b (omega (arith, c.requires.inside, self.as_many)) c.requires.inside in
    let here = c.requires.stageable (newer (slice_index_or zones index zone) (slice_index_or pending index b).tip) at in
    let first = subst (λ (z : Zone). IsStageable (newer z b.tip) c.args.planned) (sym c.index-zone.ensures)
    (subst (λ (x : ZoneVersions g.row.I.Denot g.row.S.Denot). IsStageable (newer (slice_index_or zones index zone) x.tip) c.args.planned) (sym c.index_mut-versions.ensures.value) here) in
    subst (λ (p : Planned g.row.I.Denot). IsStageable (newer zone b.tip) p) c.in-Accepted.is first

pub returns-then-is_closed-clause-done : goal.returns-then-is_closed-clause-done
returns-then-is_closed-clause-done g c m kept holds =
    let keeps = g.S.ZoneStore.keeps in
    let self = c.args.self.now in
    let zones = self.zones.items in
    let pending = self.pending.items in
    let settings = self.settings.items in
    let waiting = self.waiting.items in
    let index = c.args.index in
    let a = asked_of c.args.update.now in
    let z = holds.zone in
    let zone = c.index-zone.result.now in
    let b = c.index_mut-versions.result.now in
    let held : HoldsZones keeps zones pending settings waiting m.connections m = record { zones_are = kept.zones_are; settings_are = kept.settings_are; waiting_are = kept.waiting_are; connections_are = refl } in
    let was = was_held keeps zones pending settings waiting m index z zone b held holds.stands in
    let first = subst (λ (y : Zone). HasVersions keeps y (slice_index_or pending index b) (kept_of z)) (sym c.index-zone.ensures) was in
    let here = subst (λ (y : ZoneVersions g.row.I.Denot g.row.S.Denot). HasVersions keeps zone y (kept_of z)) (sym c.index_mut-versions.ensures.value) first in
    let shut = sym (c.is_closed.ensures (kept_of z) here.kept) ∙ c.if-is_closed.true in
    let done = answered_closed keeps zones pending settings waiting m index z a held holds.stands zone b (holds.shut shut) (subst (λ (y : Zone). HasVersions keeps y b (kept_of z)) c.index-zone.ensures here) in
    (done.0, kept_on self _ m kept _ done.1 refl refl)

pub returns-in-Unchanged-clause-done : goal.returns-in-Unchanged-clause-done
returns-in-Unchanged-clause-done g c m kept holds =
    let keeps = g.S.ZoneStore.keeps in
    let self = c.args.self.now in
    let zones = self.zones.items in
    let pending = self.pending.items in
    let settings = self.settings.items in
    let waiting = self.waiting.items in
    let index = c.args.index in
    let a = asked_of c.args.update.now in
    let z = holds.zone in
    let zone = c.index-zone.result.now in
    let b = c.index_mut-versions.result.now in
    let held : HoldsZones keeps zones pending settings waiting m.connections m = record { zones_are = kept.zones_are; settings_are = kept.settings_are; waiting_are = kept.waiting_are; connections_are = refl } in
    let was = was_held keeps zones pending settings waiting m index z zone b held holds.stands in
    let first = subst (λ (y : Zone). HasVersions keeps y (slice_index_or pending index b) (kept_of z)) (sym c.index-zone.ensures) was in
    let here = subst (λ (y : ZoneVersions g.row.I.Denot g.row.S.Denot). HasVersions keeps zone y (kept_of z)) (sym c.index_mut-versions.ensures.value) first in
    let opened = sym (c.is_closed.ensures (kept_of z) here.kept) ∙ c.if-is_closed.false in
    let v = verdict_on a z in
    let is = done_unchanged (λ k. HasVersions keeps zone b k) (kept_of z) v c.in-Unchanged.rcode (subst (λ (p : Planned g.row.I.Denot). IsPlannedBy (kept_of z) v p) c.in-Unchanged.is holds.is) here in
    let reply = c.waiting_reply-reply in
    let done = answered_waiting keeps zones pending settings waiting m index z a held holds.stands zone b c.in-Unchanged.rcode reply.result (holds.admits opened)
    (subst (λ (y : Zone). IsDone (λ k. HasVersions keeps y b k) (kept_of z) v (outcome.Waits c.in-Unchanged.rcode)) c.index-zone.ensures is)
    reply.ensures.to reply.ensures.address (ap header_of reply.ensures.request ∙ c.requires.header) reply.ensures.rcode reply.ensures.zone (reply.ensures.newest (end_of (kept_of z) v).versions is.1) in
    let after = subst (λ l. HoldsZones keeps zones (slice_set pending index b) settings l m.connections (answer m a).0) (sym c.keep_waiting.ensures.items) done.1 in
    rw (c.keep_waiting.ensures.outcome ∙ ap (λ r. outcome.Waits r) reply.ensures.rcode) (done.0, kept_on self _ m kept _ after refl refl)

pub returns-in-Ok-stage-clause-done : goal.returns-in-Ok-stage-clause-done
returns-in-Ok-stage-clause-done g c m kept holds =
    let keeps = g.S.ZoneStore.keeps in
    let self = c.args.self.now in
    let zones = self.zones.items in
    let pending = self.pending.items in
    let settings = self.settings.items in
    let waiting = self.waiting.items in
    let index = c.args.index in
    let a = asked_of c.args.update.now in
    let z = holds.zone in
    let zone = c.index-zone.result.now in
    let b = c.index_mut-versions.result.now in
    let held : HoldsZones keeps zones pending settings waiting m.connections m = record { zones_are = kept.zones_are; settings_are = kept.settings_are; waiting_are = kept.waiting_are; connections_are = refl } in
    let was = was_held keeps zones pending settings waiting m index z zone b held holds.stands in
    let first = subst (λ (y : Zone). HasVersions keeps y (slice_index_or pending index b) (kept_of z)) (sym c.index-zone.ensures) was in
    let here = subst (λ (y : ZoneVersions g.row.I.Denot g.row.S.Denot). HasVersions keeps zone y (kept_of z)) (sym c.index_mut-versions.ensures.value) first in
    let opened = sym (c.is_closed.ensures (kept_of z) here.kept) ∙ c.if-is_closed.false in
    let v = verdict_on a z in
    let new = c.stage.new.self in
    let leaves = subst (λ (p : Planned g.row.I.Denot). IsPlannedBy (kept_of z) v p) c.in-Accepted.is holds.is in
    let is = done_staged (λ k. HasVersions keeps zone new k) (kept_of z) v c.in-Accepted.plan.version.records leaves.0 (leaves.1).room (c.in-Ok-stage.ensures.staged (kept_of z) here leaves.1) in
    let reply = c.waiting_reply-reply-in-Ok-stage in
    let done = answered_waiting keeps zones pending settings waiting m index z a held holds.stands zone new NoError reply.result (holds.admits opened)
    (subst (λ (y : Zone). IsDone (λ k. HasVersions keeps y new k) (kept_of z) v (outcome.Waits NoError)) c.index-zone.ensures is)
    reply.ensures.to reply.ensures.address (ap header_of reply.ensures.request ∙ c.requires.header) reply.ensures.rcode reply.ensures.zone (reply.ensures.newest (end_of (kept_of z) v).versions is.1) in
    let after = subst (λ l. HoldsZones keeps zones (slice_set pending index new) settings l m.connections (answer m a).0) (sym c.keep_waiting-in-Ok-stage.ensures.items) done.1 in
    rw (c.keep_waiting-in-Ok-stage.ensures.outcome ∙ ap (λ r. outcome.Waits r) reply.ensures.rcode) (done.0, kept_on self _ m kept _ after refl refl)

pub returns-in-Err-clause-done : goal.returns-in-Err-clause-done
returns-in-Err-clause-done g c m kept holds =
    let keeps = g.S.ZoneStore.keeps in
    let self = c.args.self.now in
    let zones = self.zones.items in
    let pending = self.pending.items in
    let settings = self.settings.items in
    let waiting = self.waiting.items in
    let index = c.args.index in
    let a = asked_of c.args.update.now in
    let z = holds.zone in
    let zone = c.index-zone.result.now in
    let b = c.index_mut-versions.result.now in
    let held : HoldsZones keeps zones pending settings waiting m.connections m = record { zones_are = kept.zones_are; settings_are = kept.settings_are; waiting_are = kept.waiting_are; connections_are = refl } in
    let was = was_held keeps zones pending settings waiting m index z zone b held holds.stands in
    let first = subst (λ (y : Zone). HasVersions keeps y (slice_index_or pending index b) (kept_of z)) (sym c.index-zone.ensures) was in
    let here = subst (λ (y : ZoneVersions g.row.I.Denot g.row.S.Denot). HasVersions keeps zone y (kept_of z)) (sym c.index_mut-versions.ensures.value) first in
    let opened = sym (c.is_closed.ensures (kept_of z) here.kept) ∙ c.if-is_closed.false in
    let v = verdict_on a z in
    let new = c.stage.new.self in
    let leaves = subst (λ (p : Planned g.row.I.Denot). IsPlannedBy (kept_of z) v p) c.in-Accepted.is holds.is in
    let is = done_unstaged (λ k. HasVersions keeps zone new k) (kept_of z) v c.in-Accepted.plan.version.records c.in-Err.error leaves.0 (holds.left opened) (leaves.1).room (c.in-Err.ensures.room (kept_of z) here leaves.1) opened (c.in-Err.ensures.stays (kept_of z) here) in
    let done = answered_unstaged keeps zones pending settings waiting m index z a held holds.stands zone new c.in-Err.error (holds.admits opened)
    (subst (λ (y : Zone). IsDone (λ k. HasVersions keeps y new k) (kept_of z) v (refused_as c.in-Err.error)) c.index-zone.ensures is) in
    rw c.refused.ensures (kept_unstaged self _ m a (answer m a) c.in-Err.error kept refl refl done)

pub returns-in_default-clause-still : goal.returns-in_default-clause-still
returns-in_default-clause-still g c =
    itself2 (λ a b. IsUntouched g.S.ZoneStore.moment g.S.ZoneStore.left_since g.S.ZoneStore.failed g.S.ZoneStore.is_honest a.store b.store) c.args.self.now.pending.items (λ x. record { still = record { no_later = refl; same = λ t l left. left }; quiet = refl; honest = (λ h. h, λ h. h) })

pub returns-then-is_closed-clause-still : goal.returns-then-is_closed-clause-still
returns-then-is_closed-clause-still g c =
    let R = λ (a b : ZoneVersions g.row.I.Denot g.row.S.Denot). IsUntouched g.S.ZoneStore.moment g.S.ZoneStore.left_since g.S.ZoneStore.failed g.S.ZoneStore.is_honest a.store b.store in
    let b = c.index_mut-versions.result.now in
    let new = b in
    changed2 R c.args.self.now.pending.items c.args.index b new
    (λ x. record { still = record { no_later = refl; same = λ t l left. left }; quiet = refl; honest = (λ h. h, λ h. h) })
    (subst (λ (x : ZoneVersions g.row.I.Denot g.row.S.Denot). R x new) c.index_mut-versions.ensures.value (record { still = record { no_later = refl; same = λ t l left. left }; quiet = refl; honest = (λ h. h, λ h. h) }))

pub returns-in-Unchanged-clause-still : goal.returns-in-Unchanged-clause-still
returns-in-Unchanged-clause-still g c =
    let R = λ (a b : ZoneVersions g.row.I.Denot g.row.S.Denot). IsUntouched g.S.ZoneStore.moment g.S.ZoneStore.left_since g.S.ZoneStore.failed g.S.ZoneStore.is_honest a.store b.store in
    let b = c.index_mut-versions.result.now in
    let new = b in
    changed2 R c.args.self.now.pending.items c.args.index b new
    (λ x. record { still = record { no_later = refl; same = λ t l left. left }; quiet = refl; honest = (λ h. h, λ h. h) })
    (subst (λ (x : ZoneVersions g.row.I.Denot g.row.S.Denot). R x new) c.index_mut-versions.ensures.value (record { still = record { no_later = refl; same = λ t l left. left }; quiet = refl; honest = (λ h. h, λ h. h) }))

pub returns-in-Ok-stage-clause-still : goal.returns-in-Ok-stage-clause-still
returns-in-Ok-stage-clause-still g c =
    let R = λ (a b : ZoneVersions g.row.I.Denot g.row.S.Denot). IsUntouched g.S.ZoneStore.moment g.S.ZoneStore.left_since g.S.ZoneStore.failed g.S.ZoneStore.is_honest a.store b.store in
    let b = c.index_mut-versions.result.now in
    let new = c.stage.new.self in
    changed2 R c.args.self.now.pending.items c.args.index b new
    (λ x. record { still = record { no_later = refl; same = λ t l left. left }; quiet = refl; honest = (λ h. h, λ h. h) })
    (subst (λ (x : ZoneVersions g.row.I.Denot g.row.S.Denot). R x new) c.index_mut-versions.ensures.value (record { still = c.stage.ensures.still; quiet = c.stage.ensures.quiet; honest = c.stage.ensures.honest }))

pub returns-in-Err-clause-still : goal.returns-in-Err-clause-still
returns-in-Err-clause-still g c =
    let R = λ (a b : ZoneVersions g.row.I.Denot g.row.S.Denot). IsUntouched g.S.ZoneStore.moment g.S.ZoneStore.left_since g.S.ZoneStore.failed g.S.ZoneStore.is_honest a.store b.store in
    let b = c.index_mut-versions.result.now in
    let new = c.stage.new.self in
    changed2 R c.args.self.now.pending.items c.args.index b new
    (λ x. record { still = record { no_later = refl; same = λ t l left. left }; quiet = refl; honest = (λ h. h, λ h. h) })
    (subst (λ (x : ZoneVersions g.row.I.Denot g.row.S.Denot). R x new) c.index_mut-versions.ensures.value (record { still = c.stage.ensures.still; quiet = c.stage.ensures.quiet; honest = c.stage.ensures.honest }))
