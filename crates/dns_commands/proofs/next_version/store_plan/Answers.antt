use Rattle.std.proofs.Common.{◌≡◌, ◌<◌, ◌^◌, ◌-◌, Bool, sym, subst, ◌∙◌}
use Rattle.std.specs.Prelude.{◌⊎◌}
use Rattle.dns_sectors.proofs.Moments.{joined}
use Rattle.dns_store.specs.Versions.{Kept, OpensAsLeft, made_durable, staged_with}
use Rattle.dns_versions.specs.Flush.{kept_after_flush}
use Rattle.dns_versions.specs.Held.{HasVersions}
use Rattle.dns_commands.proofs.Stored.{flushed_is, one_more, staging_still}
use Rattle.dns_commands.proofs.next_version.store_plan.Goals as goal

pub returns-in-Err-OutOfMemory-clause-any_moment : goal.returns-in-Err-OutOfMemory-clause-any_moment
returns-in-Err-OutOfMemory-clause-any_moment g c k held honest rests room =
    staging_still g.S.ZoneStore.moment g.S.ZoneStore.left_since g.S.ZoneStore.opens c.args.versions.now.store c.stage.new.self.store k c.args.plan.version.records rests.none_staged c.stage.ensures.still
    (λ x left. g.met.S.ZoneStore.at_rest c.args.versions.now.store k held.kept honest x left)

pub returns-in-Err-Full-clause-any_moment : goal.returns-in-Err-Full-clause-any_moment
returns-in-Err-Full-clause-any_moment g c k held honest rests room =
    staging_still g.S.ZoneStore.moment g.S.ZoneStore.left_since g.S.ZoneStore.opens c.args.versions.now.store c.stage.new.self.store k c.args.plan.version.records rests.none_staged c.stage.ensures.still
    (λ x left. g.met.S.ZoneStore.at_rest c.args.versions.now.store k held.kept honest x left)

pub returns-in-Err-Closed-clause-any_moment : goal.returns-in-Err-Closed-clause-any_moment
returns-in-Err-Closed-clause-any_moment g c k held honest rests room =
    staging_still g.S.ZoneStore.moment g.S.ZoneStore.left_since g.S.ZoneStore.opens c.args.versions.now.store c.stage.new.self.store k c.args.plan.version.records rests.none_staged c.stage.ensures.still
    (λ x left. g.met.S.ZoneStore.at_rest c.args.versions.now.store k held.kept honest x left)

pub returns-then-flush-clause-any_moment : goal.returns-then-flush-clause-any_moment
returns-then-flush-clause-any_moment g c k held honest rests room =
    let z = g.S.ZoneStore in
    let records = c.args.plan.version.records in
    let P = OpensAsLeft z.opens (staged_with records k) in
    joined z.moment z.left_since c.args.versions.now.store c.stage.new.self.store c.flush.new.self.store P P
    (staging_still z.moment z.left_since z.opens c.args.versions.now.store c.stage.new.self.store k records rests.none_staged c.stage.ensures.still (λ x left. g.met.S.ZoneStore.at_rest c.args.versions.now.store k held.kept honest x left))
    (c.flush.ensures.any_moment (staged_with records k) (c.in-Ok.ensures.staged k held room).kept (c.stage.ensures.honest.1 honest)) (λ x left. left)

pub returns-then-flush-clause-stored : goal.returns-then-flush-clause-stored
returns-then-flush-clause-stored g c k held rests room fits =
    subst (λ n. (n < g.S.ZoneStore.failed c.flush.new.self.store) ⊎ (n ≡ 2 ^ 64 - 1)) c.stage.ensures.quiet (c.flush.ensures.failed.rises c.if-flush.true)

pub returns-clause-any_moment : goal.returns-clause-any_moment
returns-clause-any_moment g c k held honest rests room =
    let z = g.S.ZoneStore in
    let records = c.args.plan.version.records in
    let P = OpensAsLeft z.opens (staged_with records k) in
    joined z.moment z.left_since c.args.versions.now.store c.stage.new.self.store c.flush.new.self.store P P
    (staging_still z.moment z.left_since z.opens c.args.versions.now.store c.stage.new.self.store k records rests.none_staged c.stage.ensures.still (λ x left. g.met.S.ZoneStore.at_rest c.args.versions.now.store k held.kept honest x left))
    (c.flush.ensures.any_moment (staged_with records k) (c.in-Ok.ensures.staged k held room).kept (c.stage.ensures.honest.1 honest)) (λ x left. left)

pub returns-clause-stored : goal.returns-clause-stored
returns-clause-stored g c k held rests room fits =
    let records = c.args.plan.version.records in
    let flushed = c.flush.ensures.held (staged_with records k) (c.in-Ok.ensures.staged k held room) in
    let same : kept_after_flush c.flush.result (staged_with records k) ≡ made_durable (staged_with records k) =
    subst (λ (b : Bool). kept_after_flush b (staged_with records k) ≡ made_durable (staged_with records k)) (sym c.if-flush.false) (flushed_is k records rests.not_closed) in
    let durable = subst (λ (j : Kept). HasVersions g.S.ZoneStore.keeps c.flush.new.zone c.flush.new.self j) same flushed in
    (durable.kept, durable.number_is ∙ one_more k records rests.none_staged)
