use Rattle.std.proofs.Common.{◌≡◌, ◌≤◌, true, inl, inr, length, List, Option, Err, refl, sym, subst, ap, ◌∙◌}
use Rattle.dns_records.specs.Record.{Record}
use Rattle.dns_zone.specs.Zone.{Zone}
use Rattle.dns_changes.specs.Version.{serial_in}
use Rattle.dns_sectors.proofs.Moments.{joined, started, weaker}
use Rattle.dns_store.specs.Room.{entry_between, sectors_left}
use Rattle.dns_store.specs.Versions.{OpensAsLeft, moved_to, newest_of, staged_with}
use Rattle.dns_versions.specs.Held.{newer, newest_zone}
use Rattle.dns_versions.specs.Staging.{HasPlanRoom, IsPlan, has_room, sectors_lacked}
use Rattle.dns_commands.specs.Load.{IsAtRest, IsStored, OpensAsLoading, OpensAsMoved, with_next}
use Rattle.dns_commands.proofs.Planned.{plan_own, plan_refused}
use Rattle.dns_commands.proofs.Stored.{change_there, held_moved, moved_loading, room_refused, shown_newest, store_refused}
use Rattle.dns_commands.proofs.next_version.load_change.Goals as goal

pub store_plan-requires : goal.store_plan-requires
store_plan-requires g c =
    let shown = c.args.shown.now in
    let p = c.in-Ok.plan in
    let own = plan_own shown c.args.zone.now.records p c.in-Ok.ensures.planned in
    subst (λ (tip : Option Zone). IsPlan (newer shown tip) p.version.records p) (sym c.requires.tip) own.1

pub returns-in-Err-clause-loaded : goal.returns-in-Err-clause-loaded
returns-in-Err-clause-loaded g c k held rests =
    let z = g.S.ZoneStore in
    let records = c.args.zone.now.records in
    let shown = c.args.shown.now in
    let b = c.args.versions.now in
    let newest : shown ≡ newest_zone k = shown_newest z.keeps shown b k c.requires.tip held in
    let there = change_there shown.records records c.args.change k (ap (λ (s : Zone). s.records) newest) c.requires.change in
    plan_refused (z.keeps b.store) (z.failed b.store) (z.failed b.store) c.args.keep records k c.in-Err.fault there.0 there.1 held.kept (c.in-Err.ensures.room k held)

pub returns-in-Err-clause-any_moment : goal.returns-in-Err-clause-any_moment
returns-in-Err-clause-any_moment g c k held honest rests =
    let z = g.S.ZoneStore in
    let records = c.args.zone.now.records in
    let shown = c.args.shown.now in
    let b = c.args.versions.now in
    started z.moment z.left_since b.store (OpensAsLoading z.opens c.args.keep records k) (λ x left. inl (g.met.S.ZoneStore.at_rest b.store k held.kept honest x left))

pub returns-in-Err-free_sectors-clause-loaded : goal.returns-in-Err-free_sectors-clause-loaded
returns-in-Err-free_sectors-clause-loaded g c k held rests =
    let z = g.S.ZoneStore in
    let records = c.args.zone.now.records in
    let shown = c.args.shown.now in
    let b = c.args.versions.now in
    let newest : shown ≡ newest_zone k = shown_newest z.keeps shown b k c.requires.tip held in
    let there = change_there shown.records records c.args.change k (ap (λ (s : Zone). s.records) newest) c.requires.change in
    let p = c.in-Ok.plan in
    let own = plan_own shown records p c.in-Ok.ensures.planned in
    let room : HasPlanRoom k p = c.in-Ok.ensures.room k held in
    let has : has_room k records ≡ true = subst (λ (rs : List Record). has_room k rs ≡ true) own.0 room.room in
    let lacked : c.lacked-lacked.result ≡ sectors_lacked k records = c.lacked-lacked.ensures k held.kept (subst (λ (s : Zone). IsPlan s p.version.records p) newest own.1) room ∙ ap (sectors_lacked k) own.0 in
    room_refused (z.keeps c.free_sectors.new.store) (z.failed b.store) (z.failed c.free_sectors.new.store) c.args.keep (entry_between (newest_of k) records) records k c.in-Err-free_sectors.fault (c.in-Err-free_sectors.ensures.made k records held.kept rests has lacked)

pub returns-in-Err-free_sectors-clause-any_moment : goal.returns-in-Err-free_sectors-clause-any_moment
returns-in-Err-free_sectors-clause-any_moment g c k held honest rests =
    let z = g.S.ZoneStore in
    let records = c.args.zone.now.records in
    let shown = c.args.shown.now in
    let b = c.args.versions.now in
    let newest : shown ≡ newest_zone k = shown_newest z.keeps shown b k c.requires.tip held in
    let there = change_there shown.records records c.args.change k (ap (λ (s : Zone). s.records) newest) c.requires.change in
    let p = c.in-Ok.plan in
    let own = plan_own shown records p c.in-Ok.ensures.planned in
    let room : HasPlanRoom k p = c.in-Ok.ensures.room k held in
    let has : has_room k records ≡ true = subst (λ (rs : List Record). has_room k rs ≡ true) own.0 room.room in
    let lacked : c.lacked-lacked.result ≡ sectors_lacked k records = c.lacked-lacked.ensures k held.kept (subst (λ (s : Zone). IsPlan s p.version.records p) newest own.1) room ∙ ap (sectors_lacked k) own.0 in
    let before = b.store in
    let first = weaker z.moment z.left_since before c.free_sectors.new.store (OpensAsMoved z.opens c.args.keep (entry_between (newest_of k) records) k) (OpensAsLoading z.opens c.args.keep records k) (c.free_sectors.ensures.any_moment k records held.kept honest rests has lacked) (λ x left. moved_loading z.opens c.args.keep (entry_between (newest_of k) records) records k x rests.none_staged refl there.1 has left) in
    first

pub returns-in-Ok-store_plan-clause-loaded : goal.returns-in-Ok-store_plan-clause-loaded
returns-in-Ok-store_plan-clause-loaded g c k held rests =
    let z = g.S.ZoneStore in
    let records = c.args.zone.now.records in
    let shown = c.args.shown.now in
    let b = c.args.versions.now in
    let newest : shown ≡ newest_zone k = shown_newest z.keeps shown b k c.requires.tip held in
    let there = change_there shown.records records c.args.change k (ap (λ (s : Zone). s.records) newest) c.requires.change in
    let p = c.in-Ok.plan in
    let own = plan_own shown records p c.in-Ok.ensures.planned in
    let room : HasPlanRoom k p = c.in-Ok.ensures.room k held in
    let has : has_room k records ≡ true = subst (λ (rs : List Record). has_room k rs ≡ true) own.0 room.room in
    let lacked : c.lacked-lacked.result ≡ sectors_lacked k records = c.lacked-lacked.ensures k held.kept (subst (λ (s : Zone). IsPlan s p.version.records p) newest own.1) room ∙ ap (sectors_lacked k) own.0 in
    let made = c.in-Ok-free_sectors.ensures.made k records held.kept rests has lacked in
    let base = made.0 in
    let moved = moved_to base k in
    let mid = c.free_sectors.new.store in
    let held_mid = held_moved z.keeps shown b mid base k held made.2 in
    let room_mid : HasPlanRoom moved p = record { room = room.room; octets = room.octets } in
    let rests_mid : IsAtRest moved = record { none_staged = rests.none_staged; not_closed = rests.not_closed } in
    let fits : entry_between (newest_of moved) p.version.records ≤ sectors_left moved = subst (λ (rs : List Record). entry_between (newest_of k) rs ≤ sectors_left moved) (sym own.0) made.3 in
    let stored = c.in-Ok-store_plan.ensures.stored moved held_mid rests_mid room_mid fits in
    record {
      base = base;
      base_is = made.1;
      kept = subst (λ (rs : List Record). z.keeps c.store_plan.new.versions.store (with_next base rs k)) own.0 stored.0;
      other = there.0;
      raised = there.1;
      room = has;
      version_is = stored.1;
      serial_is = c.serial.ensures ∙ ap serial_in (sym c.soa.ensures.one);
      added_is = ap length (c.added.ensures.records ∙ (there.2).added);
      removed_is = ap length (c.removed.ensures.records ∙ (there.2).removed);
    }

pub returns-in-Ok-store_plan-clause-any_moment : goal.returns-in-Ok-store_plan-clause-any_moment
returns-in-Ok-store_plan-clause-any_moment g c k held honest rests =
    let z = g.S.ZoneStore in
    let records = c.args.zone.now.records in
    let shown = c.args.shown.now in
    let b = c.args.versions.now in
    let newest : shown ≡ newest_zone k = shown_newest z.keeps shown b k c.requires.tip held in
    let there = change_there shown.records records c.args.change k (ap (λ (s : Zone). s.records) newest) c.requires.change in
    let p = c.in-Ok.plan in
    let own = plan_own shown records p c.in-Ok.ensures.planned in
    let room : HasPlanRoom k p = c.in-Ok.ensures.room k held in
    let has : has_room k records ≡ true = subst (λ (rs : List Record). has_room k rs ≡ true) own.0 room.room in
    let lacked : c.lacked-lacked.result ≡ sectors_lacked k records = c.lacked-lacked.ensures k held.kept (subst (λ (s : Zone). IsPlan s p.version.records p) newest own.1) room ∙ ap (sectors_lacked k) own.0 in
    let made = c.in-Ok-free_sectors.ensures.made k records held.kept rests has lacked in
    let base = made.0 in
    let moved = moved_to base k in
    let mid = c.free_sectors.new.store in
    let held_mid = held_moved z.keeps shown b mid base k held made.2 in
    let room_mid : HasPlanRoom moved p = record { room = room.room; octets = room.octets } in
    let rests_mid : IsAtRest moved = record { none_staged = rests.none_staged; not_closed = rests.not_closed } in
    let before = b.store in
    let first = weaker z.moment z.left_since before c.free_sectors.new.store (OpensAsMoved z.opens c.args.keep (entry_between (newest_of k) records) k) (OpensAsLoading z.opens c.args.keep records k) (c.free_sectors.ensures.any_moment k records held.kept honest rests has lacked) (λ x left. moved_loading z.opens c.args.keep (entry_between (newest_of k) records) records k x rests.none_staged refl there.1 has left) in
    joined z.moment z.left_since before mid c.store_plan.new.versions.store (OpensAsLoading z.opens c.args.keep records k) (OpensAsLeft z.opens (staged_with p.version.records moved)) first
    (c.store_plan.ensures.any_moment moved held_mid (c.free_sectors.ensures.honest.1 honest) rests_mid room_mid) (λ x left. inr (base, made.1, there.1, has, subst (λ (rs : List Record). OpensAsLeft z.opens (staged_with rs moved) x) own.0 left))

pub returns-in-Err-store_plan-clause-loaded : goal.returns-in-Err-store_plan-clause-loaded
returns-in-Err-store_plan-clause-loaded g c k held rests =
    let z = g.S.ZoneStore in
    let records = c.args.zone.now.records in
    let shown = c.args.shown.now in
    let b = c.args.versions.now in
    let newest : shown ≡ newest_zone k = shown_newest z.keeps shown b k c.requires.tip held in
    let there = change_there shown.records records c.args.change k (ap (λ (s : Zone). s.records) newest) c.requires.change in
    let p = c.in-Ok.plan in
    let own = plan_own shown records p c.in-Ok.ensures.planned in
    let room : HasPlanRoom k p = c.in-Ok.ensures.room k held in
    let has : has_room k records ≡ true = subst (λ (rs : List Record). has_room k rs ≡ true) own.0 room.room in
    let lacked : c.lacked-lacked.result ≡ sectors_lacked k records = c.lacked-lacked.ensures k held.kept (subst (λ (s : Zone). IsPlan s p.version.records p) newest own.1) room ∙ ap (sectors_lacked k) own.0 in
    let made = c.in-Ok-free_sectors.ensures.made k records held.kept rests has lacked in
    let base = made.0 in
    let moved = moved_to base k in
    let mid = c.free_sectors.new.store in
    let held_mid = held_moved z.keeps shown b mid base k held made.2 in
    let room_mid : HasPlanRoom moved p = record { room = room.room; octets = room.octets } in
    let rests_mid : IsAtRest moved = record { none_staged = rests.none_staged; not_closed = rests.not_closed } in
    let fits : entry_between (newest_of moved) p.version.records ≤ sectors_left moved = subst (λ (rs : List Record). entry_between (newest_of k) rs ≤ sectors_left moved) (sym own.0) made.3 in
    let after = c.store_plan.new.versions.store in
    let fault = c.in-Err-store_plan.fault in
    let stored = c.in-Err-store_plan.ensures.stored moved held_mid rests_mid room_mid fits in
    let own_stored = subst (λ (rs : List Record). IsStored (z.keeps after) (z.failed mid) (z.failed after) rs moved (Err fault)) own.0 stored in
    let failed = subst (λ n. IsStored (z.keeps after) n (z.failed after) records moved (Err fault)) c.in-Ok-free_sectors.ensures.quiet own_stored in
    store_refused (z.keeps after) (z.failed b.store) (z.failed after) c.args.keep base records k fault made.1 failed

pub returns-in-Err-store_plan-clause-any_moment : goal.returns-in-Err-store_plan-clause-any_moment
returns-in-Err-store_plan-clause-any_moment g c k held honest rests =
    let z = g.S.ZoneStore in
    let records = c.args.zone.now.records in
    let shown = c.args.shown.now in
    let b = c.args.versions.now in
    let newest : shown ≡ newest_zone k = shown_newest z.keeps shown b k c.requires.tip held in
    let there = change_there shown.records records c.args.change k (ap (λ (s : Zone). s.records) newest) c.requires.change in
    let p = c.in-Ok.plan in
    let own = plan_own shown records p c.in-Ok.ensures.planned in
    let room : HasPlanRoom k p = c.in-Ok.ensures.room k held in
    let has : has_room k records ≡ true = subst (λ (rs : List Record). has_room k rs ≡ true) own.0 room.room in
    let lacked : c.lacked-lacked.result ≡ sectors_lacked k records = c.lacked-lacked.ensures k held.kept (subst (λ (s : Zone). IsPlan s p.version.records p) newest own.1) room ∙ ap (sectors_lacked k) own.0 in
    let made = c.in-Ok-free_sectors.ensures.made k records held.kept rests has lacked in
    let base = made.0 in
    let moved = moved_to base k in
    let mid = c.free_sectors.new.store in
    let held_mid = held_moved z.keeps shown b mid base k held made.2 in
    let room_mid : HasPlanRoom moved p = record { room = room.room; octets = room.octets } in
    let rests_mid : IsAtRest moved = record { none_staged = rests.none_staged; not_closed = rests.not_closed } in
    let before = b.store in
    let first = weaker z.moment z.left_since before c.free_sectors.new.store (OpensAsMoved z.opens c.args.keep (entry_between (newest_of k) records) k) (OpensAsLoading z.opens c.args.keep records k) (c.free_sectors.ensures.any_moment k records held.kept honest rests has lacked) (λ x left. moved_loading z.opens c.args.keep (entry_between (newest_of k) records) records k x rests.none_staged refl there.1 has left) in
    joined z.moment z.left_since before mid c.store_plan.new.versions.store (OpensAsLoading z.opens c.args.keep records k) (OpensAsLeft z.opens (staged_with p.version.records moved)) first
    (c.store_plan.ensures.any_moment moved held_mid (c.free_sectors.ensures.honest.1 honest) rests_mid room_mid) (λ x left. inr (base, made.1, there.1, has, subst (λ (rs : List Record). OpensAsLeft z.opens (staged_with rs moved) x) own.0 left))
