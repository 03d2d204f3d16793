use Rattle.std.proofs.Common.{◌≤◌, ◌<◌, ◌-◌, ◌∙◌, inl, inr, ⊎_elim, length, refl, subst, sym}
use Rattle.dns_sectors.proofs.Moments.{weaker}
use Rattle.dns_store.proofs.Sizes.{room_left}
use Rattle.dns_store.specs.Room.{entry_between, sectors_left}
use Rattle.dns_store.specs.Versions.{OpensAsEither, moved_to, newest_of}
use Rattle.dns_versions.proofs.Moved.{number_there}
use Rattle.dns_commands.specs.Load.{IsBaseFor, OpensAsMoved}
use Rattle.dns_commands.proofs.Stored.{room_within, too_few_left}
use Rattle.dns_commands.proofs.next_version.free_sectors.Goals as goal

pub returns-in-Ok-clause-made : goal.returns-in-Ok-clause-made
returns-in-Ok-clause-made g c k records kept rests has e =
    let keep = c.args.keep in
    let room = c.in-Some.room in
    let d = number_there k keep room in
    let base = length k.shown - d.0 in
    let lacks = too_few_left k records room has (sym c.in-Some.is ∙ e) in
    let less : sectors_left k < room = subst (λ n. sectors_left k < n) (sym lacks.0) lacks.1 in
    let le : room ≤ k.shape.journal = subst (λ n. n ≤ k.shape.journal) (sym lacks.0) (room_within k records has) in
    let for : IsBaseFor keep (entry_between (newest_of k) records) k base = subst (λ n. IsBaseFor keep n k base) lacks.0 (inr (less, (d.0, d.1, refl))) in
    let left : entry_between (newest_of k) records ≤ sectors_left (moved_to base k) = subst (λ n. n ≤ sectors_left (moved_to base k)) lacks.0 (room_left k keep room d.0 rests.none_staged le d.1) in
    (base, for, c.in-Ok.ensures.moved k d.0 kept rests.none_staged d.1, left)

pub returns-in-Ok-clause-any_moment : goal.returns-in-Ok-clause-any_moment
returns-in-Ok-clause-any_moment g c k records kept honest rests has e =
    let z = g.S.ZoneStore in
    let keep = c.args.keep in
    let room = c.in-Some.room in
    let d = number_there k keep room in
    let base = length k.shown - d.0 in
    let lacks = too_few_left k records room has (sym c.in-Some.is ∙ e) in
    let less : sectors_left k < room = subst (λ n. sectors_left k < n) (sym lacks.0) lacks.1 in
    let for : IsBaseFor keep (entry_between (newest_of k) records) k base = subst (λ n. IsBaseFor keep n k base) lacks.0 (inr (less, (d.0, d.1, refl))) in
    weaker z.moment z.left_since c.args.store.now c.checkpoint.new.self (OpensAsEither z.opens k base) (OpensAsMoved z.opens keep (entry_between (newest_of k) records) k)
    (c.checkpoint.ensures.any_moment k d.0 kept honest rests.none_staged d.1) (λ x left. ⊎_elim (λ before. inl before) (λ after. inr (base, for, after)) left)

pub returns-in-Err-Device-clause-any_moment : goal.returns-in-Err-Device-clause-any_moment
returns-in-Err-Device-clause-any_moment g c k records kept honest rests has e =
    let z = g.S.ZoneStore in
    let keep = c.args.keep in
    let room = c.in-Some.room in
    let d = number_there k keep room in
    let base = length k.shown - d.0 in
    let lacks = too_few_left k records room has (sym c.in-Some.is ∙ e) in
    let less : sectors_left k < room = subst (λ n. sectors_left k < n) (sym lacks.0) lacks.1 in
    let for : IsBaseFor keep (entry_between (newest_of k) records) k base = subst (λ n. IsBaseFor keep n k base) lacks.0 (inr (less, (d.0, d.1, refl))) in
    weaker z.moment z.left_since c.args.store.now c.checkpoint.new.self (OpensAsEither z.opens k base) (OpensAsMoved z.opens keep (entry_between (newest_of k) records) k)
    (c.checkpoint.ensures.any_moment k d.0 kept honest rests.none_staged d.1) (λ x left. ⊎_elim (λ before. inl before) (λ after. inr (base, for, after)) left)
