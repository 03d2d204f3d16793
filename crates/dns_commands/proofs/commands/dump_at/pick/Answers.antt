use Rattle.std.proofs.Common.{◌++◌, ◌∷◌, [], inl}
use Rattle.dns_store.specs.Opens.{fresh}
use Rattle.dns_store.specs.Versions.{opened_again}
use Rattle.dns_configuration.proofs.Called.{called_on}
use Rattle.dns_devices.specs.DeviceCalls.{Closed}
use Rattle.dns_devices.specs.Stores.{own_shape}
use Rattle.dns_commands.specs.DumpAt.{IsAnswerFor}
use Rattle.dns_commands.proofs.DumpedAt.{answer_kept, picking_ends}
use Rattle.dns_commands.proofs.Historied.{seen_as}
use Rattle.dns_commands.proofs.commands.dump_at.pick.Goals as goal

pub returns-in-Ok : goal.returns-in-Ok
returns-in-Ok g c =
    let own = c.args.own.now in
    let serial = c.args.serial in
    let r = c.version_with-zone.result in
    let changes = c.changes.result.now in
    let base = c.base.result.now in
    let newest = c.in-Ok.newest in
    let opened = c.in-Ok.ensures.0 in
    let after = c.into_device.result in
    let path = c.deref.result.now in
    let calls = opened ++ Closed path after ∷ [] in
    let seen = seen_as g.D.Sectors opened own c.in-Ok.store newest after path (IsAnswerFor own serial r) c.in-Ok.ensures.2 c.into_device.ensures c.deref.ensures
    (λ o content opening taken.
    (let k = fresh (own_shape own) (opened_again o) in
    answer_kept own serial o content base newest changes r opening (c.base.ensures k taken.keeps_them) (c.changes.ensures k taken.keeps_them) taken.newest_is c.version_with-zone.ensures.chosen)) in
    (calls, called_on _ _ _ opened (Closed path after ∷ []) c.in-Ok.ensures.1 c.close.ensures, picking_ends g.D.Sectors calls own serial r c.version_with-zone.ensures.failed seen)

pub returns-in-Err : goal.returns-in-Err
returns-in-Err g c = (c.in-Err.ensures.0, c.in-Err.ensures.1, inl c.in-Err.ensures.2)
