use Rattle.std.proofs.Common.{◌++◌, ◌∷◌, []}
use Rattle.dns_store.specs.Opens.{fresh}
use Rattle.dns_store.specs.Versions.{opened_again}
use Rattle.dns_configuration.proofs.Called.{called_on}
use Rattle.dns_devices.specs.DeviceCalls.{Closed}
use Rattle.dns_devices.specs.Stores.{own_shape}
use Rattle.dns_commands.specs.Diff.{IsDifferenceIn}
use Rattle.dns_commands.proofs.Differed.{difference_kept, diffing_ends}
use Rattle.dns_commands.proofs.Historied.{seen_as}
use Rattle.dns_commands.proofs.commands.diff.difference_in.Goals as goal

pub returns-in-Ok : goal.returns-in-Ok
returns-in-Ok g c =
    let own = c.args.own.now in
    let from = c.args.from in
    let to = c.args.to in
    let r = c.difference_from-found.result in
    let changes = c.changes.result.now in
    let base = c.base.result.now in
    let newest = c.in-Ok.newest in
    let opened = c.in-Ok.ensures.0 in
    let after = c.into_device.result in
    let path = c.deref.result.now in
    let calls = opened ++ Closed path after ∷ [] in
    let seen = seen_as g.D.Sectors opened own c.in-Ok.store newest after path (IsDifferenceIn own from to r) c.in-Ok.ensures.2 c.into_device.ensures c.deref.ensures
    (λ o content opening taken.
    (let k = fresh (own_shape own) (opened_again o) in
    difference_kept own from to o content base newest changes r opening (c.base.ensures k taken.keeps_them) (c.changes.ensures k taken.keeps_them) taken.newest_is c.difference_from-found.ensures.found)) in
    (calls, called_on _ _ _ opened (Closed path after ∷ []) c.in-Ok.ensures.1 c.close.ensures, diffing_ends g.D.Sectors calls own from to r c.difference_from-found.ensures.failed seen)
