use Rattle.std.proofs.Common.{◌≡◌, ◌-◌, List, length, take, drop, sym, ap, subst, arith}
use Rattle.dns_changes.specs.Change.{Change}
use Rattle.dns_store.specs.Versions.{version_at}
use Rattle.dns_store.specs.Recovered.{AreLed}
use Rattle.dns_store.proofs.Along.{led_shown}
use Rattle.dns_versions.proofs.zone_versions.ZoneVersions.changes.Goals as goal

pub returns : goal.returns
returns g c zone k held =
    let changes = c.changes-changes.result.now in
    let staged : c.saturating_sub-staged.result ≡ length k.staged = omega (arith, c.saturating_sub-staged.ensures, c.newest.ensures k held.kept, held.number_is) in
    let shown : c.saturating_sub-shown.result ≡ length changes - length k.staged = omega (arith, c.saturating_sub-shown.ensures, staged) in
    subst (λ (cs : List Change). AreLed (version_at k k.base) (drop k.base k.shown) cs) (sym (ap (λ n. take n changes) shown))
    (led_shown k changes (c.changes-changes.ensures k held.kept))
