use Rattle.std.proofs.Common.{map, refl, sym, subst}
use Rattle.dns_versions.specs.Each.{Each2}
use Rattle.dns_versions.specs.Held.{HasVersions}
use Rattle.dns_primary.specs.Machine.{kept_of}
use Rattle.dns_primary.specs.Keeps.{IsSet}
use Rattle.dns_primary.specs.Queue.{asked_of}
use Rattle.dns_primary.proofs.Flushed.{moved3}
use Rattle.dns_primary.proofs.primary.Primary.admit.Goals as goal

pub returns-clause-admission : goal.returns-clause-admission
returns-clause-admission g c m kept =
    c.admit.ensures.admission m.zones (asked_of c.args.update.now)
    (moved3 (sym c.deref.ensures.value) (sym c.deref-2.ensures.value) (map kept_of m.zones) (λ z b k. HasVersions g.S.ZoneStore.keeps z b k) kept.zones_are)
    (subst (λ l. Each2 IsSet l m.zones) (sym c.deref-3.ensures.value) kept.settings_are) refl refl
