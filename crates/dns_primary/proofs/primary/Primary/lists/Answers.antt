use Rattle.std.proofs.Common.{List, sym, subst}
use Rattle.dns_versions.specs.Each.{Each2}
use Rattle.dns_primary.specs.declared.primary.ZoneSpec.{ZoneSpec}
use Rattle.dns_primary.specs.Keeps.{IsSet}
use Rattle.dns_primary.proofs.Listing.{listed}
use Rattle.dns_primary.proofs.primary.Primary.lists.Goals as goal

pub returns : goal.returns
returns g c = λ m kept.
    let told = c.are_listing.ensures in
    let set = subst (λ (settings : List ZoneSpec). Each2 IsSet settings m.zones) (sym c.deref.ensures.value) kept.settings_are in
    let zones = listed c.args.address c.deref.result.now m.zones set in
    (λ is. zones.0 (told.0 is), λ is. told.1 (zones.1 is))
