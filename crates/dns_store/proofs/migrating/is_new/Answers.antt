use Rattle.std.proofs.Common.{◌≡◌, subst}
use Rattle.dns_layout.specs.Sector.{sector_at}
use Rattle.dns_store.specs.Formats.{IsFormat}
use Rattle.dns_store.specs.declared.device_format.DeviceFormat.{DeviceFormat}
use Rattle.dns_store.specs.declared.device_format.DeviceFormat.TheVariants as told
use Rattle.dns_store.proofs.Anew.{told_other}
use Rattle.dns_store.proofs.migrating.is_new.Goals as goal

blank_not : told.Blank ≡ told.Two → ⊥
blank_not same = absurd (cc same)

one_not : told.One ≡ told.Two → ⊥
one_not same = absurd (cc same)

pub returns-in-Blank-clause-new : goal.returns-in-Blank-clause-new
returns-in-Blank-clause-new g c honest =
    let x = sector_at (g.D.Sectors.seen c.args.device.now) 0 in
    (λ no. absurd (cc no), λ tagged. absurd (told_other x told.Blank (subst (λ (f : DeviceFormat). IsFormat x f) c.in-Blank.is (c.in_ok-format_of.ensures.format honest)) blank_not tagged))

pub returns-in-One-clause-new : goal.returns-in-One-clause-new
returns-in-One-clause-new g c honest =
    let x = sector_at (g.D.Sectors.seen c.args.device.now) 0 in
    (λ no. absurd (cc no), λ tagged. absurd (told_other x told.One (subst (λ (f : DeviceFormat). IsFormat x f) c.in-One.is (c.in_ok-format_of.ensures.format honest)) one_not tagged))
