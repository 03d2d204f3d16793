-- A device of no sectors is of no format.
use Rattle.std.proofs.Common.{◌≡◌, ℕ, List, [], ◌∷◌, length, ap, arith}
use Rattle.dns_sectors.specs.Device.{Content}
use Rattle.dns_layout.specs.Sector.{sector_at, tag, root_tag_in}
use Rattle.dns_store.specs.Formats.{IsFormat}
use Rattle.dns_store.specs.declared.device_format.DeviceFormat.TheVariants.{Other}

pub none_there : (c : Content) → length c ≡ 0 → IsFormat (sector_at c 0) Other
unfolding sector_at tag root_tag_in
none_there [] is = (λ e. (let sizes : 0 ≡ 512 = ap (λ (x : List ℕ). length x) e in absurd (omega (arith, sizes))), λ e. absurd cc, λ e. absurd cc)
none_there (x ∷ c) is = absurd (omega (arith, is))
