-- What a device's first sector tells of its format.
use Rattle.std.specs.Prelude.{◌≡◌, ◌≢◌, ℕ, List}
use Rattle.dns_layout.specs.Sector.{blank, tag, root_tag_in}
use Rattle.dns_layout.specs.declared.format.Format.TheVariants as formats
use Rattle.dns_store.specs.declared.device_format.DeviceFormat.{DeviceFormat}
use Rattle.dns_store.specs.declared.device_format.DeviceFormat.TheVariants.{Blank, One, Two, Other}

-- The sector is zeros, or has the tag of a root of either format, or neither.
abbrev pub IsFormat : List ℕ → DeviceFormat → Type 0
IsFormat x Blank = x ≡ blank
IsFormat x One = tag x ≡ root_tag_in formats.One
IsFormat x Two = tag x ≡ root_tag_in formats.Two
IsFormat x Other = (x ≢ blank) × (tag x ≢ root_tag_in formats.One) × (tag x ≢ root_tag_in formats.Two)
