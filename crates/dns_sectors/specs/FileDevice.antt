-- A device in a file, as its contracts see it.
use Rattle.std.specs.Prelude.{◌≡◌, ℕ, List}
use Rattle.dns_sectors.specs.Device.{Content}
use Rattle.dns_sectors.specs.FileOctets.{sectors}
use Rattle.dns_sectors.specs.declared.file.File.{Ghosts}
use Rattle.dns_sectors.specs.declared.file_device.FileSectors.{FileSectors}

-- the sectors of what a crash may leave of the file
abbrev pub SectorsOf : ℕ → (List ℕ → Type 0) → Content → Type 0
SectorsOf count outcomes c = (octets : List ℕ) × outcomes octets × (c ≡ sectors count octets)

module _ {F : Type 0} {g : Ghosts F} where
  abbrev pub file_of : FileSectors F g → F
  file_of device = device.file

  abbrev pub sector_count : FileSectors F g → ℕ
  sector_count device = device.len

  abbrev pub failures_of : FileSectors F g → ℕ
  failures_of device = device.failures
