-- What a file in memory holds.
use Rattle.std.specs.Prelude.{ℕ, List}
use Rattle.dns_sectors.specs.MemoryFile.{file_after_all}
use Rattle.dns_sectors.specs.declared.memory_file.Change.{Change}
use Rattle.dns_sectors.specs.declared.memory_file.MemoryFile.{MemoryFile}

-- the octets when its record began, and the changes since
abbrev pub start_of : MemoryFile → List ℕ
start_of file = file.start.items

abbrev pub changes_of : MemoryFile → List Change
changes_of file = file.changes.items

abbrev pub file_octets : MemoryFile → List ℕ
file_octets file = file_after_all (start_of file) (changes_of file)
