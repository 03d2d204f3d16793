-- What is wrong with a file or a word, and the line that reports it.
use Rattle.std.specs.Prelude.{◌≡◌, ℕ, Bool, true, false, ◌||◌, nat_lt, List, [], ◌∷◌, ◌++◌, flat_map, Option}
use Rattle.std.specs.Prelude.{Some, None, Result, Ok, Err, codes, decimal, if◌then◌else◌}
use Rattle.std.specs.Bool.{MatchBool}
use Rattle.std.specs.Io.KnownBytes.{Appends}
use Rattle.dns_names.specs.Name.{Labels}
use Rattle.dns_names.specs.Text.{escaped}
use Rattle.dns_records.specs.Record.{Record}
use Rattle.dns_zone.specs.Zone.{zone_fault}
use Rattle.dns_zone.specs.declared.ZoneError.{ZoneError}
use Rattle.dns_zone.specs.declared.ZoneError.TheVariants as zone
use Rattle.dns_masterfile.specs.Reading.{read_file}
use Rattle.dns_masterfile.specs.declared.FileError.{FileError}
use Rattle.dns_masterfile.specs.declared.FileError.TheVariants as file
use Rattle.dns_configuration.specs.declared.files.Fault.{Fault}
use Rattle.dns_configuration.specs.declared.files.Fault.TheVariants.{OutOfMemory, Unreadable, BadConfig}
use Rattle.dns_configuration.specs.declared.files.Fault.TheVariants.{BadOrigin, Syntax, Entry, NoZone}

-- The name of each refusal.
abbrev pub entry_word : FileError → List ℕ
entry_word file.OutOfMemory = codes "OutOfMemory"
entry_word file.Syntax = codes "Syntax"
entry_word file.BadName = codes "BadName"
entry_word file.BadNumber = codes "BadNumber"
entry_word file.BadData = codes "BadData"
entry_word file.NoTtl = codes "NoTtl"
entry_word file.NoOwner = codes "NoOwner"
entry_word file.UnknownType = codes "UnknownType"
entry_word file.TooLong = codes "TooLong"

abbrev pub zone_word : ZoneError → List ℕ
zone_word zone.OutOfMemory = codes "OutOfMemory"
zone_word zone.NoSoa = codes "NoSoa"
zone_word zone.ManySoa = codes "ManySoa"
zone_word zone.NoNs = codes "NoNs"
zone_word zone.OutOfZone = codes "OutOfZone"
zone_word zone.Duplicate = codes "Duplicate"
zone_word zone.CnameAndOther = codes "CnameAndOther"
zone_word zone.WildcardNs = codes "WildcardNs"
zone_word zone.TooMany = codes "TooMany"

-- Memory was refused, of which nothing is reported.
abbrev pub is_memory : Fault → Bool
is_memory OutOfMemory = true
is_memory (Entry line file.OutOfMemory) = true
is_memory (NoZone zone.OutOfMemory) = true
is_memory _ = false

-- What is wrong, after the path or the text that it is of.
abbrev pub fault_words : Fault → List ℕ
fault_words OutOfMemory = codes ": OutOfMemory"
fault_words Unreadable = codes ": Unreadable"
fault_words BadConfig = codes ": BadConfig"
fault_words BadOrigin = codes ": BadOrigin"
fault_words (Syntax number) = codes ":" ++ decimal number ++ codes ": Syntax"
fault_words (Entry number e) = codes ":" ++ decimal number ++ codes ": " ++ entry_word e
fault_words (NoZone e) = codes ": " ++ zone_word e

-- An octet of a path or of a word: what is neither a blank nor visible ASCII is `\DDD` (RFC 1035 5.1).
abbrev pub word_octet : ℕ → List ℕ
word_octet c = if nat_lt c 32 || nat_lt 126 c then escaped c else c ∷ []

abbrev pub printed_word : List ℕ → List ℕ
printed_word text = flat_map word_octet text

abbrev pub fault_text : List ℕ → Fault → List ℕ
fault_text what fault = printed_word what ++ fault_words fault

abbrev pub line : List ℕ → List ℕ
line text = text ++ 10 ∷ []

-- The records of a master file that are a zone of that apex, or the fault: that it can't be read, that of the
-- first entry which is refused, or the lowest of the zone.
abbrev pub records_unless : List Record → Option ZoneError → Result (List Record) Fault
records_unless records None = Ok records
records_unless records (Some e) = Err (NoZone e)

abbrev pub as_zone : Labels → Result (List Record) (ℕ × FileError) → Result (List Record) Fault
as_zone apex (Ok records) = records_unless records (zone_fault apex records)
as_zone apex (Err e) = Err (Entry e.0 e.1)

abbrev pub loaded : Option (List ℕ) → Labels → Result (List Record) Fault
loaded None apex = Err Unreadable
loaded (Some octets) apex = as_zone apex (read_file octets apex)

-- How a run that met a fault goes on: of refused memory nothing is reported, and the status is 3; else the
-- line of the fault is, and it is 1.
abbrev pub IsTold : List ℕ → Fault → Option (List ℕ) → Option (List ℕ) → ℕ → Type 0
IsTold what fault err err_after status =
    MatchBool (is_memory fault) (status ≡ 3)
    ((status ≡ 1) × Appends err err_after (line (fault_text what fault)))
