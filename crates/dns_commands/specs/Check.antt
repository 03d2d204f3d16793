-- What `check` says of a file.
use Rattle.std.specs.Prelude.{◌≡◌, ◌⊎◌, ℕ, ◌≤◌, List, [], ◌++◌, length, Option, Ok, Err, Contains, codes}
use Rattle.std.specs.Prelude.{decimal}
use Rattle.std.specs.Io.KnownBytes.{Appends, Keeps}
use Rattle.dns_names.specs.Name.{Labels}
use Rattle.dns_names.specs.declared.NameError.{NameError}
use Rattle.dns_names.specs.Text.{name_of_text}
use Rattle.dns_records.specs.Types.{type_soa}
use Rattle.dns_records.specs.Record.{Record, serial_of}
use Rattle.dns_configuration.specs.declared.files.Fault.{Fault}
use Rattle.dns_configuration.specs.declared.files.Fault.TheVariants.{BadOrigin}
use Rattle.dns_configuration.specs.Faults.{fault_text, line, loaded}

-- What is printed of a file that has so many records and that serial.
abbrev pub ok_text : ℕ → ℕ → List ℕ
ok_text count serial = codes "ok " ++ decimal count ++ codes " records serial " ++ decimal serial

-- The file holds a zone of that origin, and the text says how many records it has and the serial of their
-- SOA.
pub record IsGood (octets : Option (List ℕ)) (origin text : List ℕ) : Type 0 where
  pub apex : Labels
  pub records : List Record
  pub soa : Record
  pub named : name_of_text [] origin ≡ Ok apex
  pub holds : loaded octets apex ≡ Ok records
  pub has : Contains records soa × (soa.rtype ≡ type_soa)
  pub says : text ≡ ok_text (length records) (serial_of soa)

-- The origin is no name, and the text says so.
pub record IsOriginNoName (origin text : List ℕ) : Type 0 where
  pub error : NameError
  pub refused : name_of_text [] origin ≡ Err error
  pub says : text ≡ fault_text origin BadOrigin

-- The file holds no zone of that origin, and the text says why.
pub record IsBad (octets : Option (List ℕ)) (path origin text : List ℕ) : Type 0 where
  pub apex : Labels
  pub fault : Fault
  pub named : name_of_text [] origin ≡ Ok apex
  pub refused : loaded octets apex ≡ Err fault
  pub says : text ≡ fault_text path fault

-- What a run of `check` wrote to the two writers, by its exit status. With status 3 a writer failed or memory
-- was refused.
pub record CheckEnds (octets : Option (List ℕ)) (path origin : List ℕ)
    (out out_after err err_after : Option (List ℕ)) (status : ℕ) : Type 0 where
  pub done : status ≡ 0
      → (text : List ℕ) × IsGood octets origin text × Appends out out_after (line text) × Keeps err err_after
  pub refused : status ≡ 1
      → (text : List ℕ)
      × (IsOriginNoName origin text ⊎ IsBad octets path origin text)
      × Appends err err_after (line text)
      × Keeps out out_after
  pub others : status ≤ 1 ⊎ (status ≡ 3)
