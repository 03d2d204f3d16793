-- The strings of a TXT.
use Rattle.std.specs.Prelude.{◌≡◌, ◌≢◌, ℕ, zero, suc, ◌<◌, List, [], ◌∷◌, length, take, drop}
use Rattle.std.specs.List.{AllByRecursion, flat_map}
use Rattle.dns_records.specs.Types.{type_txt}
use Rattle.dns_records.specs.Record.{Data, string}
use Rattle.dns_records.specs.declared.record.RecordError.{RecordError}
use Rattle.dns_records.specs.declared.record.RecordError.TheVariants.{OutOfMemory, BadData, TooLong}
use Rattle.dns_records.specs.declared.record.RecordError.TheVariants.{UnknownType}

-- The strings that octets are: `strings_of (flat_map string strings)` is the strings.
abbrev pub strings_within : ℕ → List ℕ → List (List ℕ)
strings_within zero octets = []
strings_within (suc more) [] = []
strings_within (suc more) (n ∷ octets) = take n octets ∷ strings_within more (drop n octets)

abbrev pub strings_of : List ℕ → List (List ℕ)
strings_of octets = strings_within (length octets) octets

-- The octets are strings, of at most 255 octets each (RFC 1035 3.3).
pub record AreStrings (octets : List ℕ) : Type 0 where
  pub whole : flat_map string (strings_of octets) ≡ octets
  pub short : AllByRecursion (λ s. length s < 256) (strings_of octets)

-- One string or more (RFC 1035 3.3.14).
abbrev pub txt_data : List (List ℕ) → Data
txt_data strings = record { rtype = type_txt; octets = flat_map string strings }

pub record FitsTxt (strings : List (List ℕ)) : Type 0 where
  pub some : strings ≢ []
  pub short : AllByRecursion (λ s. length s < 256) strings

-- Why strings are no data: there is none, or one that is too long for its length octet; or they take too many
-- octets.
abbrev pub RefusesTxt : List (List ℕ) → RecordError → Type 0
RefusesTxt strings OutOfMemory = Unit {0}
RefusesTxt strings BadData = FitsTxt strings → ⊥
RefusesTxt strings TooLong = FitsTxt strings × (4096 < length (flat_map string strings))
RefusesTxt strings UnknownType = ⊥
