-- What a reader takes from the words of an entry.
use Rattle.std.specs.Prelude.{◌≡◌, ◌⊎◌, ℕ, ◌+◌, ◌<◌, ◌≤◌, nat_lt, List, [], ◌∷◌, ◌++◌, length}
use Rattle.std.specs.Prelude.{Some, None, Ok, Err, ok_or}
use Rattle.dns_records.specs.Types.{Field, Name, UncompressedName, Strings, Value, Values, octet_count}
use Rattle.dns_records.specs.Types.{size_of}
use Rattle.dns_records.specs.Record.{IsField, string}
use Rattle.dns_masterfile.specs.declared.FileError.{FileError}
use Rattle.dns_masterfile.specs.declared.FileError.TheVariants.{OutOfMemory, BadData}
use Rattle.dns_masterfile.specs.Pieces.{Word}
use Rattle.dns_masterfile.specs.Text.{string_of_text}
use Rattle.dns_masterfile.specs.Data.{octets_of_text}
use Rattle.dns_masterfile.specs.Reading.{ReadResult, TakenValue, ◌>>=◌, fault_of_value, fits_data, next_word}
use Rattle.dns_masterfile.specs.Reading.{take_strings}
use Rattle.dns_masterfile.specs.Left.{Left}

-- The value is taken from the words that were left, and the file after them is unchanged.
abbrev pub TakesValue : {A : Type 0} → (List Word → TakenValue A) → Left → Left → A → Type 0
TakesValue taken old new value =
    (taken old.words ≡ Ok (value, new.words)) × (new ≡ record old { words = new.words })

-- Memory was refused, or that is the fault.
abbrev pub RefusesFor : {A : Type 0} → ReadResult A → FileError → Type 0
RefusesFor outcome e = (e ≡ OutOfMemory) ⊎ (outcome ≡ Err e)

-- Octets are taken, and are appended to those before.
abbrev pub Puts : (List Word → TakenValue (List ℕ)) → (List ℕ → Type 0) → Left → Left → List ℕ → List ℕ
    → Type 0
Puts taken Is old new before after =
    (octets : List ℕ) × TakesValue taken old new octets × (after ≡ before ++ octets) × Is octets

-- The words that stay are what a function leaves of them.
abbrev pub Skips : (List Word → List Word) → Left → Left → Type 0
Skips skip old new = new ≡ record old { words = skip old.words }

-- The octets are so many.
abbrev pub IsSized : List Value → List ℕ → Type 0
IsSized fs octets = length octets ≡ octet_count fs

-- The text is a number or an address, whose octets are appended to those before.
abbrev pub PutsValue : Value → List ℕ → List ℕ → List ℕ → Type 0
PutsValue f text before after =
    (octets : List ℕ) × (octets_of_text f text ≡ Some octets) × (after ≡ before ++ octets)
    × (length octets ≡ size_of f)

abbrev pub RefusesValue : Value → List ℕ → FileError → Type 0
RefusesValue f text e = (e ≡ OutOfMemory) ⊎ ((octets_of_text f text ≡ None) × (e ≡ fault_of_value f))

-- The octets of a string after so many octets of strings.
abbrev pub string_at : ℕ → List ℕ → ReadResult (List ℕ)
string_at size text =
    ok_or (string_of_text text) BadData >>= λ octets.
    fits_data (nat_lt 4096 (size + 1 + length octets)) >>= λ _. Ok octets

-- The text is a string, which is appended to the octets before, and so many octets are strings then.
abbrev pub PutsString : List ℕ → ℕ → List ℕ → List ℕ → ℕ → Type 0
PutsString text size before after now =
    (octets : List ℕ) × (string_at size text ≡ Ok octets) × (after ≡ before ++ string octets)
    × (now ≡ size + 1 + length octets) × (now ≤ 4096) × (length octets < 256)

-- One string or more.
abbrev pub strings_in : List Word → TakenValue (List ℕ)
strings_in words = next_word words >>= λ first. take_strings 0 words >>= λ octets. Ok (octets, [])

-- The octets are such a part of data, and are not too many.
abbrev pub FitName : List ℕ → Type 0
FitName octets = IsField Name octets × (length octets ≤ 255)

abbrev pub FitStrings : List ℕ → Type 0
FitStrings octets = IsField Strings octets × (length octets ≤ 4096)

abbrev pub FitField : Field → List ℕ → Type 0
FitField (Values vs) octets = IsSized vs octets
FitField Name octets = FitName octets
FitField UncompressedName octets = FitName octets
FitField Strings octets = FitStrings octets

abbrev pub FitFields : List Field → List ℕ → Type 0
FitFields [] octets = octets ≡ []
FitFields (f ∷ fs) octets =
    (front rest : List ℕ) × (octets ≡ front ++ rest) × FitField f front × FitFields fs rest
