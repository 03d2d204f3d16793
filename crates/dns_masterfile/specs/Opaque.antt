-- Types without a form, and their data, in text (RFC 3597 5).
use Rattle.std.specs.Prelude.{◌≡◌, ℕ, ◌^◌, ◌≤◌, Bool, true, false, not, ◌&&◌, ◌==◌, List, [], ◌∷◌, ◌++◌}
use Rattle.std.specs.Prelude.{length, take, drop, map, flat_map, Option, Some, None, Ok, bytes_eq, codes}
use Rattle.std.specs.Prelude.{decimal, if◌then◌else◌}
use Rattle.std.specs.Char.{to_ascii_uppercase}
use Rattle.hex.specs.Hex.{decode_of, encode_lower}
use Rattle.dns_records.specs.Types.{is_opaque}
use Rattle.dns_masterfile.specs.Text.{number_of_text}
use Rattle.dns_masterfile.specs.Pieces.{Word, Bare, Quoted, text_of}

-- The word of a type by its number: `TYPE`, without regard to case, and the number without leading zeros.
abbrev pub word_of_number : ℕ → List ℕ
word_of_number t = codes "TYPE" ++ decimal t

abbrev pub begins_with_zero : List ℕ → Bool
begins_with_zero [] = false
begins_with_zero (c ∷ text) = c == 48

abbrev pub opaque_only : Option ℕ → Option ℕ
opaque_only None = None
opaque_only (Some t) = if is_opaque t then Some t else None

abbrev pub is_numbered : List ℕ → Bool
is_numbered text =
    bytes_eq (map to_ascii_uppercase (take 4 text)) (codes "TYPE") && not (begins_with_zero (drop 4 text))

abbrev pub type_of_number : Word → Option ℕ
type_of_number (Quoted text) = None
type_of_number (Bare text) =
    if is_numbered text then opaque_only (number_of_text (2 ^ 32) (drop 4 text)) else None

-- The word `\#`.
abbrev pub opaque_mark : List ℕ
opaque_mark = 92 ∷ 35 ∷ []

abbrev pub is_opaque_mark : Word → Bool
is_opaque_mark (Quoted text) = false
is_opaque_mark (Bare text) = bytes_eq text opaque_mark

-- The words are the octets: `\#`, how many there are, and their hexadecimal digits, in any number of words.
abbrev pub IsOpaqueText : List Word → List ℕ → Type 0
IsOpaqueText words octets =
    (mark size : Word) × (digits : List Word) × (words ≡ mark ∷ size ∷ digits) × (is_opaque_mark mark ≡ true)
    × (number_of_text (2 ^ 16) (text_of size) ≡ Some (length octets)) × (length octets ≤ 4096)
    × (decode_of (flat_map text_of digits) ≡ Ok octets)

-- An octet in two digits, in lower case.
abbrev pub hex_octet : ℕ → List ℕ
hex_octet octet = encode_lower (octet ∷ [])

-- The words that octets are printed as: the digits are one word, if there are any.
abbrev pub digit_words : List ℕ → List (List ℕ)
digit_words [] = []
digit_words (c ∷ octets) = flat_map hex_octet (c ∷ octets) ∷ []

abbrev pub opaque_words : List ℕ → List (List ℕ)
opaque_words octets = opaque_mark ∷ decimal (length octets) ∷ digit_words octets
