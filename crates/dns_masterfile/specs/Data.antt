-- The data of a record in text, by the one table of the parts of each type.
use Rattle.std.specs.Prelude.{◌≡◌, ◌≢◌, ℕ, ◌^◌, ◌≤◌, Bool, false, ◌==◌, MatchOption, List, [], ◌∷◌, ◌++◌}
use Rattle.std.specs.Prelude.{length, map, flat_map, option_map, unwrap_or, Option, Some, Ok, bytes_eq, codes}
use Rattle.std.specs.List.{find}
use Rattle.std.specs.Option.{option_or}
use Rattle.std.specs.Int.{w16, w32, to_be_bytes}
use Rattle.std.specs.Char.{to_ascii_uppercase}
use Rattle.dns_names.specs.Name.{Labels, wire}
use Rattle.dns_records.specs.Types.{Field, Name, UncompressedName, Strings, form, type_a, type_ns, type_cname}
use Rattle.dns_records.specs.Types.{type_soa, type_ptr, type_mx, type_txt, type_aaaa, type_srv, Ipv4, Ipv6}
use Rattle.dns_records.specs.Types.{U16, U32, Value, Values}
use Rattle.dns_records.specs.Record.{string}
use Rattle.dns_names.specs.Text.{name_of_text}
use Rattle.dns_policy.specs.Address.{ipv4_of_text, ipv6_of_text}
use Rattle.dns_masterfile.specs.Text.{number_of_text, string_of_text, each_of}
use Rattle.dns_masterfile.specs.Pieces.{Word, Bare, Quoted, text_of}
use Rattle.dns_masterfile.specs.Opaque.{type_of_number, word_of_number, IsOpaqueText}

-- A number or an address.
abbrev pub octets_of_text : Value → List ℕ → Option (List ℕ)
octets_of_text U16 text = option_map (to_be_bytes w16) (number_of_text (2 ^ 16) text)
octets_of_text U32 text = option_map (to_be_bytes w32) (number_of_text (2 ^ 32) text)
octets_of_text Ipv4 text = ipv4_of_text text
octets_of_text Ipv6 text = ipv6_of_text text

-- The word is a name, which is never quoted.
abbrev pub IsNameWord : Labels → Word → Labels → Type 0
IsNameWord origin (Bare text) name = name_of_text origin text ≡ Ok name
IsNameWord origin (Quoted text) name = ⊥

-- The words are the octets, one each.
abbrev pub AreValues : List Value → List Word → List ℕ → Type 0
AreValues [] words octets = (words ≡ []) × (octets ≡ [])
AreValues (f ∷ fs) words octets =
    (word : Word) × (more : List Word) × (front rest : List ℕ) × (words ≡ word ∷ more)
    × (octets ≡ front ++ rest) × (octets_of_text f (text_of word) ≡ Some front) × AreValues fs more rest

abbrev pub IsFieldText : Labels → Field → List Word → List ℕ → Type 0
IsFieldText origin (Values vs) words octets = AreValues vs words octets
IsFieldText origin Name words octets =
    (word : Word) × (name : Labels) × (words ≡ word ∷ []) × IsNameWord origin word name × (octets ≡ wire name)
IsFieldText origin UncompressedName words octets =
    (word : Word) × (name : Labels) × (words ≡ word ∷ []) × IsNameWord origin word name × (octets ≡ wire name)
IsFieldText origin Strings words octets =
    (strings : List (List ℕ)) × (words ≢ [])
    × (each_of (λ w. string_of_text (text_of w)) words ≡ Some strings)
    × (octets ≡ flat_map string strings) × (length octets ≤ 4096)

-- The words are the parts of the data, one after the other.
abbrev pub IsDataText : Labels → List Field → List Word → List ℕ → Type 0
IsDataText origin [] words rdata = (words ≡ []) × (rdata ≡ [])
IsDataText origin (f ∷ fs) words rdata =
    (here more : List Word) × (front rest : List ℕ) × (words ≡ here ++ more) × (rdata ≡ front ++ rest)
    × IsFieldText origin f here front × IsDataText origin fs more rest

-- The words are the data of the type: the parts of its form, or octets where it has none.
abbrev pub IsRDataText : Labels → ℕ → List Word → List ℕ → Type 0
IsRDataText origin rtype words rdata =
    MatchOption (form rtype) (IsOpaqueText words rdata) (λ fields. IsDataText origin fields words rdata)

-- Words that are read without case.
abbrev pub is_keyword : List ℕ → Word → Bool
is_keyword keyword (Quoted text) = false
is_keyword keyword (Bare text) = bytes_eq (map to_ascii_uppercase text) keyword

-- The types that have a form, and their words (RFC 1035 3.2.2, RFC 3596 2.1, RFC 2782).
abbrev pub type_words : List (ℕ × List ℕ)
type_words =
    (type_a, codes "A") ∷ (type_ns, codes "NS") ∷ (type_cname, codes "CNAME") ∷ (type_soa, codes "SOA")
    ∷ (type_ptr, codes "PTR") ∷ (type_mx, codes "MX") ∷ (type_txt, codes "TXT") ∷ (type_aaaa, codes "AAAA")
    ∷ (type_srv, codes "SRV") ∷ []

abbrev pub type_by_name : Word → Option ℕ
type_by_name word = option_map (λ t. t.0) (find (λ t. is_keyword t.1 word) type_words)

abbrev pub name_of_type : ℕ → Option (List ℕ)
name_of_type rtype = option_map (λ t. t.1) (find (λ t. t.0 == rtype) type_words)

-- Every other type of which a zone can have records is written by its number.
abbrev pub type_of_word : Word → Option ℕ
type_of_word word = option_or (type_by_name word) (type_of_number word)

abbrev pub word_of_type : ℕ → List ℕ
word_of_type rtype = unwrap_or (name_of_type rtype) (word_of_number rtype)
