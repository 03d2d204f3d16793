-- The printed form of a zone.
use Rattle.std.specs.Prelude.{ℕ, Option, None, Some, Bool, true, false, not, ◌==◌, List, [], ◌∷◌, ◌++◌}
use Rattle.std.specs.Prelude.{length, take, drop, filter, map, flat_map, decimal, codes}
use Rattle.std.specs.Net.Text.{ipv4_text}
use Rattle.dns_names.specs.Name.{labels_of, wire}
use Rattle.dns_names.specs.Text.{printed_name}
use Rattle.dns_records.specs.Types.{Field, Name, UncompressedName, Strings, form, type_soa, Ipv4, Ipv6, U16}
use Rattle.dns_records.specs.Types.{U32, Value, Values, octet_count, size_of}
use Rattle.dns_records.specs.Record.{Record, Data, data_of, number_of}
use Rattle.dns_records.specs.TextStrings.{strings_of}
use Rattle.dns_masterfile.specs.Text.{printed_string, printed_ipv6}
use Rattle.dns_masterfile.specs.Data.{word_of_type}
use Rattle.dns_masterfile.specs.Opaque.{opaque_words}

abbrev pub printed_as : Value → List ℕ → List ℕ
printed_as U16 octets = decimal (number_of octets)
printed_as U32 octets = decimal (number_of octets)
printed_as Ipv4 octets = ipv4_text octets
printed_as Ipv6 octets = printed_ipv6 octets

abbrev pub value_words : List Value → List ℕ → List (List ℕ)
value_words [] octets = []
value_words (f ∷ fs) octets =
    printed_as f (take (size_of f) octets) ∷ value_words fs (drop (size_of f) octets)

-- The words of data in plain form.
abbrev pub data_words : List Field → List ℕ → List (List ℕ)
data_words [] octets = []
data_words (Values vs ∷ fs) octets =
    value_words vs (take (octet_count vs) octets) ++ data_words fs (drop (octet_count vs) octets)
data_words (Name ∷ fs) octets =
    let name = labels_of octets in printed_name name ∷ data_words fs (drop (length (wire name)) octets)
data_words (UncompressedName ∷ fs) octets = let name = labels_of octets in printed_name name
    ∷ data_words fs (drop (length (wire name)) octets)
data_words (Strings ∷ fs) octets = map printed_string (strings_of octets)

-- The words of the data of a type: of the parts of its form, or of its octets where it has none.
abbrev pub words_by_form : Option (List Field) → List ℕ → List (List ℕ)
words_by_form None octets = opaque_words octets
words_by_form (Some fields) octets = data_words fields octets

abbrev pub rdata_words : ℕ → List ℕ → List (List ℕ)
rdata_words rtype octets = words_by_form (form rtype) octets

-- Words, each preceded by a blank.
abbrev pub spaced : List (List ℕ) → List ℕ
spaced words = flat_map (λ word. 32 ∷ word) words

abbrev pub printed_data : Data → List ℕ
printed_data d = spaced (rdata_words d.rtype d.octets)

-- `owner TTL IN TYPE RDATA`, ended by LF.
abbrev pub printed_record : Record → List ℕ
printed_record r =
    printed_name r.owner ++ spaced (decimal r.ttl ∷ codes "IN" ∷ word_of_type r.rtype ∷ [])
    ++ printed_data (data_of r) ++ 10 ∷ []

-- The SOA, or the others.
abbrev pub is_wanted : Bool → Record → Bool
is_wanted true r = r.rtype == type_soa
is_wanted false r = not (r.rtype == type_soa)

-- The SOA first, then the others in their order.
abbrev pub in_print_order : List Record → List Record
in_print_order records = filter (is_wanted true) records ++ filter (is_wanted false) records

abbrev pub printed_zone : List Record → List ℕ
printed_zone records = flat_map printed_record (in_print_order records)
