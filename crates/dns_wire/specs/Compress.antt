-- Compressing computed: the plain program beside the property of Compressed.
use Rattle.std.specs.Prelude.{ℕ, ◌+◌, ◌/◌, ◌%◌, List, [], ◌∷◌, ◌++◌, length, take, drop, Option, Some, None}
use Rattle.std.specs.Prelude.{nat_lt, if◌then◌else◌}
use Rattle.std.specs.List.{find}
use Rattle.std.specs.Int.{w16, w32, to_be_bytes}
use Rattle.dns_names.specs.Name.{Labels, names_eq, wire, labels_of}
use Rattle.dns_records.specs.Types.{Field, Values, octet_count, Name, UncompressedName, Strings, form}
use Rattle.dns_records.specs.Types.{class_in}
use Rattle.dns_records.specs.Record.{Record}

-- A target: where a suffix of an earlier name occurs, the least offset first.
pub record Place : Type 0 where
  pub offset : ℕ
  pub suffix : Labels

abbrev pub place_of : List Place → Labels → Option Place
place_of places suffix = find (λ p. names_eq p.suffix suffix) places

abbrev pub pointer : ℕ → List ℕ
pointer offset = (192 + offset / 256) ∷ offset % 256 ∷ []

-- The fewest labels, and then a pointer to the rest, where some rest occurs earlier (RFC 1035 4.1.4).
abbrev pub compress_name : List Place → Labels → List ℕ
compress_name places [] = 0 ∷ []
compress_name places (label ∷ rest) = elim (place_of places (label ∷ rest)) [
  | Some p ↦ pointer p.offset
  | None ↦ length label ∷ label ++ compress_name places rest
]

-- The suffixes that a name written at an offset adds: one at each length octet that a pointer can name.
abbrev pub new_places : List Place → ℕ → Labels → List Place
new_places places at [] = []
new_places places at (label ∷ rest) = elim (place_of places (label ∷ rest)) [
  | Some p ↦ []
  | None ↦ if nat_lt at 16384
      then (record { offset = at; suffix = label ∷ rest }) ∷ new_places places (at + 1 + length label) rest
      else []
]

-- Octets, and the targets after them.
pub record Compressing : Type 0 where
  pub octets : List ℕ
  pub places : List Place

abbrev pub compressed_name : List Place → ℕ → Labels → Compressing
compressed_name places at name =
    record { octets = compress_name places name; places = places ++ new_places places at name }

-- The data of a record, by its parts. Uncompressed names are in full, and no pointer names them (RFC 2782).
abbrev pub compressed_fields : List Place → ℕ → List Field → List ℕ → Compressing
compressed_fields places at [] rdata = record { octets = rdata; places = places }
compressed_fields places at (Values vs ∷ fields) rdata =
    let after = compressed_fields places (at + octet_count vs) fields (drop (octet_count vs) rdata) in
    record { octets = take (octet_count vs) rdata ++ after.octets; places = after.places }
compressed_fields places at (Name ∷ fields) rdata =
    let name = labels_of rdata in
    let here = compressed_name places at name in
    let after =
    compressed_fields here.places (at + length here.octets) fields (drop (length (wire name)) rdata) in
    record { octets = here.octets ++ after.octets; places = after.places }
compressed_fields places at (UncompressedName ∷ fields) rdata = record { octets = rdata; places = places }
compressed_fields places at (Strings ∷ fields) rdata = record { octets = rdata; places = places }

abbrev pub compressed_rdata : List Place → ℕ → Record → Compressing
compressed_rdata places at r = elim (form r.rtype) [
  | None ↦ record { octets = r.rdata; places = places }
  | Some fields ↦ compressed_fields places at fields r.rdata
]

-- A record (RFC 1035 4.1.3).
abbrev pub compressed_record : List Place → ℕ → Record → Compressing
compressed_record places at r =
    let owner = compressed_name places at r.owner in
    let data_at = at + length owner.octets + 10 in
    let rdata = compressed_rdata owner.places data_at r in
    record {
      octets =
          owner.octets ++ to_be_bytes w16 r.rtype ++ to_be_bytes w16 class_in ++ to_be_bytes w32 r.ttl
          ++ to_be_bytes w16 (length rdata.octets) ++ rdata.octets;
      places = rdata.places;
    }

-- Records one after the other.
abbrev pub compressed_records : List Place → ℕ → List Record → List ℕ
compressed_records places at [] = []
compressed_records places at (r ∷ rs) =
    let here = compressed_record places at r in
    here.octets ++ compressed_records here.places (at + length here.octets) rs
