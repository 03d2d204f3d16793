-- When a text is compressed, over the whole text.
use Rattle.std.specs.Prelude.{◌≡◌, ℕ, ◌+◌, ◌<◌, ◌≤◌, List, [], ◌∷◌, ◌++◌, length, take, drop, Some, None}
use Rattle.std.specs.Prelude.{MatchOption, Contains, slice_range}
use Rattle.std.specs.Int.{w16, w32, to_be_bytes}
use Rattle.dns_names.specs.Name.{Labels, wire, labels_of}
use Rattle.dns_records.specs.Types.{Field, Values, octet_count, Name, UncompressedName, Strings, form}
use Rattle.dns_records.specs.Types.{class_in}
use Rattle.dns_records.specs.Record.{Record}
use Rattle.dns_wire.specs.Compress.{Place, compress_name, place_of, pointer}
use Rattle.dns_wire.specs.Text.{Reply, header_octets, question_octets}

-- A name field that pointers may name: the name, and from which offset up to which it is written.
pub record Used : Type 0 where
  pub from : ℕ
  pub to : ℕ
  pub name : Labels

-- The octets of labels: the length octet before each.
abbrev pub run_octets : Labels → List ℕ
run_octets [] = []
run_octets (label ∷ rest) = length label ∷ label ++ run_octets rest

-- A suffix occurs at an offset: that of the length octet of a label inside an earlier name field, where the
-- suffix is what the name of that field has from this label on.
pub record OccursAt (earlier : List Used) (offset : ℕ) (suffix : Labels) : Type 0 where
  pub low : offset < 16384
  pub field : Used
  pub among : Contains earlier field
  pub before : Labels
  pub label : List ℕ
  pub rest : Labels
  pub name : field.name ≡ before ++ label ∷ rest
  pub position : offset ≡ field.from + length (run_octets before)
  pub inside : offset + 1 + length label < field.to
  pub is : suffix ≡ label ∷ rest

-- No suffix of the name longer than the rest occurs.
abbrev pub NoneLonger : (ℕ → Labels → Type 0) → Labels → Labels → Type 0
NoneLonger Stands front rest =
    (a b : Labels) (label : List ℕ) (offset : ℕ) → front ≡ a ++ label ∷ b
    → Stands offset ((label ∷ b) ++ rest) → ⊥

-- The octets that a name is written in where these suffixes occur (RFC 1035 4.1.4): the fewest labels and a
-- pointer to the least offset of the rest, or the name in full where no suffix of one label or more occurs.
pub data IsWritten (Stands : ℕ → Labels → Type 0) (name : Labels) (octets : List ℕ) : Type 0 where
  full : NoneLonger Stands name [] → octets ≡ wire name → IsWritten Stands name octets
  shortened : (front : Labels) (label : List ℕ) (more : Labels) (target : ℕ)
      → name ≡ front ++ label ∷ more
      → Stands target (label ∷ more)
      → ((offset : ℕ) → Stands offset (label ∷ more) → target ≤ offset)
      → NoneLonger Stands front (label ∷ more)
      → octets ≡ run_octets front ++ pointer target → IsWritten Stands name octets

-- A table of targets for where these suffixes occur: the least offset of each, and no target for any other.
pub record AreThePlaces (Stands : ℕ → Labels → Type 0) (places : List Place) : Type 0 where
  pub found : (suffix : Labels) (p : Place)
      → place_of places suffix ≡ Some p
      → Stands p.offset suffix × ((offset : ℕ) → Stands offset suffix → p.offset ≤ offset)
  pub none : (suffix : Labels) → place_of places suffix ≡ None → (offset : ℕ) → Stands offset suffix → ⊥

-- The text has these octets from an offset up to another.
pub record OctetsAt (text : List ℕ) (at : ℕ) (octets : List ℕ) (stop : ℕ) : Type 0 where
  pub last : stop ≡ at + length octets
  pub inside : stop ≤ length text
  pub read : slice_range text at stop ≡ octets

-- A name field that is compressed, where these are the earlier ones.
pub record FieldCompressed (text : List ℕ) (earlier : List Used) (at : ℕ) (name : Labels)
    (stop : ℕ) : Type 0 where
  pub octets : List ℕ
  pub written : IsWritten (OccursAt earlier) name octets
  pub here : OctetsAt text at octets stop

abbrev pub and_field : List Used → ℕ → ℕ → Labels → List Used
and_field earlier from to name = earlier ++ (record { from = from; to = to; name = name }) ∷ []

-- the name fields with one more, written at an offset with pointers to these places
abbrev pub and_written : List Used → List Place → ℕ → Labels → List Used
and_written earlier places at name = and_field earlier at (at + length (compress_name places name)) name

-- Each suffix that occurs does so before an offset.
abbrev pub OccurBefore : List Used → ℕ → Type 0
OccurBefore earlier at = (offset : ℕ) (suffix : Labels) → OccursAt earlier offset suffix → offset < at

-- The parts of a record's data, and the name fields that there are after them. Names are compressed, an SRV's
-- target is written in full and never named by a pointer (RFC 2782), all else is written as it is.
abbrev pub PartsCompressed : List ℕ → List Used → ℕ → List Field → List ℕ → ℕ → List Used → Type 0
PartsCompressed text earlier at [] rdata stop later = OctetsAt text at rdata stop × (later ≡ earlier)
PartsCompressed text earlier at (Values vs ∷ fields) rdata stop later =
    (mid : ℕ) × OctetsAt text at (take (octet_count vs) rdata) mid
    × PartsCompressed text earlier mid fields (drop (octet_count vs) rdata) stop later
PartsCompressed text earlier at (Name ∷ fields) rdata stop later =
    (mid : ℕ) × FieldCompressed text earlier at (labels_of rdata) mid
    × PartsCompressed text (and_field earlier at mid
    (labels_of rdata)) mid fields (drop (length (wire (labels_of rdata))) rdata) stop later
PartsCompressed text earlier at (UncompressedName ∷ fields) rdata stop later =
    OctetsAt text at rdata stop × (later ≡ earlier)
PartsCompressed text earlier at (Strings ∷ fields) rdata stop later =
    OctetsAt text at rdata stop × (later ≡ earlier)

-- A record (RFC 1035 4.1.3): its owner is compressed, RDLENGTH counts the octets of the compressed data.
pub record RecordCompressed (text : List ℕ) (earlier : List Used) (at : ℕ) (r : Record) (stop : ℕ)
    (later : List Used) : Type 0
  where
    pub mid : ℕ
    pub size : ℕ
    pub owner : FieldCompressed text earlier at r.owner mid
    pub fixed : OctetsAt text mid
        (to_be_bytes w16 r.rtype ++ to_be_bytes w16 class_in ++ to_be_bytes w32 r.ttl ++ to_be_bytes w16 size)
        (mid + 10)
    pub last : stop ≡ mid + 10 + size
    pub rdata : MatchOption (form r.rtype)
        (OctetsAt text (mid + 10) r.rdata stop × (later ≡ and_field earlier at mid r.owner))
        (λ fields. PartsCompressed text (and_field earlier at mid r.owner)
        (mid + 10) fields r.rdata stop later)

abbrev pub RecordsCompressed : List ℕ → List Used → ℕ → List Record → ℕ → Type 0
RecordsCompressed text earlier at [] stop = at ≡ stop
RecordsCompressed text earlier at (r ∷ rs) stop =
    (mid : ℕ) × (later : List Used) × RecordCompressed text earlier at r mid later
    × RecordsCompressed text later mid rs stop

-- The question's name is in full, so its field is as long as its plain form.
abbrev pub question_fields : Reply → List Used
question_fields r =
    elim (r.question) [ None ↦ [] | Some q ↦ and_field [] 12 (12 + length (wire q.name)) q.name ]

-- The text of a reply is compressed (RFC 1035 4.1.4), each name field with the list of those before it.
pub record IsCompressed (text : List ℕ) (r : Reply) : Type 0 where
  pub behind : ℕ
  pub header : OctetsAt text 0 (header_octets r) 12
  pub question : OctetsAt text 12 (question_octets r) behind
  pub records : RecordsCompressed text (question_fields r) behind (r.answer ++ r.authority ++ r.additional)
      (length text)
