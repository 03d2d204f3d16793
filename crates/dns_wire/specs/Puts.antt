-- What an attempt to write more octets of a message does.
use Rattle.std.specs.Prelude.{Bool, true, false, ◌≡◌, ℕ, ◌+◌, ◌<◌, ◌≤◌, List, [], ◌∷◌, ◌++◌, length, nat_lt}
use Rattle.std.specs.Prelude.{if◌then◌else◌, Option, Some, None}
use Rattle.std.specs.Int.{w16, w32, to_be_bytes}
use Rattle.dns_records.specs.Types.{Field, Values, Name, UncompressedName, Strings, class_in, type_a}
use Rattle.dns_names.specs.Name.{Labels, IsName, wire}
use Rattle.dns_records.specs.Record.{Record}
use Rattle.dns_wire.specs.Compress.{Place, Compressing, pointer, new_places, compressed_rdata, compressed_record}
use Rattle.dns_wire.specs.Text.{EchoedQuestion}
use Rattle.dns_wire.specs.declared.WriteError.{WriteError}
use Rattle.dns_wire.specs.declared.WriteError.TheVariants.{OutOfMemory, DoesNotFit}

-- More octets follow those that were there, within the limit, and the table of targets is as stated.
pub record Wrote (limit : ℕ) (before after : List ℕ) (limit' : ℕ) (places' : List Place)
    (more : Compressing) : Type 0 where
  pub octets : after ≡ before ++ more.octets
  pub places : places' ≡ more.places
  pub fits : length after ≤ limit
  pub same : limit' ≡ limit

-- Why octets up to a length aren't written: they are more than the limit, or memory is wanting.
abbrev pub RefusesUpTo : ℕ → ℕ → WriteError → Type 0
RefusesUpTo limit size OutOfMemory = Unit {0}
RefusesUpTo limit size DoesNotFit = limit < size

-- Octets alone, which add no target.
abbrev pub plain_octets : List Place → List ℕ → Compressing
plain_octets places octets = record { octets = octets; places = places }

-- Records one after the other, and the targets after them.
abbrev pub compressed_all : List Place → ℕ → List Record → Compressing
compressed_all places at [] = record { octets = []; places = places }
compressed_all places at (r ∷ rs) =
    let here = compressed_record places at r in
    let after = compressed_all here.places (at + length here.octets) rs in
    record { octets = here.octets ++ after.octets; places = after.places }

-- The plain form of a name is at the front of the octets.
pub record BeginsWithName (octets : List ℕ) : Type 0 where
  pub name : Labels
  pub rest : List ℕ
  pub valid : IsName name
  pub is : octets ≡ wire name ++ rest

-- A part that a message may compress.
abbrev pub is_name : Field → Bool
is_name (Values vs) = false
is_name Name = true
is_name UncompressedName = false
is_name Strings = false

-- The octets between the owner and the data of a record, with no length of the data yet.
abbrev pub fixed_octets : ℕ → ℕ → List ℕ
fixed_octets rtype ttl =
    to_be_bytes w16 rtype ++ to_be_bytes w16 class_in ++ to_be_bytes w32 ttl ++ 0 ∷ 0 ∷ []

-- The octets of the record of an address whose owner is a pointer to an offset.
abbrev pub address_octets : ℕ → ℕ → List ℕ → List ℕ
address_octets offset ttl address =
    pointer offset ++ to_be_bytes w16 type_a ++ to_be_bytes w16 class_in ++ to_be_bytes w32 ttl
    ++ to_be_bytes w16 4 ++ address

-- The end of a name after its labels: a pointer to the rest, which occurs earlier, or the zero octet.
abbrev pub name_end : Option ℕ → List ℕ
name_end None = 0 ∷ []
name_end (Some offset) = pointer offset

-- The labels of a name are written, within the limit, the table of targets is as stated, and its end is left.
pub record WroteLabels (limit : ℕ) (before after : List ℕ) (limit' : ℕ) (places' : List Place)
    (whole : Compressing) (found : Option ℕ) : Type 0 where
  pub octets : before ++ whole.octets ≡ after ++ name_end found
  pub places : places' ≡ whole.places
  pub fits : length after ≤ limit
  pub same : limit' ≡ limit

-- What follows the owner of a record, from its type on.
abbrev pub behind_owner : List Place → ℕ → Record → Compressing
behind_owner places at r =
    let rdata = compressed_rdata places (at + 10) r in
    record {
      octets =
          to_be_bytes w16 r.rtype ++ to_be_bytes w16 class_in ++ to_be_bytes w32 r.ttl
          ++ to_be_bytes w16 (length rdata.octets) ++ rdata.octets;
      places = rdata.places;
    }

-- The octets are those of a record after the labels of its owner, and add no target.
pub record IsBehindLabels (found : Option ℕ) (r : Record) (octets : List ℕ) : Type 0 where
  pub octets-are : (places : List Place) (at : ℕ)
      → octets ≡ name_end found ++ (behind_owner places at r).octets
  pub places-are : (places : List Place) (at : ℕ) → places ≡ (behind_owner places at r).places

-- The target for a suffix at an offset, if a pointer can name the offset.
abbrev pub noted : ℕ → Labels → List Place
noted at name = if nat_lt at 16384 then record { offset = at; suffix = name } ∷ [] else []

-- The question of a reply, and the targets in its name.
abbrev pub asked : Option EchoedQuestion → Compressing
asked None = record { octets = []; places = [] }
asked (Some q) = record { octets = q.octets; places = new_places [] 12 q.name }
