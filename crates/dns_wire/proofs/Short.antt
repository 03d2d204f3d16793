-- Compressed, names and records are no longer than in plain form.
use Rattle.std.proofs.Common.{◌≡◌, ℕ, ◌+◌, ◌<◌, ◌≤◌, List, [], ◌∷◌, ◌++◌, length, take, drop, Option, Some, None, refl, sym, ap, subst, ◌∙◌, arith}
use Rattle.std.specs.Prelude.{IfSome}
use Rattle.std.specs.List.{AllByRecursion}
use Rattle.std.proofs.lemmas.List.{length-append, length-take-le, length-drop, drop_at}
use Rattle.dns_names.specs.Name.{Labels, IsLabel, wire, labels_of}
use Rattle.dns_records.specs.Types.{Field, Values, octet_count, Name, UncompressedName, Strings, form}
use Rattle.dns_records.specs.Record.{Record, IsRecord, AreFields}
use Rattle.dns_wire.specs.Compress.{Place, Compressing, place_of, pointer, compress_name, compressed_name, compressed_fields, compressed_rdata, compressed_record}
use Rattle.dns_wire.proofs.Fronts.{labels_of_front}
use Rattle.dns_wire.proofs.FieldsPut.{octets_room, octets_behind, name_behind}
use Rattle.dns_wire.proofs.RecordsPut.{record_size}

wire_some : (name : Labels) → 1 ≤ length (wire name)
wire_some [] = omega arith
wire_some (label ∷ rest) = omega arith

name_short : (places : List Place) (name : Labels) → AllByRecursion IsLabel name → length (compress_name places name) ≤ length (wire name)
name_short places [] h = omega arith
name_short places (label ∷ rest) h = at (place_of places (label ∷ rest)) (name_short places rest h.1)
  where
    some : 0 < length label
    some = (h.0).some

    size : length (wire (label ∷ rest)) ≡ 1 + length label + length (wire rest)
    size = omega (arith, length-append label (wire rest))

    at : (o : Option Place) → length (compress_name places rest) ≤ length (wire rest) → length {A = ℕ} (elim o [ Some p ↦ pointer p.offset | None ↦ length label ∷ label ++ compress_name places rest ]) ≤ length (wire (label ∷ rest))
    at (Some p) short = omega (arith, some, size, wire_some rest)
    at None short = omega (arith, size, short, length-append label (compress_name places rest))

name_size : (fields : List Field) (rdata : List ℕ) → AreFields (Name ∷ fields) rdata → AllByRecursion IsLabel (labels_of rdata) × (length rdata ≡ length (wire (labels_of rdata)) + length (drop (length (wire (labels_of rdata))) rdata))
name_size fields rdata (front, rest, is, (name, valid, plain), more) =
    let whole : rdata ≡ wire name ++ rest = is ∙ ap (λ (xs : List ℕ). xs ++ rest) plain in
    let same : labels_of rdata ≡ name = labels_of_front rdata name rest valid whole in
    let back : drop (length (wire (labels_of rdata))) rdata ≡ rest = ap (λ (n : Labels). drop (length (wire n)) rdata) same ∙ ap (drop (length (wire name))) whole ∙ drop_at (wire name) rest (length (wire name)) refl in
    let size : length rdata ≡ length (wire (labels_of rdata)) + length (drop (length (wire (labels_of rdata))) rdata) = omega (arith, ap length whole, length-append (wire name) rest, ap length back, ap (λ (n : Labels). length (wire n)) same) in
    (subst (λ (n : Labels). AllByRecursion IsLabel n) (sym same) valid.labels, size)

fields_short : (places : List Place) (at : ℕ) (fields : List Field) (rdata : List ℕ) → AreFields fields rdata → length (compressed_fields places at fields rdata).octets ≤ length rdata
fields_short places at [] rdata h = omega arith
fields_short places at (Values vs ∷ fields) rdata h =
    let room = octets_room vs fields rdata h in
    let behind = drop (octet_count vs) rdata in
    let rest = fields_short places (at + octet_count vs) fields behind (octets_behind vs fields rdata h) in
    let after = (compressed_fields places (at + octet_count vs) fields behind).octets in
    let front : length (take (octet_count vs) rdata) ≡ octet_count vs = length-take-le (octet_count vs) rdata room in
    let back : octet_count vs + length behind ≡ length rdata = omega (arith, length-drop (octet_count vs) rdata, room) in
    omega (arith, rest, front, back, length-append (take (octet_count vs) rdata) after)
fields_short places at (Name ∷ fields) rdata h =
    let name = labels_of rdata in
    let here = compressed_name places at name in
    let behind = drop (length (wire name)) rdata in
    let size = name_size fields rdata h in
    let rest = fields_short here.places (at + length here.octets) fields behind (name_behind fields rdata h) in
    let after = (compressed_fields here.places (at + length here.octets) fields behind).octets in
    omega (arith, name_short places name size.0, size.1, rest, length-append here.octets after)
fields_short places at (UncompressedName ∷ fields) rdata h = omega arith
fields_short places at (Strings ∷ fields) rdata h = omega arith

rdata_short : (places : List Place) (at : ℕ) (r : Record) → IsRecord r → length (compressed_rdata places at r).octets ≤ length r.rdata
rdata_short places at r valid = go (form r.rtype) valid.rdata
  where
    go : (o : Option (List Field)) → IfSome o (λ fields. AreFields fields r.rdata) → (let c : Compressing = elim o [ None ↦ record { octets = r.rdata; places = places } | Some fields ↦ compressed_fields places at fields r.rdata ] in length c.octets ≤ length r.rdata)
    go None h = omega arith
    go (Some fields) h = fields_short places at fields r.rdata h

-- whatever the record
pub record_short : (places : List Place) (at : ℕ) (r : Record) → IsRecord r → length (compressed_record places at r).octets ≤ 4361
record_short places at r valid =
    let owner = compressed_name places at r.owner in
    let name = name_short places r.owner (valid.owner).labels in
    let whole : length (wire r.owner) ≤ 255 = (valid.owner).short in
    let rdata = rdata_short owner.places (at + length owner.octets + 10) r valid in
    let short : length r.rdata ≤ 4096 = valid.short in
    omega (arith, record_size places at r, name, whole, rdata, short)
