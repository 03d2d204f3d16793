-- The data of a record that is written reads back.
use Rattle.std.proofs.Common.{◌≡◌, ℕ, zero, suc, ◌+◌, ◌≤◌, List, [], ◌∷◌, ◌++◌, length, take, drop, Option, Some, None, refl, sym, ap, subst, ◌∙◌, arith, append_assoc, take-append-drop}
use Rattle.std.specs.Prelude.{MatchOption, IfSome, slice_range}
use Rattle.std.proofs.lemmas.List.{length-append, length-take-le, drop_at}
use Rattle.dns_names.specs.Name.{Labels, IsName, wire, labels_of}
use Rattle.dns_records.specs.Types.{Field, Values, octet_count, Name, UncompressedName, Strings, form}
use Rattle.dns_records.specs.Record.{IsRData, Record, IsField, AreFields}
use Rattle.dns_wire.specs.Compress.{Place, Compressing, compress_name, compressed_name, compressed_fields, compressed_rdata}
use Rattle.dns_wire.specs.NameAt.{FullNameAt}
use Rattle.dns_wire.specs.Reads.{FieldAt, FieldsAt, RDataAt}
use Rattle.dns_wire.proofs.FieldsPut.{octets_room, octets_behind, name_behind}
use Rattle.dns_wire.proofs.Fronts.{labels_of_front}
use Rattle.dns_wire.proofs.NamesBack.{Readable, readable_more, readable_next, name_back, full_back}
use Rattle.dns_wire.proofs.Places.{some_written}
use Rattle.dns_wire.proofs.TextCompressed.{Rest, piece, rest_as}

-- what is there, read as octets
plain_at : (text : List ℕ) (at : ℕ) (octets back : List ℕ) → Rest text at (octets ++ back) → (at + length octets ≤ length text) × (octets ≡ slice_range text at (at + length octets))
plain_at text at octets back h = let p = piece text at octets back h in (p.here.inside, sym p.here.read)

field_back : (text : List ℕ) (at : ℕ) (field : Field) (front back : List ℕ) → IsField field front → Rest text at (front ++ back) → FieldAt text at field front (at + length front)
field_back text at (Values vs) front back is h = let p = plain_at text at front back h in (ap (λ (k : ℕ). at + k) is, p.0, p.1)
field_back text at Name front back (name, valid, is) h =
    (name, subst (λ (xs : List ℕ). FullNameAt text at name (at + length xs)) (sym is) (full_back text at name back valid (rest_as text at at (front ++ back) (wire name ++ back) refl (ap (λ (xs : List ℕ). xs ++ back) is) h)), is)
field_back text at UncompressedName front back (name, valid, is) h =
    (name, subst (λ (xs : List ℕ). FullNameAt text at name (at + length xs)) (sym is) (full_back text at name back valid (rest_as text at at (front ++ back) (wire name ++ back) refl (ap (λ (xs : List ℕ). xs ++ back) is) h)), is)
field_back text at Strings front back is h = let p = plain_at text at front back h in (p.0, p.1, is)

-- data in full
plain_back : (text : List ℕ) (at : ℕ) (fields : List Field) (rdata back : List ℕ) → AreFields fields rdata → Rest text at (rdata ++ back) → FieldsAt text at fields rdata (at + length rdata)
plain_back text at [] rdata back form h = (omega (arith, ap length form), form)
plain_back text at (field ∷ fields) rdata back (front, rest, is, one, more) h =
    let whole : rdata ++ back ≡ front ++ (rest ++ back) = ap (λ (xs : List ℕ). xs ++ back) is ∙ append_assoc front rest back in
    let here = rest_as text at at (rdata ++ back) (front ++ (rest ++ back)) refl whole h in
    let behind = (piece text at front (rest ++ back) here).behind in
    let stop : at + length front + length rest ≡ at + length rdata = omega (arith, ap length is, length-append front rest) in
    (front, rest, at + length front, is, field_back text at field front (rest ++ back) one here, subst (λ (k : ℕ). FieldsAt text (at + length front) fields rest k) stop (plain_back text (at + length front) fields rest back more behind))

-- a name in front, and what is after it
pub name_split : (fields : List Field) (rdata : List ℕ) → AreFields (Name ∷ fields) rdata → IsName (labels_of rdata) × (rdata ≡ wire (labels_of rdata) ++ drop (length (wire (labels_of rdata))) rdata)
name_split fields rdata (front, rest, is, (name, valid, plain), more) =
    let whole : rdata ≡ wire name ++ rest = is ∙ ap (λ (xs : List ℕ). xs ++ rest) plain in
    let same : labels_of rdata ≡ name = labels_of_front rdata name rest valid whole in
    let back : drop (length (wire name)) rdata ≡ rest = ap (drop (length (wire name))) whole ∙ drop_at (wire name) rest (length (wire name)) refl in
    let split : rdata ≡ wire name ++ drop (length (wire name)) rdata = whole ∙ ap (λ (xs : List ℕ). wire name ++ xs) (sym back) in
    (subst IsName (sym same) valid, subst (λ (n : Labels). rdata ≡ wire n ++ drop (length (wire n)) rdata) (sym same) split)

pub record FieldsBack (text : List ℕ) (places : List Place) (at : ℕ) (fields : List Field) (rdata : List ℕ) : Type 0 where
  pub stand : FieldsAt text at fields rdata (at + length (compressed_fields places at fields rdata).octets)
  pub table : Readable text (compressed_fields places at fields rdata).places (at + length (compressed_fields places at fields rdata).octets)

pub fields_back : (text : List ℕ) (places : List Place) (at : ℕ) (fields : List Field) (rdata back : List ℕ) → AreFields fields rdata → Readable text places at → 12 ≤ at → Rest text at ((compressed_fields places at fields rdata).octets ++ back) → FieldsBack text places at fields rdata
fields_back text places at [] rdata back form table far h = record { stand = plain_back text at [] rdata back form h; table = readable_more text places at (at + length rdata) (omega arith) table }
fields_back text places at (UncompressedName ∷ fields) rdata back form table far h = record { stand = plain_back text at (UncompressedName ∷ fields) rdata back form h; table = readable_more text places at (at + length rdata) (omega arith) table }
fields_back text places at (Strings ∷ fields) rdata back form table far h = record { stand = plain_back text at (Strings ∷ fields) rdata back form h; table = readable_more text places at (at + length rdata) (omega arith) table }
fields_back text places at (Values vs ∷ fields) rdata back form table far h =
    let after = compressed_fields places (at + octet_count vs) fields (drop (octet_count vs) rdata) in
    let front = take (octet_count vs) rdata in
    let here = rest_as text at at ((front ++ after.octets) ++ back) (front ++ (after.octets ++ back)) refl (append_assoc front after.octets back) h in
    let p = piece text at front (after.octets ++ back) here in
    let width : length front ≡ octet_count vs = length-take-le (octet_count vs) rdata (octets_room vs fields rdata form) in
    let position : at + length front ≡ at + octet_count vs = ap (λ (k : ℕ). at + k) width in
    let more = fields_back text places (at + octet_count vs) fields (drop (octet_count vs) rdata) back (octets_behind vs fields rdata form) (readable_more text places at (at + octet_count vs) (omega arith) table) (omega arith) (rest_as text (at + length front) (at + octet_count vs) (after.octets ++ back) (after.octets ++ back) position refl p.behind) in
    let stop : at + octet_count vs + length after.octets ≡ at + length (front ++ after.octets) = omega (arith, width, length-append front after.octets) in
    record {
      stand = (
        front,
        drop (octet_count vs) rdata,
        at + octet_count vs,
        split (octet_count vs) rdata,
        subst (λ (k : ℕ). FieldAt text at (Values vs) front k) position (field_back text at (Values vs) front (after.octets ++ back) width here),
        subst (λ (k : ℕ). FieldsAt text (at + octet_count vs) fields (drop (octet_count vs) rdata) k) stop more.stand,
      );
      table = subst (Readable text after.places) stop more.table;
    }
  where
    split : (n : ℕ) (xs : List ℕ) → xs ≡ take n xs ++ drop n xs
    split n xs = sym (take-append-drop n xs)
fields_back text places at (Name ∷ fields) rdata back form table far h =
    let name = labels_of rdata in
    let octets = compress_name places name in
    let here = compressed_name places at name in
    let behind = drop (length (wire name)) rdata in
    let mid = at + length octets in
    let after = compressed_fields here.places mid fields behind in
    let n = name_split fields rdata form in
    let stands = rest_as text at at ((octets ++ after.octets) ++ back) (octets ++ (after.octets ++ back)) refl (append_assoc octets after.octets back) h in
    let p = piece text at octets (after.octets ++ back) stands in
    let more = fields_back text here.places mid fields behind back (name_behind fields rdata form) (readable_next text places at name (after.octets ++ back) table far n.0.labels stands) (omega arith) p.behind in
    let stop : mid + length after.octets ≡ at + length (octets ++ after.octets) = omega (arith, length-append octets after.octets) in
    record {
      stand = (
        wire name,
        behind,
        mid,
        n.1,
        (name, name_back text places at name (after.octets ++ back) table n.0 stands, refl),
        subst (λ (k : ℕ). FieldsAt text mid fields behind k) stop more.stand,
      );
      table = subst (Readable text after.places) stop more.table;
    }

nothing : (xs : List ℕ) → length xs ≡ 0 → xs ≡ []
nothing [] e = refl
nothing (x ∷ xs) e = absurd (omega (arith, e))

-- nothing is written for no data alone
none_written : (places : List Place) (at : ℕ) (fields : List Field) (rdata : List ℕ) → length (compressed_fields places at fields rdata).octets ≡ 0 → rdata ≡ []
none_written places at [] rdata e = nothing rdata e
none_written places at (UncompressedName ∷ fields) rdata e = nothing rdata e
none_written places at (Strings ∷ fields) rdata e = nothing rdata e
none_written places at (Name ∷ fields) rdata e =
    let here = compressed_name places at (labels_of rdata) in
    let after = compressed_fields here.places (at + length here.octets) fields (drop (length (wire (labels_of rdata))) rdata) in
    absurd (omega (arith, e, length-append here.octets after.octets, some_written places (labels_of rdata)))
none_written places at (Values vs ∷ fields) rdata e =
    let after = compressed_fields places (at + octet_count vs) fields (drop (octet_count vs) rdata) in
    let sum = length-append (take (octet_count vs) rdata) after.octets in
    let first : take (octet_count vs) rdata ≡ [] = nothing (take (octet_count vs) rdata) (omega (arith, e, sum)) in
    let rest : drop (octet_count vs) rdata ≡ [] = none_written places (at + octet_count vs) fields (drop (octet_count vs) rdata) (omega (arith, e, sum)) in
    sym (take-append-drop (octet_count vs) rdata) ∙ ap (λ (xs : List ℕ). xs ++ drop (octet_count vs) rdata) first ∙ rest

pub record DataBack (text : List ℕ) (places : List Place) (at : ℕ) (r : Record) : Type 0 where
  pub stands : RDataAt text at r.rtype (length (compressed_rdata places at r).octets) r.rdata
  pub table : Readable text (compressed_rdata places at r).places (at + length (compressed_rdata places at r).octets)

rdata_known : (text : List ℕ) (at rtype size : ℕ) (fields : List Field) (rdata : List ℕ) → form rtype ≡ Some fields → (size ≡ 0 → rdata ≡ []) → at + size ≤ length text → FieldsAt text at fields rdata (at + size) → RDataAt text at rtype size rdata
rdata_known text at rtype zero fields rdata e none inside h = none refl
rdata_known text at rtype (suc n) fields rdata e none inside h = (inside, subst (λ (f : Option (List Field)). MatchOption f (rdata ≡ slice_range text at (at + suc n)) (λ fs. FieldsAt text at fs rdata (at + suc n))) (sym e) h)

formed_back : (text : List ℕ) (places : List Place) (at : ℕ) (r : Record) (back : List ℕ) (fields : List Field) → form r.rtype ≡ Some fields → AreFields fields r.rdata → Readable text places at → 12 ≤ at → Rest text at ((compressed_rdata places at r).octets ++ back) → DataBack text places at r
formed_back text places at r back fields e fits table far h =
    let parts = compressed_fields places at fields r.rdata in
    let same : parts ≡ compressed_rdata places at r = sym (rw (e, compressed_rdata) refl) in
    let stands = rest_as text at at ((compressed_rdata places at r).octets ++ back) (parts.octets ++ back) refl (ap (λ (p : Compressing). p.octets ++ back) (sym same)) h in
    let b = fields_back text places at fields r.rdata back fits table far stands in
    let inside = (piece text at parts.octets back stands).here.inside in
    let known = rdata_known text at r.rtype (length parts.octets) fields r.rdata e (none_written places at fields r.rdata) inside b.stand in
    record {
      stands = subst (λ (p : Compressing). RDataAt text at r.rtype (length p.octets) r.rdata) same known;
      table = subst (λ (p : Compressing). Readable text p.places (at + length p.octets)) same b.table;
    }

rdata_opaque : (text : List ℕ) (at rtype size : ℕ) (rdata : List ℕ) → form rtype ≡ None → (size ≡ 0 → rdata ≡ []) → at + size ≤ length text → rdata ≡ slice_range text at (at + size) → RDataAt text at rtype size rdata
rdata_opaque text at rtype zero rdata e none inside h = none refl
rdata_opaque text at rtype (suc n) rdata e none inside h = (inside, subst (λ (f : Option (List Field)). MatchOption f (rdata ≡ slice_range text at (at + suc n)) (λ fs. FieldsAt text at fs rdata (at + suc n))) (sym e) h)

opaque_back : (text : List ℕ) (places : List Place) (at : ℕ) (r : Record) (back : List ℕ) → form r.rtype ≡ None → Readable text places at → Rest text at ((compressed_rdata places at r).octets ++ back) → DataBack text places at r
opaque_back text places at r back e table h =
    let whole : Compressing = record { octets = r.rdata; places = places } in
    let same : whole ≡ compressed_rdata places at r = sym (rw (e, compressed_rdata) refl) in
    let stands = rest_as text at at ((compressed_rdata places at r).octets ++ back) (r.rdata ++ back) refl (ap (λ (p : Compressing). p.octets ++ back) (sym same)) h in
    let here = (piece text at r.rdata back stands).here in
    let opaque = rdata_opaque text at r.rtype (length r.rdata) r.rdata e (nothing r.rdata) here.inside (sym here.read) in
    record {
      stands = subst (λ (p : Compressing). RDataAt text at r.rtype (length p.octets) r.rdata) same opaque;
      table = subst (λ (p : Compressing). Readable text p.places (at + length p.octets)) same (readable_more text places at (at + length r.rdata) (omega arith) table);
    }

pub rdata_back : (text : List ℕ) (places : List Place) (at : ℕ) (r : Record) (back : List ℕ) → IsRData r.rtype r.rdata → Readable text places at → 12 ≤ at → Rest text at ((compressed_rdata places at r).octets ++ back) → DataBack text places at r
rdata_back text places at r back fits table far h = go (form r.rtype) refl fits
  where
    go : (f : Option (List Field)) → form r.rtype ≡ f → IfSome f (λ fields. AreFields fields r.rdata) → DataBack text places at r
    go None e formed = opaque_back text places at r back e table h
    go (Some fields) e formed = formed_back text places at r back fields e formed table far h
