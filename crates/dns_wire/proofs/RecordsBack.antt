-- Records that are written read back.
use Rattle.std.proofs.Common.{◌≡◌, ℕ, ◌+◌, ◌<◌, ◌≤◌, ◌^◌, List, [], ◌∷◌, ◌++◌, length, map, take, drop, Option, Some, None, refl, sym, ap, subst, ◌∙◌, arith, append_assoc}
use Rattle.std.specs.Prelude.{IfSome, slice_range}
use Rattle.std.specs.Int.{w16, w32, to_be_bytes}
use Rattle.std.specs.List.{AllByRecursion}
use Rattle.std.proofs.lemmas.List.{length-append}
use Rattle.dns_names.specs.Name.{Labels, wire, labels_of}
use Rattle.dns_records.specs.Types.{Field, Values, octet_count, Name, UncompressedName, Strings, form, class_in}
use Rattle.dns_records.specs.Record.{Record, AreFields, IsRData, IsRecord, number_of}
use Rattle.dns_wire.specs.Compress.{Place, Compressing, place_of, compress_name, compressed_name, compressed_fields, compressed_rdata, compressed_record}
use Rattle.dns_wire.specs.Puts.{compressed_all}
use Rattle.dns_wire.specs.Reads.{NumberAt, ResourceRecordAt, ResourceRecordsAt}
use Rattle.dns_wire.specs.Valid.{item_of}
use Rattle.dns_wire.specs.NameLaws.{some_octet}
use Rattle.dns_wire.proofs.FieldsPut.{octets_room, octets_behind, name_behind}
use Rattle.dns_wire.proofs.FieldsBack.{rdata_back, name_split}
use Rattle.dns_wire.proofs.NamesBack.{Readable, readable_more, readable_next, name_back}
use Rattle.dns_wire.proofs.NamePut.{compressed_label}
use Rattle.dns_wire.proofs.RecordsPut.{record_size}
use Rattle.dns_wire.proofs.NumbersBack.{two_back, four_back, known_small}
use Rattle.dns_wire.proofs.TextCompressed.{Rest, piece, rest_as}
use Rattle.std.proofs.lemmas.List.{length-take-le, length-drop}

pub number_done : (text : List ℕ) (at size n : ℕ) (octets back : List ℕ) → length octets ≡ size → number_of octets ≡ n → Rest text at (octets ++ back) → NumberAt text at size n
number_done text at size n octets back width value h =
    let p = piece text at octets back h in
    let position : at + length octets ≡ at + size = ap (λ (k : ℕ). at + k) width in
    record {
      inside = subst (λ (k : ℕ). k ≤ length text) position p.here.inside;
      read = sym value ∙ ap number_of (sym p.here.read) ∙ ap (λ (k : ℕ). number_of (slice_range text at k)) position;
    }

-- compression makes nothing longer
name_short : (places : List Place) (name : Labels) → length (compress_name places name) ≤ length (wire name)
name_short places [] = omega arith
name_short places (label ∷ rest) = go (place_of places (label ∷ rest)) refl (name_short places rest)
  where
    go : (o : Option Place) → place_of places (label ∷ rest) ≡ o → length (compress_name places rest) ≤ length (wire rest) → length (compress_name places (label ∷ rest)) ≤ length (wire (label ∷ rest))
    go None e up =
        let size : length (compress_name places (label ∷ rest)) ≡ length ((length label ∷ label) ++ compress_name places rest) = ap length (compressed_label places label rest e) in
        omega (arith, size, up, length-append label (compress_name places rest), length-append label (wire rest))
    go (Some p) e up =
        let size : length (compress_name places (label ∷ rest)) ≡ 2 = rw (e, compress_name) refl in
        omega (arith, size, length-append label (wire rest), some_octet rest)

fields_short : (places : List Place) (at : ℕ) (fields : List Field) (rdata : List ℕ) → AreFields fields rdata → length (compressed_fields places at fields rdata).octets ≤ length rdata
fields_short places at [] rdata h = omega arith
fields_short places at (UncompressedName ∷ fields) rdata h = omega arith
fields_short places at (Strings ∷ fields) rdata h = omega arith
fields_short places at (Values vs ∷ fields) rdata h =
    let after = compressed_fields places (at + octet_count vs) fields (drop (octet_count vs) rdata) in
    let room : (octet_count vs) ≤ length rdata = octets_room vs fields rdata h in
    omega (arith, length-append (take (octet_count vs) rdata) after.octets, length-take-le (octet_count vs) rdata room, length-drop (octet_count vs) rdata, fields_short places (at + octet_count vs) fields (drop (octet_count vs) rdata) (octets_behind vs fields rdata h))
fields_short places at (Name ∷ fields) rdata h =
    let name = labels_of rdata in
    let here = compressed_name places at name in
    let behind = drop (length (wire name)) rdata in
    let after = compressed_fields here.places (at + length here.octets) fields behind in
    let split = ap length (name_split fields rdata h).1 in
    omega (arith, length-append here.octets after.octets, name_short places name, split, length-append (wire name) behind, fields_short here.places (at + length here.octets) fields behind (name_behind fields rdata h))

rdata_short : (places : List Place) (at : ℕ) (r : Record) → IsRData r.rtype r.rdata → length (compressed_rdata places at r).octets ≤ length r.rdata
rdata_short places at r fits = go (form r.rtype) refl fits
  where
    go : (f : Option (List Field)) → form r.rtype ≡ f → IfSome f (λ fields. AreFields fields r.rdata) → length (compressed_rdata places at r).octets ≤ length r.rdata
    go None e formed = (let same : compressed_rdata places at r ≡ record { octets = r.rdata; places = places } = rw (e, compressed_rdata) refl in omega (arith, ap (λ (p : Compressing). length p.octets) same))
    go (Some fields) e formed = (let same : compressed_rdata places at r ≡ compressed_fields places at fields r.rdata = rw (e, compressed_rdata) refl in omega (arith, ap (λ (p : Compressing). length p.octets) same, fields_short places at fields r.rdata formed))

pub record ResourceRecordBack (text : List ℕ) (places : List Place) (at : ℕ) (r : Record) : Type 0 where
  pub stands : ResourceRecordAt text at (item_of r) (at + length (compressed_record places at r).octets)
  pub table : Readable text (compressed_record places at r).places (at + length (compressed_record places at r).octets)

regroup : (o t c l s d back : List ℕ) → (((((o ++ t) ++ c) ++ l) ++ s) ++ d) ++ back ≡ o ++ (t ++ (c ++ (l ++ (s ++ (d ++ back)))))
regroup o t c l s d back = simp append_assoc

pub item_back : (text : List ℕ) (places : List Place) (at : ℕ) (r : Record) (back : List ℕ) → IsRecord r → Readable text places at → 12 ≤ at → Rest text at ((compressed_record places at r).octets ++ back) → ResourceRecordBack text places at r
item_back text places at r back valid table far h =
    let owner = compress_name places r.owner in
    let here = compressed_name places at r.owner in
    let mid = at + length owner in
    let d = compressed_rdata here.places (mid + 10) r in
    let t = to_be_bytes w16 r.rtype in
    let c = to_be_bytes w16 class_in in
    let l = to_be_bytes w32 r.ttl in
    let s = to_be_bytes w16 (length d.octets) in
    let size : length d.octets < 2 ^ 16 = (let short : length r.rdata ≤ 4096 = valid.short in omega (arith, rdata_short here.places (mid + 10) r valid.rdata)) in
    let h0 = rest_as text at at ((compressed_record places at r).octets ++ back) (owner ++ (t ++ (c ++ (l ++ (s ++ (d.octets ++ back)))))) refl (regroup owner t c l s d.octets back) h in
    let h1 = (piece text at owner (t ++ (c ++ (l ++ (s ++ (d.octets ++ back))))) h0).behind in
    let h2 = (piece text mid t (c ++ (l ++ (s ++ (d.octets ++ back)))) h1).behind in
    let h3 = rest_as text (mid + 2 + 2) (mid + 4) (l ++ (s ++ (d.octets ++ back))) (l ++ (s ++ (d.octets ++ back))) (omega arith) refl (piece text (mid + 2) c (l ++ (s ++ (d.octets ++ back))) h2).behind in
    let h4 = rest_as text (mid + 4 + 4) (mid + 8) (s ++ (d.octets ++ back)) (s ++ (d.octets ++ back)) (omega arith) refl (piece text (mid + 4) l (s ++ (d.octets ++ back)) h3).behind in
    let h5 = rest_as text (mid + 8 + 2) (mid + 10) (d.octets ++ back) (d.octets ++ back) (omega arith) refl (piece text (mid + 8) s (d.octets ++ back) h4).behind in
    let owned = readable_next text places at r.owner (t ++ (c ++ (l ++ (s ++ (d.octets ++ back))))) table far valid.owner.labels h0 in
    let e = rdata_back text here.places (mid + 10) r back valid.rdata (readable_more text here.places mid (mid + 10) (omega arith) owned) (omega arith) h5 in
    let stop : mid + 10 + length d.octets ≡ at + length (compressed_record places at r).octets = omega (arith, record_size places at r) in
    record {
      stands = record {
        mid = mid;
        rdlength = length d.octets;
        owner = name_back text places at r.owner (t ++ (c ++ (l ++ (s ++ (d.octets ++ back))))) table valid.owner h0;
        rtype = number_done text mid 2 r.rtype t (c ++ (l ++ (s ++ (d.octets ++ back)))) refl (two_back r.rtype (known_small r.rtype valid.rtype)) h1;
        class = number_done text (mid + 2) 2 class_in c (l ++ (s ++ (d.octets ++ back))) refl refl h2;
        ttl = number_done text (mid + 4) 4 r.ttl l (s ++ (d.octets ++ back)) refl (four_back r.ttl valid.ttl) h3;
        counted = number_done text (mid + 8) 2 (length d.octets) s (d.octets ++ back) refl (two_back (length d.octets) size) h4;
        rdata = e.stands;
        last = sym stop;
      };
      table = subst (Readable text d.places) stop e.table;
    }

pub record AllBack (text : List ℕ) (places : List Place) (at : ℕ) (rs : List Record) : Type 0 where
  pub stand : ResourceRecordsAt text at (map item_of rs) (at + length (compressed_all places at rs).octets)
  pub table : Readable text (compressed_all places at rs).places (at + length (compressed_all places at rs).octets)

pub all_back : (text : List ℕ) (places : List Place) (at : ℕ) (rs : List Record) (back : List ℕ) → AllByRecursion IsRecord rs → Readable text places at → 12 ≤ at → Rest text at ((compressed_all places at rs).octets ++ back) → AllBack text places at rs
all_back text places at [] back valid table far h = record { stand = omega arith; table = readable_more text places at (at + 0) (omega arith) table }
all_back text places at (r ∷ rs) back valid table far h =
    let here = compressed_record places at r in
    let mid = at + length here.octets in
    let after = compressed_all here.places mid rs in
    let stands = rest_as text at at ((here.octets ++ after.octets) ++ back) (here.octets ++ (after.octets ++ back)) refl (append_assoc here.octets after.octets back) h in
    let one = item_back text places at r (after.octets ++ back) valid.0 table far stands in
    let more = all_back text here.places mid rs back valid.1 one.table (omega arith) (piece text at here.octets (after.octets ++ back) stands).behind in
    let stop : mid + length after.octets ≡ at + length (here.octets ++ after.octets) = omega (arith, length-append here.octets after.octets) in
    record {
      stand = (mid, one.stands, subst (λ (k : ℕ). ResourceRecordsAt text mid (map item_of rs) k) stop more.stand);
      table = subst (Readable text after.places) stop more.table;
    }
