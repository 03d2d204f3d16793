-- The data of a record, written part by part.
use Rattle.std.proofs.Common.{Option, Some, None, false, [], ◌≡◌, ℕ, ◌+◌, ◌≤◌, List, ◌∷◌, ◌++◌, length, take, drop, refl, sym, ap, subst, ◌∙◌, arith}
use Rattle.std.specs.List.{list_any}
use Rattle.std.proofs.lemmas.List.{take-append-drop, length-append, length-take-le, drop_at}
use Rattle.dns_names.specs.Name.{Labels, wire, labels_of}
use Rattle.dns_records.specs.Types.{Field, Value, Values, octet_count, Name, form}
use Rattle.dns_records.specs.Record.{Record, AreFields}
use Rattle.dns_records.specs.Fields.{stated_field, stated_fields, stated_values}
use Rattle.dns_records.specs.declared.parts.Field.{Field as Part}
use Rattle.dns_records.specs.declared.parts.Field.TheVariants as part
use Rattle.dns_wire.specs.Compress.{Place, Compressing, compressed_name, compressed_fields, compressed_rdata}
use Rattle.dns_wire.specs.Puts.{RefusesUpTo, is_name, plain_octets}
use Rattle.dns_wire.specs.declared.WriteError.{WriteError}
use Rattle.dns_wire.proofs.Puts.{Leaves, leaves_next, refuses_part}
use Rattle.dns_wire.proofs.Fronts.{labels_of_front}

-- these parts are still to be written
abbrev pub FieldsLeft : List ℕ → Compressing → List ℕ → List Place → List Field → List ℕ → Type 0
FieldsLeft before whole octets places fields rdata =
    let tail = compressed_fields places (length octets) fields rdata in
    Leaves before whole octets tail.octets tail.places

pub octets_room : (vs : List Value) (fields : List Field) (rdata : List ℕ) → AreFields (Values vs ∷ fields) rdata → octet_count vs ≤ length rdata
octets_room vs fields rdata (front, rest, is, size, more) = omega (arith, ap length is, length-append front rest, size)

pub octets_behind : (vs : List Value) (fields : List Field) (rdata : List ℕ) → AreFields (Values vs ∷ fields) rdata → AreFields fields (drop (octet_count vs) rdata)
octets_behind vs fields rdata (front, rest, is, size, more) = subst (AreFields fields) (sym (ap (drop (octet_count vs)) is ∙ drop_at front rest (octet_count vs) size)) more

pub name_behind : (fields : List Field) (rdata : List ℕ) → AreFields (Name ∷ fields) rdata → AreFields fields (drop (length (wire (labels_of rdata))) rdata)
name_behind fields rdata (front, rest, is, (name, valid, plain), more) =
    let whole : rdata ≡ wire name ++ rest = is ∙ ap (λ (xs : List ℕ). xs ++ rest) plain in
    let same : labels_of rdata ≡ name = labels_of_front rdata name rest valid whole in
    let back : drop (length (wire (labels_of rdata))) rdata ≡ rest = ap (λ (n : Labels). drop (length (wire n)) rdata) same ∙ ap (drop (length (wire name))) whole ∙ drop_at (wire name) rest (length (wire name)) refl in
    subst (AreFields fields) (sym back) more

-- octets are written
pub octets_next : (before : List ℕ) (whole : Compressing) (octets : List ℕ) (places : List Place) (vs : List Value) (fields : List Field) (rdata front after : List ℕ) (places' : List Place) → octet_count vs ≤ length rdata → front ≡ take (octet_count vs) rdata → after ≡ octets ++ front → places' ≡ places
    → FieldsLeft before whole octets places (Values vs ∷ fields) rdata → FieldsLeft before whole after places' fields (drop (octet_count vs) rdata)
octets_next before whole octets places vs fields rdata front after places' room is grown same h =
    let size : length octets + octet_count vs ≡ length after = sym (ap length grown ∙ length-append octets front ∙ ap (λ (k : ℕ). length octets + k) (ap length is ∙ length-take-le (octet_count vs) rdata room)) in
    let tail = compressed_fields places (length octets + octet_count vs) fields (drop (octet_count vs) rdata) in
    let next : Leaves before whole after tail.octets tail.places = leaves_next before whole octets (take (octet_count vs) rdata ++ tail.octets) tail.places (take (octet_count vs) rdata) tail.octets after refl (grown ∙ ap (λ (xs : List ℕ). octets ++ xs) is) h in
    let placed : Leaves before whole after (compressed_fields places' (length octets + octet_count vs) fields (drop (octet_count vs) rdata)).octets (compressed_fields places' (length octets + octet_count vs) fields (drop (octet_count vs) rdata)).places =
    subst (λ (ps : List Place). Leaves before whole after (compressed_fields ps (length octets + octet_count vs) fields (drop (octet_count vs) rdata)).octets (compressed_fields ps (length octets + octet_count vs) fields (drop (octet_count vs) rdata)).places) (sym same) next in
    subst (λ (k : ℕ). Leaves before whole after (compressed_fields places' k fields (drop (octet_count vs) rdata)).octets (compressed_fields places' k fields (drop (octet_count vs) rdata)).places) size placed

-- a name is written
pub names_next : (before : List ℕ) (whole : Compressing) (octets : List ℕ) (places : List Place) (fields : List Field) (rdata after : List ℕ) (places' : List Place) → after ≡ octets ++ (compressed_name places (length octets) (labels_of rdata)).octets → places' ≡ (compressed_name places (length octets) (labels_of rdata)).places
    → FieldsLeft before whole octets places (Name ∷ fields) rdata → FieldsLeft before whole after places' fields (drop (length (wire (labels_of rdata))) rdata)
names_next before whole octets places fields rdata after places' grown same h =
    let here = compressed_name places (length octets) (labels_of rdata) in
    let behind = drop (length (wire (labels_of rdata))) rdata in
    let size : length octets + length here.octets ≡ length after = sym (ap length grown ∙ length-append octets here.octets) in
    let tail = compressed_fields here.places (length octets + length here.octets) fields behind in
    let next : Leaves before whole after tail.octets tail.places = leaves_next before whole octets (here.octets ++ tail.octets) tail.places here.octets tail.octets after refl grown h in
    let placed : Leaves before whole after (compressed_fields places' (length octets + length here.octets) fields behind).octets (compressed_fields places' (length octets + length here.octets) fields behind).places =
    subst (λ (ps : List Place). Leaves before whole after (compressed_fields ps (length octets + length here.octets) fields behind).octets (compressed_fields ps (length octets + length here.octets) fields behind).places) (sym same) next in
    subst (λ (k : ℕ). Leaves before whole after (compressed_fields places' k fields behind).octets (compressed_fields places' k fields behind).places) size placed

-- they are refused
pub octets_refused : (limit : ℕ) (before : List ℕ) (whole : Compressing) (octets : List ℕ) (places : List Place) (now : ℕ) (vs : List Value) (fields : List Field) (rdata front : List ℕ) (e : WriteError) → front ≡ take (octet_count vs) rdata → now ≡ limit
    → FieldsLeft before whole octets places (Values vs ∷ fields) rdata → RefusesUpTo now (length octets + length front) e → RefusesUpTo limit (length before + length whole.octets) e
octets_refused limit before whole octets places now vs fields rdata front e is same h r =
    let tail = compressed_fields places (length octets + octet_count vs) fields (drop (octet_count vs) rdata) in
    refuses_part limit before whole octets (take (octet_count vs) rdata ++ tail.octets) tail.places now front tail.octets e (ap (λ (xs : List ℕ). xs ++ tail.octets) (sym is)) same h r

pub names_refused : (limit : ℕ) (before : List ℕ) (whole : Compressing) (octets : List ℕ) (places : List Place) (now : ℕ) (fields : List Field) (rdata : List ℕ) (e : WriteError) → now ≡ limit
    → FieldsLeft before whole octets places (Name ∷ fields) rdata → RefusesUpTo now (length octets + length (compressed_name places (length octets) (labels_of rdata)).octets) e → RefusesUpTo limit (length before + length whole.octets) e
names_refused limit before whole octets places now fields rdata e same h r =
    let here = compressed_name places (length octets) (labels_of rdata) in
    let tail = compressed_fields here.places (length octets + length here.octets) fields (drop (length (wire (labels_of rdata))) rdata) in
    refuses_part limit before whole octets (here.octets ++ tail.octets) tail.places now here.octets tail.octets e refl same h r

-- data without a name that is compressed
pub nameless : (places : List Place) (at : ℕ) (parts : List Part) (rdata : List ℕ) → list_any (λ f. is_name (stated_field f)) parts ≡ false → compressed_fields places at (stated_fields parts) rdata ≡ plain_octets places rdata
nameless places at [] rdata none = refl
nameless places at (part.Values vs ∷ parts) rdata none =
    let size = octet_count (stated_values vs.now) in
    ap (λ (p : Compressing). record { octets = take size rdata ++ p.octets; places = p.places }) (nameless places (at + size) parts (drop size rdata) none)
    ∙ ap (plain_octets places) (take-append-drop size rdata)
nameless places at (part.Name ∷ parts) rdata none = absurd cc
nameless places at (part.UncompressedName ∷ parts) rdata none = refl
nameless places at (part.Strings ∷ parts) rdata none = refl

abbrev by_form : Option (List Field) → List Place → ℕ → List ℕ → Compressing
by_form None places at rdata = plain_octets places rdata
by_form (Some fields) places at rdata = compressed_fields places at fields rdata

rdata_by_form : (f : Option (List Field)) (places : List Place) (at : ℕ) (rdata : List ℕ) → elim f [ None ↦ plain_octets places rdata | Some fields ↦ compressed_fields places at fields rdata ] ≡ by_form f places at rdata
rdata_by_form None places at rdata = refl
rdata_by_form (Some fields) places at rdata = refl

pub formless_rdata : (places : List Place) (at : ℕ) (r : Record) → form r.rtype ≡ None → compressed_rdata places at r ≡ plain_octets places r.rdata
formless_rdata places at r is = rdata_by_form (form r.rtype) places at r.rdata ∙ ap (λ f. by_form f places at r.rdata) is

pub nameless_rdata : (places : List Place) (at : ℕ) (r : Record) (parts : List Part) → form r.rtype ≡ Some (stated_fields parts) → list_any (λ f. is_name (stated_field f)) parts ≡ false → compressed_rdata places at r ≡ plain_octets places r.rdata
nameless_rdata places at r parts is none = rdata_by_form (form r.rtype) places at r.rdata ∙ ap (λ f. by_form f places at r.rdata) is ∙ nameless places at parts r.rdata none

pub formed_rdata : (places : List Place) (at : ℕ) (r : Record) (fields : List Field) → form r.rtype ≡ Some fields → compressed_rdata places at r ≡ compressed_fields places at fields r.rdata
formed_rdata places at r fields is = rdata_by_form (form r.rtype) places at r.rdata ∙ ap (λ f. by_form f places at r.rdata) is
