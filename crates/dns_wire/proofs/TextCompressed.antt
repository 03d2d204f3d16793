-- The computed text is compressed.
use Rattle.std.proofs.Common.{◌≡◌, ℕ, ◌+◌, ◌-◌, ◌<◌, ◌≤◌, inl, inr, List, [], ◌∷◌, ◌++◌, length, take, drop, Option, Some, None, refl, sym, ap, subst, ◌∙◌, arith, append_assoc}
use Rattle.std.specs.Prelude.{MatchOption, IfSome}
use Rattle.std.specs.Int.{w16, w32, to_be_bytes}
use Rattle.std.specs.List.{AllByRecursion}
use Rattle.std.proofs.lemmas.List.{length-append, length-take-le, take_at, drop_at}
use Rattle.dns_names.specs.Name.{Labels, wire, labels_of}
use Rattle.dns_records.specs.Types.{Field, Values, octet_count, Name, UncompressedName, Strings, form, class_in}
use Rattle.dns_records.specs.Record.{Record, AreFields, IsRecord}
use Rattle.dns_wire.specs.Compress.{Place, Compressing, compress_name, new_places, compressed_name, compressed_fields, compressed_rdata, compressed_record, compressed_records}
use Rattle.dns_wire.specs.Compressed.{Used, OccursAt, AreThePlaces, OctetsAt, FieldCompressed, and_field, PartsCompressed, RecordCompressed, RecordsCompressed, question_fields, IsCompressed}
use Rattle.dns_wire.specs.Text.{EchoedQuestion, Reply, header_octets, question_octets, question_places, text}
use Rattle.dns_wire.specs.Valid.{IsEchoed, IsReply}
use Rattle.dns_wire.proofs.Table.{table_first, table_next, stands_cases}
use Rattle.dns_wire.proofs.Written.{compressed_written}
use Rattle.dns_wire.proofs.FieldsPut.{octets_room, octets_behind, name_behind}

-- these octets are there from an offset on, up to the end
pub record Rest (text : List ℕ) (at : ℕ) (rest : List ℕ) : Type 0 where
  pub front : List ℕ
  pub is : text ≡ front ++ rest
  pub size : length front ≡ at

pub record Piece (text : List ℕ) (at : ℕ) (octets back : List ℕ) : Type 0 where
  pub here : OctetsAt text at octets (at + length octets)
  pub behind : Rest text (at + length octets) back

pub piece : (text : List ℕ) (at : ℕ) (octets back : List ℕ) → Rest text at (octets ++ back) → Piece text at octets back
piece text at octets back h =
    let whole : length text ≡ length h.front + length (octets ++ back) = ap length h.is ∙ length-append h.front (octets ++ back) in
    let width : at + length octets - at ≡ length octets = omega arith in
    record {
      here = record {
        last = refl;
        inside = omega (arith, whole, h.size, length-append octets back);
        read = ap (λ (k : ℕ). take k (drop at text)) width ∙ ap (λ (xs : List ℕ). take (length octets) (drop at xs)) h.is ∙ ap (take (length octets)) (drop_at h.front (octets ++ back) at h.size) ∙ take_at octets back (length octets) refl;
      };
      behind = record { front = h.front ++ octets; is = h.is ∙ sym (append_assoc h.front octets back); size = length-append h.front octets ∙ ap (λ (k : ℕ). k + length octets) h.size };
    }

pub rest_as : (text : List ℕ) (at at' : ℕ) (rest rest' : List ℕ) → at ≡ at' → rest ≡ rest' → Rest text at rest → Rest text at' rest'
rest_as text at at' rest rest' e f h = record { front = h.front; is = h.is ∙ ap (λ (xs : List ℕ). h.front ++ xs) f; size = h.size ∙ e }

-- all that is there is below an offset
pub record Under (earlier : List Used) (at : ℕ) : Type 0 where
  pub below : (offset : ℕ) (suffix : Labels) → OccursAt earlier offset suffix → offset < at

under_more : (earlier : List Used) (at at' : ℕ) → at ≤ at' → Under earlier at → Under earlier at'
under_more earlier at at' up h = record { below = λ offset suffix s. (let low : offset < at = h.below offset suffix s in omega arith) }

under_field : (earlier : List Used) (at to : ℕ) (name : Labels) → at ≤ to → Under earlier at → Under (and_field earlier at to name) to
under_field earlier at to name up h = record {
  below = λ offset suffix s.
      elim (stands_cases earlier at to name offset suffix s) [
        | inl old ↦ (let low : offset < at = h.below offset suffix old in omega arith)
        | inr new ↦ (let inside : offset + 1 + length new.label < to = new.inside in omega arith)
      ];
}

-- a name that is compressed
pub record NameDone (text : List ℕ) (earlier : List Used) (places : List Place) (at : ℕ) (name : Labels) (back : List ℕ) : Type 0 where
  pub field : FieldCompressed text earlier at name (at + length (compress_name places name))
  pub table : AreThePlaces (OccursAt (and_field earlier at (at + length (compress_name places name)) name)) (compressed_name places at name).places
  pub under : Under (and_field earlier at (at + length (compress_name places name)) name) (at + length (compress_name places name))
  pub behind : Rest text (at + length (compress_name places name)) back

pub name_done : (text : List ℕ) (earlier : List Used) (places : List Place) (at : ℕ) (name : Labels) (back : List ℕ) → AreThePlaces (OccursAt earlier) places → Under earlier at → Rest text at (compress_name places name ++ back) → NameDone text earlier places at name back
name_done text earlier places at name back table under h =
    let p = piece text at (compress_name places name) back h in
    record {
      field = record { octets = compress_name places name; written = compressed_written (OccursAt earlier) places table name; here = p.here };
      table = table_next earlier places at name table under.below;
      under = under_field earlier at (at + length (compress_name places name)) name (omega arith) under;
      behind = p.behind;
    }

-- the parts of the data
pub record PartsDone (text : List ℕ) (earlier : List Used) (places : List Place) (at : ℕ) (fields : List Field) (rdata back : List ℕ) : Type 0 where
  pub later : List Used
  pub compressed : PartsCompressed text earlier at fields rdata (at + length (compressed_fields places at fields rdata).octets) later
  pub table : AreThePlaces (OccursAt later) (compressed_fields places at fields rdata).places
  pub under : Under later (at + length (compressed_fields places at fields rdata).octets)
  pub behind : Rest text (at + length (compressed_fields places at fields rdata).octets) back

pub parts_done : (text : List ℕ) (earlier : List Used) (places : List Place) (at : ℕ) (fields : List Field) (rdata back : List ℕ) → AreFields fields rdata → AreThePlaces (OccursAt earlier) places → Under earlier at
    → Rest text at ((compressed_fields places at fields rdata).octets ++ back) → PartsDone text earlier places at fields rdata back
parts_done text earlier places at [] rdata back form table under h =
    let p = piece text at rdata back h in
    record { later = earlier; compressed = (p.here, refl); table = table; under = under_more earlier at (at + length rdata) (omega arith) under; behind = p.behind }
parts_done text earlier places at (UncompressedName ∷ fields) rdata back form table under h =
    let p = piece text at rdata back h in
    record { later = earlier; compressed = (p.here, refl); table = table; under = under_more earlier at (at + length rdata) (omega arith) under; behind = p.behind }
parts_done text earlier places at (Strings ∷ fields) rdata back form table under h =
    let p = piece text at rdata back h in
    record { later = earlier; compressed = (p.here, refl); table = table; under = under_more earlier at (at + length rdata) (omega arith) under; behind = p.behind }
parts_done text earlier places at (Values vs ∷ fields) rdata back form table under h =
    let after = compressed_fields places (at + octet_count vs) fields (drop (octet_count vs) rdata) in
    let p = piece text at (take (octet_count vs) rdata) (after.octets ++ back) (rest_as text at at ((take (octet_count vs) rdata ++ after.octets) ++ back) (take (octet_count vs) rdata ++ (after.octets ++ back)) refl (append_assoc (take (octet_count vs) rdata) after.octets back) h) in
    let width : length (take (octet_count vs) rdata) ≡ octet_count vs = length-take-le (octet_count vs) rdata (octets_room vs fields rdata form) in
    let position : at + length (take (octet_count vs) rdata) ≡ at + octet_count vs = ap (λ (k : ℕ). at + k) width in
    let more = parts_done text earlier places (at + octet_count vs) fields (drop (octet_count vs) rdata) back (octets_behind vs fields rdata form) table (under_more earlier at (at + octet_count vs) (omega arith) under) (rest_as text (at + length (take (octet_count vs) rdata)) (at + octet_count vs) (after.octets ++ back) (after.octets ++ back) position refl p.behind) in
    let stop : at + octet_count vs + length after.octets ≡ at + length (take (octet_count vs) rdata ++ after.octets) = omega (arith, width, length-append (take (octet_count vs) rdata) after.octets) in
    record {
      later = more.later;
      compressed = (
        at + octet_count vs,
        subst (λ (k : ℕ). OctetsAt text at (take (octet_count vs) rdata) k) position p.here,
        subst (λ (k : ℕ). PartsCompressed text earlier (at + octet_count vs) fields (drop (octet_count vs) rdata) k more.later) stop more.compressed,
      );
      table = more.table;
      under = subst (Under more.later) stop more.under;
      behind = subst (λ (k : ℕ). Rest text k back) stop more.behind;
    }
parts_done text earlier places at (Name ∷ fields) rdata back form table under h =
    let name = labels_of rdata in
    let octets = compress_name places name in
    let here = compressed_name places at name in
    let behind = drop (length (wire name)) rdata in
    let mid = at + length octets in
    let after = compressed_fields here.places mid fields behind in
    let n = name_done text earlier places at name (after.octets ++ back) table under (rest_as text at at ((octets ++ after.octets) ++ back) (octets ++ (after.octets ++ back)) refl (append_assoc octets after.octets back) h) in
    let more = parts_done text (and_field earlier at mid name) here.places mid fields behind back (name_behind fields rdata form) n.table n.under n.behind in
    let stop : mid + length after.octets ≡ at + length (octets ++ after.octets) = omega (arith, length-append octets after.octets) in
    record {
      later = more.later;
      compressed = (mid, n.field, subst (λ (k : ℕ). PartsCompressed text (and_field earlier at mid name) mid fields behind k more.later) stop more.compressed);
      table = more.table;
      under = subst (Under more.later) stop more.under;
      behind = subst (λ (k : ℕ). Rest text k back) stop more.behind;
    }

-- a record
pub record RecordDone (text : List ℕ) (earlier : List Used) (places : List Place) (at : ℕ) (r : Record) (back : List ℕ) : Type 0 where
  pub later : List Used
  pub compressed : RecordCompressed text earlier at r (at + length (compressed_record places at r).octets) later
  pub table : AreThePlaces (OccursAt later) (compressed_record places at r).places
  pub under : Under later (at + length (compressed_record places at r).octets)
  pub behind : Rest text (at + length (compressed_record places at r).octets) back

-- its data
record DataDone (text : List ℕ) (earlier : List Used) (places : List Place) (at : ℕ) (r : Record) (f : Option (List Field)) (stop : ℕ) (back : List ℕ) : Type 0 where
  later : List Used
  compressed : MatchOption f (OctetsAt text at r.rdata stop × (later ≡ earlier)) (λ fields. PartsCompressed text earlier at fields r.rdata stop later)
  table : AreThePlaces (OccursAt later) (compressed_rdata places at r).places
  under : Under later stop
  behind : Rest text stop back

rdata_done : (text : List ℕ) (earlier : List Used) (places : List Place) (at : ℕ) (r : Record) (back : List ℕ) → IfSome (form r.rtype) (λ fields. AreFields fields r.rdata) → AreThePlaces (OccursAt earlier) places → Under earlier at
    → Rest text at ((compressed_rdata places at r).octets ++ back) → DataDone text earlier places at r (form r.rtype) (at + length (compressed_rdata places at r).octets) back
rdata_done text earlier places at r back fits table under h = go (form r.rtype) refl fits
  where
    go : (f : Option (List Field)) → form r.rtype ≡ f → IfSome f (λ fields. AreFields fields r.rdata) → DataDone text earlier places at r (form r.rtype) (at + length (compressed_rdata places at r).octets) back
    go None e form-is =
        let plain : Compressing = record { octets = r.rdata; places = places } in
        let same : compressed_rdata places at r ≡ plain = rw (e, compressed_rdata) refl in
        let p = piece text at r.rdata back (rest_as text at at ((compressed_rdata places at r).octets ++ back) (r.rdata ++ back) refl (ap (λ (x : Compressing). x.octets ++ back) same) h) in
        let stop : at + length r.rdata ≡ at + length (compressed_rdata places at r).octets = ap (λ (x : Compressing). at + length x.octets) (sym same) in
        record {
          later = earlier;
          compressed = subst (λ (f : Option (List Field)). MatchOption f (OctetsAt text at r.rdata (at + length (compressed_rdata places at r).octets) × (earlier ≡ earlier)) (λ fields. PartsCompressed text earlier at fields r.rdata (at + length (compressed_rdata places at r).octets) earlier)) (sym e)
              (subst (λ (k : ℕ). OctetsAt text at r.rdata k) stop p.here, refl);
          table = subst (λ (x : Compressing). AreThePlaces (OccursAt earlier) x.places) (sym same) table;
          under = under_more earlier at (at + length (compressed_rdata places at r).octets) (omega arith) under;
          behind = subst (λ (k : ℕ). Rest text k back) stop p.behind;
        }
    go (Some fields) e form-is =
        let parts = compressed_fields places at fields r.rdata in
        let same : compressed_rdata places at r ≡ parts = rw (e, compressed_rdata) refl in
        let d = parts_done text earlier places at fields r.rdata back form-is table under (rest_as text at at ((compressed_rdata places at r).octets ++ back) (parts.octets ++ back) refl (ap (λ (x : Compressing). x.octets ++ back) same) h) in
        let stop : at + length parts.octets ≡ at + length (compressed_rdata places at r).octets = ap (λ (x : Compressing). at + length x.octets) (sym same) in
        record {
          later = d.later;
          compressed = subst (λ (f : Option (List Field)). MatchOption f (OctetsAt text at r.rdata (at + length (compressed_rdata places at r).octets) × (d.later ≡ earlier)) (λ fields. PartsCompressed text earlier at fields r.rdata (at + length (compressed_rdata places at r).octets) d.later)) (sym e)
              (subst (λ (k : ℕ). PartsCompressed text earlier at fields r.rdata k d.later) stop d.compressed);
          table = subst (λ (x : Compressing). AreThePlaces (OccursAt d.later) x.places) (sym same) d.table;
          under = subst (Under d.later) stop d.under;
          behind = subst (λ (k : ℕ). Rest text k back) stop d.behind;
        }

regroup : (o t c l s d back : List ℕ) → (((((o ++ t) ++ c) ++ l) ++ s) ++ d) ++ back ≡ o ++ ((((t ++ c) ++ l) ++ s) ++ (d ++ back))
regroup o t c l s d back = simp append_assoc

pub record_done : (text : List ℕ) (earlier : List Used) (places : List Place) (at : ℕ) (r : Record) (back : List ℕ) → IsRecord r → AreThePlaces (OccursAt earlier) places → Under earlier at → Rest text at ((compressed_record places at r).octets ++ back) → RecordDone text earlier places at r back
record_done text earlier places at r back valid table under h =
    let owner = compress_name places r.owner in
    let here = compressed_name places at r.owner in
    let mid = at + length owner in
    let d = compressed_rdata here.places (mid + 10) r in
    let t = to_be_bytes w16 r.rtype in
    let c = to_be_bytes w16 class_in in
    let l = to_be_bytes w32 r.ttl in
    let s = to_be_bytes w16 (length d.octets) in
    let fixed = ((t ++ c) ++ l) ++ s in
    let n = name_done text earlier places at r.owner (fixed ++ (d.octets ++ back)) table under (rest_as text at at ((compressed_record places at r).octets ++ back) (owner ++ (fixed ++ (d.octets ++ back))) refl (regroup owner t c l s d.octets back) h) in
    let used = and_field earlier at mid r.owner in
    let p = piece text mid fixed (d.octets ++ back) n.behind in
    let q = rdata_done text used here.places (mid + 10) r back valid.rdata n.table (under_more used mid (mid + 10) (omega arith) n.under) p.behind in
    let stop : mid + 10 + length d.octets ≡ at + length (compressed_record places at r).octets = (let all : length ((owner ++ fixed) ++ d.octets) ≡ length owner + 10 + length d.octets = length-append (owner ++ fixed) d.octets ∙ ap (λ (k : ℕ). k + length d.octets) (length-append owner fixed) in
    let same : (compressed_record places at r).octets ≡ (owner ++ fixed) ++ d.octets = grouped owner t c l s d.octets in omega (arith, all, ap length same)) in
    record {
      later = q.later;
      compressed = record {
        mid = mid;
        size = length d.octets;
        owner = n.field;
        fixed = p.here;
        last = sym stop;
        rdata = subst (λ (k : ℕ). MatchOption (form r.rtype) (OctetsAt text (mid + 10) r.rdata k × (q.later ≡ used)) (λ fields. PartsCompressed text used (mid + 10) fields r.rdata k q.later)) stop q.compressed;
      };
      table = q.table;
      under = subst (Under q.later) stop q.under;
      behind = subst (λ (k : ℕ). Rest text k back) stop q.behind;
    }
  where
    grouped : (o t c l s d : List ℕ) → ((((o ++ t) ++ c) ++ l) ++ s) ++ d ≡ (o ++ (((t ++ c) ++ l) ++ s)) ++ d
    grouped o t c l s d = simp append_assoc

-- all records
pub records_done : (text : List ℕ) (earlier : List Used) (places : List Place) (at : ℕ) (rs : List Record) → AllByRecursion IsRecord rs → AreThePlaces (OccursAt earlier) places → Under earlier at → Rest text at (compressed_records places at rs) → RecordsCompressed text earlier at rs (length text)
records_done text earlier places at [] valid table under h =
    let whole : length text ≡ length h.front + 0 = ap length h.is ∙ length-append h.front [] in
    omega (arith, whole, h.size)
records_done text earlier places at (r ∷ rs) valid table under h =
    let here = compressed_record places at r in
    let d = record_done text earlier places at r (compressed_records here.places (at + length here.octets) rs) valid.0 table under h in
    (at + length here.octets, d.later, d.compressed, records_done text d.later here.places (at + length here.octets) rs valid.1 d.table d.under d.behind)

-- where no suffix is there yet, a name is in full
pub in_full : (name : Labels) → compress_name [] name ≡ wire name
in_full [] = refl
in_full (label ∷ rest) = ap (λ (xs : List ℕ). length label ∷ label ++ xs) (in_full rest)

pub record Asked (r : Reply) (at : ℕ) : Type 0 where
  pub table : AreThePlaces (OccursAt (question_fields r)) (question_places r)
  pub under : Under (question_fields r) at

nothing : Under [] 12
nothing = record { below = λ offset suffix s. absurd (table_first.none suffix refl offset s) }

asked_by : (r : Reply) (q : Option EchoedQuestion) → IfSome q IsEchoed → Asked (record r { question = q }) (12 + length (question_octets (record r { question = q })))
asked_by r None h = record { table = table_first; under = under_more [] 12 (12 + 0) (omega arith) nothing }
asked_by r (Some e) h =
    let name = e.name in
    let full : 12 + length (compress_name [] name) ≡ 12 + length (wire name) = ap (λ (xs : List ℕ). 12 + length xs) (in_full name) in
    let size : length e.octets ≡ length (wire name) + 4 = h.size in
    record {
      table = subst (λ (k : ℕ). AreThePlaces (OccursAt (and_field [] 12 k name)) (new_places [] 12 name)) full (table_next [] [] 12 name table_first nothing.below);
      under = under_more (and_field [] 12 (12 + length (wire name)) name) (12 + length (wire name)) (12 + length e.octets) (omega arith) (under_field [] 12 (12 + length (wire name)) name (omega arith) nothing);
    }

-- the computed text of a reply is compressed
pub text_compressed : (r : Reply) → IsReply r → IsCompressed (text r) r
text_compressed r valid =
    let head = header_octets r in
    let question = question_octets r in
    let rs = r.answer ++ r.authority ++ r.additional in
    let records = compressed_records (question_places r) (12 + length question) rs in
    let whole : Rest (text r) 0 (head ++ (question ++ records)) = record { front = []; is = append_assoc head question records; size = refl } in
    let one = piece (text r) 0 head (question ++ records) whole in
    let twelve : 0 + length head ≡ 12 = refl in
    let two = piece (text r) 12 question records (rest_as (text r) (0 + length head) 12 (question ++ records) (question ++ records) twelve refl one.behind) in
    let a = asked_by r r.question valid.question in
    record {
      behind = 12 + length question;
      header = subst (λ (k : ℕ). OctetsAt (text r) 0 head k) twelve one.here;
      question = two.here;
      records = records_done (text r) (question_fields r) (question_places r) (12 + length question) rs valid.records a.table a.under two.behind;
    }
