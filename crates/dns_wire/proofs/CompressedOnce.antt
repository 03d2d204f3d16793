-- A reply has at most one compressed text.
use Rattle.std.proofs.Common.{◌≡◌, ℕ, ◌+◌, ◌-◌, List, [], ◌∷◌, ◌++◌, length, take, drop, Option, Some, None, refl, sym, ap, subst, ◌∙◌, arith, take-add}
use Rattle.std.specs.Prelude.{MatchOption}
use Rattle.std.specs.Int.{w16, w32, to_be_bytes}
use Rattle.std.proofs.Math.Seq.{take-length}
use Rattle.dns_names.specs.Name.{Labels, wire, labels_of}
use Rattle.dns_records.specs.Types.{Field, Values, octet_count, Name, UncompressedName, Strings, form, class_in}
use Rattle.dns_records.specs.Record.{Record}
use Rattle.dns_wire.specs.Text.{Reply, header_octets, question_octets}
use Rattle.dns_wire.specs.Compressed.{Used, OccursAt, OctetsAt, FieldCompressed, and_field, PartsCompressed, RecordCompressed, RecordsCompressed, question_fields, IsCompressed}
use Rattle.dns_wire.proofs.Written.{written_once}

-- two texts end a part at one offset and have the same fields after it; if they agree up to it, they agree after it
record Same (t u : List ℕ) (at i j : ℕ) (a b : List Used) : Type 0 where
  stop : i ≡ j
  later : a ≡ b
  agree : take at t ≡ take at u → take i t ≡ take j u

front_of : (t : List ℕ) (at i : ℕ) (octets : List ℕ) → OctetsAt t at octets i → take i t ≡ take at t ++ octets
front_of t at i octets h =
    let last : i ≡ at + length octets = h.last in
    let width : i ≡ at + (i - at) = omega arith in
    ap (λ (k : ℕ). take k t) width ∙ take-add at (i - at) t ∙ ap (λ (xs : List ℕ). take at t ++ xs) h.read

octets_same : (t u : List ℕ) (at i j : ℕ) (x y : List ℕ) (a b : List Used) → x ≡ y → a ≡ b → OctetsAt t at x i → OctetsAt u at y j → Same t u at i j a b
octets_same t u at i j x y a b e later h k = record {
  stop = h.last ∙ ap (λ (xs : List ℕ). at + length xs) e ∙ sym k.last;
  later = later;
  agree = λ so_far. front_of t at i x h ∙ ap (λ (xs : List ℕ). xs ++ x) so_far ∙ ap (λ (xs : List ℕ). take at u ++ xs) e ∙ sym (front_of u at j y k);
}

field_octets : (t u : List ℕ) (earlier : List Used) (at : ℕ) (name : Labels) (i j : ℕ) (h : FieldCompressed t earlier at name i) (k : FieldCompressed u earlier at name j) → h.octets ≡ k.octets
field_octets t u earlier at name i j h k =
    written_once (OccursAt earlier) (OccursAt earlier) name h.octets k.octets (λ o n s. s) (λ o n s. s) h.written k.written

field_same : (t u : List ℕ) (earlier : List Used) (at : ℕ) (name : Labels) (i j : ℕ) → FieldCompressed t earlier at name i → FieldCompressed u earlier at name j → Same t u at i j (and_field earlier at i name) (and_field earlier at j name)
field_same t u earlier at name i j h k =
    let e = field_octets t u earlier at name i j h k in
    let stop : i ≡ j = h.here.last ∙ ap (λ (xs : List ℕ). at + length xs) e ∙ sym k.here.last in
    octets_same t u at i j h.octets k.octets (and_field earlier at i name) (and_field earlier at j name) e (ap (λ (x : ℕ). and_field earlier at x name) stop) h.here k.here

joined : (t u : List ℕ) (at i j i' j' : ℕ) (a b a' b' : List Used) → Same t u at i j a b → Same t u i i' j' a' b' → Same t u at i' j' a' b'
joined t u at i j i' j' a b a' b' h k = record {
  stop = k.stop;
  later = k.later;
  agree = λ so_far. k.agree (h.agree so_far ∙ ap (λ (x : ℕ). take x u) (sym h.stop));
}

parts_same : (t u : List ℕ) (earlier earlier' : List Used) (at at' : ℕ) (fields : List Field) (rdata : List ℕ) (i j : ℕ) (a b : List Used) → at ≡ at' → earlier ≡ earlier'
    → PartsCompressed t earlier at fields rdata i a → PartsCompressed u earlier' at' fields rdata j b → Same t u at i j a b
parts_same t u earlier earlier' at at' [] rdata i j a b p q h k =
    octets_same t u at i j rdata rdata a b refl (h.1 ∙ q ∙ sym k.1) h.0 (subst (λ (x : ℕ). OctetsAt u x rdata j) (sym p) k.0)
parts_same t u earlier earlier' at at' (Values vs ∷ fields) rdata i j a b p q (mid, h, more) (mid', k, more') =
    let one = octets_same t u at mid mid' (take (octet_count vs) rdata) (take (octet_count vs) rdata) earlier earlier' refl q h (subst (λ (x : ℕ). OctetsAt u x (take (octet_count vs) rdata) mid') (sym p) k) in
    joined t u at mid mid' i j earlier earlier' a b one (parts_same t u earlier earlier' mid mid' fields (drop (octet_count vs) rdata) i j a b one.stop q more more')
parts_same t u earlier earlier' at at' (Name ∷ fields) rdata i j a b p q (mid, h, more) (mid', k, more') =
    let name = labels_of rdata in
    let k1 : FieldCompressed u earlier at' name mid' = subst (λ (e : List Used). FieldCompressed u e at' name mid') (sym q) k in
    let k2 : FieldCompressed u earlier at name mid' = subst (λ (x : ℕ). FieldCompressed u earlier x name mid') (sym p) k1 in
    let one = field_same t u earlier at name mid mid' h k2 in
    let used : and_field earlier at mid name ≡ and_field earlier' at' mid' name =
    one.later ∙ ap (λ (e : List Used). and_field e at mid' name) q ∙ ap (λ (x : ℕ). and_field earlier' x mid' name) p in
    joined t u at mid mid' i j (and_field earlier at mid name) (and_field earlier at mid' name) a b one
    (parts_same t u (and_field earlier at mid name) (and_field earlier' at' mid' name) mid mid' fields (drop (length (wire name)) rdata) i j a b one.stop used more more')
parts_same t u earlier earlier' at at' (UncompressedName ∷ fields) rdata i j a b p q h k =
    octets_same t u at i j rdata rdata a b refl (h.1 ∙ q ∙ sym k.1) h.0 (subst (λ (x : ℕ). OctetsAt u x rdata j) (sym p) k.0)
parts_same t u earlier earlier' at at' (Strings ∷ fields) rdata i j a b p q h k =
    octets_same t u at i j rdata rdata a b refl (h.1 ∙ q ∙ sym k.1) h.0 (subst (λ (x : ℕ). OctetsAt u x rdata j) (sym p) k.0)

data_same : (t u : List ℕ) (earlier earlier' : List Used) (at at' : ℕ) (f : Option (List Field)) (rdata : List ℕ) (i j : ℕ) (a b : List Used) → at ≡ at' → earlier ≡ earlier'
    → MatchOption f (OctetsAt t at rdata i × (a ≡ earlier)) (λ fields. PartsCompressed t earlier at fields rdata i a)
    → MatchOption f (OctetsAt u at' rdata j × (b ≡ earlier')) (λ fields. PartsCompressed u earlier' at' fields rdata j b) → Same t u at i j a b
data_same t u earlier earlier' at at' None rdata i j a b p q h k = parts_same t u earlier earlier' at at' [] rdata i j a b p q h k
data_same t u earlier earlier' at at' (Some fields) rdata i j a b p q h k = parts_same t u earlier earlier' at at' fields rdata i j a b p q h k

-- RDLENGTH is the same, since the data after it ends at one offset
record_same : (t u : List ℕ) (earlier : List Used) (at : ℕ) (r : Record) (i j : ℕ) (a b : List Used) → RecordCompressed t earlier at r i a → RecordCompressed u earlier at r j b → Same t u at i j a b
record_same t u earlier at r i j a b h k =
    let one = field_same t u earlier at r.owner h.mid k.mid h.owner k.owner in
    let position : h.mid ≡ k.mid = one.stop in
    let three = data_same t u (and_field earlier at h.mid r.owner) (and_field earlier at k.mid r.owner) (h.mid + 10) (k.mid + 10) (form r.rtype) r.rdata i j a b (ap (λ (x : ℕ). x + 10) position) one.later h.rdata k.rdata in
    let end : i ≡ j = three.stop in
    let last : i ≡ h.mid + 10 + h.size = h.last in
    let last' : j ≡ k.mid + 10 + k.size = k.last in
    let size : h.size ≡ k.size = omega (arith, position, end, last, last') in
    let head = λ (n : ℕ). to_be_bytes w16 r.rtype ++ to_be_bytes w16 class_in ++ to_be_bytes w32 r.ttl ++ to_be_bytes w16 n in
    let k' : OctetsAt u h.mid (head k.size) (k.mid + 10) = subst (λ (x : ℕ). OctetsAt u x (head k.size) (k.mid + 10)) (sym position) k.fixed in
    let two = octets_same t u h.mid (h.mid + 10) (k.mid + 10) (head h.size) (head k.size) a b (ap head size) three.later h.fixed k' in
    joined t u at h.mid k.mid i j (and_field earlier at h.mid r.owner) (and_field earlier at k.mid r.owner) a b one
    (joined t u h.mid (h.mid + 10) (k.mid + 10) i j a b a b two three)

records_same : (t u : List ℕ) (earlier earlier' : List Used) (at at' : ℕ) (rs : List Record) (i j : ℕ) → at ≡ at' → earlier ≡ earlier' → RecordsCompressed t earlier at rs i → RecordsCompressed u earlier' at' rs j → take at t ≡ take at' u → take i t ≡ take j u
records_same t u earlier earlier' at at' [] i j p q h k so_far = ap (λ (x : ℕ). take x t) (sym h) ∙ so_far ∙ ap (λ (x : ℕ). take x u) k
records_same t u earlier earlier' at at' (r ∷ rs) i j p q (mid, a, first, more) (mid', b, first', more') so_far =
    let k1 : RecordCompressed u earlier at' r mid' b = subst (λ (e : List Used). RecordCompressed u e at' r mid' b) (sym q) first' in
    let k2 : RecordCompressed u earlier at r mid' b = subst (λ (x : ℕ). RecordCompressed u earlier x r mid' b) (sym p) k1 in
    let one = record_same t u earlier at r mid mid' a b first k2 in
    records_same t u a b mid mid' rs i j one.stop one.later more more' (one.agree (so_far ∙ ap (λ (x : ℕ). take x u) (sym p)))

pub compressed_once : (t u : List ℕ) (r : Reply) → IsCompressed t r → IsCompressed u r → t ≡ u
compressed_once t u r h k =
    let head = octets_same t u 0 12 12 (header_octets r) (header_octets r) [] [] refl refl h.header k.header in
    let question = octets_same t u 12 h.behind k.behind (question_octets r) (question_octets r) [] [] refl refl h.question k.question in
    let whole : take (length t) t ≡ take (length u) u =
    records_same t u (question_fields r) (question_fields r) h.behind k.behind (r.answer ++ r.authority ++ r.additional) (length t) (length u) question.stop refl h.records k.records (question.agree (head.agree refl)) in
    sym (take-length t) ∙ whole ∙ take-length u
