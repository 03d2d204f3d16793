-- Names that are compressed read back.
use Rattle.std.proofs.Common.{◌≡◌, ℕ, ◌+◌, ◌-◌, ◌/◌, ◌%◌, ◌<◌, ◌≤◌, Bool, true, false, List, [], ◌∷◌, ◌++◌, length, map, Option, Some, None, refl, sym, ap, subst, ◌∙◌, arith, append_assoc}
use Rattle.std.specs.Prelude.{nat_lt, slice_get}
use Rattle.std.specs.Option.{option_or}
use Rattle.std.specs.Char.{to_ascii_lowercase}
use Rattle.std.specs.List.{AllByRecursion}
use Rattle.std.proofs.lemmas.List.Folds.{find-append}
use Rattle.std.proofs.lemmas.Option.{none-some}
use Rattle.dns_names.specs.Name.{Labels, IsLabel, IsName, names_eq, wire}
use Rattle.dns_names.specs.Octets.{LabelAt, LabelsAt}
use Rattle.dns_wire.specs.NameAt.{IsPointer, NameAt, ends, points, FullNameAt}
use Rattle.dns_wire.specs.Compress.{Place, place_of, pointer, compress_name, new_places}
use Rattle.dns_wire.proofs.NamePut.{compressed_label}
use Rattle.dns_wire.proofs.Places.{names_same, written_size}
use Rattle.dns_wire.proofs.TextCompressed.{Rest, piece, rest_as, in_full}

get_front : (front : List ℕ) (k : ℕ) (more : List ℕ) → slice_get (front ++ k ∷ more) (length front) ≡ Some k
get_front [] k more = refl
get_front (x ∷ front) k more = get_front front k more

pub first_of : (text : List ℕ) (at k : ℕ) (more : List ℕ) → Rest text at (k ∷ more) → slice_get text at ≡ Some k
first_of text at k more h = ap (λ (i : ℕ). slice_get text i) (sym h.size) ∙ ap (λ (xs : List ℕ). slice_get xs (length h.front)) h.is ∙ get_front h.front k more

-- labels from an offset on, and how they end, in a run that began at another
pub data Tail (text : List ℕ) (start at : ℕ) (name : Labels) (end : ℕ) : Type 0 where
  to_root : (stop : ℕ) → LabelsAt text at name stop → slice_get text stop ≡ Some 0 → end ≡ stop + 1 → Tail text start at name end
  to_pointer : (labels rest : Labels) (stop target after : ℕ) → LabelsAt text at labels stop → IsPointer text stop target → 12 ≤ target → target < start → NameAt text target rest after → name ≡ labels ++ rest → end ≡ stop + 2 → Tail text start at name end

pub tail_name : (text : List ℕ) (start at : ℕ) (name : Labels) (end : ℕ) → start ≤ at → Tail text start at name end → NameAt text at name end
tail_name text start at name end up (to_root stop h z e) = ends stop h z e
tail_name text start at name end up (to_pointer labels rest stop target after h p far back inner is e) = points labels rest stop target after h p far (omega arith) inner is e

tail_label : (text : List ℕ) (start at : ℕ) (label : List ℕ) (rest : Labels) (end : ℕ) → LabelAt text at label → Tail text start (at + 1 + length label) rest end → Tail text start at (label ∷ rest) end
tail_label text start at label rest end l (to_root stop h z e) = to_root stop (l, h) z e
tail_label text start at label rest end l (to_pointer labels more stop target after h p far back inner is e) = to_pointer (label ∷ labels) more stop target after (l, h) p far back inner (ap (λ (xs : Labels). label ∷ xs) is) e

-- the positions of a table are names that are there
pub record ReadAt (text : List ℕ) (at offset : ℕ) (suffix : Labels) : Type 0 where
  pub far : 12 ≤ offset
  pub back : offset < at
  pub end : ℕ
  pub stands : NameAt text offset suffix end

pub record Readable (text : List ℕ) (places : List Place) (at : ℕ) : Type 0 where
  pub reads : (suffix : Labels) (p : Place) → place_of places suffix ≡ Some p → ReadAt text at p.offset suffix

pub readable_none : (text : List ℕ) (at : ℕ) → Readable text [] at
readable_none text at = record { reads = λ suffix p e. absurd (none-some p e) }

pub readable_more : (text : List ℕ) (places : List Place) (at at' : ℕ) → at ≤ at' → Readable text places at → Readable text places at'
readable_more text places at at' up h = record {
  reads = λ suffix p e.
      (let r = h.reads suffix p e in
      let back : p.offset < at = r.back in
      record { far = r.far; back = omega arith; end = r.end; stands = r.stands });
}

-- a label that is written is there
record LabelDone (text : List ℕ) (at : ℕ) (label more : List ℕ) : Type 0 where
  label-at : LabelAt text at label
  behind : Rest text (at + 1 + length label) more

label_done : (text : List ℕ) (at : ℕ) (label more : List ℕ) → IsLabel label → Rest text at ((length label ∷ label) ++ more) → LabelDone text at label more
label_done text at label more valid h =
    let one = piece text at (length label ∷ []) (label ++ more) h in
    let two = piece text (at + 1) label more one.behind in
    let width : at + 1 + length label - (at + 1) ≡ length label = omega arith in
    record {
      label-at = record {
        some = valid.some;
        short = valid.short;
        counted = first_of text at (length label) (label ++ more) h;
        inside = two.here.inside;
        read = sym (ap (map to_ascii_lowercase) two.here.read ∙ valid.lower);
      };
      behind = two.behind;
    }

pointer_done : (text : List ℕ) (at offset : ℕ) (more : List ℕ) → Rest text at (pointer offset ++ more) → IsPointer text at offset
pointer_done text at offset more h =
    let one = piece text at ((192 + offset / 256) ∷ []) (offset % 256 ∷ more) h in
    record {
      high = 192 + offset / 256;
      low = offset % 256;
      first = first_of text at (192 + offset / 256) (offset % 256 ∷ more) h;
      second = first_of text (at + 1) (offset % 256) more one.behind;
      marked = omega arith;
      offset = omega arith;
    }

-- a name that is compressed is a run of labels and its end
pub name_tail : (text : List ℕ) (places : List Place) (start at : ℕ) (name : Labels) (back : List ℕ) → Readable text places start → AllByRecursion IsLabel name → Rest text at (compress_name places name ++ back) → Tail text start at name (at + length (compress_name places name))
name_tail text places start at [] back table valid h = to_root at refl (first_of text at 0 back h) refl
name_tail text places start at (label ∷ rest) back table valid h = go (place_of places (label ∷ rest)) refl (λ d. name_tail text places start (at + 1 + length label) rest back table valid.1 d)
  where
    go : (o : Option Place) → place_of places (label ∷ rest) ≡ o → (Rest text (at + 1 + length label) (compress_name places rest ++ back) → Tail text start (at + 1 + length label) rest (at + 1 + length label + length (compress_name places rest))) → Tail text start at (label ∷ rest) (at + length (compress_name places (label ∷ rest)))
    go None e inner =
        let octets : compress_name places (label ∷ rest) ≡ (length label ∷ label) ++ compress_name places rest = compressed_label places label rest e in
        let d = label_done text at label (compress_name places rest ++ back) valid.0 (rest_as text at at (compress_name places (label ∷ rest) ++ back) ((length label ∷ label) ++ (compress_name places rest ++ back)) refl
        (ap (λ (xs : List ℕ). xs ++ back) octets ∙ append_assoc (length label ∷ label) (compress_name places rest) back) h) in
        let size = written_size places label rest e in
        let end : at + 1 + length label + length (compress_name places rest) ≡ at + length (compress_name places (label ∷ rest)) = omega (arith, size) in
        subst (λ (k : ℕ). Tail text start at (label ∷ rest) k) end (tail_label text start at label rest (at + 1 + length label + length (compress_name places rest)) d.label-at (inner d.behind))
    go (Some p) e inner =
        let octets : compress_name places (label ∷ rest) ≡ pointer p.offset = rw (e, compress_name) refl in
        let r = table.reads (label ∷ rest) p e in
        let here = pointer_done text at p.offset back (rest_as text at at (compress_name places (label ∷ rest) ++ back) (pointer p.offset ++ back) refl (ap (λ (xs : List ℕ). xs ++ back) octets) h) in
        to_pointer [] (label ∷ rest) at p.offset r.end refl here r.far r.back r.stands refl (ap (λ (xs : List ℕ). at + length xs) octets)

pub name_back : (text : List ℕ) (places : List Place) (at : ℕ) (name : Labels) (back : List ℕ) → Readable text places at → IsName name → Rest text at (compress_name places name ++ back) → FullNameAt text at name (at + length (compress_name places name))
name_back text places at name back table valid h = record {
  stands = tail_name text at at name (at + length (compress_name places name)) (omega arith) (name_tail text places at at name back table valid.labels h);
  valid = valid;
}

-- a name in full
pub full_back : (text : List ℕ) (at : ℕ) (name : Labels) (back : List ℕ) → IsName name → Rest text at (wire name ++ back) → FullNameAt text at name (at + length (wire name))
full_back text at name back valid h =
    subst (λ (xs : List ℕ). FullNameAt text at name (at + length xs)) (in_full name)
    (name_back text [] at name back (readable_none text at) valid (rest_as text at at (wire name ++ back) (compress_name [] name ++ back) refl (ap (λ (xs : List ℕ). xs ++ back) (sym (in_full name))) h))

-- each suffix is at the position that a name adds for it
new_back : (text : List ℕ) (places : List Place) (start at : ℕ) (name : Labels) (back : List ℕ) → Readable text places start → start ≤ at → 12 ≤ at → AllByRecursion IsLabel name → Rest text at (compress_name places name ++ back)
    → (suffix : Labels) (p : Place) → place_of (new_places places at name) suffix ≡ Some p → ReadAt text (at + length (compress_name places name)) p.offset suffix
new_back text places start at [] back table up far valid h suffix p e = absurd (none-some p e)
new_back text places start at (label ∷ rest) back table up far valid h suffix p e =
    go (place_of places (label ∷ rest)) refl (nat_lt at 16384) refl (names_eq (label ∷ rest) suffix) refl (λ d g. new_back text places start (at + 1 + length label) rest back table (omega arith) (omega arith) valid.1 d suffix p g)
  where
    go : (o : Option Place) → place_of places (label ∷ rest) ≡ o → (b : Bool) → nat_lt at 16384 ≡ b → (c : Bool) → names_eq (label ∷ rest) suffix ≡ c
        → (Rest text (at + 1 + length label) (compress_name places rest ++ back) → place_of (new_places places (at + 1 + length label) rest) suffix ≡ Some p → ReadAt text (at + 1 + length label + length (compress_name places rest)) p.offset suffix)
        → ReadAt text (at + length (compress_name places (label ∷ rest))) p.offset suffix
    go (Some q) i b lt c same behind = absurd (let none : place_of (new_places places at (label ∷ rest)) suffix ≡ None = rw (i, new_places) refl in none-some p (sym none ∙ e))
    go None i false lt c same behind = absurd (let none : place_of (new_places places at (label ∷ rest)) suffix ≡ None = rw (i, lt, new_places) refl in none-some p (sym none ∙ e))
    go None i true lt true same behind =
        let here : Place = record { offset = at; suffix = label ∷ rest } in
        let some : place_of (new_places places at (label ∷ rest)) suffix ≡ Some here = rw (i, lt, new_places, same) refl in
        let one : Some here ≡ Some p = sym some ∙ e in
        let is : here ≡ p = cc in
        let size = written_size places label rest i in
        let stands = tail_name text start at (label ∷ rest) (at + length (compress_name places (label ∷ rest))) up (name_tail text places start at (label ∷ rest) back table valid h) in
        let made : ReadAt text (at + length (compress_name places (label ∷ rest))) at (label ∷ rest) = record { far = far; back = omega (arith, size); end = at + length (compress_name places (label ∷ rest)); stands = stands } in
        subst (λ (x : Labels). ReadAt text (at + length (compress_name places (label ∷ rest))) p.offset x) (names_same (label ∷ rest) suffix same)
        (subst (λ (k : ℕ). ReadAt text (at + length (compress_name places (label ∷ rest))) k (label ∷ rest)) (ap (λ (x : Place). x.offset) is) made)
    go None i true lt false same behind =
        let goes : place_of (new_places places at (label ∷ rest)) suffix ≡ place_of (new_places places (at + 1 + length label) rest) suffix = rw (i, lt, new_places, same) refl in
        let octets : compress_name places (label ∷ rest) ≡ (length label ∷ label) ++ compress_name places rest = compressed_label places label rest i in
        let d = label_done text at label (compress_name places rest ++ back) valid.0 (rest_as text at at (compress_name places (label ∷ rest) ++ back) ((length label ∷ label) ++ (compress_name places rest ++ back)) refl
        (ap (λ (xs : List ℕ). xs ++ back) octets ∙ append_assoc (length label ∷ label) (compress_name places rest) back) h) in
        let size = written_size places label rest i in
        let end : at + 1 + length label + length (compress_name places rest) ≡ at + length (compress_name places (label ∷ rest)) = omega (arith, size) in
        subst (λ (k : ℕ). ReadAt text k p.offset suffix) end (behind d.behind (sym goes ∙ e))

-- the table stays readable over one more name
pub readable_next : (text : List ℕ) (places : List Place) (at : ℕ) (name : Labels) (back : List ℕ) → Readable text places at → 12 ≤ at → AllByRecursion IsLabel name → Rest text at (compress_name places name ++ back)
    → Readable text (places ++ new_places places at name) (at + length (compress_name places name))
readable_next text places at name back table far valid h = record { reads = λ suffix p e. go suffix p (place_of places suffix) refl (sym (find-append (λ q. names_eq q.suffix suffix) places (new_places places at name)) ∙ e) }
  where
    go : (suffix : Labels) (p : Place) (o : Option Place) → place_of places suffix ≡ o → option_or (place_of places suffix) (place_of (new_places places at name) suffix) ≡ Some p → ReadAt text (at + length (compress_name places name)) p.offset suffix
    go suffix p (Some q) i e =
        let new = place_of (new_places places at name) suffix in
        let is : Some q ≡ Some p = sym (ap (λ (o : Option Place). option_or o new) i) ∙ e in
        let old : place_of places suffix ≡ Some p = i ∙ is in
        (readable_more text places at (at + length (compress_name places name)) (omega arith) table).reads suffix p old
    go suffix p None i e =
        let new = place_of (new_places places at name) suffix in
        let is : new ≡ Some p = sym (ap (λ (o : Option Place). option_or o new) i) ∙ e in
        new_back text places at at name back table (omega arith) far valid h suffix p is
