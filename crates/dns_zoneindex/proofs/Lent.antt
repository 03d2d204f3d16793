-- Runs of the records that are one after another.
use Rattle.std.proofs.Common.{◌≡◌, ℕ, zero, suc, ◌+◌, ◌-◌, ◌<◌, ◌≤◌, List, [], ◌∷◌, ◌++◌, length, map, take, drop, inl, inr, refl, sym, ap, subst, ◌∙◌, arith, append_assoc, length-append, length-drop, length-take}
use Rattle.std.proofs.lemmas.List.{drop-append-le, map-append, length-map}
use Rattle.std.proofs.Math.Seq.{drop-append-add}
use Rattle.std.specs.Prelude.{slice_get, Some, None}
use Rattle.std.proofs.lemmas.Option.{slice_get_past, slice_get_within}
use Rattle.dns_records.specs.Record.{Record}
use Rattle.dns_zone.specs.Records.{next_after}
use Rattle.dns_zone.proofs.Searching.{told_nat}
use Rattle.dns_zoneindex.specs.Entries.{PathRecord, Child, here, pushed, flat}
use Rattle.dns_zoneindex.specs.Children.{joined, AllFull, AreChildren}
use Rattle.dns_zoneindex.proofs.Counts.{length-pushed, length-flat-append}
use Rattle.dns_zoneindex.proofs.Sides.{children_front, children_back}
use Rattle.dns_zoneindex.specs.Lent.{IsLent, IsThere}
use Rattle.dns_zoneindex.proofs.Slots.{around, full_front, full_back, joined-append}
use Rattle.dns_zoneindex.specs.Owned.{path_records}
use Rattle.dns_zoneindex.specs.Size.{children_size}

pub lent_front : (rs more : List Record) (position : ℕ) → position < length rs → IsLent (rs ++ more) position (drop position rs)
lent_front rs more position inside = record {
  run = (more, drop-append-le position rs more (omega arith));
  some = λ h. omega (arith, length-drop position rs, inside);
}

pub lent_left : (a b : List Record) (position : ℕ) (run : List Record) → position < length a → IsLent a position run → IsLent (a ++ b) position run
lent_left a b position run inside h = record {
  run = (h.run.0 ++ b, drop-append-le position a b (omega arith) ∙ ap (λ z. z ++ b) h.run.1 ∙ append_assoc run h.run.0 b);
  some = λ k. h.some inside;
}

pub lent_right : (a b : List Record) (position : ℕ) (run : List Record) → length a ≤ position → IsLent b (position - length a) run → IsLent (a ++ b) position run
lent_right a b position run past h =
    let at : position ≡ length a + (position - length a) = omega arith in
    record {
      run = (h.run.0, ap (λ n. drop n (a ++ b)) at ∙ drop-append-add a b (position - length a) ∙ h.run.1);
      some = λ k. h.some (omega (arith, k, length-append a b));
    }

-- after so many
pub lent_past : (a b : List Record) (position k : ℕ) (run : List Record) → length a ≡ k → k ≤ position → IsLent b (position - k) run → IsLent (a ++ b) position run
lent_past a b position k run e past h = lent_right a b position run (omega arith) (subst (λ n. IsLent b (position - n) run) (sym e) h)

-- the end of a slice
slice_end : (rs : List Record) (position : ℕ) → take (length rs - position) (drop position rs) ≡ drop position rs
slice_end rs position = ap (λ n. take n (drop position rs)) (sym (length-drop position rs)) ∙ take-all (drop position rs)
  where
    take-all : (xs : List Record) → take (length xs) xs ≡ xs
    take-all [] = refl
    take-all (x ∷ xs) = ap (λ z. x ∷ z) (take-all xs)

pub lent_slice : (rs more : List Record) (position : ℕ) → position < length rs → IsLent (rs ++ more) position (take (length rs - position) (drop position rs))
lent_slice rs more position inside = subst (IsLent (rs ++ more) position) (sym (slice_end rs position)) (lent_front rs more position inside)

-- the records of entries
pub records_pushed : (l : List ℕ) (own : List PathRecord) → path_records (map (pushed l) own) ≡ path_records own
records_pushed l [] = refl
records_pushed l (e ∷ own) = ap (λ z. e.record_there ∷ z) (records_pushed l own)

pub records_flat : (c : Child) (cs : List Child) → path_records (flat (c ∷ cs)) ≡ path_records c.own ++ path_records (flat cs)
records_flat c cs = map-append (λ (e : PathRecord). e.record_there) (map (pushed c.label) c.own) (flat cs) ∙ ap (λ z. z ++ path_records (flat cs)) (records_pushed c.label c.own)

pub records_joined : (a b : List Child) → path_records (flat (a ++ b)) ≡ path_records (flat a) ++ path_records (flat b)
records_joined [] b = refl
records_joined (c ∷ a) b =
    records_flat c (a ++ b)
    ∙ ap (λ z. path_records c.own ++ z) (records_joined a b)
    ∙ sym (append_assoc (path_records c.own) (path_records (flat a)) (path_records (flat b)))
    ∙ ap (λ z. z ++ path_records (flat b)) (sym (records_flat c a))

pub records_own : (rs : List Record) (es : List PathRecord) → path_records (map here rs ++ es) ≡ rs ++ path_records es
records_own [] es = refl
records_own (r ∷ rs) es = ap (λ z. r ∷ z) (records_own rs es)

pub records_count : (es : List PathRecord) → length (path_records es) ≡ length es
records_count es = length-map es (λ e. e.record_there)

-- the record of a position
front_of : (xs : List Record) (n : ℕ) → slice_get xs n ≡ slice_get (drop n xs) 0
front_of [] zero = refl
front_of [] (suc n) = refl
front_of (x ∷ xs) zero = refl
front_of (x ∷ xs) (suc n) = front_of xs n

pub lent_first : (xs : List Record) (position : ℕ) (lent : List Record) → IsLent xs position lent → slice_get lent 0 ≡ slice_get xs position
lent_first xs position [] h = elim (told_nat position (length xs)) [
  | inl lt ↦ absurd (omega (arith, h.some lt))
  | inr ge ↦ sym (slice_get_past xs position ge)
]
lent_first xs position (r ∷ rest) h = sym (front_of xs position ∙ ap (λ z. slice_get z 0) h.run.1)

-- a run within a slot
pub lent_there : (slots : List (List Child)) (position : ℕ) (slot : List Child) (left : ℕ) (run : List Record) → IsThere slots position slot left
    → IsLent (path_records (flat slot)) left run
    → IsLent (path_records (flat (joined slots))) position run
lent_there slots position slot left run h lent =
    let a = path_records (flat (joined h.front)) in
    let b = path_records (flat slot) in
    let d = path_records (flat (joined h.back)) in
    let before : length a ≡ length (flat (joined h.front)) = records_count (flat (joined h.front)) in
    let inside : left < length b = omega (arith, h.within, records_count (flat slot)) in
    let at : left ≡ position - length (flat (joined h.front)) = omega (arith, h.before) in
    let is : path_records (flat (joined slots)) ≡ a ++ (b ++ d) =
    ap (λ x. path_records (flat x)) (ap joined h.whole ∙ joined-append h.front (slot ∷ h.back))
    ∙ records_joined (joined h.front) (slot ++ joined h.back)
    ∙ ap (λ z. a ++ z) (records_joined slot (joined h.back)) in
    subst (λ x. IsLent x position run) (sym is)
    (lent_past a (b ++ d) position (length (flat (joined h.front))) run before (omega (arith, h.before))
    (subst (λ n. IsLent (b ++ d) n run) at (lent_left b d left run inside lent)))

pub first_record : (xs : List Record) → slice_get xs 0 ≡ next_after None xs
first_record [] = refl
first_record (x ∷ xs) = refl

-- where each slot has one record, as many are before a slot as slots are
some_least : (s : List Child) → 0 < length s → AreChildren s → 0 < length (flat s)
some_least [] f k = absurd (omega (arith, f))
some_least (c ∷ s) f k = omega (arith, k.0, length-pushed c (flat s))

least : (slots : List (List Child)) → AllFull slots → AreChildren (joined slots) → length slots ≤ length (flat (joined slots))
least [] f k = omega arith
least (s ∷ slots) f k =
    omega (
      arith,
      least slots f.1 (children_back s (joined slots) k),
      some_least s f.0 (children_front s (joined slots) k),
      length-flat-append s (joined slots),
    )

pub one_each : (slots : List (List Child)) (count position : ℕ) (s : List Child) → AllFull slots → AreChildren (joined slots) → count ≡ length (flat (joined slots))
    → count ≡ length slots
    → slice_get slots position ≡ Some s
    → IsThere slots position s 0
one_each slots count position s f k all each at =
    let a = take position slots in
    let b = drop (suc position) slots in
    let is : slots ≡ a ++ (s ∷ b) = around slots position s at in
    let kept : AreChildren (joined (a ++ (s ∷ b))) = subst (λ x. AreChildren (joined x)) is k in
    let full : AllFull (a ++ (s ∷ b)) = subst AllFull is f in
    let parts : AreChildren (joined a ++ (s ++ joined b)) = subst AreChildren (joined-append a (s ∷ b)) kept in
    let later = children_back (joined a) (s ++ joined b) parts in
    let there : position < length slots = slice_get_within slots position s at in
    let long : length a ≡ position = omega (arith, length-take position slots, there) in
    let front = least a (full_front a (s ∷ b) full) (children_front (joined a) (s ++ joined b) parts) in
    let back = least b (full_back a (s ∷ b) full).1 (children_back s (joined b) later) in
    let here = some_least s (full_back a (s ∷ b) full).0 (children_front s (joined b) later) in
    let sum : length (flat (joined slots)) ≡ length (flat (joined a)) + (length (flat s) + length (flat (joined b))) =
    ap (λ x. length (flat (joined x))) is
    ∙ ap (λ x. length (flat x)) (joined-append a (s ∷ b))
    ∙ length-flat-append (joined a) (s ++ joined b)
    ∙ ap (λ n. length (flat (joined a)) + n) (length-flat-append s (joined b)) in
    let total : length slots ≡ length a + suc (length b) = ap length is ∙ length-append a (s ∷ b) in
    record {
      front = a;
      back = b;
      whole = is;
      before = omega (arith, all, each, sum, total, front, back, here, long);
      within = here;
    }

pub lent_none : (es : List PathRecord) (position : ℕ) → length es ≤ position → IsLent (path_records es) position []
lent_none es position past = record {
  run = (drop position (path_records es), refl);
  some = λ h. absurd (omega (arith, h, past, records_count es));
}

-- a slot weighs less than all
sizes_both : (a b : List Child) → children_size (a ++ b) ≡ children_size a + children_size b
sizes_both [] b = omega arith
sizes_both (x ∷ a) b = omega (arith, sizes_both a b)

weighs : (slots : List (List Child)) → AllFull slots → length slots ≤ children_size (joined slots)
weighs [] f = omega arith
weighs ([] ∷ slots) f = absurd (omega (arith, f.0))
weighs ((c ∷ s) ∷ slots) f = omega (arith, weighs slots f.1, sizes_both (c ∷ s) (joined slots))

pub slot_smaller : (slots : List (List Child)) (position left : ℕ) (s : List Child) → IsThere slots position s left → AllFull slots → 1 < length slots
    → children_size s < children_size (joined slots)
slot_smaller slots position left s h f more =
    let full : AllFull (h.front ++ (s ∷ h.back)) = subst AllFull h.whole f in
    omega (
      arith,
      more,
      ap length h.whole,
      length-append h.front (s ∷ h.back),
      ap (λ x. children_size (joined x)) h.whole,
      ap children_size (joined-append h.front (s ∷ h.back)),
      sizes_both (joined h.front) (s ++ joined h.back),
      sizes_both s (joined h.back),
      weighs h.front (full_front h.front (s ∷ h.back) full),
      weighs h.back (full_back h.front (s ∷ h.back) full).1,
    )
