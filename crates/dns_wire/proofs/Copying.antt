-- The plain form of a name that is there, copied run by run.
use Rattle.std.proofs.Common.{◌≡◌, ℕ, suc, ◌+◌, ◌-◌, ◌<◌, ◌≤◌, inr, List, [], ◌∷◌, ◌++◌, length, map, get_or, take, drop, Some, refl, sym, ap, subst, ◌∙◌, arith, append_assoc, take-add, drop-drop}
use Rattle.std.specs.Prelude.{slice_get, slice_range}
use Rattle.std.specs.Char.{to_ascii_lowercase}
use Rattle.std.proofs.Math.Seq.{drop-cons}
use Rattle.std.proofs.lemmas.List.{length-append, length-take-le, map-append, append-nil, take_at}
use Rattle.std.proofs.lemmas.Option.{slice_get_within, get_or_from_slice_get}
use Rattle.dns_names.specs.Name.{Labels, wire}
use Rattle.dns_names.specs.Octets.{LabelsAt}
use Rattle.dns_names.specs.Lower.{lower_low}
use Rattle.dns_names.specs.PlainLaws.{wire_read}
use Rattle.dns_wire.specs.NameAt.{IsPointer, NameAt}
use Rattle.dns_wire.specs.NameLaws.{length-wire, opening, Closing, closing, by_root, by_pointer, zero_ends, pointer_ends, pointer_unique, some_octet}
use Rattle.dns_wire.specs.Compressed.{run_octets}
use Rattle.dns_wire.specs.Pointers.{PointsTo}

-- the octets of labels that are there, in lower case
pub run_read : (m : List ℕ) (at : ℕ) (labels : Labels) (stop : ℕ) → LabelsAt m at labels stop → map to_ascii_lowercase (take (length (run_octets labels)) (drop at m)) ≡ run_octets labels
run_read m at [] stop e = refl
run_read m at (l ∷ ls) stop h =
    let a = length l in
    let b = length (run_octets ls) in
    let behind = drop (suc at) m in
    let within : at < length m = slice_get_within m at a h.0.counted in
    let head : get_or m at 0 ≡ a = get_or_from_slice_get m at a 0 h.0.counted in
    let low : a < 65 = (let short : a ≤ 63 = h.0.short in omega arith) in
    let cut : drop at m ≡ get_or m at 0 ∷ drop (suc at) m = drop-cons m at 0 within in
    let size : length (run_octets (l ∷ ls)) ≡ suc (a + b) = ap suc (length-append l (run_octets ls)) in
    let one : suc at ≡ at + 1 = omega arith in
    let width : a ≡ at + 1 + a - (at + 1) = omega arith in
    let next : suc at + a ≡ at + 1 + a = omega arith in
    let text : map to_ascii_lowercase (take a behind) ≡ l =
    ap (λ (k : ℕ). map to_ascii_lowercase (take a (drop k m))) one ∙ ap (λ (k : ℕ). map to_ascii_lowercase (take k (drop (at + 1) m))) width ∙ sym h.0.read in
    let tail : map to_ascii_lowercase (take b (drop a behind)) ≡ run_octets ls =
    ap (λ (xs : List ℕ). map to_ascii_lowercase (take b xs)) (drop-drop a (suc at) m ∙ ap (λ (k : ℕ). drop k m) next) ∙ run_read m (at + 1 + a) ls stop h.1 in
    let both : map to_ascii_lowercase (take (a + b) behind) ≡ l ++ run_octets ls =
    ap (map to_ascii_lowercase) (take-add a b behind) ∙ map-append to_ascii_lowercase (take a behind) (take b (drop a behind)) ∙ ap (λ (xs : List ℕ). xs ++ map to_ascii_lowercase (take b (drop a behind))) text ∙ ap (λ (xs : List ℕ). l ++ xs) tail in
    let first : to_ascii_lowercase (get_or m at 0) ≡ a = ap to_ascii_lowercase head ∙ lower_low a low in
    rw (size, cut) (ap (λ (k : ℕ). k ∷ map to_ascii_lowercase (take (a + b) behind)) first ∙ ap (λ (xs : List ℕ). a ∷ xs) both)

pub wire-append : (a b : Labels) → wire (a ++ b) ≡ run_octets a ++ wire b
wire-append [] b = refl
wire-append (l ∷ a) b = ap (λ (xs : List ℕ). length l ∷ l ++ xs) (wire-append a b) ∙ ap (λ (xs : List ℕ). length l ∷ xs) (sym (append_assoc l (run_octets a) (wire b)))

pub run_size : (m : List ℕ) (at : ℕ) (ls : Labels) (stop : ℕ) → LabelsAt m at ls stop → at + length (run_octets ls) ≡ stop
run_size m at [] stop e = omega (arith, e)
run_size m at (l ∷ ls) stop h = omega (arith, run_size m (at + 1 + length l) ls stop h.1, length-append l (run_octets ls))

-- what was written and what is left of the name at the run make the name
pub record Copied (m out : List ℕ) (run size : ℕ) (name : Labels) : Type 0 where
  pub rest : Labels
  pub end : ℕ
  pub stands : NameAt m run rest end
  pub inside : size ≤ length out
  pub whole : wire name ≡ take size out ++ wire rest

pub copied_size : (m out : List ℕ) (run size : ℕ) (name : Labels) (h : Copied m out run size name) → length (wire name) ≡ size + length (wire h.rest)
copied_size m out run size name h =
    ap length h.whole ∙ length-append (take size out) (wire h.rest) ∙ ap (λ (k : ℕ). k + length (wire h.rest)) (length-take-le size out h.inside)

-- more octets after those that were written
pub record More (size : ℕ) (out text new : List ℕ) : Type 0 where
  pub taken : take (size + length text) new ≡ take size out ++ text
  pub inside : size + length text ≤ length new

pub more_written : (size : ℕ) (out text rest new : List ℕ) → size ≤ length out → new ≡ take size out ++ text ++ rest → More size out text new
more_written size out text rest new inside e =
    let width : length (take size out ++ text) ≡ size + length text = length-append (take size out) text ∙ ap (λ (k : ℕ). k + length text) (length-take-le size out inside) in
    let whole : length new ≡ length (take size out ++ text) + length rest = ap length e ∙ length-append (take size out ++ text) rest in
    record {
      taken = ap (take (size + length text)) e ∙ take_at (take size out ++ text) rest (size + length text) width;
      inside = omega (arith, width, whole);
    }

-- over a pointer
pub copied_next : (m out : List ℕ) (run size : ℕ) (name labels : Labels) (stop target : ℕ) (new rest text : List ℕ) → LabelsAt m run labels stop → IsPointer m stop target
    → text ≡ map to_ascii_lowercase (slice_range m run stop) → new ≡ take size out ++ text ++ rest → Copied m out run size name → Copied m new target (size + (stop - run)) name
copied_next m out run size name labels stop target new rest text h p is e so_far = go (closing m run labels stop p.high so_far.rest h (pointer_ends m stop target p) (opening so_far.stands))
  where
    width : stop - run ≡ length (run_octets labels)
    width = omega (arith, run_size m run labels stop h)

    text-is : text ≡ run_octets labels
    text-is = is ∙ ap (λ (k : ℕ). map to_ascii_lowercase (take k (drop run m))) width ∙ run_read m run labels stop h

    more : More size out text new
    more = more_written size out text rest new so_far.inside e

    size-is : size + length text ≡ size + (stop - run)
    size-is = ap (λ (k : ℕ). size + k) (ap length text-is ∙ sym width)

    go : Closing m run labels stop p.high so_far.rest → Copied m new target (size + (stop - run)) name
    go (by_root z same) = let marked : 192 ≤ p.high = p.marked in absurd (omega (arith, z, marked))
    go (by_pointer behind target' end' q marked far back inner same) = record {
      rest = behind;
      end = end';
      stands = subst (λ (x : ℕ). NameAt m x behind end') (pointer_unique m stop target' target q p) inner;
      inside = subst (λ (k : ℕ). k ≤ length new) size-is more.inside;
      whole = so_far.whole ∙ ap (λ (x : Labels). take size out ++ wire x) same ∙ ap (λ (xs : List ℕ). take size out ++ xs) (wire-append labels behind) ∙ sym (append_assoc (take size out) (run_octets labels) (wire behind))
          ∙ ap (λ (xs : List ℕ). (take size out ++ xs) ++ wire behind) (sym text-is) ∙ ap (λ (xs : List ℕ). xs ++ wire behind) (sym more.taken) ∙ ap (λ (k : ℕ). take k new ++ wire behind) size-is;
    }

-- at the root
pub copied_root : (m out : List ℕ) (run size : ℕ) (name labels : Labels) (stop : ℕ) (new rest text : List ℕ) → LabelsAt m run labels stop → slice_get m stop ≡ Some 0
    → text ≡ map to_ascii_lowercase (slice_range m run (stop + 1)) → new ≡ take size out ++ text ++ rest → Copied m out run size name
    → (take (size + (stop + 1 - run)) new ≡ wire name) × (size + (stop + 1 - run) ≤ length new)
copied_root m out run size name labels stop new rest text h z is e so_far = go (closing m run labels stop 0 so_far.rest h (zero_ends m stop z) (opening so_far.stands))
  where
    total : run + length (wire labels) ≡ stop + 1
    total = subst (λ (x : Labels). run + length (wire x) ≡ stop + 1) (append-nil labels) (length-wire m run labels stop [] h)

    width : stop + 1 - run ≡ length (wire labels)
    width = omega (arith, total)

    text-is : text ≡ wire labels
    text-is = is ∙ ap (λ (k : ℕ). map to_ascii_lowercase (take k (drop run m))) width ∙ wire_read m run labels stop h z

    more : More size out text new
    more = more_written size out text rest new so_far.inside e

    size-is : size + length text ≡ size + (stop + 1 - run)
    size-is = ap (λ (k : ℕ). size + k) (ap length text-is ∙ sym width)

    go : Closing m run labels stop 0 so_far.rest → (take (size + (stop + 1 - run)) new ≡ wire name) × (size + (stop + 1 - run) ≤ length new)
    go (by_root octet same) = (
      ap (λ (k : ℕ). take k new) (sym size-is) ∙ more.taken ∙ ap (λ (xs : List ℕ). take size out ++ xs) text-is ∙ ap (λ (x : Labels). take size out ++ wire x) (sym same) ∙ sym so_far.whole,
      subst (λ (k : ℕ). k ≤ length new) size-is more.inside,
    )
    go (by_pointer behind target' end' q marked far back inner same) = absurd (omega (arith, marked))

-- at the begin
pub copied_first : (m out : List ℕ) (at : ℕ) (name : Labels) (end : ℕ) → NameAt m at name end → Copied m out at 0 name
copied_first m out at name end h = record { rest = name; end = end; stands = h; inside = omega arith; whole = refl }

-- a name is left at the run, and there is room for it
pub copied_room : (m out : List ℕ) (run size : ℕ) (name : Labels) → length (wire name) ≤ 255 → size ≤ 254 → Copied m out run size name → ((rest : Labels) (end : ℕ) → NameAt m run rest end → length (wire rest) ≤ 254 - size + 1 → ⊥) → ⊥
copied_room m out run size name short small h none = none h.rest h.end h.stands (omega (arith, copied_size m out run size name h))

pub copied_small : (m out : List ℕ) (run size : ℕ) (name : Labels) → length (wire name) ≤ 255 → Copied m out run size name → size ≤ 254
copied_small m out run size name short h = omega (arith, copied_size m out run size name h, some_octet h.rest)

-- a run that ends at an octet
pub record Within (m : List ℕ) (run stop : ℕ) : Type 0 where
  pub up : run ≤ stop
  pub inside : stop < length m

-- a name that begins with a pointer
pub record Pointed (m : List ℕ) (at high : ℕ) (name : Labels) : Type 0 where
  pub target : ℕ
  pub after : ℕ
  pub pointer : IsPointer m at target
  pub far : 12 ≤ target
  pub back : target < at
  pub stands : NameAt m target name after

pub pointed : (m : List ℕ) (at high : ℕ) (name : Labels) (end : ℕ) → slice_get m at ≡ Some high → 192 ≤ high → NameAt m at name end → Pointed m at high name
pointed m at high name end first marked h = go (closing m at [] at high name refl (record { stands = first; other = inr (omega (arith, marked)) }) (opening h))
  where
    go : Closing m at [] at high name → Pointed m at high name
    go (by_root z is) = absurd (omega (arith, z, marked))
    go (by_pointer rest target after p _ far back inner is) =
        record { target = target; after = after; pointer = p; far = far; back = back; stands = subst (λ (x : Labels). NameAt m target x after) (sym is) inner }

pub copied_far : (m out : List ℕ) (target run size : ℕ) (name : Labels) → PointsTo m target run → Copied m out target size name → Copied m out run size name
copied_far m out target run size name leads h =
    let there = leads h.rest h.end h.stands in
    record { rest = h.rest; end = there.0; stands = there.1; inside = h.inside; whole = h.whole }
