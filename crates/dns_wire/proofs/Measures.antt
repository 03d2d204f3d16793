-- The lengths of the names that pointers lead to.
use Rattle.std.proofs.Common.{◌≡◌, ◌≢◌, ℕ, zero, suc, ◌+◌, ◌-◌, ◌<◌, ◌≤◌, ◌⊎◌, inl, inr, List, [], ◌++◌, length, get_or, set, replicate, refl, sym, ap, subst, ◌∙◌, arith}
use Rattle.std.proofs.lemmas.List.{append-nil, get_or-set_other}
use Rattle.std.proofs.lemmas.Grind.{get_or-set_at}
use Rattle.dns_names.specs.Name.{Labels, wire}
use Rattle.dns_names.specs.Octets.{LabelsAt}
use Rattle.dns_names.specs.Lower.{AreOctets}
use Rattle.dns_names.specs.Runs.{run_up}
use Rattle.dns_wire.specs.NameAt.{IsPointer, NameAt, ends, points, FullNameAt}
use Rattle.dns_wire.specs.NameLaws.{length-wire}
use Rattle.dns_wire.specs.Lengths.{IsMeasured}
use Rattle.dns_wire.specs.Refusals.{NameRefused, here, behind}
use Rattle.dns_wire.specs.declared.ReadError.{ReadError}
use Rattle.dns_wire.specs.declared.ReadError.TheVariants.{NameTooLong}
use Rattle.dns_wire.proofs.Names.{name_valid, leaves_first, leaves_next}
use Rattle.dns_wire.proofs.NameRead.{name_unique}

-- a rest at the run makes a name at the first offset
abbrev pub Reaches : List ℕ → ℕ → ℕ → ℕ → Type 0
Reaches m first run size = (rest : Labels) (end : ℕ) → NameAt m run rest end → IsMeasured m first (size + length (wire rest))

pub reaches_first : (m : List ℕ) (at : ℕ) → Reaches m at at 0
reaches_first m at rest end h = record { name = rest; end = end; stands = h; sized = omega arith }

pub reaches_next : (m : List ℕ) (first run size : ℕ) (labels : Labels) (stop target : ℕ) → LabelsAt m run labels stop → IsPointer m stop target → 12 ≤ target → target < run → run ≤ stop
    → Reaches m first run size → Reaches m first target (size + (stop - run))
reaches_next m first run size labels stop target h p far back up so_far rest end k =
    let whole = so_far (labels ++ rest) (stop + 2) (points labels rest stop target end h p far back k refl refl) in
    let sized : length (wire whole.name) ≡ size + length (wire (labels ++ rest)) = whole.sized in
    record { name = whole.name; end = whole.end; stands = whole.stands; sized = omega (arith, sized, length-wire m run labels stop rest h) }

-- the octets of labels up to the root
root_size : (m : List ℕ) (at : ℕ) (name : Labels) (stop : ℕ) → LabelsAt m at name stop → at + length (wire name) ≡ stop + 1
root_size m at name stop h = subst (λ (x : Labels). at + length (wire x) ≡ stop + 1) (append-nil name) (length-wire m at name stop [] h)

pub reaches_root : (m : List ℕ) (first run size : ℕ) (name : Labels) (stop : ℕ) → LabelsAt m run name stop → NameAt m run name (stop + 1) → run ≤ stop → Reaches m first run size → IsMeasured m first (size + (stop - run) + 1)
reaches_root m first run size name stop h k up so_far =
    let whole = so_far name (stop + 1) k in
    let sized : length (wire whole.name) ≡ size + length (wire name) = whole.sized in
    record { name = whole.name; end = whole.end; stands = whole.stands; sized = omega (arith, sized, root_size m run name stop h) }

pub reaches_known : (m : List ℕ) (first run size known : ℕ) → IsMeasured m run known → Reaches m first run size → IsMeasured m first (size + known)
reaches_known m first run size known k so_far =
    subst (λ (n : ℕ). IsMeasured m first (size + n)) k.sized (so_far k.name k.end k.stands)

nat_split : (a b : ℕ) → (a ≤ b) ⊎ (b < a)
nat_split zero b = inl (omega arith)
nat_split (suc a) zero = inr (omega arith)
nat_split (suc a) (suc b) = elim (nat_split a b) [ inl h ↦ inl (omega (arith, h)) | inr h ↦ inr (omega (arith, h)) ]

nat_same : (a b : ℕ) → (a ≡ b) ⊎ (a ≢ b)
nat_same a b = elim (nat_split a b) [
  | inr h ↦ inr (λ e. omega (arith, h, e))
  | inl h ↦ elim (nat_split b a) [ inl g ↦ inl (omega (arith, h, g)) | inr g ↦ inr (λ e. omega (arith, g, e)) ]
]

-- a name that takes more octets than there is room for is refused
pub too_long : {m : List ℕ} {at : ℕ} {name : Labels} {end : ℕ} → (room : ℕ) → NameAt m at name end → room + 1 < length (wire name) → NameRefused m NameTooLong at room
too_long {m = m} {at = at} {name = name} room (ends stop h z e) long =
    here (record { labels = name; stop = stop; stand = h; fault = omega (arith, root_size m at name stop h) })
too_long {m = m} {at = at} {name = name} room (points labels rest stop target after h p far back inner is e) long =
    let up : at ≤ stop = run_up m at labels stop h in
    let sized : at + length (wire (labels ++ rest)) ≡ stop + length (wire rest) = length-wire m at labels stop rest h in
    let long' : room + 1 < length (wire (labels ++ rest)) = subst (λ (x : Labels). room + 1 < length (wire x)) is long in
    elim (nat_split (stop - at) room) [
      | inr over ↦ here (record { labels = labels; stop = stop; stand = h; fault = omega (arith, up, over) })
      | inl within ↦ behind labels stop target h p far back (too_long (room - (stop - at)) inner (omega (arith, up, sized, long', within)))
    ]

-- the room behind labels
pub room_behind : (m : List ℕ) (e : ReadError) (target room size run : ℕ) → NameRefused m e target (room - (size + run)) → NameRefused m e target (room - size - run)
room_behind m e target room size run h = (let same : room - (size + run) ≡ room - size - run = omega arith in subst (NameRefused m e target) same h)

-- at an offset there is one length
pub length_once : (m : List ℕ) (at size : ℕ) (name : Labels) (end : ℕ) → AreOctets m → IsMeasured m at size → size ≤ 255 → NameAt m at name end → length (wire name) ≤ 255 → length (wire name) ≡ size
length_once m at size name end fits k low h short =
    let sized : length (wire k.name) ≡ size = k.sized in
    let one = name_unique m at name k.name end k.end
    (record { stands = h; valid = record { labels = name_valid fits h; short = short } })
    (record { stands = k.stands; valid = record { labels = name_valid fits k.stands; short = omega (arith, sized) } }) in
    ap (λ (x : Labels). length (wire x)) one.0 ∙ sized

-- a number is kept at its index
pub kept : (P : ℕ → ℕ → Type 0) (xs : List ℕ) (at x : ℕ) → ((i : ℕ) → get_or xs i 0 ≢ 0 → P i (get_or xs i 0)) → at < length xs → P at x → (i : ℕ) → get_or (set xs at x) i 0 ≢ 0 → P i (get_or (set xs at x) i 0)
kept P xs at x known low h i some = go (nat_same i at)
  where
    go : (i ≡ at) ⊎ (i ≢ at) → P i (get_or (set xs at x) i 0)
    go (inl e) = subst (λ (n : ℕ). P i n) (sym (get_or-set_at xs at i x 0 e low)) (subst (λ (k : ℕ). P k x) (sym e) h)
    go (inr other) =
        let same : get_or (set xs at x) i 0 ≡ get_or xs i 0 = get_or-set_other xs at i x 0 other in
        subst (λ (n : ℕ). P i n) (sym same) (known i (subst (λ (n : ℕ). n ≢ 0) same some))

-- behind a pointer the name is shorter by the labels before it
pub measured_behind : (m : List ℕ) (run size : ℕ) (labels : Labels) (stop target : ℕ) → LabelsAt m run labels stop → IsPointer m stop target → run ≤ stop → IsMeasured m run size → (stop - run ≤ size) × IsMeasured m target (size - (stop - run))
measured_behind m run size labels stop target h p up k =
    let left = leaves_next m run run 0 labels stop target h p up (leaves_first m run) k.name k.end k.stands in
    let sized : length (wire k.name) ≡ (0 + (stop - run)) + length (wire left.rest) = left.sized in
    let whole : length (wire k.name) ≡ size = k.sized in
    (omega (arith, sized, whole), record { name = left.rest; end = left.end; stands = left.stands; sized = omega (arith, sized, whole) })

-- a name that ends in the root, and one that a pointer completes
pub full_root : (m : List ℕ) (at : ℕ) (name : Labels) (stop : ℕ) → AreOctets m → LabelsAt m at name stop → NameAt m at name (stop + 1) → at ≤ stop → stop ≤ at + 254 → FullNameAt m at name (stop + 1)
full_root m at name stop fits h k up room =
    record { stands = k; valid = record { labels = name_valid fits k; short = omega (arith, root_size m at name stop h) } }

pub full_behind : (m : List ℕ) (at : ℕ) (labels rest : Labels) (stop target after : ℕ) → AreOctets m → LabelsAt m at labels stop → IsPointer m stop target → 12 ≤ target → target < at → stop ≤ at + 254 → NameAt m target rest after → length (wire rest) ≤ 254 - (stop - at) + 1 → FullNameAt m at (labels ++ rest) (stop + 2)
full_behind m at labels rest stop target after fits h p far back room inner short =
    let up : at ≤ stop = run_up m at labels stop h in
    let whole = points labels rest stop target after h p far back inner refl refl in
    record { stands = whole; valid = record { labels = name_valid fits whole; short = omega (arith, up, short, room, length-wire m at labels stop rest h) } }

-- where no name is behind a pointer none is before it
pub none_before : (m : List ℕ) (at : ℕ) (labels : Labels) (stop target : ℕ) → LabelsAt m at labels stop → IsPointer m stop target
    → ((name : Labels) (end : ℕ) → NameAt m target name end → length (wire name) ≤ 254 - (stop - at) + 1 → ⊥)
    → (name : Labels) (end : ℕ) → FullNameAt m at name end → ⊥
none_before m at labels stop target h p none name end k =
    let up : at ≤ stop = run_up m at labels stop h in
    let left = leaves_next m at at 0 labels stop target h p up (leaves_first m at) name end k.stands in
    let sized : length (wire name) ≡ (0 + (stop - at)) + length (wire left.rest) = left.sized in
    let short : length (wire name) ≤ 255 = k.valid.short in
    none left.rest left.end left.stands (omega (arith, sized, short))

-- the field of a name ends behind its first pointer
pub full_kept : (m : List ℕ) (at : ℕ) (labels : Labels) (stop target : ℕ) (name : Labels) (end : ℕ) → AreOctets m → LabelsAt m at labels stop → IsPointer m stop target → 12 ≤ target → target < at → stop ≤ at + 254 → FullNameAt m at name end → (whole : Labels) × FullNameAt m at whole (stop + 2)
full_kept m at labels stop target name end fits h p far back room k =
    let up : at ≤ stop = run_up m at labels stop h in
    let left = leaves_next m at at 0 labels stop target h p up (leaves_first m at) name end k.stands in
    let sized : length (wire name) ≡ (0 + (stop - at)) + length (wire left.rest) = left.sized in
    let short : length (wire name) ≤ 255 = k.valid.short in
    (labels ++ left.rest, full_behind m at labels left.rest stop target left.end fits h p far back room left.stands (omega (arith, sized, short, up, room)))

-- where each number is zero no length is kept
zeros : (n i : ℕ) → ◌≡◌ {A = ℕ} (get_or (replicate n 0) i 0) 0
zeros zero i = refl
zeros (suc n) zero = refl
zeros (suc n) (suc i) = zeros n i

pub none_kept : (P : ℕ → ℕ → Type 0) (n i : ℕ) → ◌≢◌ {A = ℕ} (get_or (replicate n 0) i 0) 0 → P i (get_or (replicate n 0) i 0)
none_kept P n i some = absurd (some (zeros n i))
