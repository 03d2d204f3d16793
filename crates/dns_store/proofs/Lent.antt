-- A store with its base and its changes: what a checkpoint keeps of them.
use Rattle.std.proofs.Common.{◌≡◌, inl, ℕ, zero, suc, ◌+◌, ◌-◌, ◌≤◌, false, List, [], ◌∷◌, ◌++◌, length, take, drop, refl, sym, ◌∙◌, ap, subst, arith, drop-drop}
use Rattle.std.proofs.lemmas.List.{append-nil, length-drop, length-take, take-append-le}
use Rattle.std.proofs.lemmas.List.Sums.{sum_by-cons}
use Rattle.std.specs.Prelude.{sum_by, min}
use Rattle.std.specs.List.{flat_map}
use Rattle.dns_names.specs.Name.{Labels}
use Rattle.dns_records.specs.Record.{Record, plain}
use Rattle.dns_zone.specs.Zone.{Zone}
use Rattle.dns_changes.specs.Change.{Change}
use Rattle.dns_sectors.specs.Device.{Content, LeavesOnly}
use Rattle.dns_sectors.specs.declared.device.Sectors.{Ghosts}
use Rattle.dns_sectors.proofs.Moments.{started}
use Rattle.dns_layout.specs.Journal.{Entry}
use Rattle.dns_layout.specs.Sector.{snapshot_length, snapshot_sectors, payload_in}
use Rattle.dns_layout.specs.Store.{Sizes, Stored, OpensBy}
use Rattle.dns_journal.specs.State.{Keeps, StagesNothing, is_closed, device_of, free_sectors, newest_number_of}
use Rattle.dns_journal.specs.Bank.{StayRooms, sectors_for, journal_room_of}
use Rattle.dns_journal.proofs.Flush.{idle_of}
use Rattle.dns_journal.specs.declared.journal.Journal.{Journal}
use Rattle.dns_store.specs.Versions.{Versions, Kept, newest_after, OpensAsEither, version_at, moved_to}
use Rattle.dns_store.specs.Room.{entry_between, entries_along}
use Rattle.dns_store.specs.Staged.{entry_is, entries_length}
use Rattle.dns_layout.specs.declared.format.Format.{Format}
use Rattle.dns_layout.specs.declared.format.Format.TheVariants.{Two}
use Rattle.dns_store.specs.Opens.{AreChangesIn, AreChanges, IsKeptBy, durable_part, KeepsVersionsBy, opens, sizes_of}
use Rattle.dns_store.specs.Plain.{sectors_of_snapshot}
use Rattle.dns_store.specs.Holding.{HoldsInMemory}
use Rattle.dns_store.specs.Laws.{at_rest_of}
use Rattle.dns_store.specs.Recovered.{AreLed}
use Rattle.dns_store.specs.Checkpoint.{newest_sectors, IsMostKept, IsKeptNumber, AllZones, AllFit, IsBaseOf, IsNextBase, entries_after_base}
use Rattle.dns_store.proofs.Leaves.{part_more}
use Rattle.dns_store.proofs.Places.{along_drop, left_kept, number_kept}
use Rattle.dns_store.proofs.Moving.{changes_fit, newest_fits, fit_drop, led_count, newest_on, nothing_staged}

-- the sectors of the entries of changes, and of those between the versions
pub led_sums : (before : List Record) (vs : Versions) (cs : List Change) (i : ℕ) → AreLed before vs cs → sum_by sectors_for (drop i cs) ≡ sum_by (λ size. size) (drop i (entries_along before vs))
led_sums before [] [] zero led = refl
led_sums before [] [] (suc i) led = refl
led_sums before [] (c ∷ cs) i led = absurd led
led_sums before (v ∷ vs) [] i led = absurd led
led_sums before (v ∷ vs) (c ∷ cs) zero led =
    let rest = led_sums v vs cs zero led.1 in
    let here : entry_between before v ≡ sectors_for c = entry_is before v c led.0 in
    sum_by-cons sectors_for c cs ∙ omega (arith, rest, here) ∙ sym (sum_by-cons (λ size. size) (entry_between before v) (entries_along v vs))
led_sums before (v ∷ vs) (c ∷ cs) (suc i) led = led_sums v vs cs i led.1

pub zones_of : (f : Format) (apex : Labels) (room : ℕ) (before : List Record) (vs : Versions) (es : List Entry) → AreChangesIn f apex room before vs es → AllZones apex vs
zones_of f apex room before [] es are = tt
zones_of f apex room before (v ∷ vs) [] are = absurd are
zones_of f apex room before (v ∷ vs) (e ∷ es) are = (are.0.valid, zones_of f apex room v vs es are.1)

pub zones_take : (apex : Labels) (n : ℕ) (vs : Versions) → AllZones apex vs → AllZones apex (take n vs)
zones_take apex zero vs zones = tt
zones_take apex (suc n) [] zones = tt
zones_take apex (suc n) (v ∷ vs) zones = (zones.0, zones_take apex n vs zones.1)

pub zones_drop : (apex : Labels) (n : ℕ) (vs : Versions) → AllZones apex vs → AllZones apex (drop n vs)
zones_drop apex zero vs zones = zones
zones_drop apex (suc n) [] zones = tt
zones_drop apex (suc n) (v ∷ vs) zones = zones_drop apex n vs zones.1

pub led_take : (n : ℕ) (before : List Record) (vs : Versions) (cs : List Change) → AreLed before vs cs → AreLed before (take n vs) (take n cs)
led_take zero before vs cs led = tt
led_take (suc n) before [] [] led = tt
led_take (suc n) before [] (c ∷ cs) led = absurd led
led_take (suc n) before (v ∷ vs) [] led = absurd led
led_take (suc n) before (v ∷ vs) (c ∷ cs) led = (led.0, led_take n v vs cs led.1)

pub led_drop : (n : ℕ) (before : List Record) (vs : Versions) (cs : List Change) → AreLed before vs cs → AreLed (newest_after before (take n vs)) (drop n vs) (drop n cs)
led_drop zero before vs cs led = led
led_drop (suc n) before [] [] led = tt
led_drop (suc n) before [] (c ∷ cs) led = absurd led
led_drop (suc n) before (v ∷ vs) [] led = absurd led
led_drop (suc n) before (v ∷ vs) (c ∷ cs) led = led_drop n v vs cs led.1

pub most_one : {X Y : Type 0} (f : X → ℕ) (xs : List X) (h : Y → ℕ) (ys : List Y) (keep keep' room m n : ℕ) → length xs ≡ length ys → ((i : ℕ) → newest_sectors f xs i ≡ newest_sectors h ys i) → (keep' ≤ keep) → ((i : ℕ) → i ≤ keep → i ≤ length ys → i ≤ keep')
    → IsMostKept f xs keep' room m → IsMostKept h ys keep room n → m ≡ n
most_one f xs h ys keep keep' room m n same sums less more one other =
    let up : m ≤ n = other.most m (omega (arith, one.few, less)) (omega (arith, one.there, same)) (omega (arith, one.fits, sums m)) in
    let down : n ≤ m = one.most n (more n other.few other.there) (omega (arith, other.there, same)) (omega (arith, other.fits, sums n)) in
    omega (arith, up, down)

-- What is stored takes at most as many sectors as a snapshot has.
sectors_grow : (a b : ℕ) → a ≤ b → snapshot_sectors a ≤ snapshot_sectors b
unfolding snapshot_sectors
sectors_grow a b le = omega (arith, le)

stored_fits : (sizes : Sizes) (c : Content) (root : List ℕ) (parts : List (List ℕ)) (s : Stored) → OpensBy sizes c root parts s → snapshot_sectors (length s.snapshot) ≤ sizes.snapshot
stored_fits sizes c root parts s by =
    let short : length s.snapshot ≤ snapshot_length root = subst (λ (xs : List ℕ). length xs ≤ snapshot_length root) by.snapshot (omega (arith, length-take (snapshot_length root) (flat_map (payload_in Two) parts))) in
    let grows = sectors_grow (length s.snapshot) (snapshot_length root) short in
    omega (arith, grows, by.valid.fits)

-- No device call was made.
pub rest_either : {D : Type 0} {g : Ghosts D} (only_now : (d : D) (c : Content) → g.is_honest d → g.left_since d (g.moment d) c → g.may_leave d c) (old new : Journal D g) (k : Kept) (base : ℕ) → device_of new ≡ device_of old → KeepsVersionsBy old k k.closed
    → LeavesOnly g.moment g.left_since (device_of old) (device_of new) (OpensAsEither opens k base)
rest_either {D} {g} only_now old new k base same kept =
    subst (λ (d : D). LeavesOnly g.moment g.left_since (device_of old) d (OpensAsEither opens k base)) (sym same)
    (started g.moment g.left_since (device_of old) (OpensAsEither opens k base) (λ c left. inl (at_rest_of only_now old k k.closed kept c left)))

-- What the journal keeps of an honest device is in memory.
pub memory_of : {D : Type 0} {g : Ghosts D} (journal : Journal D g) (base : Zone) (changes : List Change) (k : Kept) (s : Stored) (staged : List Entry) → IsKeptBy journal k s staged → k.closed ≡ false → base ≡ record { apex = k.shape.apex; records = version_at k k.base }
    → AreLed (version_at k k.base) (drop k.base (k.shown ++ k.staged)) changes → HoldsInMemory journal base changes k
memory_of {D} {g} journal base changes k s staged kept working base_is led =
    let whole = part_more k.shape (durable_part k) s k.staged staged kept.part kept.changes in
    let are : AreChanges k.shape.apex k.shape.snapshot (version_at k k.base) (drop k.base (k.shown ++ k.staged)) (s.entries ++ staged) =
    subst (λ (rs : List Record). AreChanges k.shape.apex k.shape.snapshot rs (drop k.base (k.shown ++ k.staged)) (s.entries ++ staged))
    (ap (λ (vs : Versions). newest_after k.loaded vs) (take-append-le k.base k.shown k.staged kept.part.so_far)) whole.changes in
    record {
      closed_is = kept.keeps.2.is_open ∙ sym working;
      number_is = number_kept journal k s staged kept;
      left_is = left_kept journal k s staged kept;
      snapshot_room_is = sym kept.keeps.2.says.snapshot_room_is ∙ kept.keeps.2.opens.valid.snapshot;
      journal_room_is = sym kept.keeps.2.says.journal_room_is ∙ kept.keeps.2.opens.valid.journal;
      idle = λ _ none. idle_of (sizes_of k.shape) journal s
          (subst (λ (es : List Entry). Keeps (sizes_of k.shape) journal s es) (nothing_staged k.shape.apex k.shape.snapshot (newest_after k.loaded k.shown) k.staged staged none kept.changes) kept.keeps);
      so_far = kept.part.so_far;
      base_is = base_is;
      base_fits = subst (λ (xs : List ℕ). snapshot_sectors (length xs) ≤ k.shape.snapshot) kept.part.snapshot (stored_fits (sizes_of k.shape) _ kept.keeps.0 kept.keeps.1 s kept.keeps.2.opens);
      led = led;
      zones = zones_of Two k.shape.apex k.shape.snapshot (version_at k k.base) (drop k.base (k.shown ++ k.staged)) (s.entries ++ staged) are;
      fit = changes_fit k.shape.apex k.shape.snapshot (version_at k k.base) (drop k.base (k.shown ++ k.staged)) (s.entries ++ staged) are;
    }

module _ {D : Type 0} {g : Ghosts D} (journal : Journal D g) (base : Zone) (changes : List Change) (k : Kept) (held : HoldsInMemory journal base changes k) (none : k.staged ≡ []) where
  shown_is : k.shown ++ k.staged ≡ k.shown
  shown_is = ap (λ (vs : Versions). k.shown ++ vs) none ∙ append-nil k.shown

  led : AreLed (version_at k k.base) (drop k.base k.shown) changes
  led = subst (λ (vs : Versions). AreLed (version_at k k.base) (drop k.base vs) changes) shown_is held.led

  zones : AllZones k.shape.apex (drop k.base k.shown)
  zones = subst (λ (vs : Versions). AllZones k.shape.apex (drop k.base vs)) shown_is held.zones

  fit : AllFit k.shape.snapshot (drop k.base k.shown)
  fit = subst (λ (vs : Versions). AllFit k.shape.snapshot (drop k.base vs)) shown_is held.fit

  count : length changes ≡ length k.shown - k.base
  count = led_count (version_at k k.base) (drop k.base k.shown) changes led ∙ length-drop k.base k.shown

  newest_is : newest_number_of journal ≡ length k.shown
  newest_is = omega (arith, held.number_is, ap (λ (vs : Versions). length vs) none)

  entries_are : entries_after_base k ≡ entries_along (version_at k k.base) (drop k.base k.shown)
  entries_are = along_drop k.base k.loaded k.shown

  same_length : length changes ≡ length (entries_after_base k)
  same_length = led_count (version_at k k.base) (drop k.base k.shown) changes led ∙ sym (ap (λ (xs : List ℕ). length xs) entries_are ∙ entries_length (version_at k k.base) (drop k.base k.shown))

  same_sums : (i : ℕ) → newest_sectors sectors_for changes i ≡ newest_sectors (λ size. size) (entries_after_base k) i
  same_sums i =
      led_sums (version_at k k.base) (drop k.base k.shown) changes (length changes - i) led
      ∙ ap (λ (xs : List ℕ). sum_by (λ size. size) (drop (length changes - i) xs)) (sym entries_are)
      ∙ ap (λ n. sum_by (λ size. size) (drop (n - i) (entries_after_base k))) same_length

  pub kept_is : (keep room m n : ℕ) → IsMostKept sectors_for changes (min keep (newest_number_of journal)) (journal_room_of journal - room) m → IsKeptNumber k keep room n → m ≡ n
  kept_is keep room m n one other =
      most_one sectors_for changes (λ size. size) (entries_after_base k) keep (min keep (newest_number_of journal)) (journal_room_of journal - room) m n same_length same_sums (omega arith)
      (λ i few there. omega (arith, few, there, same_length, count, newest_is)) one (subst (λ j. IsMostKept (λ size. size) (entries_after_base k) keep (j - room) n) (sym held.journal_room_is) other)

  module _ (m : ℕ) (le : m ≤ length changes) where
    sum : k.base + (length changes - m) ≡ length k.shown - m
    sum = omega (arith, count, held.so_far, le)

    next_is : newest_after (version_at k k.base) (take (length changes - m) (drop k.base k.shown)) ≡ version_at k (length k.shown - m)
    next_is = newest_on k.loaded k.base (length changes - m) k.shown ∙ ap (λ n. version_at k n) sum

    rest_is : drop (length changes - m) (drop k.base k.shown) ≡ drop (length k.shown - m) k.shown
    rest_is = drop-drop (length changes - m) k.base k.shown ∙ ap (λ n. drop n k.shown) sum

    records_are : base.records ≡ version_at k k.base
    records_are = ap (λ (z : Zone). z.records) held.base_is

    apex_is : base.apex ≡ k.shape.apex
    apex_is = ap (λ (z : Zone). z.apex) held.base_is

    pub gone_led : AreLed base.records (take (length changes - m) (drop k.base k.shown)) (take (length changes - m) changes)
    gone_led = subst (λ (rs : List Record). AreLed rs (take (length changes - m) (drop k.base k.shown)) (take (length changes - m) changes)) (sym records_are) (led_take (length changes - m) (version_at k k.base) (drop k.base k.shown) changes led)

    pub gone_zones : AllZones base.apex (take (length changes - m) (drop k.base k.shown))
    gone_zones = subst (λ (a : Labels). AllZones a (take (length changes - m) (drop k.base k.shown))) (sym apex_is) (zones_take k.shape.apex (length changes - m) (drop k.base k.shown) zones)

    -- the version that the kept changes begin at fits
    pub gone_fits : sectors_of_snapshot (newest_after base.records (take (length changes - m) (drop k.base k.shown))) ≤ k.shape.snapshot
    gone_fits = newest_fits k.shape.snapshot (length changes - m) base.records (drop k.base k.shown) (subst (λ (rs : List Record). sectors_of_snapshot rs ≤ k.shape.snapshot) (sym records_are) held.base_fits) fit

    next_records : newest_after base.records (take (length changes - m) (drop k.base k.shown)) ≡ version_at k (length k.shown - m)
    next_records = ap (λ (rs : List Record). newest_after rs (take (length changes - m) (drop k.base k.shown))) records_are ∙ next_is

    rest_led : AreLed (version_at k (length k.shown - m)) (drop (length k.shown - m) k.shown) (drop (length changes - m) changes)
    rest_led =
        subst (λ (rs : List Record). AreLed rs (drop (length k.shown - m) k.shown) (drop (length changes - m) changes)) next_is
        (subst (λ (vs : Versions). AreLed (newest_after (version_at k k.base) (take (length changes - m) (drop k.base k.shown))) vs (drop (length changes - m) changes)) rest_is (led_drop (length changes - m) (version_at k k.base) (drop k.base k.shown) changes led))

    -- the sectors of the entries that are kept
    sums : sum_by sectors_for (drop (length changes - m) changes) ≡ sum_by (λ (size : ℕ). size) (drop (length k.shown - m) (entries_along k.loaded (k.shown ++ k.staged)))
    sums =
        led_sums (version_at k k.base) (drop k.base k.shown) changes (length changes - m) led
        ∙ ap (λ (xs : List ℕ). sum_by (λ (size : ℕ). size) (drop (length changes - m) xs)) (sym entries_are)
        ∙ ap (λ (xs : List ℕ). sum_by (λ (size : ℕ). size) xs) (drop-drop (length changes - m) k.base (entries_along k.loaded k.shown))
        ∙ ap (λ n. sum_by (λ (size : ℕ). size) (drop n (entries_along k.loaded k.shown))) sum
        ∙ ap (λ (vs : Versions). sum_by (λ (size : ℕ). size) (drop (length k.shown - m) (entries_along k.loaded vs))) (sym shown_is)

    pub is_base : (next_zone : Zone) (octets : List ℕ) → IsNextBase base next_zone (take (length changes - m) (drop k.base k.shown)) octets → IsBaseOf k (length k.shown - m) octets (drop (length changes - m) changes)
    is_base next_zone octets found = record {
      later = omega (arith, sum);
      so_far = omega arith;
      octets_are = found.octets_are ∙ ap (λ (rs : List Record). flat_map plain rs) next_records;
      led = rest_led;
    }

    pub memory_moved : (new : Journal D g) (next_zone : Zone) (octets : List ℕ) → IsNextBase base next_zone (take (length changes - m) (drop k.base k.shown)) octets → is_closed journal ≡ false → is_closed new ≡ false → newest_number_of new ≡ newest_number_of journal
        → free_sectors new ≡ journal_room_of journal - sum_by sectors_for (drop (length changes - m) changes) → StayRooms journal new → (StagesNothing journal → StagesNothing new) → HoldsInMemory new next_zone (drop (length changes - m) changes) (moved_to (length k.shown - m) k)
    memory_moved new next_zone octets found working opened number free rooms idle = record {
      closed_is = opened ∙ sym working ∙ held.closed_is;
      number_is = number ∙ held.number_is;
      left_is = free ∙ (λ i. held.journal_room_is i - sums i);
      snapshot_room_is = rooms.0 ∙ held.snapshot_room_is;
      journal_room_is = rooms.1 ∙ held.journal_room_is;
      idle = λ open_is none_is. idle (held.idle open_is none_is);
      so_far = omega arith;
      base_is = λ i. record { apex = (found.apex ∙ apex_is) i; records = (found.records ∙ next_records) i };
      base_fits = subst (λ (rs : List Record). sectors_of_snapshot rs ≤ k.shape.snapshot) next_records gone_fits;
      led = subst (λ (vs : Versions). AreLed (version_at k (length k.shown - m)) (drop (length k.shown - m) vs) (drop (length changes - m) changes)) (sym shown_is) rest_led;
      zones = subst (λ (vs : Versions). AllZones k.shape.apex (drop (length k.shown - m) vs)) (sym shown_is)
          (subst (λ (vs : Versions). AllZones k.shape.apex vs) rest_is (zones_drop k.shape.apex (length changes - m) (drop k.base k.shown) zones));
      fit = subst (λ (vs : Versions). AllFit k.shape.snapshot (drop (length k.shown - m) vs)) (sym shown_is)
          (subst (λ (vs : Versions). AllFit k.shape.snapshot vs) rest_is (fit_drop k.shape.snapshot (length changes - m) (drop k.base k.shown) fit));
    }

-- The same of all versions, staged ones among them.
module _ {D : Type 0} {g : Ghosts D} (journal : Journal D g) (base : Zone) (changes : List Change) (k : Kept) (held : HoldsInMemory journal base changes k) where
  held_records : base.records ≡ version_at k k.base
  held_records = ap (λ (z : Zone). z.records) held.base_is

  pub held_led : (n : ℕ) → AreLed base.records (take n (drop k.base (k.shown ++ k.staged))) (take n changes)
  held_led n = subst (λ (rs : List Record). AreLed rs (take n (drop k.base (k.shown ++ k.staged))) (take n changes)) (sym held_records) (led_take n (version_at k k.base) (drop k.base (k.shown ++ k.staged)) changes held.led)

  pub held_zones : (n : ℕ) → AllZones base.apex (take n (drop k.base (k.shown ++ k.staged)))
  held_zones n =
      subst (λ (a : Labels). AllZones a (take n (drop k.base (k.shown ++ k.staged)))) (sym (ap (λ (z : Zone). z.apex) held.base_is)) (zones_take k.shape.apex n (drop k.base (k.shown ++ k.staged)) held.zones)

  pub held_fits : (n : ℕ) → sectors_of_snapshot (newest_after base.records (take n (drop k.base (k.shown ++ k.staged)))) ≤ k.shape.snapshot
  held_fits n = newest_fits k.shape.snapshot n base.records (drop k.base (k.shown ++ k.staged)) (subst (λ (rs : List Record). sectors_of_snapshot rs ≤ k.shape.snapshot) (sym held_records) held.base_fits) held.fit
