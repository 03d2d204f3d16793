-- What a store has in memory after each of its calls, on any device.
use Rattle.std.proofs.Common.{◌≡◌, ◌≤◌, ◌+◌, ◌-◌, ℕ, Bool, true, false, List, [], ◌∷◌, ◌++◌, length, take, drop, refl, sym, ◌∙◌, ap, subst, arith, append_assoc, length-append}
use Rattle.std.proofs.lemmas.List.{append-nil, take-append-le, drop-append-le}
use Rattle.std.proofs.lemmas.List.Sums.{sum_by_push}
use Rattle.std.specs.Prelude.{sum_by, ◌↔◌}
use Rattle.dns_names.specs.Name.{Labels}
use Rattle.dns_records.specs.Record.{Record}
use Rattle.dns_zone.specs.Zone.{Zone, IsZone}
use Rattle.dns_changes.specs.Change.{Change, IsChange}
use Rattle.dns_changes.specs.Entry.{entry}
use Rattle.dns_sectors.specs.declared.device.Sectors.{Ghosts}
use Rattle.dns_layout.specs.Sector.{entry_sectors}
use Rattle.dns_journal.specs.State.{StagesNothing, is_closed, free_sectors, newest_number_of}
use Rattle.dns_journal.specs.Bank.{StayRooms}
use Rattle.dns_journal.specs.declared.journal.Journal.{Journal}
use Rattle.dns_store.specs.Versions.{Versions, Kept, IsNextVersion, newest_after, newest_of, version_at, staged_with, made_durable, closed_by_failure, closed_between}
use Rattle.dns_store.specs.Room.{entry_between, entries_along}
use Rattle.dns_store.specs.Staged.{entry_is, entries_length}
use Rattle.dns_store.specs.Plain.{sectors_of_snapshot}
use Rattle.dns_store.specs.Recovered.{AreLed}
use Rattle.dns_store.specs.Checkpoint.{AllZones, AllFit}
use Rattle.dns_store.specs.Holding.{HoldsInMemory, HoldsVersions}
use Rattle.dns_store.proofs.Leaves.{newest_split}

pub off : (b : Bool) → (b ≡ true → ⊥) → b ≡ false
off false not = refl
off true not = absurd (not refl)

pub honest_by : {D : Type 0} (g : Ghosts D) (a b : D) → a ≡ b → g.is_honest a ↔ g.is_honest b
honest_by {D} g a b same = (λ h. subst (λ (d : D). g.is_honest d) same h, λ h. subst (λ (d : D). g.is_honest d) (sym same) h)

pub led_append : (before : List Record) (vs : Versions) (cs : List Change) (v : List Record) (c : Change) → AreLed before vs cs → IsChange (newest_after before vs) v c → AreLed before (vs ++ v ∷ []) (cs ++ c ∷ [])
led_append before [] [] v c led is = (is, tt)
led_append before [] (d ∷ cs) v c led is = absurd led
led_append before (w ∷ vs) [] v c led is = absurd led
led_append before (w ∷ vs) (d ∷ cs) v c led is = (led.0, led_append w vs cs v c led.1 is)

pub zones_append : (apex : Labels) (vs : Versions) (v : List Record) → AllZones apex vs → IsZone (record { apex = apex; records = v }) → AllZones apex (vs ++ v ∷ [])
zones_append apex [] v zones valid = (valid, tt)
zones_append apex (w ∷ vs) v zones valid = (zones.0, zones_append apex vs v zones.1 valid)

pub fit_append : (room : ℕ) (vs : Versions) (v : List Record) → AllFit room vs → sectors_of_snapshot v ≤ room → AllFit room (vs ++ v ∷ [])
fit_append room [] v fit le = (le, tt)
fit_append room (w ∷ vs) v fit le = (fit.0, fit_append room vs v fit.1 le)

pub entries_append : (first : List Record) (vs : Versions) (v : List Record) → entries_along first (vs ++ v ∷ []) ≡ entries_along first vs ++ entry_between (newest_after first vs) v ∷ []
entries_append first [] v = refl
entries_append first (w ∷ vs) v = ap (λ (ns : List ℕ). entry_between first w ∷ ns) (entries_append w vs v)

-- the sectors of one entry more
sum_more : (k : Kept) (after : List Record) (c : Change) → k.base ≤ length k.shown → IsChange (newest_of k) after c
    → sum_by (λ (n : ℕ). n) (drop k.base (entries_along k.loaded (k.shown ++ (k.staged ++ after ∷ [])))) ≡ sum_by (λ (n : ℕ). n) (drop k.base (entries_along k.loaded (k.shown ++ k.staged))) + entry_sectors (length (entry c))
sum_more k after c le leads =
    let all = k.shown ++ k.staged in
    let es = entries_along k.loaded all in
    let size : k.base ≤ length (entries_along k.loaded (k.shown ++ k.staged)) = omega (arith, le, entries_length k.loaded (k.shown ++ k.staged), length-append k.shown k.staged) in
    let one : entry_between (newest_after k.loaded (k.shown ++ k.staged)) after ≡ entry_sectors (length (entry c)) = entry_is (newest_of k) after c leads in
    ap (λ (vs : Versions). sum_by (λ (n : ℕ). n) (drop k.base (entries_along k.loaded vs))) (sym (append_assoc k.shown k.staged (after ∷ [])))
    ∙ ap (λ (ns : List ℕ). sum_by (λ (n : ℕ). n) (drop k.base ns)) (entries_append k.loaded all after)
    ∙ ap (λ (ns : List ℕ). sum_by (λ (n : ℕ). n) ns) (drop-append-le k.base es (entry_between (newest_after k.loaded all) after ∷ []) size)
    ∙ sum_by_push (λ (n : ℕ). n) (drop k.base es) (entry_between (newest_after k.loaded all) after)
    ∙ ap (λ (n : ℕ). sum_by (λ (m : ℕ). m) (drop k.base es) + n) one

-- With nothing staged nothing is to be written, or the device failed before.
pub flush_idle : {D : Type 0} {g : Ghosts D} (old : Journal D g) (base : Zone) (changes : List Change) (k : Kept) (Holds : Type 0) → HoldsInMemory old base changes k → (StagesNothing old → is_closed old ≡ false → Holds) → (is_closed old ≡ true → Holds) → k.staged ≡ [] → Holds
flush_idle {D} {g} old base changes k Holds held idle shut none = either k.closed held.closed_is held.idle
  where
    either : (closed : Bool) → is_closed old ≡ closed → (closed ≡ false → k.staged ≡ [] → StagesNothing old) → Holds
    either false is rest = idle (rest refl none) is
    either true is rest = shut is

module _ {D : Type 0} {g : Ghosts D} (old new : Journal D g) (base : Zone) (changes : List Change) (k : Kept) (held : HoldsInMemory old base changes k) where
  pub memory_staged : (after : List Record) (c : Change) → IsNextVersion k after c → is_closed new ≡ is_closed old → newest_number_of new ≡ newest_number_of old + 1 → free_sectors new + entry_sectors (length (entry c)) ≡ free_sectors old → StayRooms old new
      → HoldsInMemory new base (changes ++ c ∷ []) (staged_with after k)
  memory_staged after c next closed number fits rooms =
      let all = k.shown ++ k.staged in
      let le = held.so_far in
      let within : k.base ≤ length (k.shown ++ k.staged) = omega (arith, le, length-append k.shown k.staged) in
      let along : drop k.base (k.shown ++ (k.staged ++ after ∷ [])) ≡ drop k.base (k.shown ++ k.staged) ++ after ∷ [] =
      ap (λ (vs : Versions). drop k.base vs) (sym (append_assoc k.shown k.staged (after ∷ []))) ∙ drop-append-le k.base all (after ∷ []) within in
      let first : newest_after k.loaded (take k.base (k.shown ++ k.staged)) ≡ version_at k k.base = ap (λ (vs : Versions). newest_after k.loaded vs) (take-append-le k.base k.shown k.staged le) in
      let newest : newest_after (version_at k k.base) (drop k.base (k.shown ++ k.staged)) ≡ newest_after k.loaded (k.shown ++ k.staged) =
      ap (λ (r : List Record). newest_after r (drop k.base (k.shown ++ k.staged))) (sym first) ∙ newest_split k.loaded k.base all in
      let left : free_sectors new ≡ k.shape.journal - sum_by (λ (n : ℕ). n) (drop k.base (entries_along k.loaded (k.shown ++ (k.staged ++ after ∷ [])))) = omega (arith, fits, held.left_is, sum_more k after c le next.change) in
      record {
        closed_is = closed ∙ held.closed_is;
        number_is = omega (arith, number, held.number_is, length-append k.staged (after ∷ []));
        left_is = left;
        snapshot_room_is = rooms.0 ∙ held.snapshot_room_is;
        journal_room_is = rooms.1 ∙ held.journal_room_is;
        idle = λ working none. absurd (omega (arith, ap (λ (vs : Versions). length vs) none, length-append k.staged (after ∷ [])));
        so_far = le;
        base_is = held.base_is;
        base_fits = held.base_fits;
        led =
            subst (λ (vs : Versions). AreLed (version_at k k.base) vs (changes ++ c ∷ [])) (sym along)
            (led_append (version_at k k.base) (drop k.base (k.shown ++ k.staged)) changes after c held.led (subst (λ (r : List Record). IsChange r after c) (sym newest) next.change));
        zones = subst (λ (vs : Versions). AllZones k.shape.apex vs) (sym along) (zones_append k.shape.apex (drop k.base (k.shown ++ k.staged)) after held.zones next.valid);
        fit = subst (λ (vs : Versions). AllFit k.shape.snapshot vs) (sym along) (fit_append k.shape.snapshot (drop k.base (k.shown ++ k.staged)) after held.fit next.fits);
      }

  pub memory_still : is_closed new ≡ is_closed old → newest_number_of new ≡ newest_number_of old → free_sectors new ≡ free_sectors old → StayRooms old new → (k.closed ≡ false → k.staged ≡ [] → StagesNothing new) → HoldsInMemory new base changes k
  memory_still closed number left rooms idle = record {
    closed_is = closed ∙ held.closed_is;
    number_is = number ∙ held.number_is;
    left_is = left ∙ held.left_is;
    snapshot_room_is = rooms.0 ∙ held.snapshot_room_is;
    journal_room_is = rooms.1 ∙ held.journal_room_is;
    idle = idle;
    so_far = held.so_far;
    base_is = held.base_is;
    base_fits = held.base_fits;
    led = held.led;
    zones = held.zones;
    fit = held.fit;
  }

  pub memory_closed : is_closed new ≡ true → newest_number_of new ≡ newest_number_of old → free_sectors new ≡ free_sectors old → StayRooms old new → HoldsInMemory new base changes (closed_by_failure k)
  memory_closed closed number left rooms = record {
    closed_is = closed;
    number_is = number ∙ held.number_is;
    left_is = left ∙ held.left_is;
    snapshot_room_is = rooms.0 ∙ held.snapshot_room_is;
    journal_room_is = rooms.1 ∙ held.journal_room_is;
    idle = λ (working : true ≡ false) none. absurd cc;
    so_far = held.so_far;
    base_is = held.base_is;
    base_fits = held.base_fits;
    led = held.led;
    zones = held.zones;
    fit = held.fit;
  }

  pub memory_between : (n : ℕ) → is_closed new ≡ true → newest_number_of new ≡ newest_number_of old → free_sectors new ≡ free_sectors old → StayRooms old new → HoldsInMemory new base changes (closed_between n k)
  memory_between n closed number left rooms = record {
    closed_is = closed;
    number_is = number ∙ held.number_is;
    left_is = left ∙ held.left_is;
    snapshot_room_is = rooms.0 ∙ held.snapshot_room_is;
    journal_room_is = rooms.1 ∙ held.journal_room_is;
    idle = λ (working : true ≡ false) none. absurd cc;
    so_far = held.so_far;
    base_is = held.base_is;
    base_fits = held.base_fits;
    led = held.led;
    zones = held.zones;
    fit = held.fit;
  }

  pub memory_flushed : is_closed new ≡ is_closed old → newest_number_of new ≡ newest_number_of old → free_sectors new ≡ free_sectors old → StayRooms old new → StagesNothing new → HoldsInMemory new base changes (made_durable k)
  memory_flushed closed number left rooms idle =
      let le = held.so_far in
      let whole : (k.shown ++ k.staged) ++ [] ≡ k.shown ++ k.staged = append-nil (k.shown ++ k.staged) in
      let first : version_at (made_durable k) k.base ≡ version_at k k.base = ap (λ (vs : Versions). newest_after k.loaded vs) (take-append-le k.base k.shown k.staged le) in
      record {
        closed_is = closed ∙ held.closed_is;
        number_is = omega (arith, number, held.number_is, length-append k.shown k.staged);
        left_is = left ∙ held.left_is ∙ ap (λ (vs : Versions). k.shape.journal - sum_by (λ (n : ℕ). n) (drop k.base (entries_along k.loaded vs))) (sym whole);
        snapshot_room_is = rooms.0 ∙ held.snapshot_room_is;
        journal_room_is = rooms.1 ∙ held.journal_room_is;
        idle = λ working none. idle;
        so_far = omega (arith, le, length-append k.shown k.staged);
        base_is = held.base_is ∙ (λ i. record { apex = k.shape.apex; records = sym first i });
        base_fits = subst (λ (r : List Record). sectors_of_snapshot r ≤ k.shape.snapshot) (sym first) held.base_fits;
        led =
            subst (λ (r : List Record). AreLed r (drop k.base ((k.shown ++ k.staged) ++ [])) changes) (sym first)
            (subst (λ (vs : Versions). AreLed (version_at k k.base) (drop k.base vs) changes) (sym whole) held.led);
        zones = subst (λ (vs : Versions). AllZones k.shape.apex (drop k.base vs)) (sym whole) held.zones;
        fit = subst (λ (vs : Versions). AllFit k.shape.snapshot (drop k.base vs)) (sym whole) held.fit;
      }

pub held_again : {D : Type 0} {g : Ghosts D} (a b : Journal D g) (y z : Zone) (cs ds : List Change) (k : Kept) → a ≡ b → y ≡ z → cs ≡ ds → HoldsVersions b z ds k → HoldsVersions a y cs k
held_again {D} {g} a b y z cs ds k journals bases changes held =
    subst (λ (j : Journal D g). HoldsVersions j y cs k) (sym journals) (subst (λ (x : Zone). HoldsVersions b x cs k) (sym bases) (subst (λ (l : List Change). HoldsVersions b z l k) (sym changes) held))
