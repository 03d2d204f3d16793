-- A base that moves to a later version: what is stored then, and what a crash leaves.
use Rattle.std.proofs.Common.{◌≡◌, inl, inr, ℕ, zero, suc, ◌+◌, ◌-◌, ◌≤◌, ◌<◌, Bool, true, false, List, [], ◌∷◌, length, take, drop, refl, sym, ◌∙◌, ap, subst, arith, drop-drop}
use Rattle.std.proofs.Math.Seq.{take-add}
use Rattle.std.proofs.lemmas.List.{append-nil, length-drop}
use Rattle.dns_records.specs.Record.{Record}
use Rattle.dns_names.specs.Name.{Labels}
use Rattle.dns_zone.specs.Zone.{IsZone}
use Rattle.dns_changes.specs.Change.{Change}
use Rattle.dns_changes.specs.Entry.{HasEntry}
use Rattle.dns_changes.specs.Applied.{change_is_one}
use Rattle.dns_sectors.specs.Device.{Content, LeavesOnly}
use Rattle.dns_sectors.specs.Crash.{Write, SomeApplied}
use Rattle.dns_sectors.specs.declared.device.Sectors.{Ghosts}
use Rattle.dns_sectors.proofs.Moments.{started, weaker}
use Rattle.dns_layout.specs.Own.{NoneIntact}
use Rattle.dns_layout.specs.Journal.{Entry}
use Rattle.dns_layout.specs.Store.{Sizes, Stored, OpensAs, IsTidy}
use Rattle.dns_journal.specs.Bank.{AreEntries, IsTurned, LeavesEither}
use Rattle.dns_journal.specs.State.{Keeps, IsOpenedTimes, is_closed, device_of, free_sectors, newest_number_of, opened_of}
use Rattle.dns_journal.specs.declared.journal.Journal.{Journal}
use Rattle.dns_store.specs.Versions.{Versions, Kept, newest_after, OpensAsLeft, OpensAsEither, version_at, moved_to, closed_between}
use Rattle.dns_layout.specs.declared.format.Format.{Format}
use Rattle.dns_layout.specs.declared.format.Format.TheVariants.{Two}
use Rattle.dns_store.specs.Opens.{AreChangesIn, IsPartOfIn, AreChanges, IsPartOf, IsKeptBy, IsClosedBy, KeepsVersionsBy, opens, sizes_of, durable_part}
use Rattle.dns_store.specs.Recovered.{AreLed}
use Rattle.dns_store.specs.Plain.{sectors_of_snapshot}
use Rattle.dns_store.specs.Checkpoint.{AllFit, IsBaseOf}
use Rattle.dns_store.proofs.Leaves.{newest_append}
use Rattle.dns_store.proofs.Places.{versions_behind, left_kept, number_kept}

changes_drop : (f : Format) (apex : Labels) (room : ℕ) (n : ℕ) (before : List Record) (vs : Versions) (es : List Entry) → AreChangesIn f apex room before vs es → AreChangesIn f apex room (newest_after before (take n vs)) (drop n vs) (drop n es)
changes_drop f apex room zero before vs es are = are
changes_drop f apex room (suc n) before [] [] are = tt
changes_drop f apex room (suc n) before [] (e ∷ es) are = absurd are
changes_drop f apex room (suc n) before (v ∷ vs) [] are = absurd are
changes_drop f apex room (suc n) before (v ∷ vs) (e ∷ es) are = changes_drop f apex room n v vs es are.1

changes_valid : (f : Format) (apex : Labels) (room : ℕ) (n : ℕ) (before : List Record) (vs : Versions) (es : List Entry) → IsZone (record { apex = apex; records = before }) → AreChangesIn f apex room before vs es → IsZone (record { apex = apex; records = newest_after before (take n vs) })
changes_valid f apex room zero before vs es valid are = valid
changes_valid f apex room (suc n) before [] es valid are = valid
changes_valid f apex room (suc n) before (v ∷ vs) [] valid are = absurd are
changes_valid f apex room (suc n) before (v ∷ vs) (e ∷ es) valid are = changes_valid f apex room n v vs es are.0.valid are.1

pub changes_fit : (apex : Labels) (room : ℕ) (before : List Record) (vs : Versions) (es : List Entry) → AreChanges apex room before vs es → AllFit room vs
changes_fit apex room before [] es are = tt
changes_fit apex room before (v ∷ vs) [] are = absurd are
changes_fit apex room before (v ∷ vs) (e ∷ es) are = (are.0.fits, changes_fit apex room v vs es are.1)

-- the newest of the first ones too
pub newest_fits : (room : ℕ) (n : ℕ) (before : List Record) (vs : Versions) → sectors_of_snapshot before ≤ room → AllFit room vs → sectors_of_snapshot (newest_after before (take n vs)) ≤ room
newest_fits room zero before vs first fit = first
newest_fits room (suc n) before [] first fit = first
newest_fits room (suc n) before (v ∷ vs) first fit = newest_fits room n v vs fit.0 fit.1

pub fit_drop : (room n : ℕ) (vs : Versions) → AllFit room vs → AllFit room (drop n vs)
fit_drop room zero vs fit = fit
fit_drop room (suc n) [] fit = tt
fit_drop room (suc n) (v ∷ vs) fit = fit_drop room n vs fit.1

-- The same changes, in entries that were written anew.
changes_again : (format : Format) (apex : Labels) (room : ℕ) (before : List Record) (vs : Versions) (es fs : List Entry) (cs : List Change) → AreChangesIn format apex room before vs es → AllFit room vs → AreLed before vs cs → AreEntries cs fs → AreChanges apex room before vs fs
changes_again format apex room before [] [] [] [] are fit led entries = tt
changes_again format apex room before [] [] (f ∷ fs) [] are fit led entries = absurd entries
changes_again format apex room before [] [] fs (c ∷ cs) are fit led entries = absurd led
changes_again format apex room before [] (e ∷ es) fs cs are fit led entries = absurd are
changes_again format apex room before (v ∷ vs) [] fs cs are fit led entries = absurd are
changes_again format apex room before (v ∷ vs) (e ∷ es) fs [] are fit led entries = absurd led
changes_again format apex room before (v ∷ vs) (e ∷ es) [] (c ∷ cs) are fit led entries = absurd entries
changes_again format apex room before (v ∷ vs) (e ∷ es) (f ∷ fs) (c ∷ cs) are fit led entries = (
  record {
    change = c;
    leads = led.0;
    written = subst (λ (d : Change). HasEntry d) (change_is_one before v are.0.change c are.0.leads led.0) are.0.written;
    octets_are = entries.0.octets_are;
    size_is = entries.0.size_is;
    valid = are.0.valid;
    fits = fit.0;
  },
  changes_again format apex room v vs es fs cs are.1 fit.1 led.1 entries.1,
)

pub led_count : (before : List Record) (vs : Versions) (cs : List Change) → AreLed before vs cs → length cs ≡ length vs
led_count before [] [] led = refl
led_count before [] (c ∷ cs) led = absurd led
led_count before (v ∷ vs) [] led = absurd led
led_count before (v ∷ vs) (c ∷ cs) led = omega (arith, led_count v vs cs led.1)

pub newest_on : (first : List Record) (n m : ℕ) (vs : Versions) → newest_after (newest_after first (take n vs)) (take m (drop n vs)) ≡ newest_after first (take (n + m) vs)
newest_on first n m vs = sym (newest_append first (take n vs) (take m (drop n vs))) ∙ ap (λ (l : Versions). newest_after first l) (sym (take-add n m vs))

-- So it is of the versions after a later base, and of those from which on each fits.
still_fit : (k : Kept) (s : Stored) (base : ℕ) → IsPartOf k.shape (durable_part k) s → k.base ≤ base → AllFit k.shape.snapshot (drop base k.shown)
still_fit k s base part le =
    let sum : k.base + (base - k.base) ≡ base = omega (arith, le) in
    subst (AllFit k.shape.snapshot) (drop-drop (base - k.base) k.base k.shown ∙ ap (λ n. drop n k.shown) sum)
    (fit_drop k.shape.snapshot (base - k.base) (drop k.base k.shown) (changes_fit k.shape.apex k.shape.snapshot (newest_after k.loaded (take k.base k.shown)) (drop k.base k.shown) s.entries part.changes))

fit_each : (room : ℕ) (base : List Record) (vs : Versions) → ((j : ℕ) → j < length vs → sectors_of_snapshot (newest_after base (take (suc j) vs)) ≤ room) → AllFit room vs
fit_each room base [] each = tt
fit_each room base (v ∷ vs) each = (each 0 (omega arith), fit_each room v vs (λ j lt. each (suc j) (omega (arith, lt))))

pub fit_last : (room : ℕ) (base : List Record) (vs : Versions) (n : ℕ) → n ≤ length vs → ((i : ℕ) → i ≤ n → sectors_of_snapshot (newest_after base (take (length vs - i) vs)) ≤ room) → AllFit room (drop (length vs - n) vs)
fit_last room base vs n there rooms =
    let gone = length vs - n in
    fit_each room (newest_after base (take gone vs)) (drop gone vs)
    (λ j lt.
    let size = length-drop gone vs in
    let on : newest_after (newest_after base (take gone vs)) (take (suc j) (drop gone vs)) ≡ newest_after base (take (gone + suc j) vs) = newest_on base gone (suc j) vs in
    let position : length vs - (n - suc j) ≡ gone + suc j = omega (arith, there, size, lt) in
    subst (λ (r : List Record). sectors_of_snapshot r ≤ room) (sym on)
    (subst (λ m. sectors_of_snapshot (newest_after base (take m vs)) ≤ room) position (rooms (n - suc j) (omega arith))))

-- What is stored after a turn is the later base, and the changes from there.
pub part_turned : (f : Format) (k : Kept) (s turned : Stored) (base : ℕ) (octets : List ℕ) (changes : List Change) → IsPartOfIn f k.shape (durable_part k) s → AllFit k.shape.snapshot (drop base k.shown) → IsBaseOf k base octets changes → IsTurned s octets changes turned
    → IsPartOf k.shape (durable_part (moved_to base k)) turned
part_turned f k s turned base octets changes part fit is turn =
    let gone = base - k.base in
    let old = newest_after k.loaded (take k.base k.shown) in
    let sum : k.base + (base - k.base) ≡ base = omega (arith, is.later) in
    let on : newest_after old (take gone (drop k.base k.shown)) ≡ version_at k base = newest_on k.loaded k.base gone k.shown ∙ ap (λ n. version_at k n) sum in
    let rest : drop gone (drop k.base k.shown) ≡ drop base k.shown = drop-drop gone k.base k.shown ∙ ap (λ n. drop n k.shown) sum in
    let are : AreChangesIn f k.shape.apex k.shape.snapshot (version_at k base) (drop base k.shown) (drop gone s.entries) =
    subst (λ (v : List Record). AreChangesIn f k.shape.apex k.shape.snapshot v (drop base k.shown) (drop gone s.entries)) on
    (subst (λ (vs : Versions). AreChangesIn f k.shape.apex k.shape.snapshot (newest_after old (take gone (drop k.base k.shown))) vs (drop gone s.entries)) rest (changes_drop f k.shape.apex k.shape.snapshot gone old (drop k.base k.shown) s.entries part.changes)) in
    record {
      number = omega (arith, turn.base, led_count (version_at k base) (drop base k.shown) changes is.led, length-drop base k.shown, is.so_far, versions_behind f k.shape.apex k.shape.snapshot s.base old (drop k.base k.shown) s.entries part.changes, length-drop k.base k.shown, part.number, part.so_far);
      so_far = is.so_far;
      valid = subst (λ (v : List Record). IsZone (record { apex = k.shape.apex; records = v })) on (changes_valid f k.shape.apex k.shape.snapshot gone old (drop k.base k.shown) s.entries part.valid part.changes);
      snapshot = turn.snapshot ∙ is.octets_are;
      changes = changes_again f k.shape.apex k.shape.snapshot (version_at k base) (drop base k.shown) (drop gone s.entries) turned.entries changes are fit is.led turn.entries;
      altered = turn.altered ∙ part.altered;
    }

-- what is stored is the durable version, and nothing is lost
left_of_stored : (k : Kept) (s : Stored) (c d : Content) → NoneIntact k.altered → SomeApplied k.altered c d → OpensAs (sizes_of k.shape) c s → IsTidy (sizes_of k.shape) c → IsPartOf k.shape (durable_part k) s → IsOpenedTimes k.openings c → OpensAsLeft opens k d
left_of_stored k s c d spoilt some opens_by tidy part opened =
    (durable_part k, record { loaded = refl; kept = []; lost = k.staged; front = refl; versions = sym (append-nil k.shown); base = inl refl; openings = refl; altered = refl }, (spoilt, (c, some, (s, opens_by, tidy, part, opened))))

module _ (k : Kept) (s : Stored) (base : ℕ) (octets : List ℕ) (changes : List Change) (spoilt : NoneIntact k.altered) (part : IsPartOf k.shape (durable_part k) s) (is : IsBaseOf k base octets changes) where
  pub either_left : (d : Content) → LeavesEither (sizes_of k.shape) s octets changes k.openings d → OpensAsEither opens k base d
  either_left d (c, some, (inl before, tidy, opened)) = inl (left_of_stored k s c d spoilt (subst (λ (ws : List Write). SomeApplied ws c d) part.altered some) before tidy part opened)
  either_left d (c, some, (inr (turned, turn, after), tidy, opened)) =
      inr (left_of_stored (moved_to base k) turned c d spoilt (subst (λ (ws : List Write). SomeApplied ws c d) part.altered some) after tidy (part_turned Two k s turned base octets changes part (still_fit k s base part is.later) is turn) opened)

  -- ... for good, where the device failed
  pub between_left : (d : Content) → LeavesEither (sizes_of k.shape) s octets changes k.openings d → OpensAsLeft opens (closed_between base k) d
  between_left d (c, some, (inl before, tidy, opened)) = (
    durable_part k,
    record { loaded = refl; kept = []; lost = k.staged; front = refl; versions = sym (append-nil k.shown); base = inl refl; openings = refl; altered = refl },
    (spoilt, (c, subst (λ (ws : List Write). SomeApplied ws c d) part.altered some, (s, before, tidy, part, opened))),
  )
  between_left d (c, some, (inr (turned, turn, after), tidy, opened)) = (
    durable_part (moved_to base k),
    record { loaded = refl; kept = []; lost = k.staged; front = refl; versions = sym (append-nil k.shown); base = inr refl; openings = refl; altered = refl },
    (
      spoilt,
      (
        c,
        subst (λ (ws : List Write). SomeApplied ws c d) part.altered some,
        (turned, after, tidy, part_turned Two k s turned base octets changes part (still_fit k s base part is.later) is turn, opened),
      ),
    ),
  )

pub nothing_staged : (apex : Labels) (room : ℕ) (before : List Record) (vs : Versions) (es : List Entry) → vs ≡ [] → AreChanges apex room before vs es → es ≡ []
nothing_staged apex room before vs es none are = only es (subst (λ (l : Versions). AreChanges apex room before l es) none are)
  where
    only : (fs : List Entry) → AreChanges apex room before [] fs → fs ≡ []
    only [] are = refl
    only (f ∷ fs) are = absurd are

module _ {D : Type 0} {g : Ghosts D} (old new : Journal D g) (k : Kept) (none : k.staged ≡ []) (base : ℕ) (octets : List ℕ) (changes : List Change) (is : IsBaseOf k base octets changes) where
  kept_bare : (s : Stored) (staged : List Entry) → IsKeptBy old k s staged → Keeps (sizes_of k.shape) old s []
  kept_bare s staged kept = subst (λ (es : List Entry). Keeps (sizes_of k.shape) old s es) (nothing_staged k.shape.apex k.shape.snapshot (newest_after k.loaded k.shown) k.staged staged none kept.changes) kept.keeps

  pub turn_leaves : ((d : D) (c : Content) → g.is_honest d → g.left_since d (g.moment d) c → g.may_leave d c)
      → ((shape : Sizes) (s : Stored) → Keeps shape old s [] → LeavesOnly g.moment g.left_since (device_of old) (device_of new) (LeavesEither shape s octets changes (opened_of old)))
      → (is_closed old ≡ true → device_of new ≡ device_of old) → (closed : Bool) → KeepsVersionsBy old k closed → LeavesOnly g.moment g.left_since (device_of old) (device_of new) (OpensAsEither opens k base)
  turn_leaves only_now any still false (s, staged, kept) =
      weaker g.moment g.left_since (device_of old) (device_of new) (LeavesEither (sizes_of k.shape) s octets changes (opened_of old)) (OpensAsEither opens k base) (any (sizes_of k.shape) s (kept_bare s staged kept))
      (λ c left. either_left k s base octets changes kept.spoilt kept.part is c (subst (λ n. LeavesEither (sizes_of k.shape) s octets changes n c) kept.opened left))
  turn_leaves only_now any still true kept =
      subst (λ (d : D). LeavesOnly g.moment g.left_since (device_of old) d (OpensAsEither opens k base)) (sym (still kept.closed))
      (started g.moment g.left_since (device_of old) (OpensAsEither opens k base) (λ c left. inl (kept.left c (only_now (device_of old) c kept.honest left))))

  pub turn_keeps : ((shape : Sizes) (s : Stored) → Keeps shape old s [] → (turned : Stored) × IsTurned s octets changes turned × Keeps shape new turned []) → opened_of new ≡ opened_of old → (is_closed old ≡ true → ⊥) → (closed : Bool) → KeepsVersionsBy old k closed → KeepsVersionsBy new (moved_to base k) closed
  turn_keeps turn same not false (s, staged, kept) =
      let after = turn (sizes_of k.shape) s (kept_bare s staged kept) in
      (after.0, [], record { keeps = after.2; opened = same ∙ kept.opened; spoilt = kept.spoilt; part = part_turned Two k s after.0 base octets changes kept.part (still_fit k s base kept.part is.later) is after.1; changes = subst (λ (vs : Versions). AreChanges k.shape.apex k.shape.snapshot (newest_after k.loaded k.shown) vs []) (sym none) tt })
  turn_keeps turn same not true kept = absurd (not kept.closed)

  pub turn_closes : ((d : D) (t : ℕ) (c : Content) → g.is_honest d → t ≤ g.moment d → g.may_leave d c → g.left_since d t c)
      → ((shape : Sizes) (s : Stored) → Keeps shape old s [] → LeavesOnly g.moment g.left_since (device_of old) (device_of new) (LeavesEither shape s octets changes (opened_of old)))
      → (g.is_honest (device_of old) → g.is_honest (device_of new)) → (is_closed old ≡ true → ⊥) → is_closed new ≡ true → free_sectors new ≡ free_sectors old → newest_number_of new ≡ newest_number_of old → (closed : Bool) → KeepsVersionsBy old k closed → (closed ≡ false) × IsClosedBy new (closed_between base k)
  turn_closes counts_now any honest not closes left number false (s, staged, kept) =
      let bare = kept_bare s staged kept in
      let run = any (sizes_of k.shape) s bare in
      let still_honest = honest kept.keeps.2.honest in (
        refl,
        record {
          closed = closes;
          honest = still_honest;
          left_is = left ∙ left_kept old k s staged kept;
          number_is = number ∙ number_kept old k s staged kept;
          left = λ c now. between_left k s base octets changes kept.spoilt kept.part is c
              (subst (λ n. LeavesEither (sizes_of k.shape) s octets changes n c) kept.opened (run.each c (counts_now (device_of new) (g.moment (device_of old)) c still_honest run.later now)));
        },
      )
  turn_closes counts_now any honest not closes left number true kept = absurd (not kept.closed)
