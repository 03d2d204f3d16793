-- Each content that a command leaves opens as a zone of a life.
use Rattle.std.proofs.Common.{◌≡◌, ◌+◌, ◌<◌, ◌≤◌, ◌^◌, ◌⊎◌, ℕ, true, inl, inr, List, [], ◌∷◌, ◌++◌, length, Ok, Err, Result, None, refl, sym, ap, subst, ◌∙◌, arith, append-nil}
use Rattle.std.specs.Prelude.{◌-◌, ◌&&◌, nat_le, nat_lt, false}
use Rattle.std.proofs.lemmas.List.{length-map}
use Rattle.dns_records.specs.Record.{Record}
use Rattle.dns_zone.specs.Zone.{IsZone, soas}
use Rattle.dns_zone.specs.Order.{both_true}
use Rattle.dns_serial.specs.Serial.{greater}
use Rattle.dns_changes.specs.Version.{serial_in}
use Rattle.dns_wire.proofs.Binds.{true_le, true_lt}
use Rattle.dns_sectors.specs.Device.{Content}
use Rattle.dns_sectors.specs.declared.device.Sectors.{Ghosts}
use Rattle.dns_layout.specs.Sector.{snapshot_sectors}
use Rattle.dns_store.specs.Plain.{octets_of}
use Rattle.dns_store.specs.Room.{entry_between}
use Rattle.dns_store.specs.Versions.{IsLeftOf, Kept, Opened, OpensAsLeft, Shape, moved_to, newest_after, newest_of, opened_again, shown_of, staged_with}
use Rattle.dns_store.specs.Opens.{fresh, opens}
use Rattle.dns_store.specs.Migrating.{IsMigrated, opens_migrated}
use Rattle.dns_versions.specs.Staging.{has_room}
use Rattle.dns_primary.specs.Machine.{Made, ZoneState, kept_of, versions_of}
use Rattle.dns_configuration.specs.declared.configuration.ZoneSettings.{ZoneSettings}
use Rattle.dns_devices.specs.declared.device_faults.DeviceFault.{DeviceFault}
use Rattle.dns_devices.specs.declared.device_faults.DeviceFault.TheVariants.{Exists, Device, Blank, Damaged, OldFormat, Geometry, ZoneTooLarge, SerialNotRaised, NoRoom, OutOfMemory}
use Rattle.dns_devices.specs.Stores.{LeavesKept, own_shape}
use Rattle.dns_commands.specs.declared.next_version.Loaded.{Loaded}
use Rattle.dns_commands.specs.declared.next_version.Loaded.TheVariants.{Already, Next}
use Rattle.dns_commands.specs.Load.{IsBaseForRecords, IsLoadedInto, IsNextKept, IsSerialRaised, with_next}
use Rattle.dns_theorem.specs.Lives.{IsFiled, IsReopenedAs, IsOpenedWith}
use Rattle.dns_theorem.proofs.Tended.{durable_becomes, loaded_becomes, migrated_becomes, reopened_becomes}
use Rattle.dns_acts.specs.Acts.{IsStoredAs, IsStoredEither, IsUnloaded, LeavesDumped, LeavesLoaded, LeavesLoading, LeavesMigrated, LeavesMigrating, LeavesOpening, LeavesUnloaded, LeavesZone, OpensAsZone}

none_made : (made : List Made) → versions_of made ≡ [] → made ≡ []
none_made [] e = refl
none_made (m ∷ made) e = absurd cc

-- a base that is chosen for a next version
within_shown : (keep : ℕ) (records : List Record) (k : Kept) (base : ℕ) → k.base ≤ length k.shown → IsBaseForRecords keep records k base → base ≤ length k.shown
within_shown keep records k base within (inl (left, is)) = omega (arith, is, within)
within_shown keep records k base within (inr (less, (n, most, is))) = omega (arith, is)

-- records that have room, and a greater serial than the newest version, may be the next one
filed_after : (z : ZoneState) (records : List Record) → z.staged ≡ [] → IsZone (record { apex = z.setting.shape.apex; records = records }) → IsSerialRaised (newest_of (kept_of z)) records
    → has_room (kept_of z) records ≡ true → IsFiled z.setting.shape (length z.shown) (shown_of (kept_of z)) records
filed_after z records rests valid raised room =
    let k = kept_of z in
    let few = nat_le (length records) 65536 in
    let snapshot = nat_le (snapshot_sectors (octets_of records)) k.shape.snapshot in
    let entry = nat_le (entry_between (newest_of k) records) k.shape.journal in
    let last = both_true (few && snapshot && entry) (nat_lt (length k.shown + length k.staged) (2 ^ 64 - 1)) room in
    let third = both_true (few && snapshot) entry last.0 in
    let first = both_true few snapshot third.0 in
    let newest : newest_of k ≡ shown_of k = ap (λ (ms : List Made). newest_after z.loaded (versions_of z.shown ++ versions_of ms)) rests ∙ ap (newest_after z.loaded) (append-nil (versions_of z.shown)) in
    let many : length (versions_of z.shown) ≡ length z.shown = length-map z.shown (λ (m : Made). m.records) in
    let none : length (versions_of z.staged) ≡ 0 = ap (λ (ms : List Made). length (versions_of ms)) rests in
    let number : length k.shown + length k.staged ≡ length z.shown = omega (arith, many, none) in
    record {
      valid = valid;
      raised = subst (λ (rs : List Record). greater (serial_in (soas records)) (serial_in (soas rs)) ≡ true) newest raised;
      few = true_le (length records) 65536 first.0;
      snapshot = true_le (snapshot_sectors (octets_of records)) k.shape.snapshot first.1;
      entry = subst (λ (rs : List Record). entry_between rs records ≤ k.shape.journal) newest (true_le (entry_between (newest_of k) records) k.shape.journal third.1);
      numbered = subst (λ (n : ℕ). n < 2 ^ 64 - 1) number (true_lt (length k.shown + length k.staged) (2 ^ 64 - 1) last.1);
    }

module _ (own : ZoneSettings) (z : ZoneState) (o : Opened) (content : Content) (held : IsStoredAs own z o content) where
  abbrev k : Kept
  k = fresh (own_shape own) (opened_again o)

  kept : kept_of z ≡ k
  kept = held.opened ∙ ap (λ (s : Shape). fresh s (opened_again o)) held.shape

  rests : z.staged ≡ []
  rests = none_made z.staged (ap (λ (j : Kept). j.staged) kept)

  second : z.second ≡ None
  second = ap (λ (j : Kept). j.second) kept

  closed : z.closed ≡ false
  closed = ap (λ (j : Kept). j.closed) kept

  so_far : o.base ≤ length o.versions
  so_far = ((held.holds).1.2.3).so_far

  many : length o.versions ≡ length z.shown
  many = sym (ap (λ (j : Kept). length j.shown) kept) ∙ length-map z.shown (λ (m : Made). m.records)

  within : (keep base : ℕ) (records : List Record) → IsBaseForRecords keep records k base → base ≤ length z.shown
  within keep base records for = subst (λ (n : ℕ). base ≤ n) many (within_shown keep records k base so_far for)

  first : o.base ≤ length z.shown
  first = subst (λ (n : ℕ). o.base ≤ n) many so_far

  -- a crash left the versions, from some base
  reopened : (base : ℕ) (c : Content) → base ≤ length z.shown → OpensAsLeft opens (moved_to base k) c → OpensAsZone (opens (own_shape own)) (IsOpenedWith [] z) c
  reopened base c small (p, left, is) =
      let w = reopened_becomes z base p rests second small (subst (λ (j : Kept). IsLeftOf (moved_to base j) p) (sym kept) left) in
      (p, is, w.0, w.1, w.2)

  -- the records may be the next version
  filed : (records : List Record) → IsZone (record { apex = own.origin; records = records }) → IsSerialRaised (newest_of k) records → has_room k records ≡ true
      → IsFiled z.setting.shape (length z.shown) (shown_of (kept_of z)) records
  filed records valid raised room =
      filed_after z records rests
      (subst (λ (s : Shape). IsZone (record { apex = s.apex; records = records })) (sym held.shape) valid)
      (subst (λ (j : Kept). IsSerialRaised (newest_of j) records) (sym kept) raised)
      (subst (λ (j : Kept). has_room j records ≡ true) (sym kept) room)

  pub loaded_left : {D : Type 0} (g : Ghosts D) → LeavesLoaded g own z o
  loaded_left g records device after version serial added removed valid on c may =
      let next : IsNextKept (LeavesKept g after) own.keep records k version serial added removed = on.becomes in
      let left = next.kept c may in
      let w = durable_becomes z records next.base left.0 rests second (within own.keep next.base records next.base_is) (filed records valid next.raised next.room)
      (subst (λ (j : Kept). IsLeftOf (with_next next.base records j) left.0) (sym kept) left.1) in
      (left.0, left.2, w.0, w.1, w.2)

  pub loading_left : LeavesLoading own z o
  loading_left records c valid (inl left) =
      let same = reopened o.base c first left in
      (same.0, same.1, same.2, inr same.3, same.4)
  loading_left records c valid (inr (base, for, raised, room, (p, left, is))) =
      let w = loaded_becomes z records base p rests second (within own.keep base records for) (filed records valid raised room)
      (subst (λ (j : Kept). IsLeftOf (staged_with records (moved_to base j)) p) (sym kept) left) in
      (p, is, w.0, w.1, w.2)

  pub dumped_left : {D : Type 0} (g : Ghosts D) → LeavesDumped g own z o
  dumped_left g after leaves c may = reopened o.base c first (leaves c may)

  unloaded_into : {D : Type 0} (g : Ghosts D) (records : List Record) (before failed : ℕ) (after : D) (result : Result Loaded DeviceFault) → IsUnloaded result
      → IsLoadedInto (LeavesKept g after) before failed own.keep records k result → LeavesZone g after own (IsOpenedWith [] z)
  unloaded_into g records before failed after (Ok Already) none (same, leaves) = dumped_left g after leaves
  unloaded_into g records before failed after (Ok (Next version serial added removed)) none is = absurd none
  unloaded_into g records before failed after (Err SerialNotRaised) none (other, low, leaves) = dumped_left g after leaves
  unloaded_into g records before failed after (Err NoRoom) none (other, raised, room, leaves) = dumped_left g after leaves
  unloaded_into g records before failed after (Err OutOfMemory) none (inl leaves) = dumped_left g after leaves
  unloaded_into g records before failed after (Err OutOfMemory) none (inr (base, for, leaves)) = λ c may. reopened base c (within own.keep base records for) (leaves c may)
  unloaded_into g records before failed after (Err Device) none is = absurd none
  unloaded_into g records before failed after (Err Exists) none is = absurd none
  unloaded_into g records before failed after (Err Blank) none is = absurd none
  unloaded_into g records before failed after (Err (Damaged sector)) none is = absurd none
  unloaded_into g records before failed after (Err OldFormat) none is = absurd none
  unloaded_into g records before failed after (Err Geometry) none is = absurd none
  unloaded_into g records before failed after (Err ZoneTooLarge) none is = absurd none

  pub unloaded_left : {D : Type 0} (g : Ghosts D) → LeavesUnloaded g own z o
  unloaded_left g records device after result none on = unloaded_into g records (g.failed device) (g.failed after) after result none on.becomes

  -- the zone itself
  same_zone : IsOpenedWith [] z z
  same_zone =
      let base : z.base ≡ o.base = ap (λ (j : Kept). j.base) kept in
      let small = first in
      record {
        rests = rests;
        setting = refl;
        loaded = refl;
        shown = sym (append-nil z.shown);
        staged = rests;
        so_far = omega (arith, base, small);
        second = second;
        altered = inl refl;
        opened = closed;
        at_least = omega arith;
        at_most = omega arith;
      }

  pub opening_left : (c : Content) → opens (own_shape own) o c ⊎ opens (own_shape own) (opened_again o) c → OpensAsZone (opens (own_shape own)) (IsOpenedWith [] z) c
  opening_left c (inl is) = (o, is, z, same_zone, held.opened)
  opening_left c (inr is) =
      let w = reopened_becomes z o.base (opened_again o) rests second first (subst (λ (j : Kept). IsLeftOf (moved_to o.base j) (opened_again o)) (sym kept) (
      record { loaded = refl; kept = []; lost = []; front = refl; versions = sym (append-nil o.versions); base = inl refl; openings = refl; altered = refl }
      )) in
      (opened_again o, is, w.0, w.1, w.2)

pub opening : {D : Type 0} (g : Ghosts D) (own : ZoneSettings) → LeavesOpening g own
opening g own device c possible = (possible.0, possible.1, λ z o held. opening_left own z o possible.0 held c (possible.2 o held.holds))

-- a content in one of the formats, as `migrate` and then `open` open it
migratable : (own : ZoneSettings) (z : ZoneState) (o : Opened) (c : Content) → IsStoredEither own z o c → opens_migrated (own_shape own) o c
migratable own z o c (inl (held, unaltered)) = inl (held.holds, unaltered)
migratable own z o c (inr held) = inr (held.before, held.holds, held.becomes)

-- the zone that is opened of that
migrated_zone : (own : ZoneSettings) (z : ZoneState) (o : Opened) (c : Content) → IsStoredEither own z o c → (w : ZoneState) × IsOpenedWith [] z w × IsReopenedAs w o
migrated_zone own z o c (inl (held, unaltered)) = (z, same_zone own z o c held, held.opened)
migrated_zone own z o c (inr held) = migrated_becomes z held.before o held.opened (subst (λ (s : Shape). IsMigrated s held.before o) (sym held.shape) held.becomes)

pub migrated : {D : Type 0} (g : Ghosts D) (own : ZoneSettings) → LeavesMigrated g own
migrated g own device after answer takes = (
  takes.0,
  takes.1,
  λ z o held c may. (let w = migrated_zone own z o takes.0 held in (o, (takes.2 o (migratable own z o takes.0 held)).0 c may, w.0, w.1, w.2)),
)

pub migrating : {D : Type 0} (g : Ghosts D) (own : ZoneSettings) → LeavesMigrating g own
migrating g own device c possible = (
  possible.0,
  possible.1,
  λ z o held. (let w = migrated_zone own z o possible.0 held in (o, possible.2 o (migratable own z o possible.0 held), w.0, w.1, w.2)),
)
