-- The journalled versions of a zone, and how a run ends that prints them.
use Rattle.std.specs.Prelude.{◌≡◌, ◌⊎◌, ◌↔◌, ◌≤◌, ◌+◌, ℕ, Bool, true, List, [], ◌∷◌, ◌++◌, length, take, drop}
use Rattle.std.specs.Prelude.{codes, decimal, if◌then◌else◌}
use Rattle.std.specs.String.{string_bytes}
use Rattle.std.specs.Io.KnownBytes.{Appends, Keeps}
use Rattle.dns_records.specs.Record.{Record, serial_of}
use Rattle.dns_zone.specs.Zone.{soas}
use Rattle.dns_changes.specs.Change.{Change}
use Rattle.dns_changes.specs.Version.{serial_in}
use Rattle.dns_sectors.specs.Device.{Content, LeavesOnly}
use Rattle.dns_sectors.specs.declared.device.Sectors.{Ghosts}
use Rattle.dns_store.specs.Opening.{IsInRange, MayOpen, OpensAsPossible}
use Rattle.dns_store.specs.Opens.{fresh, opens}
use Rattle.dns_store.specs.Recovered.{AreLed}
use Rattle.dns_store.specs.Versions.{Opened, newest_after, opened_again}
use Rattle.dns_transfer.specs.Form.{is_journalled}
use Rattle.dns_primary.specs.Transfer.{changes_along}
use Rattle.dns_configuration.specs.declared.configuration.ZoneSettings.{ZoneSettings}
use Rattle.dns_configuration.specs.declared.files.File.{File}
use Rattle.dns_configuration.specs.Faults.{line}
use Rattle.dns_devices.specs.declared.device_faults.DeviceFault.{DeviceFault}
use Rattle.dns_devices.specs.DeviceFaults.{device_text, status_of}
use Rattle.dns_devices.specs.DeviceCalls.{DeviceCall}
use Rattle.dns_devices.specs.Stores.{IsNotShown, IsOpenedAndClosed, LeavesKept, own_shape}
use Rattle.dns_commands.specs.Compare.{change_lines}
use Rattle.dns_commands.specs.Frame.{Ended, EndsForNamed}
use Rattle.dns_commands.specs.LoadRun.{difference_line}

-- The versions of a zone from one on: its number and its serial, and the changes that lead from each to the
-- next.
pub record History : Type 0 where
  pub base : ℕ
  pub serial : ℕ
  pub changes : List Change

abbrev pub history_of : ℕ → ℕ → List Change → History
history_of base serial changes = record { base = base; serial = serial; changes = changes }

-- A version by its number and its serial.
abbrev pub version_text : ℕ → ℕ → List ℕ
version_text number serial = codes "version " ++ decimal number ++ codes " serial " ++ decimal serial

-- The line of the version to which a change leads: how many records came and how many went is without the
-- SOA.
abbrev pub step_line : ℕ → Change → List ℕ
step_line number change =
    version_text number (serial_of change.new_soa)
    ++ difference_line (length change.added) (length change.removed)

-- ... and the records that go and come, if they are wanted.
abbrev pub step_text : Bool → ℕ → Change → List ℕ
step_text with_records number change =
    step_line number change ++ (if with_records then change_lines change else [])

-- The versions after that number.
abbrev pub steps_text : Bool → ℕ → List Change → List ℕ
steps_text with_records base [] = []
steps_text with_records base (c ∷ rest) =
    step_text with_records (base + 1) c ++ steps_text with_records (base + 1) rest

abbrev pub history_text : Bool → History → List ℕ
history_text with_records h =
    line (version_text h.base h.serial) ++ steps_text with_records h.base h.changes

-- The version with that number of what a store opens as, and the changes from it to the newest one, by which
-- an IXFR from it is answered (RFC 1995 4).
abbrev pub version_in : Opened → ℕ → List Record
version_in o n = newest_after o.loaded (take n o.versions)

abbrev pub changes_after : Opened → ℕ → List Change
changes_after o n = changes_along (version_in o n) (drop n o.versions)

-- The history is that of the journalled versions of what a store opens as: those from the base on from which
-- the serial goes less than 2^31 to the newest one, so that the two can be compared (RFC 1982 3.2).
pub record IsHistoryOf (h : History) (o : Opened) : Type 0 where
  pub journalled : (n : ℕ) → o.base ≤ n → n ≤ length o.versions
      → h.base ≤ n ↔ is_journalled (changes_after o n) ≡ true
  pub since_base : o.base ≤ h.base
  pub so_far : h.base ≤ length o.versions
  pub serial_is : h.serial ≡ serial_in (soas (version_in o h.base))
  pub led : AreLed (version_in o h.base) (drop h.base o.versions) h.changes

-- The device at the zone's path was opened, P holds of what a crash might have left of it, whichever versions
-- there were before the base, and it was closed with the same versions, opened once more. A crash at any
-- moment between leaves what opens as one might have left it before.
pub record IsSeenAs {D : Type 0} (g : Ghosts D) (calls : List (DeviceCall D)) (own : ZoneSettings)
    (P : Opened → Type 0) : Type 0 where
  pub device : D
  pub after : D
  pub came : IsOpenedAndClosed calls own device after
  pub seen : g.is_honest device
      → IsInRange own.snapshot_sectors own.journal_sectors
      → MayOpen g (own_shape own) device
      → (c : Content) × g.may_leave device c
      × ((o : Opened) → opens (own_shape own) o c
      → P o × LeavesKept g after (fresh (own_shape own) (opened_again o)))
  pub any_moment : g.is_honest device
      → IsInRange own.snapshot_sectors own.journal_sectors
      → LeavesOnly g.moment g.left_since device after (OpensAsPossible g (own_shape own) device)

-- It showed this history.
abbrev pub ShowsHistory : {D : Type 0} → Ghosts D → List (DeviceCall D) → ZoneSettings → History → Type 0
ShowsHistory g calls own h = IsSeenAs g calls own (IsHistoryOf h)

-- The device of the zone was looked into, and showed a history or no version.
abbrev pub IsListTried : {D : Type 0} → Ghosts D → List (DeviceCall D) → ZoneSettings → Type 0
IsListTried g calls own =
    ((h : History) × ShowsHistory g calls own h) ⊎ ((fault : DeviceFault) × IsNotShown g calls own fault)

-- How the listing of a device ends: its versions are printed, or its error is reported. With status 3 the
-- device can't be had, a writer failed or memory was refused. The calls are the same however it ends.
pub record ListingEnds {D : Type 0} (g : Ghosts D) (with_records : Bool) (own : ZoneSettings)
    (e : Ended (DeviceCall D))
    : Type 0 where
  pub done : e.status ≡ 0
      → (h : History) × ShowsHistory g e.calls own h
      × Appends e.out e.out_after (history_text with_records h) × Keeps e.err e.err_after
  pub refused : e.status ≡ 1
      → (fault : DeviceFault) × IsNotShown g e.calls own fault × (status_of fault ≡ 1)
      × Appends e.err e.err_after (line (device_text (string_bytes own.device) fault e.explain))
      × Keeps e.out e.out_after
  pub others : e.status ≤ 1 ⊎ (e.status ≡ 3)
  pub called : IsListTried g e.calls own

-- How a run of `history` ends. However it ends, nothing was done but to look into the device of the zone that
-- is named, if one was named.
abbrev pub HistoryEnds : {D : Type 0} → Ghosts D → File → List ℕ → Bool → Ended (DeviceCall D) → Type 0
HistoryEnds g config origin with_records e = EndsForNamed config origin (ListingEnds g with_records) e
