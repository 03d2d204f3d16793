-- What a checkpoint makes of a store: a later base, and the newest changes alone.
use Rattle.std.specs.Prelude.{◌≡◌, ◌≤◌, ◌-◌, ℕ, List, [], ◌∷◌, length, drop, sum_by}
use Rattle.std.specs.List.{flat_map}
use Rattle.dns_records.specs.Record.{Record, plain}
use Rattle.dns_names.specs.Name.{Labels}
use Rattle.dns_zone.specs.Zone.{Zone, IsZone}
use Rattle.dns_changes.specs.Change.{Change}
use Rattle.dns_changes.specs.declared.ChangeError.{ChangeError}
use Rattle.dns_journal.specs.declared.turn.TurnError.{TurnError}
use Rattle.dns_sectors.specs.declared.device.Sectors.{Ghosts}
use Rattle.dns_journal.specs.declared.journal.Journal.{Journal}
use Rattle.dns_store.specs.Versions.{Versions, Kept, newest_after, version_at}
use Rattle.dns_store.specs.Room.{entries_along}
use Rattle.dns_store.specs.Opens.{journal_keeps as keeps_versions}
use Rattle.dns_store.specs.Plain.{sectors_of_snapshot}
use Rattle.dns_store.specs.declared.checkpoint.CheckpointError.{CheckpointError}
use Rattle.dns_store.specs.declared.checkpoint.CheckpointError.TheVariants.{Device, Closed, OutOfMemory}
use Rattle.dns_store.specs.Recovered.{AreLed}

-- Base is the number of a durable version that isn't older than the base; these octets are its snapshot, and
-- these are the changes from there to the durable version.
pub record IsBaseOf (k : Kept) (base : ℕ) (octets : List ℕ) (changes : List Change) : Type 0 where
  pub later : k.base ≤ base
  pub so_far : base ≤ length k.shown
  pub octets_are : octets ≡ flat_map plain (version_at k base)
  pub led : AreLed (version_at k base) (drop base k.shown) changes

-- How many sectors the newest of some entries take, of each of which the sectors are known.
abbrev pub newest_sectors : {X : Type 0} → (X → ℕ) → List X → ℕ → ℕ
newest_sectors sectors entries n = sum_by sectors (drop (length entries - n) entries)

-- The greatest number, at most `keep`, of newest entries that take at most `room` sectors.
pub record IsMostKept {X : Type 0} (sectors : X → ℕ) (entries : List X) (keep room n : ℕ) : Type 0 where
  pub few : n ≤ keep
  pub there : n ≤ length entries
  pub fits : newest_sectors sectors entries n ≤ room
  pub most : (m : ℕ) → m ≤ keep → m ≤ length entries → newest_sectors sectors entries m ≤ room → m ≤ n

-- how many sectors the entry of each version after the base takes
abbrev pub entries_after_base : Kept → List ℕ
entries_after_base k = drop k.base (entries_along k.loaded k.shown)

-- So many of the newest changes a checkpoint keeps.
abbrev pub IsKeptNumber : Kept → ℕ → ℕ → ℕ → Type 0
IsKeptNumber k keep room n = IsMostKept (λ size. size) (entries_after_base k) keep (k.shape.journal - room) n

-- each of these versions is a valid zone
abbrev pub AllZones : Labels → Versions → Type 0
AllZones apex [] = Unit {0}
AllZones apex (v ∷ vs) = IsZone (record { apex = apex; records = v }) × AllZones apex vs

-- each of these versions takes at most so many sectors as a snapshot
abbrev pub AllFit : ℕ → Versions → Type 0
AllFit room [] = Unit {0}
AllFit room (v ∷ vs) = (sectors_of_snapshot v ≤ room) × AllFit room vs

-- Of the valid zones that these changes lead to from the first records, P.
abbrev pub EachLed : Labels → List Record → List Change → (Versions → Type 0) → Type 0
EachLed apex first changes P = (vs : Versions) → AreLed first vs changes → AllZones apex vs → P vs

-- Of all that the journal keeps, with nothing staged, and the base with these octets as its snapshot, from
-- which these changes lead to the durable version, P.
abbrev pub EachNewBase : {D : Type 0} {g : Ghosts D} → Journal D g → List ℕ → List Change
    → (Kept → ℕ → Type 0) → Type 0
EachNewBase journal octets changes P =
    (k : Kept) (base : ℕ) → keeps_versions journal k → k.staged ≡ [] → IsBaseOf k base octets changes
    → P k base

-- The new base with its snapshot.
pub record IsNextBase (base next : Zone) (vs : Versions) (octets : List ℕ) : Type 0 where
  pub apex : next.apex ≡ base.apex
  pub records : next.records ≡ newest_after base.records vs
  pub octets_are : octets ≡ flat_map plain (newest_after base.records vs)

abbrev pub checkpoint_error : TurnError → CheckpointError
checkpoint_error TurnError.Device = Device
checkpoint_error TurnError.Closed = Closed
checkpoint_error TurnError.OutOfMemory = OutOfMemory

abbrev pub change_error : ChangeError → CheckpointError
change_error ChangeError.OutOfMemory = OutOfMemory
change_error ChangeError.WrongSoa = Closed
change_error ChangeError.RemovesAbsent = Closed
change_error ChangeError.AddsPresent = Closed
change_error ChangeError.BadBytes = Closed
