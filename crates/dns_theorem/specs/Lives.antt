-- The life of a primary: its runs, and what is done to the stores of its zones while it is stopped.
use Rattle.std.specs.Prelude.{◌≡◌, ◌⊎◌, ◌<◌, ◌≤◌, ◌+◌, ◌-◌, ◌^◌, ℕ, suc, true, false, List, [], ◌∷◌, ◌++◌}
use Rattle.std.specs.Prelude.{length, slice_get, slice_set, Some, None}
use Rattle.std.specs.List.{AllByRecursion}
use Rattle.dns_records.specs.Record.{Record}
use Rattle.dns_serial.specs.Serial.{greater}
use Rattle.dns_zone.specs.Zone.{IsZone, soas}
use Rattle.dns_changes.specs.Version.{serial_in}
use Rattle.dns_layout.specs.Sector.{snapshot_sectors}
use Rattle.dns_wire.specs.Message.{Message}
use Rattle.dns_store.specs.Plain.{octets_of}
use Rattle.dns_store.specs.Room.{entry_between}
use Rattle.dns_store.specs.Opens.{fresh}
use Rattle.dns_store.specs.Versions.{Kept, Opened, Shape, moved_to, opened_again, shown_of, staged_with}
use Rattle.dns_versions.specs.Each.{Each2}
use Rattle.dns_primary.specs.Machine.{Made, ZoneState, Machine, kept_of, updates_of}
use Rattle.dns_primary.specs.Flush.{Sent}
use Rattle.dns_primary.specs.Runs.{Moment, machine_after, sent_in, Happens, IsAccepted, BringsIn, AllLast}
use Rattle.dns_primary.specs.Runs.{IsTrueIn, IsOpenedAtMost, openings_in}

-- What happens in a life: a moment of a run; or, while the machine is stopped, a file is loaded into the
-- store of the zone at a position; or this store is opened and no version is made, as where it is migrated or
-- dumped, or a load is refused or cut off. Each with the machine that it leads to.
pub data Act : Type 0 where
  Ran : Moment → Act
  Loaded : ℕ → List Record → Machine → Act
  Reopened : ℕ → Machine → Act

abbrev pub machine_after_act : Act → Machine
machine_after_act (Ran moment) = machine_after moment
machine_after_act (Loaded index file new) = new
machine_after_act (Reopened index new) = new

-- The records of a file may be the version after this one: they are a valid zone of the store's name, whose
-- serial is greater (RFC 1982 3.2), and there is room for them, as for what an update leaves.
pub record IsFiled (s : Shape) (number : ℕ) (before file : List Record) : Type 0 where
  pub valid : IsZone (record { apex = s.apex; records = file })
  pub raised : greater (serial_in (soas file)) (serial_in (soas before)) ≡ true
  pub few : length file ≤ 65536
  pub snapshot : snapshot_sectors (octets_of file) ≤ s.snapshot
  pub entry : entry_between before file ≤ s.journal
  pub numbered : number < 2 ^ 64 - 1

-- They may be the zone's next version.
abbrev pub MayLoad : ZoneState → List Record → Type 0
MayLoad z file = IsFiled z.setting.shape (length z.shown) (shown_of (kept_of z)) file

-- what its store keeps when they are staged after a base was chosen
abbrev pub loading : ZoneState → List Record → ℕ → Kept
loading z file base = staged_with file (moved_to base (kept_of z))

-- A zone of which nothing is staged, as its store is opened again, with these after what was shown. It begins
-- at whichever base. The sectors that were altered are so still; or none is, as where the store was written
-- anew. The store was opened once more, or a stop came before that was written.
pub record IsOpenedWith (more : List Made) (old new : ZoneState) : Type 0 where
  pub rests : old.staged ≡ []
  pub setting : new.setting ≡ old.setting
  pub loaded : new.loaded ≡ old.loaded
  pub shown : new.shown ≡ old.shown ++ more
  pub staged : new.staged ≡ []
  pub so_far : new.base ≤ length new.shown
  pub second : new.second ≡ None
  pub altered : (new.altered ≡ old.altered) ⊎ (new.altered ≡ [])
  pub opened : new.closed ≡ false
  pub at_least : old.openings ≤ new.openings
  pub at_most : new.openings ≤ old.openings + 1

-- The zone is as it is opened of a store that holds this.
abbrev pub IsReopenedAs : ZoneState → Opened → Type 0
IsReopenedAs z o = kept_of z ≡ fresh z.setting.shape (opened_again o)

-- The version that the file makes is after those that were shown. No update made it: its update means
-- nothing.
pub record HasLoaded (file : List Record) (old new : ZoneState) : Type 0 where
  pub filed : MayLoad old file
  pub made : Made
  pub records : made.records ≡ file
  pub opened : IsOpenedWith (made ∷ []) old new

-- So it is, or it is opened without that version.
abbrev pub MayHaveLoaded : List Record → ZoneState → ZoneState → Type 0
MayHaveLoaded file old new = HasLoaded file old new ⊎ IsOpenedWith [] old new

-- The machine is stopped: nothing waits, and nobody is connected. The zone at the position becomes another
-- so, and all else stays.
pub record IsTended (becomes : ZoneState → ZoneState → Type 0) (index : ℕ) (old new : Machine) : Type 0 where
  pub waiting : old.waiting ≡ []
  pub connections : old.connections ≡ []
  pub zone : ZoneState
  pub there : slice_get old.zones index ≡ Some zone
  pub next : ZoneState
  pub made : becomes zone next
  pub is : new ≡ record old { zones = slice_set old.zones index next }

abbrev pub MayFollow : Machine → Act → Type 0
MayFollow m (Ran moment) = Happens m moment
MayFollow m (Loaded index file new) = IsTended (HasLoaded file) index m new
MayFollow m (Reopened index new) = IsTended (IsOpenedWith []) index m new

-- Each of these happens to the machine that those before it left.
abbrev pub Life : Machine → List Act → Type 0
Life m [] = Unit {0}
Life m (act ∷ rest) = MayFollow m act × Life (machine_after_act act) rest

abbrev pub end_of_life : Machine → List Act → Machine
end_of_life m [] = m
end_of_life m (act ∷ rest) = end_of_life (machine_after_act act) rest

-- What goes out in an act: nothing but in a run.
abbrev pub sent_in_act : Act → List Sent
sent_in_act (Ran moment) = sent_in moment
sent_in_act (Loaded index file new) = []
sent_in_act (Reopened index new) = []

abbrev pub BringsBy : Machine → Act → ZoneState → Message → Type 0
BringsBy m (Ran moment) z update = BringsIn m moment z update
BringsBy m (Loaded index file new) z update = ⊥
BringsBy m (Reopened index new) z update = ⊥

-- The update came in one of these acts, from an address that might update the zone then.
abbrev pub CameAlong : Machine → List Act → ZoneState → Message → Type 0
CameAlong m [] z update = ⊥
CameAlong m (act ∷ rest) z update = BringsBy m act z update ⊎ CameAlong (machine_after_act act) rest z update

-- The zone at the position has this one's name and the sizes of its store.
pub record StandsAt (m : Machine) (index : ℕ) (z : ZoneState) : Type 0 where
  pub zone : ZoneState
  pub there : slice_get m.zones index ≡ Some zone
  pub shape : zone.setting.shape ≡ z.setting.shape

abbrev pub LoadsBy : Machine → Act → ZoneState → List Record → Type 0
LoadsBy m (Ran moment) z records = ⊥
LoadsBy m (Loaded index file new) z records = (records ≡ file) × StandsAt m index z
LoadsBy m (Reopened index new) z records = ⊥

-- The records are a file's that was loaded into the zone's store in one of these acts.
abbrev pub LoadedAlong : Machine → List Act → ZoneState → List Record → Type 0
LoadedAlong m [] z records = ⊥
LoadedAlong m (act ∷ rest) z records =
    LoadsBy m act z records ⊎ LoadedAlong (machine_after_act act) rest z records

-- A version after another: an update came in the life and was accepted on the one before, with room for what
-- it leaves; or a file was loaded in the life, valid, with a greater serial and with room.
abbrev pub IsVersionOf : Machine → List Act → ZoneState → ℕ → List Record → Made → Type 0
IsVersionOf start life z number before m =
    (IsAccepted z.setting.shape number before m × CameAlong start life z m.update)
    ⊎ (IsFiled z.setting.shape number before m.records × LoadedAlong start life z m.records)

abbrev pub AreVersionsOf : Machine → List Act → ZoneState → ℕ → List Record → List Made → Type 0
AreVersionsOf start life z number before [] = Unit {0}
AreVersionsOf start life z number before (m ∷ later) =
    IsVersionOf start life z number before m × AreVersionsOf start life z (suc number) m.records later

-- The versions of the zone, shown and staged, are those that were shown at the start, and after them such
-- ones, each made on the one before it.
pub record HasGrown (start : Machine) (life : List Act) (old new : ZoneState) : Type 0 where
  pub later : List Made
  pub updates : updates_of new ≡ old.shown ++ later
  pub versions : AreVersionsOf start life new (length old.shown) (shown_of (kept_of old)) later

-- What was shown after an act, and what was answered in it, is true of these zones.
pub record StaysTrueOf (zones : List ZoneState) (act : Act) : Type 0 where
  pub shown : AllLast (machine_after_act act).zones zones
  pub answered : AllByRecursion (IsTrueIn zones) (sent_in_act act)

-- How often a store was opened in these acts, at most.
abbrev pub openings_of : List Act → ℕ
openings_of [] = 0
openings_of (Ran moment ∷ rest) = openings_in (moment ∷ []) + openings_of rest
openings_of (Loaded index file new ∷ rest) = suc (openings_of rest)
openings_of (Reopened index new ∷ rest) = suc (openings_of rest)

-- A machine that is not running: nothing waits, and nothing is staged.
pub record IsMachineAtRest (m : Machine) : Type 0 where
  pub waiting : m.waiting ≡ []
  pub staged : AllByRecursion (λ z. z.staged ≡ []) m.zones

-- At the end of a life, however often the machine was stopped in it and whatever was loaded and migrated
-- meanwhile: each zone's versions are those that it had, and after them one for each accepted update and each
-- loaded file, in order. The version that is shown is after the first of them; among these are all that was
-- shown and all that was answered NOERROR at any time of the life. No store says that it was opened more
-- often than it was.
pub record Legacy (start : Machine) (life : List Act) : Type 0 where
  pub loaded : AllLast start.zones (end_of_life start life).zones
  pub grown : Each2 (HasGrown start life) start.zones (end_of_life start life).zones
  pub openings : Each2 (IsOpenedAtMost (openings_of life)) start.zones (end_of_life start life).zones
  pub acts : AllByRecursion (StaysTrueOf (end_of_life start life).zones) life
