-- What the devices of zones open as, which are only read, and how a run that looks at them ends.
use Rattle.std.specs.Prelude.{◌≡◌, ◌⊎◌, ◌-◌, ℕ, zero, suc, max, Bool, true, false, List, [], ◌∷◌, ◌++◌}
use Rattle.std.specs.Prelude.{length, take, flat_map}
use Rattle.std.specs.Prelude.{Option, None, Some, Result, Ok, Err, IfOk, MatchResult, codes, decimal}
use Rattle.std.specs.Prelude.{if◌then◌else◌}
use Rattle.std.specs.Option.{option_copied}
use Rattle.std.specs.String.{string_bytes}
use Rattle.std.specs.Io.KnownBytes.{Appends, Keeps}
use Rattle.dns_names.specs.Text.{printed_name}
use Rattle.dns_zone.specs.Zone.{soas}
use Rattle.dns_changes.specs.Version.{serial_in}
use Rattle.dns_sectors.specs.declared.device.Sectors.{Ghosts}
use Rattle.dns_sectors.specs.Device.{Content}
use Rattle.dns_layout.specs.Own.{IsIntactIn}
use Rattle.dns_layout.specs.Sector.{sector_at}
use Rattle.dns_layout.specs.declared.format.Format.TheVariants.{Two}
use Rattle.dns_journal.specs.Reads.{HasRisen, OnlyReads}
use Rattle.dns_store.specs.declared.root.OpenError.{OpenError}
use Rattle.dns_store.specs.declared.root.OpenError.TheVariants.{Device}
use Rattle.dns_store.specs.Damage.{NamesAltered, NamesSector, NamesWrong}
use Rattle.dns_store.specs.Opening.{IsInRange, IsNotOpenedAs, IsNotReopened}
use Rattle.dns_store.specs.Opens.{fresh, opens, sizes_of}
use Rattle.dns_store.specs.Room.{sectors_left}
use Rattle.dns_store.specs.Root.{OpenRefusal}
use Rattle.dns_store.specs.Versions.{Opened, Shape, newest_after}
use Rattle.dns_primary.specs.Open.{IsIntactAs, OfAltered, OfSpoilt}
use Rattle.dns_configuration.specs.declared.configuration.Configuration.{Configuration}
use Rattle.dns_configuration.specs.declared.configuration.ZoneSettings.{ZoneSettings}
use Rattle.dns_configuration.specs.declared.files.File.{File}
use Rattle.dns_configuration.specs.declared.files.Fault.{Fault}
use Rattle.dns_configuration.specs.Faults.{fault_text, line}
use Rattle.dns_configuration.specs.Files.{HoldsConfiguration}
use Rattle.dns_devices.specs.declared.device_faults.DeviceFault.{DeviceFault}
use Rattle.dns_devices.specs.declared.device_faults.DeviceFault.TheVariants.{Damaged}
use Rattle.dns_devices.specs.DeviceCalls.{DeviceCall}
use Rattle.dns_devices.specs.DeviceFaults.{IsFaultOf, device_text, is_memory_fault, status_of}
use Rattle.dns_devices.specs.Stores.{IsDeviceNotGiven, IsOpenedAndClosed, own_shape}
use Rattle.dns_commands.specs.declared.commands.verify.Figures.{Figures}
use Rattle.dns_commands.specs.declared.commands.verify.Found.{Found}
use Rattle.dns_commands.specs.Frame.{Ended, EndsForNamed}

-- The figures of a store: the number, the serial and the count of records of its newest version; how many
-- changes its journal holds, and how many sectors of that are left; and how often it was opened.
abbrev pub figures_of : Shape → Opened → Figures
figures_of shape o =
    let newest = newest_after o.loaded o.versions in
    record {
      version = length o.versions;
      serial = serial_in (soas newest);
      records = length newest;
      entries = length o.versions - o.base;
      sectors_left = sectors_left (fresh shape o);
      openings = o.openings;
    }

-- These are, in order, the sectors before a position that are neither zeros nor their own.
abbrev pub AreSpoilt : Content → ℕ → List ℕ → Type 0
AreSpoilt c zero places = places ≡ []
AreSpoilt c (suc n) places =
    (IsIntactIn Two n (sector_at c n) × AreSpoilt c n places)
    ⊎ ((IsIntactIn Two n (sector_at c n) → ⊥)
    × ((before : List ℕ) × (places ≡ before ++ n ∷ []) × AreSpoilt c n before))

-- The sectors that were found so: all of the device, if each was tested.
abbrev pub IsTested : {D : Type 0} → Ghosts D → D → Bool → List ℕ → Type 0
IsTested g device true places = g.is_honest device → AreSpoilt (g.seen device) (g.count device) places
IsTested g device false places = places ≡ []

-- The device was only read: of the sectors that reading reaches each is intact, and the figures are those of
-- the store that it opens as; where some of its sectors were altered, those of the store before. The sectors
-- that are neither zeros nor their own are found if all are tested.
pub record IsWell {D : Type 0} (g : Ghosts D) (every : Bool) (own : ZoneSettings) (device after : D)
    (found : Found) : Type 0 where
  pub read_only : OnlyReads g device after
  pub intact : IsIntactAs g (own_shape own) device
  pub opened : g.is_honest device
      → IsInRange own.snapshot_sectors own.journal_sectors
      → (o : Opened) → opens (own_shape own) o (g.seen device)
      → found.figures ≡ figures_of (own_shape own) o
  pub altered : OfAltered g (own_shape own) device (λ c o. found.figures ≡ figures_of (own_shape own) o)
  pub tested : IsTested g device every found.spoilt.items
  pub quiet : g.failed after ≡ g.failed device

-- The device was only read, and this is why its store is refused: if it opens, the device failed, memory was
-- refused, it was opened too often, or a sector in use was altered, and is named; else the reason is in what
-- is stored on it. A sector that is neither zeros nor its own is named if reading reaches it, and if some
-- were altered, one of them.
pub record IsUnwell {D : Type 0} (g : Ghosts D) (own : ZoneSettings) (device back : D) (error : OpenError)
    : Type 0 where
  pub read_only : OnlyReads g device back
  pub failed : error ≡ Device → HasRisen (g.failed device) (g.failed back)
  pub stopped : g.is_honest device
      → IsInRange own.snapshot_sectors own.journal_sectors
      → (o : Opened) → opens (own_shape own) o (g.seen device)
      → IsNotOpenedAs (own_shape own) o (g.seen device) error
  pub refused : g.is_honest device
      → OpenRefusal (sizes_of (own_shape own)) (g.count device) (sector_at (g.seen device) 0) error
  pub damaged : g.is_honest device → NamesWrong (own_shape own) (g.seen device) error
  pub not_own : OfSpoilt g (own_shape own) device (λ position. NamesSector position error)
  pub altered : OfAltered g (own_shape own) device
      (λ c o. IsNotReopened o.openings error ⊎ NamesAltered c (g.seen device) error)

-- The device at the zone's path was opened, found well, and closed.
pub record IsVerified {D : Type 0} (g : Ghosts D) (every : Bool) (calls : List (DeviceCall D))
    (own : ZoneSettings) (found : Found) : Type 0 where
  pub device : D
  pub after : D
  pub came : IsOpenedAndClosed calls own device after
  pub well : IsWell g every own device after found

-- It was opened, its store was refused for an error that names the fault, and it was closed; all that was
-- done is to read.
pub record IsFoundWrong {D : Type 0} (g : Ghosts D) (calls : List (DeviceCall D)) (own : ZoneSettings)
    (fault : DeviceFault) : Type 0 where
  pub device : D
  pub back : D
  pub after : D
  pub came : IsOpenedAndClosed calls own device after
  pub error : OpenError
  pub why : IsUnwell g own device back error
  pub asked : OnlyReads g back after
  pub named : IsFaultOf g error back after fault

-- ... or none was had.
abbrev pub IsNotVerified : {D : Type 0} → Ghosts D → List (DeviceCall D) → ZoneSettings → DeviceFault → Type 0
IsNotVerified g calls own fault = IsDeviceNotGiven calls own fault ⊎ IsFoundWrong g calls own fault

-- What was found of a device: a store, or what is wrong.
abbrev pub Finding : Type 0
Finding = Result Found DeviceFault

abbrev pub IsFinding : {D : Type 0} → Ghosts D → Bool → List (DeviceCall D) → ZoneSettings → Finding → Type 0
IsFinding g every calls own finding =
    MatchResult finding (IsVerified g every calls own) (IsNotVerified g calls own)

-- The devices of these zones were looked at, one after another, each closed before the next one was opened,
-- and this was found.
abbrev pub AreFindings : {D : Type 0} → Ghosts D → Bool → List (DeviceCall D) → List ZoneSettings
    → List Finding → Type 0
AreFindings g every calls [] [] = calls ≡ []
AreFindings {D} g every calls (own ∷ settings) (finding ∷ findings) =
    (first : List (DeviceCall D)) × (others : List (DeviceCall D)) × (calls ≡ first ++ others)
    × IsFinding g every first own finding × AreFindings g every others settings findings
AreFindings g every calls [] (finding ∷ findings) = ⊥
AreFindings g every calls (own ∷ settings) [] = ⊥

-- What is printed of a zone: its figures, if its store is well.
abbrev pub newest_text : List ℕ → Figures → List ℕ
newest_text origin f =
    origin ++ codes " version " ++ decimal f.version ++ codes " serial " ++ decimal f.serial
    ++ codes " records " ++ decimal f.records

abbrev pub journal_text : Figures → List ℕ
journal_text f =
    codes " entries " ++ decimal f.entries ++ codes " sectors-left " ++ decimal f.sectors_left
    ++ codes " openings " ++ decimal f.openings

abbrev pub figures_line : List ℕ → Figures → List ℕ
figures_line origin f = newest_text origin f ++ line (journal_text f)

abbrev pub printed_of : ZoneSettings → Finding → List ℕ
printed_of own (Ok found) = figures_line (printed_name own.origin) found.figures
printed_of own (Err fault) = []

-- What is reported: each sector that was found so, or the error, unless memory was refused.
abbrev pub spoilt_text : List ℕ → Bool → ℕ → List ℕ
spoilt_text path explain position = line (device_text path (Damaged position) explain)

abbrev pub reported_of : Bool → ZoneSettings → Finding → List ℕ
reported_of explain own (Ok found) =
    flat_map (spoilt_text (string_bytes own.device) explain) found.spoilt.items
reported_of explain own (Err fault) =
    if is_memory_fault fault then [] else line (device_text (string_bytes own.device) fault explain)

-- The texts of all zones, in their order.
abbrev pub zone_texts : (ZoneSettings → Finding → List ℕ) → List ZoneSettings → List Finding → List ℕ
zone_texts text (own ∷ settings) (finding ∷ findings) = text own finding ++ zone_texts text settings findings
zone_texts text _ _ = []

-- The exit status of one.
abbrev pub spoilt_status : List ℕ → ℕ
spoilt_status [] = 0
spoilt_status (position ∷ places) = 1

abbrev pub finding_status : Finding → ℕ
finding_status (Ok found) = spoilt_status found.spoilt.items
finding_status (Err fault) = status_of fault

-- The finding of one zone is told, and makes the status.
pub record IsFindingTold {C : Type 0} (own : ZoneSettings) (finding : Finding) (e : Ended C) : Type 0 where
  pub printed : Appends e.out e.out_after (printed_of own finding)
  pub reported : Appends e.err e.err_after (reported_of e.explain own finding)
  pub status_is : e.status ≡ finding_status finding

-- Something was found of the device of a zone, and where there is a status it was told.
abbrev pub IsFoundAndTold : {D X : Type 0} → Ghosts D → Bool → List (DeviceCall D) → ZoneSettings
    → Result ℕ X → (ℕ → Ended (DeviceCall D)) → Type 0
IsFoundAndTold g every calls own result ended =
    (finding : Finding) × IsFinding g every calls own finding
    × IfOk result (λ status. IsFindingTold own finding (ended status))

-- The exit status of the worst.
abbrev pub worst_of : List Finding → ℕ
worst_of [] = 0
worst_of (finding ∷ findings) = max (finding_status finding) (worst_of findings)

-- The devices of all these zones were looked at; what was found is printed and reported, and makes the
-- status.
pub record IsAllTold {D : Type 0} (g : Ghosts D) (every : Bool) (settings : List ZoneSettings)
    (e : Ended (DeviceCall D)) : Type 0 where
  pub findings : List Finding
  pub found : AreFindings g every e.calls settings findings
  pub printed : Appends e.out e.out_after (zone_texts printed_of settings findings)
  pub reported : Appends e.err e.err_after (zone_texts (reported_of e.explain) settings findings)
  pub status_is : e.status ≡ worst_of findings

-- A writer failed; the devices of the first zones were looked at.
pub record IsTellingStopped {D : Type 0} (g : Ghosts D) (every : Bool) (settings : List ZoneSettings)
    (e : Ended (DeviceCall D)) : Type 0 where
  pub count : ℕ
  pub findings : List Finding
  pub found : AreFindings g every e.calls (take count settings) findings
  pub status_is : e.status ≡ 3

abbrev pub VerifyingEnds : {D : Type 0} → Ghosts D → Bool → List ZoneSettings → Ended (DeviceCall D) → Type 0
VerifyingEnds g every settings e = IsAllTold g every settings e ⊎ IsTellingStopped g every settings e

-- The configuration is refused: that is reported with status 1, unless the writer failed or memory was
-- refused. Nothing was called or printed.
abbrev pub EndsUnread : {C : Type 0} → File → Ended C → Type 0
EndsUnread config e =
    (e.calls ≡ []) × Keeps e.out e.out_after
    × ((e.status ≡ 3)
    ⊎ ((e.status ≡ 1) × (fault : Fault) × HoldsConfiguration (option_copied config.octets) (Err fault)
    × Appends e.err e.err_after (line (fault_text config.path.now fault))))

-- The command ended as P says of all zones of the configuration, or that is refused.
abbrev pub EndsForAll : {C : Type 0} → File → (List ZoneSettings → Ended C → Type 0) → Ended C → Type 0
EndsForAll config P e =
    ((c : Configuration) × HoldsConfiguration (option_copied config.octets) (Ok c) × P c.zones.items e)
    ⊎ EndsUnread config e

-- How a run of `verify` ends. However it ends, nothing was done but to read the devices of zones.
abbrev pub VerifyEnds : {D : Type 0} → Ghosts D → File → Option (List ℕ) → Bool → Ended (DeviceCall D)
    → Type 0
VerifyEnds g config None every e = EndsForAll config (VerifyingEnds g every) e
VerifyEnds g config (Some origin) every e =
    EndsForNamed config origin (λ own. VerifyingEnds g every (own ∷ [])) e
