-- How the devices of zones are made, and how a run that makes them ends.
use Rattle.std.specs.Prelude.{◌≡◌, ◌⊎◌, ◌↔◌, ◌≤◌, ◌<◌, ◌+◌, ◌*◌, ℕ, zero, suc, Bool, true, false, List, []}
use Rattle.std.specs.Prelude.{◌∷◌, ◌++◌, take, length, map, flat_map, Option, Some, None, Ok, Err}
use Rattle.std.specs.Prelude.{codes, decimal}
use Rattle.std.specs.List.{AllZip}
use Rattle.std.specs.Option.{option_copied}
use Rattle.std.specs.String.{string_bytes}
use Rattle.std.specs.Io.KnownBytes.{Appends, Keeps}
use Rattle.dns_names.specs.Name.{Labels}
use Rattle.dns_names.specs.Text.{name_of_text, printed_name}
use Rattle.dns_records.specs.Record.{Record, plain, serial_of}
use Rattle.dns_zone.specs.Zone.{Zone, soas}
use Rattle.dns_sectors.specs.Device.{Content, LeavesOnly}
use Rattle.dns_sectors.specs.declared.device.DeviceError.{DeviceError}
use Rattle.dns_sectors.specs.declared.device.Sectors.{Ghosts}
use Rattle.dns_layout.specs.Sector.{snapshot_sectors}
use Rattle.dns_journal.specs.Reads.{HasRisen}
use Rattle.dns_store.specs.Versions.{Shape}
use Rattle.dns_store.specs.Opens.{opens}
use Rattle.dns_store.specs.Formatting.{IsGeometry, LeftByFormat, first_of}
use Rattle.dns_configuration.specs.declared.configuration.ZoneSettings.{ZoneSettings}
use Rattle.dns_configuration.specs.declared.configuration.Configuration.{Configuration}
use Rattle.dns_configuration.specs.declared.files.File.{File}
use Rattle.dns_configuration.specs.declared.files.Fault.{Fault}
use Rattle.dns_configuration.specs.declared.files.Fault.TheVariants.{BadOrigin}
use Rattle.dns_configuration.specs.Faults.{line, fault_text, is_memory}
use Rattle.dns_configuration.specs.Files.{HoldsConfiguration, IsFirstFault, IsLoadedFrom}
use Rattle.dns_devices.specs.declared.device_faults.DeviceFault.{DeviceFault}
use Rattle.dns_devices.specs.declared.device_faults.DeviceFault.TheVariants.{Exists, Device, Blank, Damaged}
use Rattle.dns_devices.specs.declared.device_faults.DeviceFault.TheVariants.{OldFormat, Geometry}
use Rattle.dns_devices.specs.declared.device_faults.DeviceFault.TheVariants.{ZoneTooLarge}
use Rattle.dns_devices.specs.declared.device_faults.DeviceFault.TheVariants.{SerialNotRaised, NoRoom}
use Rattle.dns_devices.specs.declared.device_faults.DeviceFault.TheVariants.{OutOfMemory}
use Rattle.dns_devices.specs.DeviceFaults.{device_text, status_of}
use Rattle.dns_devices.specs.DeviceCalls.{Asked, Closed, DeviceCall, Made, Removed}
use Rattle.dns_configuration.specs.Named.{IsNoZone, zone_configured}
use Rattle.dns_commands.specs.Frame.{Ended}

-- A root, and two banks.
abbrev pub sectors_of : ZoneSettings → ℕ
sectors_of own = 1 + 2 * (own.snapshot_sectors + own.journal_sectors)

abbrev pub shape_made : ZoneSettings → Zone → Shape
shape_made own zone =
    record { apex = zone.apex; snapshot = own.snapshot_sectors; journal = own.journal_sectors }

-- A device was made at the zone's path, formatted and closed: from then on it opens as the zone, its first
-- version; and a crash while it was made left it as it came, blank, or as that.
pub record IsDeviceMade {D : Type 0} (g : Ghosts D) (calls : List (DeviceCall D)) (own : ZoneSettings)
    (zone : Zone) : Type 0 where
  pub blank : D
  pub device : D
  pub came : let path = string_bytes own.device in
      calls ≡ Made path (sectors_of own) (Ok blank) ∷ Closed path device ∷ []
  pub honest : g.is_honest device ↔ g.is_honest blank
  pub any_moment : g.is_honest blank
      → LeavesOnly g.moment g.left_since blank device (LeftByFormat g
      (shape_made own zone) zone.records blank)
  pub keeps : g.is_honest blank → (c : Content) → g.may_leave device c
      → opens (shape_made own zone) (first_of zone.records) c

-- Why it was not: no device was made; or the one that was failed, has not the sectors for these sizes, the
-- zone's records take more than a snapshot has, or memory was refused. One that was made was closed and
-- removed.
pub record IsMakingRefused {D : Type 0} (calls : List (DeviceCall D)) (own : ZoneSettings)
    (P : D → D → Type 0) : Type 0 where
  pub blank : D
  pub after : D
  pub came : let path = string_bytes own.device in
      calls ≡ Made path (sectors_of own) (Ok blank) ∷ Closed path after ∷ Removed path ∷ []
  pub why : P blank after

abbrev pub IsNotMade : {D : Type 0} → Ghosts D → List (DeviceCall D) → ZoneSettings → Zone → DeviceFault
    → Type 0
IsNotMade g calls own zone Device =
    ((e : DeviceError) × (calls ≡ Made (string_bytes own.device) (sectors_of own) (Err e) ∷ []))
    ⊎ IsMakingRefused calls own (λ blank after. HasRisen (g.failed blank) (g.failed after))
IsNotMade g calls own zone Geometry =
    IsMakingRefused calls own
    (λ blank _. IsGeometry own.snapshot_sectors own.journal_sectors (g.count blank) → ⊥)
IsNotMade g calls own zone ZoneTooLarge =
    IsMakingRefused calls own
    (λ _ _. own.snapshot_sectors < snapshot_sectors (length (flat_map plain zone.records)))
IsNotMade g calls own zone OutOfMemory = IsMakingRefused calls own (λ _ _. Unit {0})
IsNotMade g calls own zone Exists = ⊥
IsNotMade g calls own zone Blank = ⊥
IsNotMade g calls own zone (Damaged sector) = ⊥
IsNotMade g calls own zone OldFormat = ⊥
IsNotMade g calls own zone SerialNotRaised = ⊥
IsNotMade g calls own zone NoRoom = ⊥

-- It was asked whether there is anything at the path of the zone's device, and nothing is.
abbrev pub absent : {D : Type 0} → ZoneSettings → DeviceCall D
absent own = Asked (string_bytes own.device) (Ok false)

-- There is something at the path of the zone's device, or that can't be determined.
abbrev pub IsFound : {D : Type 0} → List (DeviceCall D) → ZoneSettings → DeviceFault → Type 0
IsFound calls own fault =
    ((fault ≡ Exists) × (calls ≡ Asked (string_bytes own.device) (Ok true) ∷ []))
    ⊎ ((fault ≡ Device) × ((e : DeviceError) × (calls ≡ Asked (string_bytes own.device) (Err e) ∷ [])))

-- The first device, in order, of which that is so: its path and the fault. Of the later ones none was asked.
abbrev pub IsFirstFound : {D : Type 0} → List (DeviceCall D) → List ZoneSettings → List ℕ → DeviceFault
    → Type 0
IsFirstFound calls [] path fault = ⊥
IsFirstFound {D} calls (own ∷ rest) path fault =
    ((path ≡ string_bytes own.device) × IsFound calls own fault)
    ⊎ ((others : List (DeviceCall D)) × (calls ≡ absent own ∷ others) × IsFirstFound others rest path fault)

-- What is printed of a zone whose device was made: the serial of its SOA.
abbrev pub formatted_text : Zone → Record → List ℕ
formatted_text zone soa =
    codes "formatted " ++ printed_name zone.apex ++ codes " serial " ++ decimal (serial_of soa)

abbrev pub formatted : Zone → List ℕ
formatted zone = flat_map (λ soa. line (formatted_text zone soa)) (soas zone.records)

-- The devices of zones were made, one after another.
abbrev pub AreMade : {D : Type 0} → Ghosts D → List (DeviceCall D) → List ZoneSettings → List Zone → Type 0
AreMade g calls [] [] = calls ≡ []
AreMade {D} g calls (own ∷ settings) (zone ∷ zones) =
    (first : List (DeviceCall D)) × (others : List (DeviceCall D)) × (calls ≡ first ++ others)
    × IsDeviceMade g first own zone × AreMade g others settings zones
AreMade g calls _ _ = ⊥

-- The devices of the first zones were made, as many as the number says, and that of the next one, which has
-- that path, was not, for this.
abbrev pub MakingStopsAt : {D : Type 0} → Ghosts D → List (DeviceCall D) → ℕ → List ZoneSettings → List Zone
    → List ℕ → DeviceFault → Type 0
MakingStopsAt g calls zero (own ∷ settings) (zone ∷ zones) path fault =
    (path ≡ string_bytes own.device) × IsNotMade g calls own zone fault
MakingStopsAt {D} g calls (suc n) (own ∷ settings) (zone ∷ zones) path fault =
    (first : List (DeviceCall D)) × (others : List (DeviceCall D)) × (calls ≡ first ++ others)
    × IsDeviceMade g first own zone × MakingStopsAt g others n settings zones path fault
MakingStopsAt g calls _ _ _ path fault = ⊥

-- What was made at the zone's path is removed.
abbrev pub removal : {D : Type 0} → ZoneSettings → DeviceCall D
removal own = Removed (string_bytes own.device)

-- A device was not made, and those that were made before it are removed again.
abbrev pub IsMakingUndone : {D : Type 0} → Ghosts D → List (DeviceCall D) → List ZoneSettings → List Zone
    → List ℕ → DeviceFault → Type 0
IsMakingUndone {D} g calls settings zones path fault =
    (n : ℕ) × (making : List (DeviceCall D)) × (calls ≡ making ++ map removal (take n settings))
    × MakingStopsAt g making n settings zones path fault

-- No device that was made stays: one was not made, or all were and are removed again.
abbrev pub NoneStays : {D : Type 0} → Ghosts D → List (DeviceCall D) → List ZoneSettings → List Zone → Type 0
NoneStays {D} g calls settings zones =
    ((path : List ℕ) × (fault : DeviceFault) × IsMakingUndone g calls settings zones path fault)
    ⊎ ((making : List (DeviceCall D)) × AreMade g making settings zones
    × (calls ≡ making ++ map removal settings))

-- How the making of all devices ends. With status 3 a device can't be had, a writer failed or memory was
-- refused.
pub record MakingEnds {D : Type 0} (g : Ghosts D) (settings : List ZoneSettings) (zones : List Zone)
    (e : Ended (DeviceCall D))
    : Type 0 where
  pub done : e.status ≡ 0
      → AreMade g e.calls settings zones × Appends e.out e.out_after (flat_map formatted zones)
      × Keeps e.err e.err_after
  pub refused : e.status ≡ 1
      → (path : List ℕ) × (fault : DeviceFault) × IsMakingUndone g e.calls settings zones path fault
      × (status_of fault ≡ 1) × Keeps e.out e.out_after
      × Appends e.err e.err_after (line (device_text path fault e.explain))
  pub others : e.status ≤ 1 ⊎ (e.status ≡ 3)
  pub called : (e.status ≡ 0) ⊎ NoneStays g e.calls settings zones

-- The zones whose devices are made: all that are configured, or the one that the word names.
abbrev pub AreChosen : Option (List ℕ) → List ZoneSettings → List ZoneSettings → Type 0
AreChosen None zones chosen = chosen ≡ zones
AreChosen (Some origin) zones chosen =
    (name : Labels) × (own : ZoneSettings) × (name_of_text [] origin ≡ Ok name)
    × (zone_configured name zones ≡ Some own) × (chosen ≡ own ∷ [])

-- The word is no name, or that of no zone that is configured.
abbrev pub IsNotChosen : Option (List ℕ) → List ZoneSettings → List ℕ → Type 0
IsNotChosen None zones word = ⊥
IsNotChosen (Some origin) zones word = (word ≡ origin) × IsNoZone origin zones

-- No zone was chosen by this word, or memory was refused.
abbrev pub IsChoiceRefused : Option (List ℕ) → List ZoneSettings → List ℕ → Fault → Type 0
IsChoiceRefused origin zones word fault =
    (is_memory fault ≡ true) ⊎ ((fault ≡ BadOrigin) × IsNotChosen origin zones word)

-- The zones that are chosen of the configuration, as their master files hold them.
pub record IsGiven (config : File) (origin : Option (List ℕ)) (files : List File)
    (settings : List ZoneSettings) (zones : List Zone) : Type 0 where
  pub configuration : Configuration
  pub holds : HoldsConfiguration (option_copied config.octets) (Ok configuration)
  pub chosen : AreChosen origin configuration.zones.items settings
  pub loaded : AllZip (IsLoadedFrom files) settings zones

-- The first fault, in this order, of the configuration, of the word, or of a master file in the order of the
-- zones: its path or word.
abbrev pub IsInitFault : File → Option (List ℕ) → List File → List ℕ → Fault → Type 0
IsInitFault config origin files path fault =
    ((path ≡ config.path.now) × HoldsConfiguration (option_copied config.octets) (Err fault))
    ⊎ ((c : Configuration) × HoldsConfiguration (option_copied config.octets) (Ok c)
    × (((fault ≡ BadOrigin) × IsNotChosen origin c.zones.items path)
    ⊎ ((settings : List ZoneSettings) × AreChosen origin c.zones.items settings
    × IsFirstFault files settings path fault)))

-- How a run of `init` is refused: the first fault of a file or of the word is reported, and no call was made;
-- or else that of the first device where there is something already; or else devices were made, up to one
-- that was not, and removed again.
abbrev pub IsInitRefused : {D : Type 0} → Ghosts D → List (DeviceCall D) → File → Option (List ℕ) → List File
    → List ℕ → Bool → Type 0
IsInitRefused {D} g calls config origin files text explain =
    ((path : List ℕ) × (fault : Fault) × IsInitFault config origin files path fault
    × (text ≡ fault_text path fault) × (calls ≡ []))
    ⊎ ((settings : List ZoneSettings) × (zones : List Zone) × IsGiven config origin files settings zones
    × (path : List ℕ) × (fault : DeviceFault) × (text ≡ device_text path fault explain)
    × (IsFirstFound calls settings path fault
    ⊎ ((making : List (DeviceCall D)) × (calls ≡ map absent settings ++ making)
    × IsMakingUndone g making settings zones path fault)))

-- The calls of a run that ends otherwise than with all devices made: none; or it was asked of the devices of
-- the zones that are given, and none of theirs that was made stays.
abbrev pub IsInitTried : {D : Type 0} → Ghosts D → List (DeviceCall D) → File → Option (List ℕ) → List File
    → Type 0
IsInitTried {D} g calls config origin files =
    (calls ≡ [])
    ⊎ ((settings : List ZoneSettings) × (zones : List Zone) × IsGiven config origin files settings zones
    × (((path : List ℕ) × (fault : DeviceFault) × IsFirstFound calls settings path fault)
    ⊎ ((making : List (DeviceCall D)) × (calls ≡ map absent settings ++ making)
    × NoneStays g making settings zones)))

-- How a run of `init` ends, for all zones or for the one that the word names. With status 3 a device can't be
-- had, a writer failed or memory was refused. Nothing that was there before is opened, written or removed,
-- however it ends.
pub record InitEnds {D : Type 0} (g : Ghosts D) (config : File) (origin : Option (List ℕ))
    (files : List File) (e : Ended (DeviceCall D))
    : Type 0 where
  pub done : e.status ≡ 0
      → (settings : List ZoneSettings) × (zones : List Zone) × IsGiven config origin files settings zones
      × (making : List (DeviceCall D)) × (e.calls ≡ map absent settings ++ making)
      × AreMade g making settings zones
      × Appends e.out e.out_after (flat_map formatted zones) × Keeps e.err e.err_after
  pub refused : e.status ≡ 1
      → (text : List ℕ) × IsInitRefused g e.calls config origin files text e.explain
      × Keeps e.out e.out_after × Appends e.err e.err_after (line text)
  pub others : e.status ≤ 1 ⊎ (e.status ≡ 3)
  pub called : (e.status ≡ 0) ⊎ IsInitTried g e.calls config origin files
