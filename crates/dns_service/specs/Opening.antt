-- The zones of a configuration over their devices.
use Rattle.std.specs.Prelude.{◌≡◌, ◌⊎◌, ℕ, zero, suc, List, [], ◌∷◌, ◌++◌, Some, Ok, length, slice_get}
use Rattle.std.specs.Prelude.{MatchOption, MatchResult, Result}
use Rattle.std.specs.List.{AllZip}
use Rattle.std.specs.String.{string_bytes}
use Rattle.dns_names.specs.Name.{Labels}
use Rattle.dns_sectors.specs.declared.device.Sectors.{Ghosts}
use Rattle.dns_store.specs.declared.root.OpenError.{OpenError}
use Rattle.dns_primary.specs.Machine.{Machine}
use Rattle.dns_zone.specs.declared.index.ZoneIndex as zone_index
use Rattle.dns_store.specs.declared.kept_store.KeptStore.{KeptStore}
use Rattle.dns_store.specs.declared.zone_store.ZoneStore as store
use Rattle.dns_primary.specs.Keeps.{IsKept}
use Rattle.dns_primary.specs.Open.{AreAsHonest, AreHonest, AreRecoverable, AreRefused, IsIntactAs}
use Rattle.dns_primary.specs.Open.{LeaveRecovered, devices_of, shape_of}
use Rattle.dns_primary.specs.declared.primary.Primary.{Primary}
use Rattle.dns_primary.specs.Step.{Event}
use Rattle.dns_primary.specs.Stop.{IsStopped}
use Rattle.dns_primary.specs.declared.primary.ZoneSpec as primary
use Rattle.dns_configuration.specs.declared.configuration.ZoneSettings.{ZoneSettings}
use Rattle.dns_configuration.specs.Known.{IsSettingOf, origins_of}
use Rattle.dns_devices.specs.DeviceCalls.{Closed, DeviceCall, Opened}
use Rattle.dns_devices.specs.DeviceFaults.{IsFaultOf, fault_of_open}
use Rattle.dns_devices.specs.Stores.{IsDeviceNotGiven as IsUnopened}
use Rattle.dns_devices.specs.declared.device_faults.DeviceFault.{DeviceFault}
use Rattle.dns_devices.specs.declared.device_faults.DeviceFault.TheVariants.{OutOfMemory}

-- The devices of the first zones are opened, or closed, one after another, each at its path.
abbrev pub openings : {D : Type 0} → List D → List ZoneSettings → List (DeviceCall D)
openings [] zones = []
openings (d ∷ devices) [] = []
openings (d ∷ devices) (z ∷ zones) = Opened (string_bytes z.device) (Ok d) ∷ openings devices zones

abbrev pub closings : {D : Type 0} → List D → List ZoneSettings → List (DeviceCall D)
closings [] zones = []
closings (d ∷ devices) [] = []
closings (d ∷ devices) (z ∷ zones) = Closed (string_bytes z.device) d ∷ closings devices zones

-- The device of one more zone was opened, after those before; or it was not, or memory was refused.
abbrev pub IsNextGiven : {D : Type 0} → List (DeviceCall D) → ZoneSettings → List D → List D → Type 0
IsNextGiven {D} calls own before after =
    (device : D) × (after ≡ before ++ device ∷ [])
    × (calls ≡ Opened (string_bytes own.device) (Ok device) ∷ [])

abbrev pub IsNextNotGiven : {D : Type 0} → List (DeviceCall D) → ZoneSettings → DeviceFault → Type 0
IsNextNotGiven calls own fault = ((fault ≡ OutOfMemory) × (calls ≡ [])) ⊎ IsUnopened calls own fault

-- The device of one more zone was given, or none more was.
abbrev pub IsNextTried : {D X : Type 0} → List (DeviceCall D) → ZoneSettings → List D → List D
    → Result X DeviceFault → Type 0
IsNextTried calls own before after result =
    MatchResult result (λ _. IsNextGiven calls own before after)
    (λ fault. (after ≡ before) × IsNextNotGiven calls own fault)

-- These devices were opened for the zones.
abbrev pub AreGiven : {D : Type 0} → List (DeviceCall D) → List ZoneSettings → List D → Type 0
AreGiven calls zones devices = (length devices ≡ length zones) × (calls ≡ openings devices zones)

-- The device of the zone there can't be had, for this.
abbrev pub CannotBeHad : {D : Type 0} → List (DeviceCall D) → List ZoneSettings → ℕ → DeviceFault → Type 0
CannotBeHad calls [] index fault = ⊥
CannotBeHad calls (z ∷ zones) zero fault = IsUnopened calls z fault
CannotBeHad calls (z ∷ zones) (suc index) fault = CannotBeHad calls zones index fault

-- Those of the first zones were opened; then that of the zone there could not be had, or memory was refused,
-- and they were closed as they came.
pub record IsNotGiven {D : Type 0} (calls : List (DeviceCall D)) (zones : List ZoneSettings) (index : ℕ)
    (fault : DeviceFault) : Type 0 where
  pub given : List D
  pub tried : List (DeviceCall D)
  pub came : calls ≡ openings given zones ++ (tried ++ closings given zones)
  pub why : ((fault ≡ OutOfMemory) × (tried ≡ [])) ⊎ CannotBeHad tried zones index fault

-- What is said of devices that were opened, the settings of their zones, a machine that stopped within an
-- event, with so many tries since, and the one that recovered from that stop.
abbrev pub OfRecovered : Type 0 → Type 1
OfRecovered D = List D → List primary.ZoneSpec → Machine → Event → ℕ → Machine → Type 0

-- The first sector of each device is a root of its zone and of the sizes of its store, and of the sectors
-- that reading reaches each is zeros or its own.
abbrev pub AreDevicesIntact : {D : Type 0} → Ghosts D → List Labels → List primary.ZoneSpec → List D → Type 0
AreDevicesIntact g [] [] [] = Unit {0}
AreDevicesIntact g (a ∷ apexes) (s ∷ settings) (d ∷ devices) =
    IsIntactAs g (shape_of a s) d × AreDevicesIntact g apexes settings devices
AreDevicesIntact g _ _ _ = ⊥

-- The stores of the devices that were opened were opened, which were intact: on those of a machine that
-- stopped, if all are honest, this is said of one that recovered from that stop, of zones with these
-- settings.
pub record IsServed {D : Type 0} (g : Ghosts D) (calls : List (DeviceCall D)) (zones : List ZoneSettings)
    (says : OfRecovered D) : Type 0 where
  pub devices : List D
  pub given : AreGiven calls zones devices
  pub known : List primary.ZoneSpec
  pub settings : AllZip IsSettingOf zones known
  pub intact : AreDevicesIntact g (origins_of zones) known devices
  pub recovered : (m : Machine) (event : Event) (tries : ℕ)
      → AreRecoverable g tries m event 0 m.zones (origins_of zones) known devices
      → AreHonest g devices
      → (new : Machine) × IsStopped tries m event new × says devices known m event tries new

-- The fault of the device there among those that were handed back, which it left so; where there is none,
-- that of the refusal.
abbrev pub IsFaultAt : {D : Type 0} → Ghosts D → OpenError → List D → List D → ℕ → DeviceFault → Type 0
IsFaultAt {D} g error devices afters index fault =
    MatchOption (slice_get devices index) (fault ≡ fault_of_open error)
    (λ device. (after : D) × (slice_get afters index ≡ Some after) × IsFaultOf g error device after fault)

-- The devices were opened, the store of the zone there was refused, for this, and all were closed as opening
-- the stores had left them.
pub record IsZoneNotOpened {D : Type 0} (g : Ghosts D) (calls : List (DeviceCall D))
    (zones : List ZoneSettings) (index : ℕ) (fault : DeviceFault) : Type 0 where
  pub devices : List D
  pub after : List D
  pub many : length devices ≡ length zones
  pub came : calls ≡ openings devices zones ++ closings after zones
  pub known : List primary.ZoneSpec
  pub settings : AllZip IsSettingOf zones known
  pub back : List D
  pub error : OpenError
  pub named : IsFaultAt g error back after index fault
  pub refused : AreRefused g error index (origins_of zones) known devices back

abbrev pub IsNotServed : {D : Type 0} → Ghosts D → List (DeviceCall D) → List ZoneSettings → ℕ → DeviceFault
    → Type 0
IsNotServed g calls zones index fault =
    IsNotGiven calls zones index fault ⊎ IsZoneNotOpened g calls zones index fault

-- A primary keeps the machine that recovered; each device is as honest as it was; and a crash at any moment
-- of opening the stores leaves each honest one as one that a zone of the stopped machine may be recovered as.
abbrev pub IsOpenedAs : {D I : Type 0} {g : Ghosts D} {i : zone_index.Ghosts I}
    {s : store.Ghosts (KeptStore D I g)} → Primary I (KeptStore D I g) i s → OfRecovered D
IsOpenedAs {g} p devices known m event tries new =
    IsKept p new × AreAsHonest g devices (devices_of p)
    × LeaveRecovered g (suc tries) m event 0 m.zones devices (devices_of p)
