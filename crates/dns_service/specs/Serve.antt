-- How a server ends.
use Rattle.std.specs.Prelude.{◌≡◌, ◌⊎◌, ◌↔◌, ◌≤◌, ℕ, zero, suc, Bool, List, [], ◌∷◌, ◌++◌, length}
use Rattle.std.specs.Prelude.{Option, Ok, Err}
use Rattle.std.specs.Option.{option_copied}
use Rattle.std.specs.String.{string_bytes}
use Rattle.std.specs.Io.KnownBytes.{Appends}
use Rattle.dns_sectors.specs.Device.{LeavesOnly}
use Rattle.dns_sectors.specs.declared.device.Sectors.{Ghosts}
use Rattle.dns_configuration.specs.Calls.{Calls}
use Rattle.dns_configuration.specs.declared.configuration.ZoneSettings.{ZoneSettings}
use Rattle.dns_configuration.specs.declared.configuration.Configuration.{Configuration}
use Rattle.dns_configuration.specs.declared.files.File.{File}
use Rattle.dns_configuration.specs.declared.files.Fault.{Fault}
use Rattle.dns_configuration.specs.Faults.{fault_text, line}
use Rattle.dns_configuration.specs.Files.{HoldsConfiguration}
use Rattle.dns_devices.specs.declared.device_faults.DeviceFault.{DeviceFault}
use Rattle.dns_devices.specs.DeviceFaults.{device_text, status_of}
use Rattle.dns_devices.specs.DeviceCalls.{DeviceCall}
use Rattle.dns_network.specs.Left.{OpensInRun}
use Rattle.dns_network.specs.Turn.{TurnMoment}
use Rattle.dns_names.specs.Name.{Labels}
use Rattle.dns_zone.specs.declared.index.ZoneIndex as zone_index
use Rattle.dns_store.specs.Opens.{opens}
use Rattle.dns_store.specs.declared.kept_store.KeptStore.{KeptStore}
use Rattle.dns_store.specs.declared.zone_store.ZoneStore as store
use Rattle.dns_primary.specs.HandOut.{AreSetAs}
use Rattle.dns_primary.specs.Keeps.{IsKept}
use Rattle.dns_primary.specs.Machine.{Machine, ZoneState}
use Rattle.dns_primary.specs.Open.{AreRecoverable, devices_of}
use Rattle.dns_primary.specs.Runs.{Moment, machine_at_end}
use Rattle.dns_primary.specs.Step.{Event}
use Rattle.dns_primary.specs.Stop.{IsMaking, OpensAsRecovered}
use Rattle.dns_primary.specs.declared.primary.Primary.{Primary}
use Rattle.dns_primary.specs.declared.primary.ZoneSpec.{ZoneSpec}
use Rattle.dns_configuration.specs.Known.{origins_of}
use Rattle.dns_service.specs.Log.{zone_lines}
use Rattle.dns_service.specs.declared.server.ServeOptions.{ServeOptions}
use Rattle.dns_service.specs.declared.server.Streams.{Streams}
use Rattle.dns_service.specs.Opening.{IsNotServed, IsServed, OfRecovered, closings}
use Rattle.dns_service.specs.ServedTurns.{HaveRun}
use Rattle.dns_service.specs.Telling.{AreTurnsTold, Telling, Texts, texts_of}

-- The path of the device of the zone there.
abbrev pub IsPathAt : List ZoneSettings → ℕ → List ℕ → Type 0
IsPathAt [] index path = ⊥
IsPathAt (z ∷ zones) zero path = path ≡ string_bytes z.device
IsPathAt (z ∷ zones) (suc index) path = IsPathAt zones index path

-- The device of a zone is refused, and the text says so.
pub record IsDeviceRefused {D : Type 0} (g : Ghosts D) (calls : List (DeviceCall D))
    (zones : List ZoneSettings) (explain : Bool) (text : List ℕ) : Type 0 where
  pub index : ℕ
  pub path : List ℕ
  pub fault : DeviceFault
  pub at : IsPathAt zones index path
  pub refused : IsNotServed g calls zones index fault
  pub says : text ≡ device_text path fault explain
  pub status : status_of fault ≡ 1

-- Each crash of these devices, where they are honest, leaves what the zones of this machine may be recovered
-- as, whichever event it fell in.
abbrev pub AreLeft : {D : Type 0} → Ghosts D → List ZoneSettings → List D → List ZoneSpec → Machine → Type 0
AreLeft g zones devices known m =
    (event : Event) → AreRecoverable g 0 m event 0 m.zones (origins_of zones) known devices

-- The devices of a primary were closed: those of each machine that it keeps, as this left its zones.
abbrev pub ArePrimaryClosed : {D I : Type 0} {g : Ghosts D} {i : zone_index.Ghosts I}
    {s : store.Ghosts (KeptStore D I g)} → List (DeviceCall D) → List ZoneSettings
    → Primary I (KeptStore D I g) i s → Type 0
ArePrimaryClosed {g} calls zones primary =
    (calls ≡ closings (devices_of primary) zones)
    × ((m : Machine) (event : Event) (names : List Labels) (known : List ZoneSpec) → IsKept primary m
    → AreSetAs names known m.zones → AreRecoverable g 0 m event 0 m.zones names known (devices_of primary))

-- Each device, those from this position on, was closed as honest as it was opened; and a crash at any moment
-- between leaves each honest one, by itself, as one that the zone of the machine that stopped may be
-- recovered as, or as the run from the one that recovered allows.
abbrev pub AreServedFrom : {D : Type 0} → Ghosts D → ℕ → Machine → Event → Machine → List Moment → ℕ
    → List ZoneState → List D → List D → Type 0
AreServedFrom g tries m event start run index [] [] [] = Unit {0}
AreServedFrom g tries m event start run index (z ∷ zones) (d ∷ devices) (e ∷ back) =
    (g.is_honest e ↔ g.is_honest d)
    × (g.is_honest d
    → LeavesOnly g.moment g.left_since d e (λ c. OpensAsRecovered opens tries (IsMaking m event index z) z c
    ⊎ OpensInRun opens start run index c))
    × AreServedFrom g tries m event start run (suc index) zones devices back
AreServedFrom g tries m event start run index _ _ _ = ⊥

-- Turns were made of a machine that recovered: their events are those of a run from it; each device was
-- closed as the machine at the run's end left its zone; and what a crash leaves at any moment between is as
-- above.
abbrev pub HaveServed : {D : Type 0} → Ghosts D → List (List TurnMoment) → List ZoneSettings → List D
    → OfRecovered D
HaveServed g turns zones back devices known m event tries start =
    HaveRun turns (λ _ run. AreLeft g zones back known (machine_at_end start run)
    × AreServedFrom g (suc tries) m event start run 0 m.zones devices back) start

-- What a server of a configuration's zones is to tell of.
abbrev pub telling_for : Configuration → ServeOptions → Telling
telling_for c options = record {
  is_quiet = options.is_quiet;
  is_recorded = options.is_recorded;
  count_every = options.count_every;
  origins = origins_of c.zones.items;
  addresses = c.listen.items;
}

-- All turns were made of a primary over the devices of a configuration's zones, which were then closed. The
-- log tells of the versions that are shown at the run's start, of the addresses, and of all that was noted;
-- a script has each event, and counts are told, if they are wanted.
pub record IsServedFor {D : Type 0} (g : Ghosts D) (calls : List (DeviceCall D)) (c : Configuration)
    (options : ServeOptions) (before after : Texts) : Type 0 where
  pub opening : List (DeviceCall D)
  pub back : List D
  pub came : calls ≡ opening ++ closings back c.zones.items
  pub turns : List (List TurnMoment)
  pub many : length turns ≡ options.turns
  pub served : IsServed g opening c.zones.items (λ devices known m event tries start.
      AreTurnsTold (telling_for c options) (zone_lines (origins_of c.zones.items) start.zones) start turns
      before after
      × HaveServed g turns c.zones.items back devices known m event tries start)

-- However it ended: some turns were made, and the devices were closed.
pub record IsServedSomehow {D : Type 0} (g : Ghosts D) (calls : List (DeviceCall D))
    (zones : List ZoneSettings) : Type 0 where
  pub opening : List (DeviceCall D)
  pub back : List D
  pub came : calls ≡ opening ++ closings back zones
  pub turns : List (List TurnMoment)
  pub served : IsServed g opening zones (HaveServed g turns zones back)

-- The calls of a server: none; or devices of the zones of its configuration were opened, of which one was
-- refused, or which it served.
abbrev pub IsServingTried : {D : Type 0} → Ghosts D → List (DeviceCall D) → File → Type 0
IsServingTried g calls config =
    (calls ≡ [])
    ⊎ ((c : Configuration) × HoldsConfiguration (option_copied config.octets) (Ok c)
    × (((index : ℕ) × (fault : DeviceFault) × IsNotServed g calls c.zones.items index fault)
    ⊎ IsServedSomehow g calls c.zones.items))

-- How a server ends: all its turns were made, over the devices of the zones of its configuration, and its log
-- was written, and the script of them and counts if they are wanted; or nothing was served, and the fault of
-- the configuration or of the first device that is refused is reported. With status 3 a device or an address
-- can't be had, a writer failed or memory was refused.
pub record ServingEnds {D : Type 0} (g : Ghosts D) (calls : List (DeviceCall D)) (config : File)
    (options : ServeOptions) (before after : Texts) (status : ℕ) : Type 0 where
  pub done : status ≡ 0
      → (c : Configuration) × HoldsConfiguration (option_copied config.octets) (Ok c)
      × IsServedFor g calls c options before after
  pub refused : status ≡ 1
      → (text : List ℕ) × Appends before.log after.log (line text)
      × (((fault : Fault) × HoldsConfiguration (option_copied config.octets) (Err fault)
      × (text ≡ fault_text config.path.now fault))
      ⊎ ((c : Configuration) × HoldsConfiguration (option_copied config.octets) (Ok c)
      × IsDeviceRefused g calls c.zones.items options.explain text))
  pub others : status ≤ 1 ⊎ (status ≡ 3)
  pub called : IsServingTried g calls config

-- So a server ends, by the calls that it made and by what its streams held before and after it.
abbrev pub ServerEnds : {D F O E W : Type 0} → Ghosts D → (F → Option (List (DeviceCall D)))
    → (O → Option (List ℕ)) → (E → Option (List ℕ)) → (W → Option (List ℕ)) → F → F → Streams O E W
    → Streams O E W → File → ServeOptions → ℕ → Type 0
ServerEnds g called output log script devices devices' streams streams' config options status =
    Calls (called devices) (called devices')
    (λ calls. ServingEnds g calls config options (texts_of output log script streams)
    (texts_of output log script streams') status)

-- What is reported of a device that is refused: nothing where memory was, and nothing where there is no such
-- zone.
abbrev pub IsRefusalTold : List ZoneSettings → ℕ → DeviceFault → Bool → Option (List ℕ)
    → Option (List ℕ) → ℕ → Type 0
IsRefusalTold zones index fault explain err err_after status =
    (status ≡ 3)
    ⊎ ((status ≡ 1) × (status_of fault ≡ 1)
    × ((path : List ℕ) × IsPathAt zones index path
    × Appends err err_after (line (device_text path fault explain))))
