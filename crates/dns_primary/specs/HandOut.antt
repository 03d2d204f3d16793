-- What the zones of a machine were opened for, so that their devices may be opened again.
use Rattle.std.specs.Prelude.{◌≡◌, List}
use Rattle.dns_names.specs.Name.{Labels}
use Rattle.dns_zone.specs.declared.index.ZoneIndex as zone_index
use Rattle.dns_sectors.specs.declared.device.Sectors.{Ghosts}
use Rattle.dns_store.specs.Opening.{IsInRange}
use Rattle.dns_store.specs.declared.kept_store.KeptStore.{KeptStore}
use Rattle.dns_store.specs.declared.zone_store.ZoneStore as kept
use Rattle.dns_versions.specs.Each.{Each3}
use Rattle.dns_primary.specs.declared.event.Effects.{Effects}
use Rattle.dns_primary.specs.declared.primary.Primary.{Primary}
use Rattle.dns_primary.specs.declared.primary.ZoneSpec.{ZoneSpec}
use Rattle.dns_primary.specs.Machine.{Machine, ZoneState}
use Rattle.dns_primary.specs.Step.{Event}
use Rattle.dns_primary.specs.Steps.{SteppedBy}
use Rattle.dns_primary.specs.Keeps.{IsKept, IsSet}
use Rattle.dns_primary.specs.Open.{AreDevicesOf, shape_of}

-- The zone has that name and these settings, and its store's sizes are within what a store may have.
pub record IsSetAs (apex : Labels) (s : ZoneSpec) (z : ZoneState) : Type 0 where
  pub shape : z.setting.shape ≡ shape_of apex s
  pub set : IsSet s z
  pub range : IsInRange s.snapshot s.journal

abbrev pub AreSetAs : List Labels → List ZoneSpec → List ZoneState → Type 0
AreSetAs apexes settings zones = Each3 IsSetAs apexes settings zones

-- Between two events it keeps a machine, which stops there: these are the machine's devices.
abbrev pub LeavesAtRest : {D I : Type 0} → (g : Ghosts D) → {i : zone_index.Ghosts I}
    {s : kept.Ghosts (KeptStore D I g)} → Primary I (KeptStore D I g) i s → List D → Type 0
LeavesAtRest g primary devices =
    (m : Machine) (event : Event) (apexes : List Labels) (settings : List ZoneSpec)
    → IsKept primary m → AreSetAs apexes settings m.zones
    → AreDevicesOf g 0 m event apexes settings devices

-- Within the event that led here, they are those of the machine from which it came.
abbrev pub LeavesWithin : {D I : Type 0} → (g : Ghosts D) → {i : zone_index.Ghosts I}
    {s : kept.Ghosts (KeptStore D I g)} → Primary I (KeptStore D I g) i s → List D → Type 0
LeavesWithin {D} {I} g {i} {s} primary devices =
    (m : Machine) (event : Event) (before : Primary I (KeptStore D I g) i s) (effects : Effects)
    (apexes : List Labels) (settings : List ZoneSpec)
    → SteppedBy m event before primary effects → AreSetAs apexes settings m.zones
    → AreDevicesOf g 0 m event apexes settings devices
