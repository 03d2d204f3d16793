-- How the devices of all zones are opened, and what a primary that is opened keeps.
use Rattle.std.specs.Prelude.{◌≡◌, ◌⊎◌, ◌↔◌, ◌+◌, ℕ, zero, suc, List, [], ◌∷◌, length, map}
use Rattle.std.specs.Prelude.{Result, IfOk, MatchResult}
use Rattle.std.specs.List.{AllByRecursion}
use Rattle.dns_names.specs.Name.{Labels}
use Rattle.dns_zone.specs.Zone.{Zone}
use Rattle.dns_sectors.specs.Device.{Content, LeavesOnly}
use Rattle.dns_sectors.specs.Crash.{Write}
use Rattle.dns_sectors.specs.declared.device.Sectors.{Ghosts}
use Rattle.dns_layout.specs.Own.{IsIntactIn, IsAltered}
use Rattle.dns_layout.specs.Sector.{sector_at}
use Rattle.dns_layout.specs.declared.format.Format.TheVariants.{Two}
use Rattle.dns_journal.specs.Reads.{HasRisen, OnlyReads}
use Rattle.dns_store.specs.Versions.{Shape, Opened, opened_again}
use Rattle.dns_store.specs.Opens.{opens, sizes_of, fresh}
use Rattle.dns_store.specs.Opening.{AnswersAs, HasRootIn, IsInRange, MayOpen, OpensAsPossible, StopsPossible}
use Rattle.dns_store.specs.Opening.{keeps, store_device}
use Rattle.dns_store.specs.Opening as store
use Rattle.dns_store.specs.Root.{OpenRefusal}
use Rattle.dns_store.specs.Damage.{IsSectorRead, NamesAltered, NamesSector, NamesWrong}
use Rattle.dns_store.specs.declared.kept_store.KeptStore.{KeptStore}
use Rattle.dns_store.specs.declared.zone_store.ZoneStore as kept
use Rattle.dns_zone.specs.declared.index.ZoneIndex as zone_index
use Rattle.dns_primary.specs.declared.primary.Primary.{Primary}
use Rattle.dns_store.specs.declared.root.OpenError.{OpenError}
use Rattle.dns_store.specs.declared.root.OpenError.TheVariants.{Damaged, Device, OutOfMemory}
use Rattle.dns_versions.specs.declared.zone_versions.ZoneVersions.{ZoneVersions}
use Rattle.dns_versions.specs.Each.{Each2}
use Rattle.dns_versions.specs.Held.{HasVersions}
use Rattle.dns_primary.specs.declared.open.NotOpened.{NotOpened}
use Rattle.dns_primary.specs.declared.primary.ZoneSpec.{ZoneSpec}
use Rattle.dns_primary.specs.Machine.{ZoneState, Machine, kept_of}
use Rattle.dns_primary.specs.Keeps.{IsKept, IsSet}
use Rattle.dns_primary.specs.Step.{Event}
use Rattle.dns_primary.specs.Stop.{IsConfigured, IsMaking, IsRecovered, IsSetAnew, IsStopped}
use Rattle.dns_primary.specs.Stop.{OpensAsRecovered}

-- A zone's name, and the sizes of its store.
abbrev pub shape_of : Labels → ZoneSpec → Shape
shape_of apex s = record { apex = apex; snapshot = s.snapshot; journal = s.journal }

abbrev pub device_of_pending : {D I : Type 0} {g : Ghosts D} → ZoneVersions I (KeptStore D I g) → D
device_of_pending b = store_device b.store

-- Its zones, and what backs each.
abbrev pub zones_of : {I S : Type 0} {i : zone_index.Ghosts I} {s : kept.Ghosts S} → Primary I S i s
    → List Zone
zones_of primary = primary.zones.items

abbrev pub pending_of : {I S : Type 0} {i : zone_index.Ghosts I} {s : kept.Ghosts S} → Primary I S i s
    → List (ZoneVersions I S)
pending_of primary = primary.pending.items

-- How many zones there are, and the devices of all, in order.
abbrev pub count_of : {I S : Type 0} {i : zone_index.Ghosts I} {s : kept.Ghosts S} → Primary I S i s → ℕ
count_of primary = length primary.pending.items

abbrev pub devices_of : {D I : Type 0} {g : Ghosts D} {i : zone_index.Ghosts I}
    {s : kept.Ghosts (KeptStore D I g)} → Primary I (KeptStore D I g) i s → List D
devices_of primary = map (λ b. device_of_pending b) primary.pending.items

-- A crash at any moment since then leaves what opens as a crash might have left it then, opened as often or
-- once more: a version and a base that were possible together. The device is as honest as it was.
pub record StaysPossible {D : Type 0} (g : Ghosts D) (apex : Labels) (s : ZoneSpec)
    (old new : D) : Type 0 where
  pub honest : g.is_honest new ↔ g.is_honest old
  pub any_moment : g.is_honest old → IsInRange s.snapshot s.journal
      → LeavesOnly g.moment g.left_since old new (OpensAsPossible g (shape_of apex s) old)

-- What backs the zone keeps what a crash might have left of its device before, opened once more, whichever
-- versions there were before the base.
abbrev pub TakesDevice : {D I : Type 0} {g : Ghosts D} → Shape → D → Zone
    → ZoneVersions I (KeptStore D I g) → Type 0
TakesDevice {g} shape device zone b =
    (d : Content) × g.may_leave device d
    × ((o : Opened) → opens shape o d → HasVersions (λ s k. keeps s k) zone b (fresh shape (opened_again o)))

-- This is said of each sector that reading a store of this shape reaches, and that is neither zeros nor its
-- own.
abbrev pub OfSpoilt : {D : Type 0} → Ghosts D → Shape → D → (ℕ → Type 0) → Type 0
OfSpoilt g shape device says =
    g.is_honest device → IsInRange shape.snapshot shape.journal → (index : ℕ)
    → IsSectorRead shape (g.seen device) index
    → (IsIntactIn Two index (sector_at (g.seen device) index) → ⊥) → says index

-- This is said of each content that opens as these versions, with no sector altered, and of which the
-- device's has some sectors altered, none to zeros or to one that is its own.
abbrev pub OfAltered : {D : Type 0} → Ghosts D → Shape → D → (Content → Opened → Type 0) → Type 0
OfAltered g shape device says =
    g.is_honest device → IsInRange shape.snapshot shape.journal → (c : Content) (o : Opened)
    → opens shape o c → o.altered ≡ [] → IsAltered Two c (g.seen device) → says c o

-- The first sector of the device is a root of that zone and these sizes, and of the sectors that reading
-- reaches each is zeros or its own.
pub record IsIntactAs {D : Type 0} (g : Ghosts D) (shape : Shape) (device : D) : Type 0 where
  pub root : g.is_honest device
      → HasRootIn Two (sizes_of shape) (g.count device) (sector_at (g.seen device) 0)
  pub not_own : OfSpoilt g shape device (λ index. ⊥)

-- The device was opened as this zone. It was intact; and where some of its sectors were altered, the answer
-- is that for the device before. Where it isn't honest the zone is still the newest of the versions that its
-- store holds in memory.
pub record IsOpened {D I : Type 0} {g : Ghosts D} (apex : Labels) (s : ZoneSpec)
    (device : D) (zone : Zone) (b : ZoneVersions I (KeptStore D I g))
    : Type 0 where
  pub leaves : StaysPossible g apex s device (device_of_pending b)
  pub intact : IsIntactAs g (shape_of apex s) device
  pub altered : OfAltered g (shape_of apex s) device (λ c o. AnswersAs (shape_of apex s) o b.store zone)
  pub takes : g.is_honest device → IsInRange s.snapshot s.journal → MayOpen g (shape_of apex s) device
      → TakesDevice (shape_of apex s) device zone b
  pub memory : (g.is_honest device → ⊥)
      → (o : Opened) × HasVersions (λ s k. keeps s k) zone b (fresh (shape_of apex s) o)

-- The device was not opened, for this reason: where each crash leaves a store that opens, the device failed,
-- memory was refused, the store was opened too often, or a sector in use was altered, and is named; else the
-- reason is in what is stored on the device.
-- A sector that is neither zeros nor its own is named where reading reaches it, and where some were altered,
-- one of them. The device was only read and synced, unless it failed.
pub record IsNotOpened {D : Type 0} (g : Ghosts D) (apex : Labels) (s : ZoneSpec)
    (error : OpenError) (old new : D) : Type 0 where
  pub leaves : StaysPossible g apex s old new
  pub stopped : g.is_honest old → IsInRange s.snapshot s.journal → MayOpen g (shape_of apex s) old
      → StopsPossible g (shape_of apex s) old error
  pub refused : g.is_honest old
      → OpenRefusal (sizes_of (shape_of apex s)) (g.count old) (sector_at (g.seen old) 0) error
  pub damaged : g.is_honest old → NamesWrong (shape_of apex s) (g.seen old) error
  pub not_own : OfSpoilt g (shape_of apex s) old (λ index. NamesSector index error)
  pub altered : OfAltered g (shape_of apex s) old
      (λ c o. store.IsNotReopened o.openings error ⊎ NamesAltered c (g.seen old) error)
  pub unwritten : (error ≡ Device) ⊎ OnlyReads g old new
  pub failed : error ≡ Device → HasRisen (g.failed old) (g.failed new)

-- The devices of so many first zones were opened as these.
abbrev pub AreOpened : {D I : Type 0} {g : Ghosts D} → ℕ → List Labels → List ZoneSpec
    → List D → List Zone → List (ZoneVersions I (KeptStore D I g)) → Type 0
AreOpened zero apexes settings devices [] [] = Unit {0}
AreOpened (suc n) (a ∷ apexes) (s ∷ settings) (d ∷ devices) (z ∷ zones) (b ∷ pending) =
    IsOpened a s d z b × AreOpened n apexes settings devices zones pending
AreOpened _ _ _ _ _ _ = ⊥

-- Those of all zones were opened, and are the primary's.
abbrev pub AreAllOpened : {D I : Type 0} {g : Ghosts D} {i : zone_index.Ghosts I}
    {s : kept.Ghosts (KeptStore D I g)} → List Labels → List ZoneSpec → List D
    → Primary I (KeptStore D I g) i s → Type 0
AreAllOpened apexes settings devices primary =
    AreOpened (length settings) apexes settings devices (zones_of primary) (pending_of primary)

-- The devices that came are these now: those of the zones before this position were opened and taken back,
-- the one of the zone at it was not opened, for this reason, and the others are as they came.
abbrev pub AreHandedBack : {D : Type 0} → Ghosts D → OpenError → ℕ → List Labels → List ZoneSpec → List D
    → List D → Type 0
AreHandedBack g error zero (a ∷ apexes) (s ∷ settings) (d ∷ devices) (e ∷ back) =
    IsNotOpened g a s error d e × (back ≡ devices)
AreHandedBack g error (suc n) (a ∷ apexes) (s ∷ settings) (d ∷ devices) (e ∷ back) =
    StaysPossible g a s d e × IsIntactAs g (shape_of a s) d
    × AreHandedBack g error n apexes settings devices back
AreHandedBack g error _ _ _ _ _ = ⊥

-- ... or memory was refused before any was opened, and all are as they came.
abbrev pub AreRefused : {D : Type 0} → Ghosts D → OpenError → ℕ → List Labels → List ZoneSpec → List D
    → List D → Type 0
AreRefused g error index apexes settings devices back =
    AreHandedBack g error index apexes settings devices back ⊎ ((error ≡ OutOfMemory) × (back ≡ devices))

-- Every crash leaves the zone's device, if that is honest, so that it opens as one that this zone may be
-- recovered as, opened at most so often since. These are its name and the sizes of its store, and its other
-- settings are so.
pub record IsRecoverableAs {D : Type 0} (set_as : ZoneSpec → ZoneState → Type 0) (g : Ghosts D) (tries : ℕ)
    (making : ℕ → Type 0) (z : ZoneState) (apex : Labels) (s : ZoneSpec) (device : D)
    : Type 0 where
  pub shape : z.setting.shape ≡ shape_of apex s
  pub set : set_as s z
  pub range : IsInRange s.snapshot s.journal
  pub leaves : g.is_honest device → (c : Content) → g.may_leave device c
      → OpensAsRecovered opens tries making z c

-- So it is with these settings, or whichever it had.
abbrev pub IsRecoverable : {D : Type 0} → Ghosts D → ℕ → (ℕ → Type 0) → ZoneState → Labels → ZoneSpec → D
    → Type 0
IsRecoverable = IsRecoverableAs IsSet

abbrev pub AnySettings : ZoneSpec → ZoneState → Type 0
AnySettings s z = Unit {0}

-- Each zone's device is, those from this position on, where the machine stopped within the event.
abbrev pub AreRecoverableAs : {D : Type 0} → (ZoneSpec → ZoneState → Type 0) → Ghosts D → ℕ → Machine → Event
    → ℕ → List ZoneState → List Labels → List ZoneSpec → List D → Type 0
AreRecoverableAs set_as g tries m event index [] [] [] [] = Unit {0}
AreRecoverableAs set_as g tries m event index (z ∷ zones) (a ∷ apexes) (s ∷ settings) (d ∷ devices) =
    IsRecoverableAs set_as g tries (IsMaking m event index z) z a s d
    × AreRecoverableAs set_as g tries m event (suc index) zones apexes settings devices
AreRecoverableAs set_as g tries m event index _ _ _ _ = ⊥

-- So they are with these settings, or whichever they had.
abbrev pub AreRecoverable : {D : Type 0} → Ghosts D → ℕ → Machine → Event → ℕ → List ZoneState → List Labels
    → List ZoneSpec → List D → Type 0
AreRecoverable = AreRecoverableAs IsSet

abbrev pub AreRecoverableAnew : {D : Type 0} → Ghosts D → ℕ → Machine → Event → ℕ → List ZoneState
    → List Labels → List ZoneSpec → List D → Type 0
AreRecoverableAnew = AreRecoverableAs AnySettings

-- These are the devices of the machine, which stopped within the event, so many tries ago.
abbrev pub AreDevicesOf : {D : Type 0} → Ghosts D → ℕ → Machine → Event → List Labels → List ZoneSpec
    → List D → Type 0
AreDevicesOf g tries m event apexes settings devices =
    AreRecoverable g tries m event 0 m.zones apexes settings devices

-- ... whose zones had these settings or others.
abbrev pub AreDevicesAnew : {D : Type 0} → Ghosts D → ℕ → Machine → Event → List Labels → List ZoneSpec
    → List D → Type 0
AreDevicesAnew g tries m event apexes settings devices =
    AreRecoverableAnew g tries m event 0 m.zones apexes settings devices

-- A crash at any moment between the two leaves each honest device so that it opens as a zone that this one
-- may be recovered as.
abbrev pub LeaveRecovered : {D : Type 0} → Ghosts D → ℕ → Machine → Event → ℕ → List ZoneState → List D
    → List D → Type 0
LeaveRecovered g tries m event index [] [] [] = Unit {0}
LeaveRecovered g tries m event index (z ∷ zones) (d ∷ olds) (e ∷ news) =
    (g.is_honest d
    → LeavesOnly g.moment g.left_since d e (OpensAsRecovered opens tries (IsMaking m event index z) z))
    × LeaveRecovered g tries m event (suc index) zones olds news
LeaveRecovered g tries m event index _ _ _ = ⊥

-- One of these sectors is named.
abbrev pub NamesOneOf : List Write → OpenError → Type 0
NamesOneOf ws error =
    (position : ℕ) × (x : List ℕ) × (error ≡ Damaged position) × store.IsOneOf ws position x

-- The device of the zone there of a stopped machine failed, memory was refused, or its store was opened too
-- often: as often as the machine says, and as there were tries since; or a sector of it that was altered is
-- named.
abbrev pub IsRecoveryStopped : ℕ → OpenError → ℕ → List ZoneState → Type 0
IsRecoveryStopped tries error index [] = error ≡ OutOfMemory
IsRecoveryStopped tries error zero (z ∷ zones) =
    store.IsNotReopened (z.openings + tries) error ⊎ NamesOneOf z.altered error
IsRecoveryStopped tries error (suc n) (z ∷ zones) = IsRecoveryStopped tries error n zones

-- The primary is the machine, which stopped within the event so many tries ago, and recovered.
abbrev pub IsRecoveredBy : {I S : Type 0} {i : zone_index.Ghosts I} {s : kept.Ghosts S} → ℕ → Machine → Event
    → Primary I S i s → Type 0
IsRecoveredBy tries m event p = (new : Machine) × IsStopped tries m event new × IsKept p new

-- ... and was then given other settings.
abbrev pub IsRecoveredAnew : {I S : Type 0} {i : zone_index.Ghosts I} {s : kept.Ghosts S} → ℕ → Machine
    → Event → Primary I S i s → Type 0
IsRecoveredAnew tries m event p =
    (old new : Machine) × IsStopped tries m event old × IsConfigured old new × IsKept p new

-- Each zone whose device is honest is that of the machine, which stopped within the event so many tries ago,
-- and recovered; those from this position on.
abbrev pub AreReopened : {D I : Type 0} → (g : Ghosts D) → ℕ → Machine → Event → ℕ → List ZoneState → List D
    → List Zone → List (ZoneVersions I (KeptStore D I g)) → Type 0
AreReopened g tries m event index [] [] [] [] = Unit {0}
AreReopened g tries m event index (z ∷ states) (d ∷ devices) (y ∷ zones) (b ∷ pending) =
    (g.is_honest d → (w : ZoneState) × IsRecovered 1 (suc tries) (IsMaking m event index z) z w
    × HasVersions (λ s k. keeps s k) y b (kept_of w))
    × AreReopened g tries m event (suc index) states devices zones pending
AreReopened g tries m event index _ _ _ _ = ⊥

-- Each device is as honest as it was.
abbrev pub AreAsHonest : {D : Type 0} → Ghosts D → List D → List D → Type 0
AreAsHonest g olds news = Each2 (λ d e. g.is_honest e ↔ g.is_honest d) olds news

-- All devices are honest.
abbrev pub AreHonest : {D : Type 0} → Ghosts D → List D → Type 0
AreHonest g devices = AllByRecursion (λ d. g.is_honest d) devices

-- The device at this position is honest, if there is one.
abbrev pub IsHonestAt : {D : Type 0} → Ghosts D → ℕ → List D → Type 0
IsHonestAt g index [] = Unit {0}
IsHonestAt g zero (d ∷ devices) = g.is_honest d
IsHonestAt g (suc index) (d ∷ devices) = IsHonestAt g index devices

-- Each zone of the primary whose device was honest is one that recovered; and where all were, the primary is
-- the machine.
abbrev pub IsRecoveredOn : {D I : Type 0} {g : Ghosts D} {i : zone_index.Ghosts I}
    {s : kept.Ghosts (KeptStore D I g)} → ℕ → Machine → Event → List D → Primary I (KeptStore D I g) i s
    → Type 0
IsRecoveredOn {g = g} tries m event devices p =
    AreReopened g tries m event 0 m.zones devices (zones_of p) (pending_of p)
    × (AreHonest g devices → IsRecoveredBy tries m event p)

-- ... or that machine, which was then given other settings.
abbrev pub IsRecoveredAnewOn : {D I : Type 0} {g : Ghosts D} {i : zone_index.Ghosts I}
    {s : kept.Ghosts (KeptStore D I g)} → ℕ → Machine → Event → List D → Primary I (KeptStore D I g) i s
    → Type 0
IsRecoveredAnewOn {g = g} tries m event devices p =
    AreReopened g tries m event 0 m.zones devices (zones_of p) (pending_of p)
    × (AreHonest g devices → IsRecoveredAnew tries m event p)

-- They are devices of the machine still, and this was one try more. What stopped it is said where the device
-- of that zone was honest.
abbrev pub StayDevicesOf : {D : Type 0} → Ghosts D → ℕ → Machine → Event → List Labels → List ZoneSpec
    → List D → NotOpened D → Type 0
StayDevicesOf g tries m event apexes settings devices e =
    AreDevicesOf g (suc tries) m event apexes settings e.devices.items
    × (IsHonestAt g e.index devices → IsRecoveryStopped tries e.error e.index m.zones)

-- ... whose zones had these settings or others.
abbrev pub StayDevicesAnew : {D : Type 0} → Ghosts D → ℕ → Machine → Event → List Labels → List ZoneSpec
    → List D → NotOpened D → Type 0
StayDevicesAnew g tries m event apexes settings devices e =
    AreDevicesAnew g (suc tries) m event apexes settings e.devices.items
    × (IsHonestAt g e.index devices → IsRecoveryStopped tries e.error e.index m.zones)

-- A crash at any moment between the two leaves each honest device of the machine so that its zone may be
-- recovered, with one try more.
abbrev pub LeaveDevices : {D : Type 0} → Ghosts D → ℕ → Machine → Event → List D → List D → Type 0
LeaveDevices g tries m event olds news = LeaveRecovered g (suc tries) m event 0 m.zones olds news

-- Opened on the devices of a machine that stopped, with so many tries since, each zone whose device is honest
-- recovered from that stop, and where all are it is a machine that did; refused, they are such devices still,
-- and this was one try more.
abbrev pub Recovers : {D I : Type 0} → (g : Ghosts D) → {i : zone_index.Ghosts I}
    {s : kept.Ghosts (KeptStore D I g)} → List Labels → List ZoneSpec → List D
    → Result (Primary I (KeptStore D I g) i s) (NotOpened D) → Type 0
Recovers g apexes settings devices result =
    (m : Machine) (event : Event) (tries : ℕ) → AreDevicesOf g tries m event apexes settings devices
    → MatchResult result (IsRecoveredOn tries m event devices)
    (StayDevicesOf g tries m event apexes settings devices)

-- Where the machine had other settings, it is that machine, which was then given these.
abbrev pub RecoversAnew : {D I : Type 0} → (g : Ghosts D) → {i : zone_index.Ghosts I}
    {s : kept.Ghosts (KeptStore D I g)} → List Labels → List ZoneSpec → List D
    → Result (Primary I (KeptStore D I g) i s) (NotOpened D) → Type 0
RecoversAnew g apexes settings devices result =
    (m : Machine) (event : Event) (tries : ℕ) → AreDevicesAnew g tries m event apexes settings devices
    → MatchResult result (IsRecoveredAnewOn tries m event devices)
    (StayDevicesAnew g tries m event apexes settings devices)

-- Each device is honest, or it isn't.
abbrev pub AreHonestOrNot : {D : Type 0} → Ghosts D → List D → Type 0
AreHonestOrNot g devices = AllByRecursion (λ d. g.is_honest d ⊎ (g.is_honest d → ⊥)) devices

-- Each of these zones whose device is honest is that of the machine, which stopped within the event so many
-- tries ago, and recovered, and was then given other settings; those from this position on.
abbrev pub AreSetIfHonest : {D : Type 0} → Ghosts D → ℕ → Machine → Event → ℕ → List ZoneState → List D
    → List ZoneState → Type 0
AreSetIfHonest g tries m event index [] [] [] = Unit {0}
AreSetIfHonest g tries m event index (z ∷ zones) (d ∷ devices) (x ∷ news) =
    (g.is_honest d
    → (w : ZoneState) × IsRecovered 1 (suc tries) (IsMaking m event index z) z w × IsSetAnew w x)
    × AreSetIfHonest g tries m event (suc index) zones devices news
AreSetIfHonest g tries m event index _ _ _ = ⊥

-- Opened on these devices, whichever of them are honest, it is a machine with no connection, and nothing
-- waits; and each zone whose device is honest recovered.
abbrev pub IsMachineAnyway : {D I : Type 0} {g : Ghosts D} {i : zone_index.Ghosts I}
    {s : kept.Ghosts (KeptStore D I g)} → ℕ → Machine → Event → List D → Primary I (KeptStore D I g) i s
    → Type 0
IsMachineAnyway {g = g} tries m event devices p =
    (new : Machine) × AreSetIfHonest g tries m event 0 m.zones devices new.zones
    × (new.waiting ≡ []) × (new.connections ≡ []) × IsKept p new

-- What it promises of its replies rests on no honest device.
abbrev pub HoldsAnyway : {D I : Type 0} → (g : Ghosts D) → {i : zone_index.Ghosts I}
    {s : kept.Ghosts (KeptStore D I g)} → List Labels → List ZoneSpec → List D
    → Result (Primary I (KeptStore D I g) i s) (NotOpened D) → Type 0
HoldsAnyway g apexes settings devices result =
    (m : Machine) (event : Event) (tries : ℕ) → AreDevicesAnew g tries m event apexes settings devices
    → AreHonestOrNot g devices → IfOk result (IsMachineAnyway tries m event devices)

-- A crash at any moment of it leaves each honest device as one that a crash might have left before.
abbrev pub LeavesRecoverable : {D I : Type 0} → (g : Ghosts D) → {i : zone_index.Ghosts I}
    {s : kept.Ghosts (KeptStore D I g)} → List Labels → List ZoneSpec → List D
    → Result (Primary I (KeptStore D I g) i s) (NotOpened D) → Type 0
LeavesRecoverable g apexes settings devices result =
    (m : Machine) (event : Event) (tries : ℕ) → AreDevicesAnew g tries m event apexes settings devices
    → MatchResult result (λ p. LeaveDevices g tries m event devices (devices_of p))
    (λ e. LeaveDevices g tries m event devices e.devices.items)
