-- What a crash within a run of the machine leaves of the stores of a primary.
use Rattle.std.specs.Prelude.{◌≡◌, ◌⊎◌, ◌↔◌, ℕ, suc, List, [], ◌∷◌, Option, Some, slice_get}
use Rattle.dns_zone.specs.declared.index.ZoneIndex as zone_index
use Rattle.dns_sectors.specs.Device.{Content, LeavesOnly}
use Rattle.dns_store.specs.declared.zone_store.ZoneStore as store
use Rattle.dns_store.specs.Versions.{Kept, Opened, OpensAsLeft, Shape}
use Rattle.dns_versions.specs.declared.zone_versions.ZoneVersions.{ZoneVersions}
use Rattle.dns_primary.specs.Machine.{Machine, ZoneState, kept_of}
use Rattle.dns_primary.specs.Runs.{Moment, Took, Stopped, Configured, machine_after}
use Rattle.dns_primary.specs.Step.{Event, base_moved}
use Rattle.dns_primary.specs.Steps.{OpensAsEvent, with_rooms}
use Rattle.dns_primary.specs.declared.primary.Primary.{Primary}

-- The versions of the zone there, as they rest between two events.
abbrev pub RestsAs : (Shape → Opened → Content → Type 0) → Machine → ℕ → Content → Type 0
RestsAs opens m index c =
    (z : ZoneState) × (slice_get m.zones index ≡ Some z) × OpensAsLeft opens (kept_of z) c

-- Those that a crash within the event leaves.
abbrev pub OpensWithin : (Shape → Opened → Content → Type 0) → Machine → Event → ℕ → Content → Type 0
OpensWithin opens m event index c =
    (k : Option ℕ × ZoneState) × (slice_get (with_rooms (base_moved m event) m.zones) index ≡ Some k)
    × OpensAsEvent opens k.0 k.1 c

abbrev pub OpensWithinMoment : (Shape → Opened → Content → Type 0) → Machine → Moment → ℕ → Content → Type 0
OpensWithinMoment opens m (Took event fails effects new) index c = OpensWithin opens m event index c
OpensWithinMoment opens m (Stopped event tries new) index c = OpensWithin opens m event index c
OpensWithinMoment opens m (Configured new) index c = ⊥

-- A crash fell somewhere in the run from this machine: before its first moment, within one, or after the
-- last.
abbrev pub OpensInRun : (Shape → Opened → Content → Type 0) → Machine → List Moment → ℕ → Content → Type 0
OpensInRun opens m [] index c = RestsAs opens m index c
OpensInRun opens m (t ∷ run) index c =
    RestsAs opens m index c
    ⊎ OpensWithinMoment opens m t index c
    ⊎ OpensInRun opens (machine_after t) run index c

-- The store's device is as honest as it was; and if it is honest, a crash at any moment between the two
-- leaves of it what has P.
abbrev pub IsLeftSo : {S : Type 0} → store.Ghosts S → S → S → (Content → Type 0) → Type 0
IsLeftSo s old new P =
    (s.is_honest new ↔ s.is_honest old) × (s.is_honest old → LeavesOnly s.moment s.left_since old new P)

-- A crash at any moment between the two leaves each store on an honest device so, from this position on.
abbrev pub AreLeftFrom : {I S : Type 0} → store.Ghosts S → ℕ → Machine → List Moment
    → List (ZoneVersions I S) → List (ZoneVersions I S) → Type 0
AreLeftFrom s index m run [] [] = Unit {0}
AreLeftFrom s index m run (a ∷ olds) (b ∷ news) =
    IsLeftSo s a.store b.store (OpensInRun s.opens m run index)
    × AreLeftFrom s (suc index) m run olds news
AreLeftFrom s index m run _ _ = ⊥

-- The run led from one primary to another: a crash at any moment of it leaves each zone's store, if its
-- device is honest, as it allows.
abbrev pub LeadsThrough : {I S : Type 0} {i : zone_index.Ghosts I} {s : store.Ghosts S} → Primary I S i s
    → Primary I S i s → Machine → List Moment → Type 0
LeadsThrough {s} old new m run = AreLeftFrom s 0 m run old.pending.items new.pending.items

-- Between two calls a crash of an honest device leaves the versions that are kept: a law of each store.
abbrev pub RestLaw : {S : Type 0} → store.Ghosts S → Type 0
RestLaw {S} s =
    (x : S) (k : Kept) → s.keeps x k → s.is_honest x → (c : Content) → s.left_since x (s.moment x) c
    → OpensAsLeft s.opens k c
