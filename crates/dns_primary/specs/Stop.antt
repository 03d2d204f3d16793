-- What a stop within an event leaves: of each zone what its own device keeps, and nothing of what waits.
use Rattle.std.specs.Prelude.{◌≡◌, ◌⊎◌, ◌≤◌, ◌+◌, ℕ, suc, false, List, [], ◌∷◌, ◌++◌, length, Some, None}
use Rattle.dns_sectors.specs.Device.{Content}
use Rattle.dns_store.specs.Versions.{Shape, Opened}
use Rattle.dns_versions.specs.Checkpoint.{IsNextBaseNumber}
use Rattle.dns_versions.specs.Each.{Each2}
use Rattle.dns_primary.specs.Machine.{Made, ZoneState, Machine, kept_of, versions_of}
use Rattle.dns_primary.specs.Step.{Event, base_moved}

-- The event moves the base of the zone at this position, so that so much room is left.
abbrev pub Checkpoints : Machine → Event → ℕ → ℕ → Type 0
Checkpoints m event index room = base_moved m event ≡ Some (index, room)

-- The base that the event is making of the zone at this position, which isn't closed.
abbrev pub IsMaking : Machine → Event → ℕ → ZoneState → ℕ → Type 0
IsMaking m event index z base =
    (z.closed ≡ false)
    × ((room : ℕ) × Checkpoints m event index room × IsNextBaseNumber z.setting.keep room (kept_of z) base)

-- A zone as it is opened again: it shows the version that was shown and some of the updates staged after it,
-- in order, and begins at its base, at the second one left by a checkpoint that failed, or at one that is
-- being made. Nothing is staged of it. Its store was opened at least and at most so often since.
pub record IsRecovered (least most : ℕ) (making : ℕ → Type 0) (old new : ZoneState) : Type 0 where
  pub setting : new.setting ≡ old.setting
  pub loaded : new.loaded ≡ old.loaded
  pub kept : List Made
  pub lost : List Made
  pub front : old.staged ≡ kept ++ lost
  pub shown : new.shown ≡ old.shown ++ kept
  pub staged : new.staged ≡ []
  pub base : (new.base ≡ old.base) ⊎ ((old.second ≡ Some new.base) ⊎ making new.base)
  pub so_far : new.base ≤ length new.shown
  pub second : new.second ≡ None
  pub altered : new.altered ≡ old.altered
  pub opened : new.closed ≡ false
  pub at_least : old.openings + least ≤ new.openings
  pub at_most : new.openings ≤ old.openings + most

-- Each zone is, those from this position on.
abbrev pub AreRecovered : ℕ → ℕ → Machine → Event → ℕ → List ZoneState → List ZoneState → Type 0
AreRecovered least most m event index [] [] = Unit {0}
AreRecovered least most m event index (z ∷ old) (w ∷ new) =
    IsRecovered least most (IsMaking m event index z) z w
    × AreRecovered least most m event (suc index) old new
AreRecovered least most m event index [] (w ∷ new) = ⊥
AreRecovered least most m event index (z ∷ old) [] = ⊥

-- The machine stopped within the event, which has no effects, and was opened again, after so many tries that
-- were stopped or refused.
pub record IsStopped (tries : ℕ) (old : Machine) (event : Event) (new : Machine) : Type 0 where
  pub zones : AreRecovered 1 (suc tries) old event 0 old.zones new.zones
  pub waiting : new.waiting ≡ []
  pub connections : new.connections ≡ []

-- The same zone with other settings, but for its name and the sizes of its store.
pub record IsSetAnew (old new : ZoneState) : Type 0 where
  pub shape : new.setting.shape ≡ old.setting.shape
  pub rest : new ≡ record old { setting = new.setting }

-- After a stop the zones were given other settings: nothing waits, and nobody is connected.
pub record IsConfigured (old new : Machine) : Type 0 where
  pub zones : Each2 IsSetAnew old.zones new.zones
  pub waiting : old.waiting ≡ []
  pub connections : old.connections ≡ []
  pub rest : new ≡ record old { zones = new.zones }

-- What a zone's device opens as where nothing of the zone is staged.
abbrev pub reopened_as : ZoneState → Opened
reopened_as z = record {
  loaded = z.loaded;
  versions = versions_of z.shown;
  base = z.base;
  openings = z.openings;
  altered = z.altered;
}

-- The content of a device opens as a zone that this one may be recovered as, whose store was opened at most
-- so often since.
abbrev pub OpensAsRecovered : (Shape → Opened → Content → Type 0) → ℕ → (ℕ → Type 0) → ZoneState
    → Content → Type 0
OpensAsRecovered opens tries making z c =
    (w : ZoneState) × IsRecovered 0 tries making z w × opens w.setting.shape (reopened_as w) c
