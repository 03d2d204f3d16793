-- What a crash that a script tells leaves of the devices of zones, and the machine that is opened over it.
use Rattle.std.specs.Prelude.{◌≡◌, ◌==◌, ℕ, suc, List, [], ◌∷◌, find, Option, Some, None}
use Rattle.dns_names.specs.Name.{Labels}
use Rattle.dns_sectors.specs.Device.{Content, Only}
use Rattle.dns_sectors.specs.declared.device.Sectors.{Ghosts}
use Rattle.dns_sectors.specs.declared.memory.Keep as told
use Rattle.dns_sectors.specs.declared.memory.Keep.TheVariants as told_keep
use Rattle.dns_store.specs.Opens.{opens}
use Rattle.dns_primary.specs.declared.primary.ZoneSpec.{ZoneSpec}
use Rattle.dns_primary.specs.Machine.{Machine, ZoneState}
use Rattle.dns_primary.specs.Open.{AreDevicesOf, AreHonest, AreRecoverable}
use Rattle.dns_primary.specs.Step.{Event}
use Rattle.dns_primary.specs.Stop.{IsRecovered, reopened_as}
use Rattle.dns_replay.specs.Keeps.{Keep, All, These, ZoneKeep}
use Rattle.dns_replay.specs.Scripts.{Standing, event_in, machine_of, tries_in}

-- What is kept of the writes that are pending on the device of the zone at a position: none where nothing is
-- said of it.
abbrev pub keep_or_none : Option ZoneKeep → Keep
keep_or_none None = These []
keep_or_none (Some k) = k.keep

abbrev pub keep_at : List ZoneKeep → ℕ → Keep
keep_at keeps index = keep_or_none (find (λ (k : ZoneKeep). k.zone == index) keeps)

-- It is passed to a device as this.
abbrev pub IsToldAs : Keep → told.Keep → Type 0
IsToldAs All told_keep.All = Unit {0}
IsToldAs (These numbers) (told_keep.These given) = given.now ≡ numbers
IsToldAs _ _ = ⊥

-- The device after a crash that kept these of its pending writes: another crash leaves exactly them over what
-- was durable, which is among what the crash might have left.
pub record IsLeftBy {D : Type 0} (g : Ghosts D) (kept : D → told.Keep → Content) (keep : Keep)
    (old new : D) : Type 0 where
  pub honest : g.is_honest old → g.is_honest new
  pub told_as : told.Keep
  pub is : IsToldAs keep told_as
  pub exact : g.is_honest old → Only (kept old told_as) (g.may_leave new)
  pub left : (c : Content) → g.is_honest old → g.may_leave new c → g.may_leave old c

-- The devices of zones, those from this position on.
abbrev pub AreLeftBy : {D : Type 0} → Ghosts D → (D → told.Keep → Content) → List ZoneKeep → ℕ → List D
    → List D → Type 0
AreLeftBy g kept keeps index [] [] = Unit {0}
AreLeftBy g kept keeps index (d ∷ olds) (e ∷ news) =
    IsLeftBy g kept (keep_at keeps index) d e × AreLeftBy g kept keeps (suc index) olds news
AreLeftBy g kept keeps index _ _ = ⊥

-- The device holds a zone of which nothing is staged, and this is that zone, opened once more.
pub record IsOpenedOver {D : Type 0} (g : Ghosts D) (device : D) (z : ZoneState) : Type 0 where
  pub held : ZoneState
  pub nothing_staged : held.staged ≡ []
  pub opens_as : opens held.setting.shape (reopened_as held) (g.seen device)
  pub again : IsRecovered 1 1 (λ _. ⊥) held z

abbrev pub AreOpenedOver : {D : Type 0} → Ghosts D → List D → List ZoneState → Type 0
AreOpenedOver g [] [] = Unit {0}
AreOpenedOver g (d ∷ devices) (z ∷ zones) = IsOpenedOver g d z × AreOpenedOver g devices zones
AreOpenedOver g _ _ = ⊥

-- These are the devices of the machine, which stopped within the event, so many tries ago, and are honest.
abbrev pub AreHonestDevicesOf : {D : Type 0} → Ghosts D → ℕ → Machine → Event → List Labels → List ZoneSpec
    → List D → Type 0
AreHonestDevicesOf g tries m event names settings devices =
    AreDevicesOf g tries m event names settings devices × AreHonest g devices

module _ {D : Type 0} (g : Ghosts D) (kept : D → told.Keep → Content) (names : List Labels)
    (settings : List ZoneSpec) where
  -- The devices of a script in this state, which are honest, crash, keeping these of their pending writes,
  -- and are those now.
  pub record AreCrashed (s : Standing) (keeps : List ZoneKeep) (after : List D) : Type 0 where
    pub before : List D
    pub honest : AreHonest g before
    pub stood : AreRecoverable g (tries_in s) (machine_of s) (event_in s) 0
        (machine_of s).zones names settings before
    pub left : AreLeftBy g kept keeps 0 before after

  -- They did, and the machine that is there then was opened over them; or a stop fell in the opening.
  abbrev pub IsCrash : Standing → List ZoneKeep → Option Machine → Type 0
  IsCrash s keeps None = (after : List D) × AreCrashed s keeps after
  IsCrash s keeps (Some next) = (after : List D) × AreCrashed s keeps after × AreOpenedOver g after next.zones
