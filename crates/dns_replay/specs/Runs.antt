-- What a script runs over, and what it leads to.
use Rattle.std.specs.Prelude.{◌≡◌, ℕ, suc, List, ◌++◌, map, slice_get, Option, Some, None, IsSome}
use Rattle.std.specs.Prelude.{MatchResult, Result}
use Rattle.std.specs.Io.KnownBytes.{Appends, Keeps}
use Rattle.dns_names.specs.Name.{Labels}
use Rattle.dns_zone.specs.Zone.{Zone}
use Rattle.dns_sectors.specs.Device.{Content}
use Rattle.dns_sectors.specs.declared.device.Sectors.{Ghosts}
use Rattle.dns_sectors.specs.declared.memory.Keep as told
use Rattle.dns_zone.specs.declared.index.ZoneIndex as zone_index
use Rattle.dns_store.specs.declared.zone_store.ZoneStore as store
use Rattle.dns_store.specs.declared.kept_store.KeptStore.{KeptStore}
use Rattle.dns_primary.specs.declared.event.Effects.{Effects}
use Rattle.dns_primary.specs.declared.event.To.{To}
use Rattle.dns_primary.specs.declared.open.NotOpened.{NotOpened}
use Rattle.dns_primary.specs.declared.primary.Primary.{Primary}
use Rattle.dns_primary.specs.declared.primary.ZoneSpec.{ZoneSpec}
use Rattle.dns_primary.specs.Machine.{Machine}
use Rattle.dns_primary.specs.Keeps.{IsKept, header_out, reply_out}
use Rattle.dns_primary.specs.Step.{Event}
use Rattle.dns_primary.specs.Stop.{IsStopped}
use Rattle.dns_primary.specs.Open.{AreHonest, devices_of}
use Rattle.dns_primary.specs.HandOut.{AreSetAs}
use Rattle.dns_primary.specs.Runs.{Moment, Run, machine_at_end}
use Rattle.dns_primary.specs.Fresh.{IsFresh}
use Rattle.dns_replay.specs.Keeps.{ZoneKeep}
use Rattle.dns_replay.specs.Crashes.{AreHonestDevicesOf, IsCrash}
use Rattle.dns_replay.specs.Scripts.{Standing, Takes, Stands, event_in, machine_of, tries_in, Commanded}
use Rattle.dns_replay.specs.Scripts.{Crashes, Reopens, Led, EventLeads, PlanLeads, LeadsByCommand, LineLeads}
use Rattle.dns_replay.specs.Scripts.{LineRefuses, IsNoCommand, MayRefuse, Runs, printed_refusal, printed_stop}
use Rattle.dns_store.specs.declared.root.OpenError.{OpenError}
use Rattle.dns_replay.specs.declared.run.After.{After}
use Rattle.dns_replay.specs.declared.run.After.TheVariants.{GoesOn, NoCommand, Refused}
use Rattle.dns_replay.specs.declared.run.Ending.{Ending}
use Rattle.dns_replay.specs.declared.replay_state.World.{World}

-- The replies of an event in order, as they go out.
abbrev pub replies_out : Effects → List (To × List ℕ)
replies_out effects = map header_out effects.headers.items ++ reply_out effects.message

-- The same settings again.
pub record AreSame (s t : ZoneSpec) : Type 0 where
  pub snapshot : t.snapshot ≡ s.snapshot
  pub journal : t.journal ≡ s.journal
  pub keep : t.keep ≡ s.keep
  pub update : t.update.items ≡ s.update.items
  pub transfer : t.transfer.items ≡ s.transfer.items

-- What a crash says, with the number of the write or sync of the opening that is the last, if one is.
abbrev pub crash_by : List ZoneKeep → Option ℕ → Commanded
crash_by keeps None = Crashes keeps
crash_by keeps (Some n) = Reopens keeps

-- The primary keeps the machine, on honest devices.
abbrev pub IsKeptOnHonest : {D I : Type 0} {g : Ghosts D} {i : zone_index.Ghosts I}
    {s : store.Ghosts (KeptStore D I g)} → Primary I (KeptStore D I g) i s → Machine → Type 0
IsKeptOnHonest {g = g} p m = IsKept p m × AreHonest g (devices_of p)

module _ {D I : Type 0} {g : Ghosts D} {i : zone_index.Ghosts I} {s : store.Ghosts (KeptStore D I g)}
    (names : List Labels) (settings : List ZoneSpec)
  where
    -- A primary keeps the machine; or of one that stopped within an event these devices are left. The devices
    -- are honest.
    abbrev pub IsAt : Option (Primary I (KeptStore D I g) i s) → List D → Standing → Type 0
    IsAt (Some p) devices (Takes m) = IsKeptOnHonest p m
    IsAt None devices (Stands m event tries) = AreHonestDevicesOf g tries m event names settings devices
    IsAt (Some p) devices (Stands m event tries) = ⊥
    IsAt None devices (Takes m) = ⊥

    -- Whatever state the script was in, this is what it was led to, and the state it is in now.
    abbrev pub LeadsOn : (Standing → Led → Type 0) → Option (Primary I (KeptStore D I g) i s) → List D
        → Option (Primary I (KeptStore D I g) i s) → List D → Option (List ℕ) → Option (List ℕ) → Type 0
    LeadsOn leads p devices q left out out_after =
        (from : Standing) → IsAt p devices from → AreSetAs names settings (machine_of from).zones
        → (led : Led) × leads from led × Appends out out_after led.text × IsAt q left led.standing

module _ {D I : Type 0} {g : Ghosts D} {i : zone_index.Ghosts I} {s : store.Ghosts (KeptStore D I g)} where
  -- Whatever state a script is in, these are the devices of its machine, and honest.
  abbrev pub AreTakenOf : Option (Primary I (KeptStore D I g) i s) → List D → List D → Type 0
  AreTakenOf p devices taken =
      (names : List Labels) (settings : List ZoneSpec) (from : Standing)
      → IsAt names settings p devices from → AreSetAs names settings (machine_of from).zones
      → AreHonestDevicesOf g (tries_in from) (machine_of from) (event_in from) names settings taken

  -- In a world of these names and settings the stores on honest devices are opened again: whatever machine
  -- stopped on them, it recovers; or they are refused, and it was one try more. The devices stay honest.
  abbrev pub OpensIn : World → List D → Result (Primary I (KeptStore D I g) i s) (NotOpened D) → Type 0
  OpensIn world devices opened =
      (m : Machine) (event : Event) (tries : ℕ)
      → AreHonestDevicesOf g tries m event world.origins.now world.settings.now devices
      → MatchResult opened (λ p. (new : Machine) × IsStopped tries m event new × IsKeptOnHonest p new)
      (λ e. AreHonestDevicesOf g (suc tries) m event world.origins.now world.settings.now e.devices.items)

  -- There an event leads on,
  abbrev pub EventLeadsIn : World → Event → Option (Primary I (KeptStore D I g) i s) → List D
      → Option (Primary I (KeptStore D I g) i s) → List D → Option (List ℕ) → Option (List ℕ) → Type 0
  EventLeadsIn world event p devices q left out out_after =
      LeadsOn world.origins.now world.settings.now (λ from led. EventLeads world.origins.now from event led)
      p devices q left out out_after

  -- and a plan, which changes nothing else.
  abbrev pub PlanLeadsIn : World → Option (Primary I (KeptStore D I g) i s) → List D → Option (List ℕ)
      → Option (List ℕ) → Type 0
  PlanLeadsIn world p devices out out_after =
      LeadsOn world.origins.now world.settings.now PlanLeads p devices p devices out out_after

-- A store was refused, as is printed.
pub record RefusesStore (origins : List Labels) (out out_after : Option (List ℕ)) : Type 0 where
  pub index : ℕ
  pub error : OpenError
  pub printed : Appends out out_after (printed_refusal (slice_get origins index) error)

-- A stop fell in the opening, which was to have one, and these are the devices; or the run ends.
abbrev pub IsOpeningRefused : {D : Type 0} → List Labels → Option ℕ → List D → List D → Option (List ℕ)
    → Option (List ℕ) → After → Type 0
IsOpeningRefused names stop devices left out out_after GoesOn =
    IsSome stop × (left ≡ devices) × Appends out out_after printed_stop
IsOpeningRefused names stop devices left out out_after Refused = RefusesStore names out out_after
IsOpeningRefused names stop devices left out out_after NoCommand = ⊥

module _ {D I : Type 0} {g : Ghosts D} {i : zone_index.Ghosts I} {s : store.Ghosts (KeptStore D I g)}
    (kept : D → told.Keep → Content) where
  -- What is said leads on, or ends the run.
  abbrev pub DoesBy : List Labels → List ZoneSpec → Commanded
      → Option (Primary I (KeptStore D I g) i s) → List D
      → Option (Primary I (KeptStore D I g) i s) → List D → Option (List ℕ) → Option (List ℕ) → After → Type 0
  DoesBy names settings said p devices q left out out_after GoesOn =
      LeadsOn names settings (λ from led. LeadsByCommand names (IsCrash g kept names settings) from said led)
      p devices q left out out_after
  DoesBy names settings said p devices q left out out_after Refused =
      MayRefuse said × RefusesStore names out out_after
  DoesBy names settings said p devices q left out out_after NoCommand = ⊥

  -- The same in a world of names and settings.
  abbrev pub DoesIn : World → Commanded → Option (Primary I (KeptStore D I g) i s) → List D
      → Option (Primary I (KeptStore D I g) i s) → List D → Option (List ℕ) → Option (List ℕ) → After → Type 0
  DoesIn world said p devices q left out out_after after =
      DoesBy world.origins.now world.settings.now said p devices q left out out_after after

  abbrev pub LineDoes : List Labels → List ZoneSpec → List ℕ
      → Option (Primary I (KeptStore D I g) i s) → List D
      → Option (Primary I (KeptStore D I g) i s) → List D → Option (List ℕ) → Option (List ℕ) → After → Type 0
  LineDoes names settings line p devices q left out out_after GoesOn =
      LeadsOn names settings (λ from led. LineLeads names (IsCrash g kept names settings) from line led)
      p devices q left out out_after
  LineDoes names settings line p devices q left out out_after Refused =
      (text : List ℕ) × LineRefuses names line text × Appends out out_after text
  LineDoes names settings line p devices q left out out_after NoCommand =
      IsNoCommand names line × (q ≡ p) × (left ≡ devices) × Keeps out out_after

-- A run led to the machine from one to which nothing had happened, and its zones have these names and
-- settings.
pub record IsMachineReached (names : List Labels) (settings : List ZoneSpec) (m : Machine) : Type 0 where
  pub set : AreSetAs names settings m.zones
  pub zones : List Zone
  pub loaded : List ZoneSpec
  pub first : Machine
  pub fresh : IsFresh zones loaded first
  pub before : List Moment
  pub run : Run first before
  pub last : machine_at_end first before ≡ m

-- From each such machine that the primary kept, on honest devices, the lines lead there, by moments that are
-- a run of the machine.
abbrev pub RanScript : {D I : Type 0} {g : Ghosts D} {i : zone_index.Ghosts I}
    {s : store.Ghosts (KeptStore D I g)} → (D → told.Keep → Content) → List Labels → List ZoneSpec
    → List (List ℕ) → Ending → Primary I (KeptStore D I g) i s → Option (List ℕ) → Option (List ℕ) → Type 0
RanScript {g} kept names settings lines ending primary out out_after =
    (start : Machine) → IsMachineReached names settings start → IsKeptOnHonest primary start
    → (led : Led) × Runs names (IsCrash g kept names settings) (Takes start) 1 lines led ending
    × Run start led.moments × Appends out out_after led.text

-- The same of zones that were loaded: they have a machine to which nothing has happened, and from each such
-- machine the lines lead there.
pub record RunsFrom {D : Type 0} (g : Ghosts D) (kept : D → told.Keep → Content) (zones : List Zone)
    (settings : List ZoneSpec) (lines : List (List ℕ)) (ending : Ending) (out out_after : Option (List ℕ))
    : Type 0 where
  pub begins : (start : Machine) × IsFresh zones settings start
  pub leads : (start : Machine) → IsFresh zones settings start
      → (led : Led)
      × Runs (map (λ z. z.apex) zones) (IsCrash g kept (map (λ z. z.apex) zones) settings)
      (Takes start) 1 lines led ending
      × Run start led.moments × Appends out out_after led.text
