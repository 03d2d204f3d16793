-- How a server ends, by what its parts told.
use Rattle.std.proofs.Common.{◌≡◌, ℕ, true, false, zero, suc, inl, inr, List, [], ◌∷◌, ◌++◌, map, Result, Ok, Err, IfOk, refl, arith, subst, length}
use Rattle.std.specs.Prelude.{◌⊎◌, ◌↔◌, MatchResult}
use Rattle.std.specs.Option.{option_copied}
use Rattle.std.specs.Result.{IsErr, result_unwrap_or}
use Rattle.std.specs.Io.KnownBytes.{Appends}
use Rattle.dns_zone.specs.Zone.{Zone}
use Rattle.dns_zone.specs.declared.index.ZoneIndex as zone_index
use Rattle.dns_sectors.specs.Device.{Content, LeavesOnly}
use Rattle.dns_sectors.specs.declared.device.Sectors.{Ghosts}
use Rattle.dns_sectors.proofs.Moments.{joined, weaker}
use Rattle.dns_store.specs.Opening.{store_device}
use Rattle.dns_store.specs.Opens.{opens}
use Rattle.dns_store.specs.declared.kept_store.KeptStore.{KeptStore}
use Rattle.dns_store.specs.declared.zone_store.ZoneStore as store
use Rattle.dns_configuration.specs.declared.configuration.Configuration.{Configuration}
use Rattle.dns_configuration.specs.declared.files.File.{File}
use Rattle.dns_configuration.specs.declared.files.Fault.{Fault}
use Rattle.dns_configuration.specs.Faults.{fault_text, line}
use Rattle.dns_configuration.specs.Files.{HoldsConfiguration}
use Rattle.dns_devices.specs.declared.device_faults.DeviceFault.{DeviceFault}
use Rattle.dns_devices.specs.DeviceCalls.{DeviceCall}
use Rattle.dns_names.specs.Name.{Labels}
use Rattle.dns_configuration.specs.Known.{origins_of}
use Rattle.dns_versions.specs.declared.zone_versions.ZoneVersions.{ZoneVersions}
use Rattle.dns_versions.specs.Each.{Each2}
use Rattle.dns_primary.specs.HandOut.{AreSetAs}
use Rattle.dns_primary.specs.Keeps.{IsKept}
use Rattle.dns_primary.specs.Machine.{Machine, ZoneState}
use Rattle.dns_primary.specs.Open.{AreAsHonest, AreOpened, AreRecoverable, AreRecoverableAnew, LeaveRecovered, devices_of}
use Rattle.dns_primary.specs.Runs.{Moment, Took, Stopped, Configured, Run, machine_at_end}
use Rattle.dns_primary.specs.Step.{Event}
use Rattle.dns_primary.specs.Stop.{IsMaking, IsStopped, OpensAsRecovered}
use Rattle.dns_primary.specs.declared.primary.Primary.{Primary}
use Rattle.dns_primary.specs.declared.primary.ZoneSpec.{ZoneSpec}
use Rattle.dns_primary.proofs.Brought.{StaysSet, step_set, stopped_set, all_stay_set, stay_set_on}
use Rattle.dns_primary.proofs.StaysSet.{set_lasts}
use Rattle.dns_network.specs.Left.{AreLeftFrom, IsLeftSo, OpensInRun}
use Rattle.dns_network.specs.Turn.{TurnMoment}
use Rattle.dns_network.specs.Runs.{IsStepOf, Told, told_by}
use Rattle.dns_service.specs.Log.{zone_lines}
use Rattle.dns_service.specs.declared.server.ServeOptions.{ServeOptions}
use Rattle.dns_service.specs.Opening.{AreDevicesIntact, IsNotServed, IsOpenedAs, IsServed, closings}
use Rattle.dns_service.specs.Serve.{AreServedFrom, HaveServed, IsRefusalTold, IsServedFor, IsServedSomehow, IsServingTried, ServingEnds, telling_for}
use Rattle.dns_service.specs.ServedTurns.{HasRun, HasTurned, HaveRun, IsLedTo}
use Rattle.dns_service.specs.Telling.{AreTurnsTold, Texts}

pub at_ok : {A E : Type 0} (r : Result A E) (P : A → Type 0) (x : A) → r ≡ Ok x → IfOk r P → P x
at_ok {A = A} {E = E} r P x e h = subst (λ (s : Result A E). IfOk s P) e h

pub failed_with : {A E : Type 0} (P : A → Type 0) (Q : E → Type 0) (r : Result A E) → IsErr r → ((e : E) → Q e) → MatchResult r P Q
failed_with P Q (Ok x) is q = absurd (let both : false ≡ true = is in cc)
failed_with P Q (Err e) is q = q e

pub serving_failed : {D : Type 0} (g : Ghosts D) (calls : List (DeviceCall D)) (config : File) (options : ServeOptions) (before after : Texts) → IsServingTried g calls config → ServingEnds g calls config options before after 3
serving_failed g calls config options before after tried = record {
  done = λ e. absurd (omega (arith, e));
  refused = λ e. absurd (omega (arith, e));
  others = inr refl;
  called = tried;
}

-- The configuration is refused.
pub configuration_refused : {D : Type 0} (g : Ghosts D) (config : File) (options : ServeOptions) (fault : Fault) (before after : Texts) → HoldsConfiguration (option_copied config.octets) (Err fault) → Appends before.log after.log (line (fault_text config.path.now fault)) → ServingEnds g [] config options before after 1
configuration_refused g config options fault before after holds said = record {
  done = λ e. absurd (omega (arith, e));
  refused = λ _. (fault_text config.path.now fault, said, inl (fault, holds, refl));
  others = inl (omega arith);
  called = inl refl;
}

-- The zones of a machine whose devices may be opened again were opened for these names and settings.
recoverable_set : {D : Type 0} (g : Ghosts D) (tries : ℕ) (m : Machine) (event : Event) (index : ℕ) (zones : List ZoneState) (names : List Labels) (known : List ZoneSpec) (devices : List D) → AreRecoverable g tries m event index zones names known devices → AreSetAs names known zones
recoverable_set g tries m event index [] [] [] [] h = tt
recoverable_set g tries m event index (z ∷ zones) (a ∷ names) (s ∷ known) (d ∷ devices) h =
    (record { shape = h.0.shape; set = h.0.set; range = h.0.range }, recoverable_set g tries m event (suc index) zones names known devices h.1)
recoverable_set g tries m event index _ _ _ _ h = absurd h

-- In a run that turns make the zones keep their settings.
run_set : (told : List Told) (start : Machine) (run : List Moment) → Run start run → Each2 IsStepOf told run → Each2 StaysSet start.zones (machine_at_end start run).zones
run_set [] start [] r each = all_stay_set start.zones
run_set (t ∷ told) start [] r each = absurd each
run_set [] start (one ∷ run) r each = absurd each
run_set (t ∷ told) start (Took event fails effects new ∷ run) r each = stay_set_on start.zones new.zones (machine_at_end new run).zones (step_set fails start event effects new r.0) (run_set told new run r.1 each.1)
run_set (t ∷ told) start (Stopped event tries new ∷ run) r each = absurd each.0
run_set (t ∷ told) start (Configured new ∷ run) r each = absurd each.0

-- Whichever settings the zones had.
pub whichever_set : {D : Type 0} (g : Ghosts D) (tries : ℕ) (m : Machine) (event : Event) (index : ℕ) (zones : List ZoneState) (names : List Labels) (known : List ZoneSpec) (devices : List D) → AreRecoverable g tries m event index zones names known devices → AreRecoverableAnew g tries m event index zones names known devices
whichever_set g tries m event index [] [] [] [] h = tt
whichever_set g tries m event index (z ∷ zones) (a ∷ names) (s ∷ known) (d ∷ devices) h =
    (record { shape = h.0.shape; set = tt; range = h.0.range; leaves = h.0.leaves }, whichever_set g tries m event (suc index) zones names known devices h.1)
whichever_set g tries m event index _ _ _ _ h = absurd h

-- What a crash leaves from the opening of devices to their closing.
module _ {D I S : Type 0} (g : Ghosts D) (s : store.Ghosts S) (device_in : S → D) (tries : ℕ) (m : Machine) (event : Event) (start : Machine) (run : List Moment)
    (there : (x y : S) (index : ℕ) → IsLeftSo s x y (OpensInRun s.opens start run index)
    → (g.is_honest (device_in y) ↔ g.is_honest (device_in x)) × (g.is_honest (device_in x) → LeavesOnly g.moment g.left_since (device_in x) (device_in y) (OpensInRun opens start run index))) where
  served_from : (index : ℕ) (zones : List ZoneState) (devices : List D) (olds news : List (ZoneVersions I S)) → LeaveRecovered g tries m event index zones devices (map (λ (b : ZoneVersions I S). device_in b.store) olds)
      → AreAsHonest g devices (map (λ (b : ZoneVersions I S). device_in b.store) olds) → AreLeftFrom s index start run olds news
      → AreServedFrom g tries m event start run index zones devices (map (λ (b : ZoneVersions I S). device_in b.store) news)
  served_from index [] [] [] [] h same k = tt
  served_from index (z ∷ zones) (d ∷ devices) (a ∷ olds) (b ∷ news) h same k =
      let on = there a.store b.store index k.0 in
      let opened : Content → Type 0 = λ c. OpensAsRecovered opens tries (IsMaking m event index z) z c in
      let ran : Content → Type 0 = λ c. OpensInRun opens start run index c in
      let either : Content → Type 0 = λ c. opened c ⊎ ran c in (
        (λ x. same.0.0 (on.0.0 x), λ x. on.0.1 (same.0.1 x)),
        λ honest. joined g.moment g.left_since d (device_in a.store) (device_in b.store) either ran
            (weaker g.moment g.left_since d (device_in a.store) opened either (h.0 honest) (λ c left. inl left)) (on.1 (same.0.1 honest)) (λ c left. inr left),
        served_from (suc index) zones devices olds news h.1 same.1 k.1,
      )
  served_from index [] (d ∷ devices) olds news h same k = absurd h
  served_from index (z ∷ zones) [] olds news h same k = absurd h
  served_from index [] [] (a ∷ olds) news h same k = absurd h
  served_from index [] [] [] (b ∷ news) h same k = absurd k
  served_from index (z ∷ zones) (d ∷ devices) [] news h same k = absurd h
  served_from index (z ∷ zones) (d ∷ devices) (a ∷ olds) [] h same k = absurd k

-- What ran from a machine that recovered, and whose devices were closed.
module _ {D I : Type 0} (g : Ghosts D) {i : zone_index.Ghosts I} {s : store.Ghosts (KeptStore D I g)} (c : Configuration) (opening : List (DeviceCall D)) (old new : Primary I (KeptStore D I g) i s) (is : IsServed g opening c.zones.items (IsOpenedAs old))
    (there : (start : Machine) (run : List Moment) (x y : KeptStore D I g) (index : ℕ) → IsLeftSo s x y (OpensInRun s.opens start run index)
    → (g.is_honest (store_device y) ↔ g.is_honest (store_device x)) × (g.is_honest (store_device x) → LeavesOnly g.moment g.left_since (store_device x) (store_device y) (OpensInRun opens start run index)))
    (left : (m : Machine) (event : Event) (names : List Labels) (known : List ZoneSpec) → IsKept new m → AreSetAs names known m.zones → AreRecoverable g 0 m event 0 m.zones names known (devices_of new)) where
  -- So it is of whichever machine the turns led to.
  led : (turns : List (List TurnMoment)) (m : Machine) (event : Event) (tries : ℕ) → AreRecoverable g tries m event 0 m.zones (origins_of c.zones.items) is.known is.devices → (start : Machine) → IsStopped tries m event start → IsOpenedAs old is.devices is.known m event tries start → HaveRun turns (IsLedTo old new) start
      → HaveServed g turns c.zones.items (devices_of new) is.devices is.known m event tries start
  led turns m event tries may start stopped opened ran =
      let names = origins_of c.zones.items in
      let at = set_lasts names is.known m.zones start.zones (recoverable_set g tries m event 0 m.zones names is.known is.devices may) (stopped_set tries m event start stopped) in
      let end = set_lasts names is.known start.zones (machine_at_end start ran.0).zones at (run_set (told_by turns) start ran.0 ran.1.runs ran.1.each) in (
        ran.0,
        ran.1,
        (
          (λ within. left (machine_at_end start ran.0) within names is.known ran.2.0 end),
          served_from {I = I} g s (λ x. store_device x) (suc tries) m event start ran.0 (there start ran.0) 0 m.zones is.devices old.pending.items new.pending.items opened.2 opened.1 ran.2.1,
        ),
      )

  -- All turns were made.
  pub served_for : (options : ServeOptions) (before after : Texts) → HasTurned options.turns (λ turns m. AreTurnsTold (telling_for c options) (zone_lines (origins_of c.zones.items) m.zones) m turns before after) (λ m. IsKept old m) (IsLedTo old new) → IsServedFor g (opening ++ closings (devices_of new) c.zones.items) c options before after
  served_for options before after (turns, many, run) = record {
    opening = opening;
    back = devices_of new;
    came = refl;
    turns = turns;
    many = many;
    served = record {
      devices = is.devices;
      given = is.given;
      known = is.known;
      settings = is.settings;
      intact = is.intact;
      recovered = λ m event tries may honest.
          let to = is.recovered m event tries may honest in
          let turned = run to.0 to.2.0 in
          (to.0, to.1, (turned.0, led turns m event tries may to.0 to.1 to.2 turned.1));
    };
  }

  -- Some were.
  pub served_somehow : HasRun (λ m. IsKept old m) (IsLedTo old new) → IsServedSomehow g (opening ++ closings (devices_of new) c.zones.items) c.zones.items
  served_somehow (turns, run) = record {
    opening = opening;
    back = devices_of new;
    came = refl;
    turns = turns;
    served = record {
      devices = is.devices;
      given = is.given;
      known = is.known;
      settings = is.settings;
      intact = is.intact;
      recovered = λ m event tries may honest.
          let to = is.recovered m event tries may honest in
          (to.0, to.1, led turns m event tries may to.0 to.1 to.2 (run to.0 to.2.0));
    };
  }

-- Devices that were opened as zones were intact.
pub all_intact : {D I : Type 0} {g : Ghosts D} (n : ℕ) (apexes : List Labels) (settings : List ZoneSpec) (devices : List D) (zones : List Zone) (pending : List (ZoneVersions I (KeptStore D I g))) → n ≡ length settings → length apexes ≡ length settings → length devices ≡ length settings
    → AreOpened n apexes settings devices zones pending → AreDevicesIntact g apexes settings devices
all_intact n [] [] [] zones pending count named many h = tt
all_intact n (a ∷ apexes) [] devices zones pending count named many h = absurd (omega (arith, named))
all_intact n [] [] (d ∷ devices) zones pending count named many h = absurd (omega (arith, many))
all_intact n [] (s ∷ settings) devices zones pending count named many h = absurd (omega (arith, named))
all_intact n (a ∷ apexes) (s ∷ settings) [] zones pending count named many h = absurd (omega (arith, many))
all_intact zero (a ∷ apexes) (s ∷ settings) (d ∷ devices) zones pending count named many h = absurd (omega (arith, count))
all_intact (suc n) (a ∷ apexes) (s ∷ settings) (d ∷ devices) (z ∷ zones) (b ∷ pending) count named many h =
    (h.0.intact, all_intact n apexes settings devices zones pending (omega (arith, count)) (omega (arith, named)) (omega (arith, many)) h.1)
all_intact (suc n) (a ∷ apexes) (s ∷ settings) (d ∷ devices) [] pending count named many h = absurd h
all_intact (suc n) (a ∷ apexes) (s ∷ settings) (d ∷ devices) (z ∷ zones) [] count named many h = absurd h

-- All turns were made, or the address could not be had.
pub served : {D : Type 0} (g : Ghosts D) (calls : List (DeviceCall D)) (config : File) (c : Configuration) (options : ServeOptions) (before after : Texts) (status : ℕ) → HoldsConfiguration (option_copied config.octets) (Ok c) → IsServedSomehow g calls c.zones.items → (status ≡ 3) ⊎ ((status ≡ 0) × IsServedFor g calls c options before after) → ServingEnds g calls config options before after status
served g calls config c options before after status holds somehow (inr (none, is)) = record {
  done = λ _. (c, holds, is);
  refused = λ one. absurd (omega (arith, none, one));
  others = inl (omega (arith, none));
  called = inr (c, holds, inr somehow);
}
served g calls config c options before after status holds somehow (inl three) = record {
  done = λ none. absurd (omega (arith, none, three));
  refused = λ one. absurd (omega (arith, one, three));
  others = inr three;
  called = inr (c, holds, inr somehow);
}

-- A device is refused.
pub device_refused : {D E : Type 0} (g : Ghosts D) (calls : List (DeviceCall D)) (config : File) (c : Configuration) (options : ServeOptions) (index : ℕ) (fault : DeviceFault) (before after : Texts) (r : Result ℕ E) → HoldsConfiguration (option_copied config.octets) (Ok c) → IsNotServed g calls c.zones.items index fault → IfOk r (IsRefusalTold c.zones.items index fault options.explain before.log after.log) → ServingEnds g calls config options before after (result_unwrap_or r 3)
device_refused g calls config c options index fault before after (Err e) holds not h = serving_failed g calls config options before after (inr (c, holds, inl (index, fault, not)))
device_refused {D = D} g calls config c options index fault before after (Ok status) holds not h = go h
  where
    go : IsRefusalTold c.zones.items index fault options.explain before.log after.log status → ServingEnds g calls config options before after status
    go (inl e) = record { done = λ z. absurd (omega (arith, e, z)); refused = λ z. absurd (omega (arith, e, z)); others = inr e; called = inr (c, holds, inl (index, fault, not)) }
    go (inr told) = record {
      done = λ z. absurd (let one = told.0 in omega (arith, one, z));
      refused = λ _. (_, told.2.2, inr (c, holds, record { index = index; path = told.2.0; fault = fault; at = told.2.1; refused = not; says = refl; status = told.1 }));
      others = inl (let one = told.0 in omega (arith, one));
      called = inr (c, holds, inl (index, fault, not));
    }
