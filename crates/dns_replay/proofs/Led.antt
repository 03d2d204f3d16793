-- What commands lead to, over a primary and its devices.
use Rattle.std.proofs.Common.{◌≡◌, inl, inr, ℕ, suc, Option, Some, None, Result, Ok, Err, IfOk, MatchResult, List, [], ◌∷◌, length, refl, sym, subst}
use Rattle.std.specs.Prelude.{slice_get}
use Rattle.std.specs.Io.KnownBytes.{Appends}
use Rattle.dns_names.specs.Name.{Labels}
use Rattle.dns_sectors.specs.Device.{Content}
use Rattle.dns_sectors.specs.declared.device.Sectors.{Ghosts}
use Rattle.dns_sectors.specs.declared.memory.Keep as told
use Rattle.dns_zone.specs.declared.index.ZoneIndex as zone_index
use Rattle.dns_store.specs.declared.zone_store.ZoneStore as store
use Rattle.dns_store.specs.declared.kept_store.KeptStore.{KeptStore}
use Rattle.dns_versions.specs.Each.{Each2}
use Rattle.dns_primary.specs.declared.event.Effects.{Effects as Code}
use Rattle.dns_primary.specs.declared.open.NotOpened.{NotOpened}
use Rattle.dns_primary.specs.declared.primary.Primary.{Primary}
use Rattle.dns_primary.specs.declared.primary.ZoneSpec.{ZoneSpec}
use Rattle.dns_primary.specs.Machine.{Machine}
use Rattle.dns_primary.specs.Keeps.{IsKept, AreEffects}
use Rattle.dns_primary.specs.Step.{Event, Effects, Flush}
use Rattle.dns_primary.specs.Steps.{SteppedBy}
use Rattle.dns_primary.specs.Stop.{IsStopped}
use Rattle.dns_primary.specs.Open.{AreAsHonest, AreDevicesOf, AreHonest, AreRecoverable, IsRecoveredOn, StayDevicesOf, devices_of}
use Rattle.dns_primary.specs.HandOut.{AreSetAs, LeavesAtRest, LeavesWithin}
use Rattle.dns_primary.specs.Runs.{Took, Stopped}
use Rattle.dns_replay.specs.Commands.{Command, SaysCommand}
use Rattle.dns_replay.specs.declared.run.After.{After}
use Rattle.dns_replay.specs.declared.run.After.TheVariants.{GoesOn, NoCommand, Refused}
use Rattle.dns_replay.specs.Scripts.{Standing, Takes, Stands, machine_of, event_in, tries_in, Commanded, Nothing, Happens, Plans, Led, EventLeads, LeadsByCommand, PlanLeads, CrashLeads, idle, halted, commanded_by, printed_effects, printed_refusal, printed_stop, recovered_zones}
use Rattle.dns_replay.specs.Keeps.{ZoneKeep}
use Rattle.dns_replay.specs.Crashes.{AreHonestDevicesOf, AreLeftBy, IsCrash}
use Rattle.dns_replay.specs.Runs.{AreSame, AreTakenOf, DoesBy, IsKeptOnHonest, IsOpeningRefused, LeadsOn, LineDoes, crash_by}
use Rattle.dns_replay.proofs.Crashed.{crashed_recoverable, reset_recoverable, same_back}
use Rattle.dns_replay.proofs.Reopened.{opened_over}
use Rattle.dns_replay.proofs.Honest.{as_honest, crashed_honest}
use Rattle.dns_replay.proofs.Printing.{nothing_more}

module _ {D I : Type 0} {g : Ghosts D} {i : zone_index.Ghosts I} {s : store.Ghosts (KeptStore D I g)} (names : List Labels) (settings : List ZoneSpec) where
  -- after a stop an event is told as one
  pub still_halted : (event : Event) (p q : Option (Primary I (KeptStore D I g) i s)) (devices : List D) (out out_after : Option (List ℕ)) → p ≡ None → q ≡ None → Appends out out_after printed_stop
      → LeadsOn names settings (λ from led. EventLeads names from event led) p devices q devices out out_after
  still_halted event (Some p) q devices out out_after e f a from at set = absurd cc
  still_halted event None (Some q) devices out out_after e f a from at set = absurd cc
  still_halted event None None devices out out_after e f a (Takes m) at set = absurd at
  still_halted event None None devices out out_after e f a (Stands m stopped tries) at set = (halted m stopped tries, refl, a, at)

  -- of the primary that was there
  pub leads_from : (leads : Standing → Led → Type 0) (o : Option (Primary I (KeptStore D I g) i s)) (p : Primary I (KeptStore D I g) i s) (devices : List D) (q : Option (Primary I (KeptStore D I g) i s)) (rest : List D) (out out_after : Option (List ℕ)) → o ≡ Some p
      → LeadsOn names settings leads (Some p) devices q rest out out_after → LeadsOn names settings leads o devices q rest out out_after
  leads_from leads o p devices q rest out out_after e h = subst (λ (x : Option (Primary I (KeptStore D I g) i s)). LeadsOn names settings leads x devices q rest out out_after) (sym e) h

  pub plan_halted : (p : Option (Primary I (KeptStore D I g) i s)) (devices : List D) (out out_after : Option (List ℕ)) → p ≡ None → Appends out out_after printed_stop
      → LeadsOn names settings PlanLeads p devices p devices out out_after
  plan_halted (Some p) devices out out_after e a from at set = absurd cc
  plan_halted None devices out out_after e a (Takes m) at set = absurd at
  plan_halted None devices out out_after e a (Stands m stopped tries) at set = (halted m stopped tries, refl, a, at)

  pub planned : {p : Primary I (KeptStore D I g) i s} (o : Option (Primary I (KeptStore D I g) i s)) (devices : List D) (out : Option (List ℕ)) → o ≡ Some p
      → LeadsOn names settings PlanLeads o devices o devices out out
  planned None devices out e from at set = absurd cc
  planned (Some p) devices out e (Takes m) at set = (idle (Takes m), refl, nothing_more out, at)
  planned (Some p) devices out e (Stands m stopped tries) at set = absurd at

  -- the devices stay honest in an event
  abbrev pub StaysHonest : Event → Primary I (KeptStore D I g) i s → Primary I (KeptStore D I g) i s → Code → Type 0
  StaysHonest event p q effects = (m : Machine) → SteppedBy m event p q effects → AreHonest g (devices_of p) → AreHonest g (devices_of q)

  -- a stop fell in an event
  pub now_halted : (event : Event) (p q : Primary I (KeptStore D I g) i s) (effects : Code) (devices left : List D) (out out_after : Option (List ℕ))
      → ((m : Machine) → IsKept p m → SteppedBy m event p q effects)
      → StaysHonest event p q effects
      → left ≡ devices_of q
      → LeavesWithin g q left
      → Appends out out_after printed_stop
      → LeadsOn names settings (λ from led. EventLeads names from event led) (Some p) devices None left out out_after
  now_halted event p q effects devices left out out_after steps stays are leaves a (Takes m) at set =
      let st = steps m at.0 in
      (halted m event 0, inr refl, a, (leaves m event p effects names settings st set, subst (λ (l : List D). AreHonest g l) (sym are) (stays m st at.1)))
  now_halted event p q effects devices left out out_after steps stays are leaves a (Stands m stopped tries) at set = absurd at

  -- an event happened
  pub happened : (event : Event) (p q : Primary I (KeptStore D I g) i s) (effects : Code) (devices left : List D) (out out_after : Option (List ℕ))
      → ((m : Machine) → IsKept p m → SteppedBy m event p q effects)
      → StaysHonest event p q effects
      → ((stated : Effects) → AreEffects stated effects → Appends out out_after (printed_effects names event stated))
      → LeadsOn names settings (λ from led. EventLeads names from event led) (Some p) devices (Some q) left out out_after
  happened event p q effects devices left out out_after steps stays prints (Takes m) at set =
      let st = steps m at.0 in (
        record { moments = Took event st.fails st.stated st.next ∷ []; text = printed_effects names event st.stated; standing = Takes st.next },
        inl (st.fails, st.stated, st.next, st.is, refl),
        prints st.stated st.effects_are,
        (st.kept, stays m st at.1),
      )
  happened event p q effects devices left out out_after steps stays prints (Stands m stopped tries) at set = absurd at

  -- stores that were opened, or refused
  pub opened_ok : (crashed : List D) (opened : Result (Primary I (KeptStore D I g) i s) (NotOpened D)) (q : Primary I (KeptStore D I g) i s) → opened ≡ Ok q
      → ((m : Machine) (event : Event) (tries : ℕ) → AreHonestDevicesOf g tries m event names settings crashed → MatchResult opened (λ p. (new : Machine) × IsStopped tries m event new × IsKeptOnHonest p new) (λ e. AreHonestDevicesOf g (suc tries) m event names settings e.devices.items))
      → (m : Machine) (event : Event) (tries : ℕ) → AreHonestDevicesOf g tries m event names settings crashed → (new : Machine) × IsStopped tries m event new × IsKeptOnHonest q new
  opened_ok crashed (Ok p) q e h m event tries r = (let is : p ≡ q = cc e in subst (λ (x : Primary I (KeptStore D I g) i s). (new : Machine) × IsStopped tries m event new × IsKeptOnHonest x new) is (h m event tries r))
  opened_ok crashed (Err p) q e h m event tries r = absurd cc

  pub opened_err : (crashed : List D) (opened : Result (Primary I (KeptStore D I g) i s) (NotOpened D)) (q : NotOpened D) → opened ≡ Err q
      → ((m : Machine) (event : Event) (tries : ℕ) → AreHonestDevicesOf g tries m event names settings crashed → MatchResult opened (λ p. (new : Machine) × IsStopped tries m event new × IsKeptOnHonest p new) (λ e. AreHonestDevicesOf g (suc tries) m event names settings e.devices.items))
      → (m : Machine) (event : Event) (tries : ℕ) → AreHonestDevicesOf g tries m event names settings crashed → AreHonestDevicesOf g (suc tries) m event names settings q.devices.items
  opened_err crashed (Ok p) q e h m event tries r = absurd cc
  opened_err crashed (Err p) q e h m event tries r = (let is : p ≡ q = cc e in subst (λ (x : NotOpened D). AreHonestDevicesOf g (suc tries) m event names settings x.devices.items) is (h m event tries r))

  -- ... with the same settings
  pub opened_again : (m : Machine) (event : Event) (tries : ℕ) (again : List ZoneSpec) (devices : List D) (r : Result (Primary I (KeptStore D I g) i s) (NotOpened D)) → Each2 AreSame settings again
      → AreHonest g devices
      → MatchResult r (λ p. AreAsHonest g devices (devices_of p)) (λ e. AreAsHonest g devices e.devices.items)
      → MatchResult r (IsRecoveredOn tries m event devices) (StayDevicesOf g tries m event names again devices)
      → MatchResult r (λ p. (new : Machine) × IsStopped tries m event new × IsKeptOnHonest p new) (λ e. AreHonestDevicesOf g (suc tries) m event names settings e.devices.items)
  opened_again m event tries again devices (Ok p) same honest still h =
      let by = h.1 honest in
      (by.0, by.1, (by.2, as_honest g devices (devices_of p) still honest))
  opened_again m event tries again devices (Err e) same honest still h =
      (reset_recoverable g (suc tries) m event 0 m.zones names again settings e.devices.items (same_back settings again same) h.0, as_honest g devices e.devices.items still honest)

-- what is said leads on
module _ {D I : Type 0} {g : Ghosts D} {i : zone_index.Ghosts I} {s : store.Ghosts (KeptStore D I g)} (kept : D → told.Keep → Content) (names : List Labels) (settings : List ZoneSpec) where
  -- a crash, and all stores were opened
  pub recovers : (stays : (device : D) → g.is_honest device → g.may_leave device (g.seen device)) (keeps : List ZoneKeep) (stop : Option ℕ) (o : Option (Primary I (KeptStore D I g) i s)) (q : Primary I (KeptStore D I g) i s) (devices left crashed rest : List D) (out out_after : Option (List ℕ))
      → AreTakenOf o devices left
      → AreLeftBy g kept keeps 0 left crashed
      → ((m : Machine) (event : Event) (tries : ℕ) → AreHonestDevicesOf g tries m event names settings crashed → (new : Machine) × IsStopped tries m event new × IsKeptOnHonest q new)
      → ((m : Machine) → IsKept q m → Appends out out_after (recovered_zones names m.zones (length names)))
      → DoesBy kept names settings (crash_by keeps stop) o devices (Some q) rest out out_after GoesOn
  recovers stays keeps stop o q devices left crashed rest out out_after takes each opens prints from at set =
      let m = machine_of from in
      let event = event_in from in
      let tries = tries_in from in
      let stood = takes names settings from at set in
      let new = opened_over g stays tries m event (λ (x : Machine). IsKeptOnHonest q x) kept keeps names settings left crashed stood each opens in
      let led : Led = record { moments = Stopped event tries new.0 ∷ []; text = recovered_zones names new.0.zones (length names); standing = Takes new.0 } in
      (led, does stop (new.0, new.1, (crashed, record { before = left; honest = stood.1; stood = stood.0; left = each }, new.3), refl), prints new.0 new.2.0, new.2)
    where
      does : (stop : Option ℕ) {led : Led} → CrashLeads names (IsCrash g kept names settings) from keeps led → LeadsByCommand names (IsCrash g kept names settings) from (crash_by keeps stop) led
      does None h = h
      does (Some n) h = inl h

  -- a store was refused after a crash
  pub refused : (keeps : List ZoneKeep) (stop : Option ℕ) (after : After) (o : Option (Primary I (KeptStore D I g) i s)) (devices left crashed back rest : List D) (out out_after : Option (List ℕ))
      → AreTakenOf o devices left
      → AreLeftBy g kept keeps 0 left crashed
      → ((m : Machine) (event : Event) (tries : ℕ) → AreHonestDevicesOf g tries m event names settings crashed → AreHonestDevicesOf g (suc tries) m event names settings back)
      → IsOpeningRefused names stop back rest out out_after after
      → DoesBy kept names settings (crash_by keeps stop) o devices None rest out out_after after
  refused keeps None GoesOn o devices left crashed back rest out out_after takes each opens h = λ from at set. absurd (let e = h.0 in cc e)
  refused keeps (Some n) GoesOn o devices left crashed back rest out out_after takes each opens h = λ from at set.
      let m = machine_of from in
      let event = event_in from in
      let tries = tries_in from in
      let stood = takes names settings from at set in
      let are = opens m event tries (crashed_recoverable g tries m event kept keeps 0 0 m.zones names settings left crashed stood.0 stood.1 each, crashed_honest g kept keeps 0 left crashed each stood.1) in
      (halted m event (suc tries), inr ((crashed, record { before = left; honest = stood.1; stood = stood.0; left = each }), refl), h.2, subst (λ (l : List D). AreHonestDevicesOf g (suc tries) m event names settings l) (sym h.1) are)
  refused keeps None Refused o devices left crashed back rest out out_after takes each opens h = (tt, h)
  refused keeps (Some n) Refused o devices left crashed back rest out out_after takes each opens h = (tt, h)
  refused keeps stop NoCommand o devices left crashed back rest out out_after takes each opens h = absurd h

  pub refused_in : {E : Type 0} (keeps : List ZoneKeep) (stop : Option ℕ) (r : Result After E) (o q : Option (Primary I (KeptStore D I g) i s)) (devices left crashed back rest : List D) (out out_after : Option (List ℕ)) → q ≡ None
      → AreTakenOf o devices left
      → AreLeftBy g kept keeps 0 left crashed
      → ((m : Machine) (event : Event) (tries : ℕ) → AreHonestDevicesOf g tries m event names settings crashed → AreHonestDevicesOf g (suc tries) m event names settings back)
      → IfOk r (IsOpeningRefused names stop back rest out out_after)
      → IfOk r (DoesBy kept names settings (crash_by keeps stop) o devices q rest out out_after)
  refused_in keeps stop (Err e) o q devices left crashed back rest out out_after none takes each opens h = tt
  refused_in keeps stop (Ok after) o q devices left crashed back rest out out_after none takes each opens h =
      subst (λ (x : Option (Primary I (KeptStore D I g) i s)). DoesBy kept names settings (crash_by keeps stop) o devices x rest out out_after after) (sym none) (refused keeps stop after o devices left crashed back rest out out_after takes each opens h)

  -- all commands
  pub does_nothing : (p : Option (Primary I (KeptStore D I g) i s)) (devices : List D) (out : Option (List ℕ)) → LeadsOn names settings (λ from led. LeadsByCommand names (IsCrash g kept names settings) from Nothing led) p devices p devices out out
  does_nothing p devices out from at set = (idle from, refl, nothing_more out, at)

  pub does_event : {E : Type 0} (event : Event) (r : Result After E) (p q : Option (Primary I (KeptStore D I g) i s)) (devices left : List D) (out out_after : Option (List ℕ))
      → IfOk r (λ after. (after ≡ GoesOn) × LeadsOn names settings (λ from led. EventLeads names from event led) p devices q left out out_after)
      → IfOk r (DoesBy kept names settings (Happens event) p devices q left out out_after)
  does_event event (Err e) p q devices left out out_after h = tt
  does_event event (Ok GoesOn) p q devices left out out_after h = h.1
  does_event event (Ok NoCommand) p q devices left out out_after h = absurd (let e = h.0 in cc e)
  does_event event (Ok Refused) p q devices left out out_after h = absurd (let e = h.0 in cc e)

  pub does_said : {E : Type 0} (said : Commanded) (event : Event) (r : Result After E) (p q : Option (Primary I (KeptStore D I g) i s)) (devices left : List D) (out out_after : Option (List ℕ)) → said ≡ Happens event
      → IfOk r (λ after. (after ≡ GoesOn) × LeadsOn names settings (λ from led. EventLeads names from event led) p devices q left out out_after)
      → IfOk r (DoesBy kept names settings said p devices q left out out_after)
  does_said said event r p q devices left out out_after e h = subst (λ (x : Commanded). IfOk r (DoesBy kept names settings x p devices q left out out_after)) (sym e) (does_event event r p q devices left out out_after h)

  pub does_plan : {E : Type 0} (r : Result After E) (p : Option (Primary I (KeptStore D I g) i s)) (devices : List D) (out out_after : Option (List ℕ))
      → IfOk r (λ after. (after ≡ GoesOn) × LeadsOn names settings PlanLeads p devices p devices out out_after)
      → IfOk r (DoesBy kept names settings Plans p devices p devices out out_after)
  does_plan (Err e) p devices out out_after h = tt
  does_plan (Ok GoesOn) p devices out out_after h = h.1
  does_plan (Ok NoCommand) p devices out out_after h = absurd (let e = h.0 in cc e)
  does_plan (Ok Refused) p devices out out_after h = absurd (let e = h.0 in cc e)

  -- the line that says it
  pub line_does : {E : Type 0} (line : List ℕ) (command : Command) (r : Result After E) (p q : Option (Primary I (KeptStore D I g) i s)) (devices left : List D) (out out_after : Option (List ℕ)) → SaysCommand names line command
      → IfOk r (DoesBy kept names settings (commanded_by command) p devices q left out out_after)
      → IfOk r (LineDoes kept names settings line p devices q left out out_after)
  line_does line command (Err e) p q devices left out out_after says h = tt
  line_does line command (Ok GoesOn) p q devices left out out_after says h = λ from at set.
      let does = h from at set in
      (does.0, record { command = command; says = says; leads = does.1 }, does.2, does.3)
  line_does line command (Ok Refused) p q devices left out out_after says h =
      (printed_refusal (slice_get names h.1.index) h.1.error, record { command = command; says = says; crashes = h.0; index = h.1.index; error = h.1.error; printed = refl }, h.1.printed)
  line_does line command (Ok NoCommand) p q devices left out out_after says h = absurd h

-- the devices of a primary that was there, or those that were left
module _ {D I : Type 0} {g : Ghosts D} {i : zone_index.Ghosts I} {s : store.Ghosts (KeptStore D I g)} where
  pub taken_running : (o : Option (Primary I (KeptStore D I g) i s)) (p : Primary I (KeptStore D I g) i s) (devices left : List D) → o ≡ Some p
      → left ≡ devices_of p
      → LeavesAtRest g p left
      → AreTakenOf o devices left
  taken_running None p devices left e are h names settings from at set = absurd cc
  taken_running (Some r) p devices left e are h names settings (Takes m) at set =
      let is : r ≡ p = cc e in
      let now = subst (λ (x : Primary I (KeptStore D I g) i s). IsKeptOnHonest x m) is at in
      (h m Flush names settings now.0 set, subst (λ (l : List D). AreHonest g l) (sym are) now.1)
  taken_running (Some r) p devices left e are h names settings (Stands m event tries) at set = absurd at

  pub taken_left : (o : Option (Primary I (KeptStore D I g) i s)) (devices left : List D) → o ≡ None → left ≡ devices
      → AreTakenOf o devices left
  taken_left (Some r) devices left e same names settings from at set = absurd cc
  taken_left None devices left e same names settings (Takes m) at set = absurd at
  taken_left None devices left e same names settings (Stands m event tries) at set = subst (λ (l : List D). AreHonestDevicesOf g tries m event names settings l) (sym same) at
