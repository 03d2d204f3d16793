-- The lines of a script, one by one.
use Rattle.std.proofs.Common.{◌≡◌, ℕ, ◌+◌, inl, inr, Option, Some, List, [], ◌∷◌, ◌++◌, refl, sym, ap, subst, ◌∙◌, append-nil, append_assoc}
use Rattle.std.specs.Io.KnownBytes.{Appends, Keeps}
use Rattle.std.proofs.KnownBytes.{Appends-kept}
use Rattle.dns_names.specs.Name.{Labels}
use Rattle.dns_sectors.specs.Device.{Content}
use Rattle.dns_sectors.specs.declared.device.Sectors.{Ghosts}
use Rattle.dns_sectors.specs.declared.memory.Keep as told
use Rattle.dns_zone.specs.declared.index.ZoneIndex as zone_index
use Rattle.dns_store.specs.declared.zone_store.ZoneStore as store
use Rattle.dns_store.specs.declared.kept_store.KeptStore.{KeptStore}
use Rattle.dns_primary.specs.declared.primary.Primary.{Primary}
use Rattle.dns_primary.specs.declared.primary.ZoneSpec.{ZoneSpec}
use Rattle.dns_primary.specs.Machine.{Machine}
use Rattle.dns_primary.specs.HandOut.{AreSetAs}
use Rattle.dns_primary.specs.Runs.{Moment, Run, machine_at_end}
use Rattle.dns_primary.specs.Step.{Flush}
use Rattle.dns_primary.proofs.Brought.{StaysSet, step_set, stopped_set, all_stay_set, stay_set_on}
use Rattle.dns_primary.proofs.StaysSet.{set_lasts}
use Rattle.dns_versions.specs.Each.{Each2}
use Rattle.dns_replay.specs.declared.run.Ending.{Ending}
use Rattle.dns_replay.specs.declared.run.Ending.TheVariants.{Done, Syntax, Refused}
use Rattle.dns_replay.proofs.Printing.{appends_more, nothing_more}
use Rattle.dns_replay.specs.Scripts.{Standing, Takes, Stands, machine_of, Commanded, Nothing, Happens, Plans, Crashes, Reopens, Crash, Led, LeadsByCommand, CrashLeads, LineLeads, LineRefuses, IsNoCommand, Runs, idle}
use Rattle.dns_replay.specs.Keeps.{ZoneKeep}
use Rattle.dns_replay.specs.Crashes.{IsCrash}
use Rattle.dns_replay.specs.Runs.{IsAt, IsKeptOnHonest, IsMachineReached, LeadsOn, RanScript}

-- moments after others
pub runs_joined : (start : Machine) (xs ys : List Moment) → Run start xs → Run (machine_at_end start xs) ys → Run start (xs ++ ys)
runs_joined start [] ys r q = q
runs_joined start (x ∷ xs) ys r q = (r.0, runs_joined _ xs ys r.1 q)

pub last_joined : (start : Machine) (xs ys : List Moment) → machine_at_end start (xs ++ ys) ≡ machine_at_end (machine_at_end start xs) ys
last_joined start [] ys = refl
last_joined start (x ∷ xs) ys = last_joined _ xs ys

-- what is said leads by a run of the machine
pub record IsRunning (s : Standing) (led : Led) : Type 0 where
  pub run : Run (machine_of s) led.moments
  pub set : Each2 StaysSet (machine_of s).zones (machine_of led.standing).zones
  pub last : machine_at_end (machine_of s) led.moments ≡ machine_of led.standing

run_of : (s : Standing) (led is : Led) → led ≡ is → IsRunning s is → IsRunning s led
run_of s led is e r = subst (λ (l : Led). IsRunning s l) (sym e) r

recovers_runs : (names : List Labels) (crash : Crash) (s : Standing) (keeps : List ZoneKeep) (led : Led) → CrashLeads names crash s keeps led → IsRunning s led
recovers_runs names crash (Takes m) keeps led h = run_of (Takes m) led _ h.3 (record { run = (h.1, tt); set = stopped_set 0 m Flush h.0 h.1; last = refl })
recovers_runs names crash (Stands m event tries) keeps led h = run_of (Stands m event tries) led _ h.3 (record { run = (h.1, tt); set = stopped_set tries m event h.0 h.1; last = refl })

pub leads_runs : (names : List Labels) (crash : Crash) (s : Standing) (said : Commanded) (led : Led) → LeadsByCommand names crash s said led → IsRunning s led
leads_runs names crash s Nothing led h = run_of s led (idle s) h (record { run = tt; set = all_stay_set (machine_of s).zones; last = refl })
leads_runs names crash (Takes m) (Happens event) led (inl h) = run_of (Takes m) led _ h.4 (record { run = (h.3, tt); set = step_set h.0 m event h.1 h.2 h.3; last = refl })
leads_runs names crash (Takes m) (Happens event) led (inr h) = run_of (Takes m) led _ h (record { run = tt; set = all_stay_set m.zones; last = refl })
leads_runs names crash (Stands m stopped tries) (Happens event) led h = run_of (Stands m stopped tries) led _ h (record { run = tt; set = all_stay_set m.zones; last = refl })
leads_runs names crash (Takes m) Plans led h = run_of (Takes m) led _ h (record { run = tt; set = all_stay_set m.zones; last = refl })
leads_runs names crash (Stands m event tries) Plans led h = run_of (Stands m event tries) led _ h (record { run = tt; set = all_stay_set m.zones; last = refl })
leads_runs names crash s (Crashes keeps) led h = recovers_runs names crash s keeps led h
leads_runs names crash s (Reopens keeps) led (inl h) = recovers_runs names crash s keeps led h
leads_runs names crash (Takes m) (Reopens keeps) led (inr h) = run_of (Takes m) led _ h.1 (record { run = tt; set = all_stay_set m.zones; last = refl })
leads_runs names crash (Stands m event tries) (Reopens keeps) led (inr h) = run_of (Stands m event tries) led _ h.1 (record { run = tt; set = all_stay_set m.zones; last = refl })

-- A run up to a line: that is printed so far, and what is led to from there on follows it.
pub record IsRunUpTo (names : List Labels) (crash : Crash) (start : Machine) (all : List (List ℕ)) (number : ℕ) (left : List (List ℕ)) (out out_now : Option (List ℕ)) (now : Standing) : Type 0 where
  pub moments : List Moment
  pub text : List ℕ
  pub written : Appends out out_now text
  pub run : Run start moments
  pub set : Each2 StaysSet start.zones (machine_of now).zones
  pub last : machine_at_end start moments ≡ machine_of now
  pub goes_on : (more : Led) (ending : Ending) → Runs names crash now number left more ending → Runs names crash (Takes start) 1 all (record { moments = moments ++ more.moments; text = text ++ more.text; standing = more.standing }) ending

module _ (names : List Labels) (crash : Crash) (start : Machine) (all : List (List ℕ)) where
  pub run_begins : (out : Option (List ℕ)) → IsRunUpTo names crash start all 1 all out out (Takes start)
  run_begins out = record { moments = []; text = []; written = nothing_more out; run = tt; set = all_stay_set start.zones; last = refl; goes_on = λ more ending r. r }

  pub run_more : (number : ℕ) (line : List ℕ) (left whole : List (List ℕ)) (out out_now out_after : Option (List ℕ)) (now : Standing) (first : Led) → whole ≡ line ∷ left → IsRunUpTo names crash start all number whole out out_now now → LineLeads names crash now line first → Appends out_now out_after first.text → IsRunUpTo names crash start all (number + 1) left out out_after first.standing
  run_more number line left whole out out_now out_after now first e h p a =
      let more = leads_runs names crash now _ first p.leads in
      record {
        moments = h.moments ++ first.moments;
        text = h.text ++ first.text;
        written = appends_more out out_now out_after h.text first.text h.written a;
        run = runs_joined start h.moments first.moments h.run (subst (λ (m : Machine). Run m first.moments) (sym h.last) more.run);
        set = stay_set_on start.zones (machine_of now).zones (machine_of first.standing).zones h.set more.set;
        last = last_joined start h.moments first.moments ∙ ap (λ (m : Machine). machine_at_end m first.moments) h.last ∙ more.last;
        goes_on = λ later ending r.
            let whole_led : Led = record { moments = first.moments ++ later.moments; text = first.text ++ later.text; standing = later.standing } in
            let here = h.goes_on whole_led ending (subst (λ (ls : List (List ℕ)). Runs names crash now number ls whole_led ending) (sym e) (inl (first, later, p, r, refl))) in
            subst (λ (ms : List Moment). Runs names crash (Takes start) 1 all (record { moments = ms; text = (h.text ++ first.text) ++ later.text; standing = later.standing }) ending) (sym (append_assoc h.moments first.moments later.moments)) (
            subst (λ (t : List ℕ). Runs names crash (Takes start) 1 all (record { moments = h.moments ++ (first.moments ++ later.moments); text = t; standing = later.standing }) ending) (sym (append_assoc h.text first.text later.text)) here);
      }

  -- where nothing more happens to the machine, and this is printed
  ends_with : (number : ℕ) (left : List (List ℕ)) (out out_now out_after : Option (List ℕ)) (now : Standing) (text : List ℕ) (ending : Ending) → IsRunUpTo names crash start all number left out out_now now → Appends out_now out_after text
      → Runs names crash now number left (record (idle now) { text = text }) ending
      → (led : Led) × Runs names crash (Takes start) 1 all led ending × Run start led.moments × Appends out out_after led.text
  ends_with number left out out_now out_after now text ending h a r =
      let led : Led = record { moments = h.moments ++ []; text = h.text ++ text; standing = now } in
      (led, h.goes_on (record (idle now) { text = text }) ending r, subst (λ (ms : List Moment). Run start ms) (sym (append-nil h.moments)) h.run, appends_more out out_now out_after h.text text h.written a)

  pub run_ends : (number : ℕ) (out out_now : Option (List ℕ)) (now : Standing) → IsRunUpTo names crash start all number [] out out_now now
      → (led : Led) × Runs names crash (Takes start) 1 all led Done × Run start led.moments × Appends out out_now led.text
  run_ends number out out_now now h = ends_with number [] out out_now out_now now [] Done h (nothing_more out_now) (refl, refl)

  pub run_stops : (number : ℕ) (line : List ℕ) (left whole : List (List ℕ)) (out out_now out_after : Option (List ℕ)) (now : Standing) → whole ≡ line ∷ left → IsRunUpTo names crash start all number whole out out_now now → IsNoCommand names line → Keeps out_now out_after
      → (led : Led) × Runs names crash (Takes start) 1 all led (Syntax number) × Run start led.moments × Appends out out_after led.text
  run_stops number line left whole out out_now out_after now e h none keeps =
      ends_with number whole out out_now out_after now [] (Syntax number) h (Appends-kept out_now out_now out_after [] (nothing_more out_now) keeps)
      (subst (λ (ls : List (List ℕ)). Runs names crash now number ls (idle now) (Syntax number)) (sym e) (inr (inl (none, refl, refl))))

  pub run_refused : (number : ℕ) (line : List ℕ) (left whole : List (List ℕ)) (out out_now out_after : Option (List ℕ)) (now : Standing) (text : List ℕ) → whole ≡ line ∷ left → IsRunUpTo names crash start all number whole out out_now now → LineRefuses names line text → Appends out_now out_after text
      → (led : Led) × Runs names crash (Takes start) 1 all led Refused × Run start led.moments × Appends out out_after led.text
  run_refused number line left whole out out_now out_after now text e h refuses a =
      ends_with number whole out out_now out_after now text Refused h a
      (subst (λ (ls : List (List ℕ)). Runs names crash now number ls (record (idle now) { text = text }) Refused) (sym e) (inr (inr (text, refuses, refl, refl))))

-- The same over what a primary and its devices stand for, whatever machine the first one kept.
module _ {D I : Type 0} {g : Ghosts D} {i : zone_index.Ghosts I} {s : store.Ghosts (KeptStore D I g)} (left_by : D → told.Keep → Content) (names : List Labels) (settings : List ZoneSpec) (all : List (List ℕ)) (first : Primary I (KeptStore D I g) i s) where
  abbrev pub AreRunUpTo : ℕ → List (List ℕ) → Option (List ℕ) → Option (List ℕ) → Option (Primary I (KeptStore D I g) i s) → List D → Type 0
  AreRunUpTo number left out out_now p devices =
      (start : Machine) → IsMachineReached names settings start → IsKeptOnHonest first start → (now : Standing) × IsRunUpTo names (IsCrash g left_by names settings) start all number left out out_now now × IsAt names settings p devices now

  pub begin_all : (out : Option (List ℕ)) (devices : List D) → AreRunUpTo 1 all out out (Some first) devices
  begin_all out devices start reached kept = (Takes start, run_begins names (IsCrash g left_by names settings) start all out, kept)

  set_now : (start : Machine) (number : ℕ) (left : List (List ℕ)) (out out_now : Option (List ℕ)) (now : Standing) → IsMachineReached names settings start → IsRunUpTo names (IsCrash g left_by names settings) start all number left out out_now now → AreSetAs names settings (machine_of now).zones
  set_now start number left out out_now now reached h = set_lasts names settings start.zones (machine_of now).zones reached.set h.set

  pub more_all : (number : ℕ) (line : List ℕ) (left whole : List (List ℕ)) (out out_now out_after : Option (List ℕ)) (p q : Option (Primary I (KeptStore D I g) i s)) (devices rest : List D) → whole ≡ line ∷ left → AreRunUpTo number whole out out_now p devices
      → LeadsOn names settings (λ from led. LineLeads names (IsCrash g left_by names settings) from line led) p devices q rest out_now out_after → AreRunUpTo (number + 1) left out out_after q rest
  more_all number line left whole out out_now out_after p q devices rest e h does start reached kept =
      let here = h start reached kept in
      let next = does here.0 here.2 (set_now start number whole out out_now here.0 reached here.1) in
      (next.0.standing, run_more names (IsCrash g left_by names settings) start all number line left whole out out_now out_after here.0 next.0 e here.1 next.1 next.2, next.3)

  pub ends_all : (number : ℕ) (out out_now : Option (List ℕ)) (p : Option (Primary I (KeptStore D I g) i s)) (devices : List D) → AreRunUpTo number [] out out_now p devices → RanScript left_by names settings all Done first out out_now
  ends_all number out out_now p devices h start reached kept = (let here = h start reached kept in run_ends names (IsCrash g left_by names settings) start all number out out_now here.0 here.1)

  pub stops_all : (number : ℕ) (line : List ℕ) (left whole : List (List ℕ)) (out out_now out_after : Option (List ℕ)) (p : Option (Primary I (KeptStore D I g) i s)) (devices : List D) → whole ≡ line ∷ left → AreRunUpTo number whole out out_now p devices → IsNoCommand names line → Keeps out_now out_after → RanScript left_by names settings all (Syntax number) first out out_after
  stops_all number line left whole out out_now out_after p devices e h none keeps start reached kept =
      let here = h start reached kept in run_stops names (IsCrash g left_by names settings) start all number line left whole out out_now out_after here.0 e here.1 none keeps

  pub refused_all : (number : ℕ) (line : List ℕ) (left whole : List (List ℕ)) (out out_now out_after : Option (List ℕ)) (p : Option (Primary I (KeptStore D I g) i s)) (devices : List D) (text : List ℕ) → whole ≡ line ∷ left → AreRunUpTo number whole out out_now p devices → LineRefuses names line text → Appends out_now out_after text → RanScript left_by names settings all Refused first out out_after
  refused_all number line left whole out out_now out_after p devices text e h refuses a start reached kept =
      let here = h start reached kept in run_refused names (IsCrash g left_by names settings) start all number line left whole out out_now out_after here.0 text e here.1 refuses a
