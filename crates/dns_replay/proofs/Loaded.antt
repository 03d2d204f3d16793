-- Machines to which nothing has happened, and the devices that were made for their zones.
use Rattle.std.proofs.Common.{◌≡◌, ◌≤◌, ◌<◌, ℕ, zero, suc, take, Some, None, Option, Bool, true, false, inl, inr, List, [], ◌∷◌, ◌++◌, map, length, refl, sym, ap, subst, ◌∙◌, append-nil, arith}
use Rattle.std.specs.Prelude.{nat_le, slice_index_or}
use Rattle.std.proofs.lemmas.Bool.Decides.{nat_tests}
use Rattle.dns_names.specs.Name.{Labels}
use Rattle.dns_zone.specs.Zone.{Zone}
use Rattle.dns_sectors.specs.declared.device.Sectors.{Ghosts}
use Rattle.dns_store.specs.Versions.{Shape, Opened}
use Rattle.dns_store.specs.Opens.{opens}
use Rattle.dns_store.specs.Opening.{IsInRange}
use Rattle.dns_store.specs.Formatting.{IsGeometry, first_of}
use Rattle.dns_versions.specs.Each.{Each2, Each3}
use Rattle.dns_primary.specs.declared.primary.ZoneSpec.{ZoneSpec}
use Rattle.dns_primary.specs.Machine.{Made, Machine, ZoneState, versions_of}
use Rattle.dns_primary.specs.Step.{Event, Flush}
use Rattle.dns_primary.specs.Stop.{IsMaking, IsRecovered, AreRecovered, IsStopped, reopened_as}
use Rattle.dns_primary.specs.Fresh.{IsLoaded, IsFresh}
use Rattle.dns_primary.specs.Open.{AreAsHonest, AreDevicesOf, AreRecoverable, IsRecoverable, IsRecoveredOn, devices_of, shape_of}
use Rattle.dns_primary.specs.HandOut.{AreSetAs}
use Rattle.dns_replay.specs.Made.{IsMadeOf}
use Rattle.std.specs.Io.KnownBytes.{Appends}
use Rattle.dns_zone.specs.declared.index.ZoneIndex as zone_index
use Rattle.dns_store.specs.declared.zone_store.ZoneStore as store
use Rattle.dns_store.specs.declared.kept_store.KeptStore.{KeptStore}
use Rattle.dns_primary.specs.declared.primary.Primary.{Primary}
use Rattle.dns_primary.specs.Keeps.{IsKept}
use Rattle.dns_primary.specs.Runs.{Run}
use Rattle.dns_replay.specs.declared.run.Ending.{Ending}
use Rattle.dns_replay.specs.Scripts.{Led, Runs, Takes}
use Rattle.dns_replay.specs.Crashes.{IsCrash}
use Rattle.dns_replay.specs.Runs.{AreSame, RanScript, RunsFrom}
use Rattle.dns_primary.proofs.Begun.{fresh_machine}
use Rattle.dns_sectors.specs.Device.{Content}
use Rattle.dns_sectors.specs.declared.memory.Keep as told
use Rattle.dns_replay.proofs.Crashed.{reset_recoverable}
use Rattle.dns_replay.proofs.Reopened.{none_kept, none_moved}
use Rattle.dns_replay.proofs.Honest.{as_honest, made_honest}

-- sizes that are not refused
pub in_range : (snapshot journal count : ℕ) → ((IsGeometry snapshot journal count → ⊥) → ⊥) → IsInRange snapshot journal
in_range snapshot journal count h = record {
  parts = within (nat_le snapshot 65536) refl (λ no. h (λ is. absurd (omega (arith, no, is.parts))));
  entries = within (nat_le journal 65536) refl (λ no. h (λ is. absurd (omega (arith, no, is.entries))));
}
  where
    within : {n : ℕ} (b : Bool) → nat_le n 65536 ≡ b → ((n ≤ 65536 → ⊥) → ⊥) → n ≤ 65536
    within {n} true e f = grind (arith, nat_tests, e)
    within {n} false e f = absurd (f (λ is. grind (arith, nat_tests, e, is)))

-- the zone before its store was opened
abbrev pub unopened : ZoneState → ZoneState
unopened z = record z { openings = 0 }

abbrev pub all_unopened : List ZoneState → List ZoneState
all_unopened [] = []
all_unopened (z ∷ zones) = unopened z ∷ all_unopened zones

module _ {D : Type 0} (g : Ghosts D) (m : Machine) where
  made_recoverable : (making : ℕ → Type 0) (y : Zone) (s : ZoneSpec) (z : ZoneState) (d : D) → IsMadeOf g y s d → IsLoaded y s z → IsRecoverable g 0 making (unopened z) y.apex s d
  made_recoverable making y s z d made is = record {
    shape = is.shape;
    set = record { keep = is.set.keep; update = is.set.update; transfer = is.set.transfer };
    range = made.range;
    leaves = λ _ c left.
        let opened : first_of y.records ≡ reopened_as (unopened z) = λ i. record { loaded = sym is.loaded i; versions = versions_of (sym is.shown i); base = sym is.base i; openings = 0; altered = sym is.altered i } in
        let recovered : IsRecovered 0 0 making (unopened z) (unopened z) = record {
          setting = refl;
          loaded = refl;
          kept = [];
          lost = [];
          front = is.staged;
          shown = sym (append-nil z.shown);
          staged = is.staged;
          base = inl refl;
          so_far = omega (arith, is.base);
          second = is.second;
          altered = refl;
          opened = is.opened;
          at_least = omega arith;
          at_most = omega arith;
        } in
        (unopened z, recovered, subst (λ (x : Shape). opens x (reopened_as (unopened z)) c) (sym is.shape) (subst (λ (o : Opened). opens (shape_of y.apex s) o c) opened (made.leaves c left)));
  }

  pub all_recoverable : (event : Event) (index : ℕ) (zones : List Zone) (settings : List ZoneSpec) (states : List ZoneState) (devices : List D) → Each3 (IsMadeOf g) zones settings devices → Each3 IsLoaded zones settings states → AreRecoverable g 0 m event index (all_unopened states) (map (λ z. z.apex) zones) settings devices
  all_recoverable event index [] [] [] [] made each = tt
  all_recoverable event index (y ∷ zones) (s ∷ settings) (z ∷ states) (d ∷ devices) made each =
      (made_recoverable (IsMaking m event index (unopened z)) y s z d made.0 each.0, all_recoverable event (suc index) zones settings states devices made.1 each.1)
  all_recoverable event index zones settings [] (d ∷ devices) made each = none zones settings each made
    where
      none : (zones : List Zone) (settings : List ZoneSpec) → Each3 IsLoaded zones settings [] → Each3 (IsMadeOf g) zones settings (d ∷ devices) → AreRecoverable g 0 m event index [] (map (λ z. z.apex) zones) settings (d ∷ devices)
      none [] [] each made = absurd made
      none [] (s ∷ settings) each made = absurd each
      none (y ∷ zones) [] each made = absurd each
      none (y ∷ zones) (s ∷ settings) each made = absurd each
  all_recoverable event index zones settings (z ∷ states) [] made each = none zones settings each made
    where
      none : (zones : List Zone) (settings : List ZoneSpec) → Each3 IsLoaded zones settings (z ∷ states) → Each3 (IsMadeOf g) zones settings [] → AreRecoverable g 0 m event index (all_unopened (z ∷ states)) (map (λ z. z.apex) zones) settings []
      none [] [] each made = absurd each
      none [] (s ∷ settings) each made = absurd each
      none (y ∷ zones) [] each made = absurd each
      none (y ∷ zones) (s ∷ settings) each made = absurd made
  all_recoverable event index _ _ _ _ made each = absurd each

pub all_set : {D : Type 0} (g : Ghosts D) (zones : List Zone) (settings : List ZoneSpec) (states : List ZoneState) (devices : List D) → Each3 (IsMadeOf g) zones settings devices → Each3 IsLoaded zones settings states → AreSetAs (map (λ z. z.apex) zones) settings states
all_set g [] [] [] [] made each = tt
all_set g (y ∷ zones) (s ∷ settings) (z ∷ states) (d ∷ devices) made each =
    (record { shape = each.0.shape; set = each.0.set; range = made.0.range }, all_set g zones settings states devices made.1 each.1)
all_set g [] [] (z ∷ states) devices made each = absurd each
all_set g [] (s ∷ settings) [] devices made each = absurd each
all_set g [] (s ∷ settings) (z ∷ states) devices made each = absurd each
all_set g (y ∷ zones) [] [] devices made each = absurd each
all_set g (y ∷ zones) [] (z ∷ states) devices made each = absurd each
all_set g (y ∷ zones) (s ∷ settings) [] devices made each = absurd each
all_set g [] [] [] (d ∷ devices) made each = absurd made
all_set g (y ∷ zones) (s ∷ settings) (z ∷ states) [] made each = absurd made

-- a machine to which nothing has happened, after a stop before its first event
same_zone : (m : Machine) (index : ℕ) (y : Zone) (s : ZoneSpec) (z w : ZoneState) → IsLoaded y s z → IsRecovered 1 1 (IsMaking m Flush index (unopened z)) (unopened z) w → w ≡ z
same_zone m index y s z w is r =
    let kept = none_kept r.kept r.lost (sym is.staged ∙ r.front) in
    let shown : w.shown ≡ z.shown = r.shown ∙ ap (λ (l : List Made). z.shown ++ l) kept ∙ append-nil z.shown in
    let least = r.at_least in
    let most = r.at_most in
    let once : w.openings ≡ z.openings = (let is_one = is.openings in omega (arith, least, most, is_one)) in
    let base : w.base ≡ z.base = elim (r.base) [
      | inl e ↦ e
      | inr h ↦ elim h [
        | inl e ↦ (let never : None ≡ Some w.base = sym is.second ∙ e in absurd cc)
        | inr making ↦ absurd (none_moved (index, making.1.0) making.1.1)
      ]
    ] in
    λ i. record {
      setting = r.setting i;
      loaded = r.loaded i;
      shown = shown i;
      staged = (r.staged ∙ sym is.staged) i;
      base = base i;
      second = (r.second ∙ sym is.second) i;
      openings = once i;
      altered = r.altered i;
      closed = (r.opened ∙ sym is.opened) i;
    }

same_zones : (m : Machine) (index : ℕ) (zones : List Zone) (settings : List ZoneSpec) (olds news : List ZoneState) → Each3 IsLoaded zones settings olds → AreRecovered 1 1 m Flush index (all_unopened olds) news → news ≡ olds
same_zones m index [] [] [] [] each r = refl
same_zones m index (y ∷ zones) (s ∷ settings) (z ∷ olds) (w ∷ news) each r = (let one = same_zone m index y s z w each.0 r.0 in let rest = same_zones m (suc index) zones settings olds news each.1 r.1 in λ i. one i ∷ rest i)
same_zones m index zones settings [] (w ∷ news) each r = absurd r
same_zones m index zones settings (z ∷ olds) [] each r = absurd r
same_zones m index _ _ _ _ each r = absurd each

-- the machine before its stores were opened
abbrev pub before_opening : Machine → Machine
before_opening m = record m { zones = all_unopened m.zones }

pub same_machine : (zones : List Zone) (settings : List ZoneSpec) (start new : Machine) → IsFresh zones settings start → IsStopped 0 (before_opening start) Flush new → new ≡ start
same_machine zones settings start new fresh stopped =
    let states = same_zones (before_opening start) 0 zones settings start.zones new.zones fresh.zones_are stopped.zones in
    λ i. record {
      zones = states i;
      waiting = (stopped.waiting ∙ sym fresh.waiting) i;
      connections = (stopped.connections ∙ sym fresh.connections) i;
    }

pub each3_same : {A B C : Type 0} (R : A → B → C → Type 0) (xs : List A) (ys : List B) (zs : List C) → Each3 R xs ys zs → length xs ≡ length ys
each3_same R [] [] [] h = refl
each3_same R (x ∷ xs) (y ∷ ys) (z ∷ zs) h = ap suc (each3_same R xs ys zs h.1)
each3_same R _ _ _ h = absurd h

-- what a script does over a primary that was opened for the devices that were made
pub runs_from : {D I : Type 0} {g : Ghosts D} {i : zone_index.Ghosts I} {s : store.Ghosts (KeptStore D I g)} (kept : D → told.Keep → Content) (zones : List Zone) (settings again : List ZoneSpec) (names : List Labels) (devices : List D) (p : Primary I (KeptStore D I g) i s) (lines : List (List ℕ)) (ending : Ending) (out out_after : Option (List ℕ)) → names ≡ map (λ (z : Zone). z.apex) zones → Each2 AreSame settings again → Each3 (IsMadeOf g) zones settings devices
    → ((m : Machine) (event : Event) (tries : ℕ) → AreDevicesOf g tries m event names again devices → IsRecoveredOn tries m event devices p)
    → AreAsHonest g devices (devices_of p)
    → RanScript kept names settings lines ending p out out_after → RunsFrom g kept zones settings lines ending out out_after
runs_from {g = g} kept zones settings again names devices p lines ending out out_after e same made opens still ran = record { begins = fresh_machine zones settings (each3_same (IsMadeOf g) zones settings devices made); leads = leads }
  where
    leads : (start : Machine) → IsFresh zones settings start → (led : Led) × Runs (map (λ (z : Zone). z.apex) zones) (IsCrash g kept (map (λ (z : Zone). z.apex) zones) settings) (Takes start) 1 lines led ending × Run start led.moments × Appends out out_after led.text
    leads start fresh =
        let made_so = all_recoverable g (before_opening start) Flush 0 zones settings start.zones devices made fresh.zones_are in
        let named = subst (λ (ns : List Labels). AreRecoverable g 0 (before_opening start) Flush 0 (before_opening start).zones ns settings devices) (sym e) made_so in
        let honest = made_honest g zones settings devices made in
        let opened = (opens (before_opening start) Flush 0 (reset_recoverable g 0 (before_opening start) Flush 0 (before_opening start).zones names settings again devices same named)).1 honest in
        let is : opened.0 ≡ start = same_machine zones settings start opened.0 fresh opened.1 in
        let set = subst (λ (ns : List Labels). AreSetAs ns settings start.zones) (sym e) (all_set g zones settings start.zones devices made fresh.zones_are) in
        let done = ran start (record { zones = zones; loaded = settings; first = start; fresh = fresh; set = set; before = []; run = tt; last = refl }) (subst (λ (m : Machine). IsKept p m) is opened.2, as_honest g devices (devices_of p) still honest) in
        subst (λ (ns : List Labels). (led : Led) × Runs ns (IsCrash g kept ns settings) (Takes start) 1 lines led ending × Run start led.moments × Appends out out_after led.text) e done

-- one more device
pub each3_more : {A B C : Type 0} (R : A → B → C → Type 0) (xs : List A) (ys : List B) (i : ℕ) (d : A) (e : B) (zs : List C) (z : C) → i < length xs → i < length ys → Each3 R (take i xs) (take i ys) zs → R (slice_index_or xs i d) (slice_index_or ys i e) z → Each3 R (take (suc i) xs) (take (suc i) ys) (zs ++ z ∷ [])
each3_more R [] ys i d e zs z small few h r = absurd (omega (arith, small))
each3_more R (x ∷ xs) [] i d e zs z small few h r = absurd (omega (arith, few))
each3_more R (x ∷ xs) (y ∷ ys) zero d e [] z small few h r = (r, tt)
each3_more R (x ∷ xs) (y ∷ ys) zero d e (w ∷ zs) z small few h r = absurd h
each3_more R (x ∷ xs) (y ∷ ys) (suc i) d e [] z small few h r = absurd h
each3_more R (x ∷ xs) (y ∷ ys) (suc i) d e (w ∷ zs) z small few h r = (h.0, each3_more R xs ys i d e zs z (omega (arith, small)) (omega (arith, few)) h.1 r)

pub each3_long : {A B C : Type 0} (R : A → B → C → Type 0) (xs : List A) (ys : List B) (zs : List C) → Each3 R xs ys zs → length zs ≡ length ys
each3_long R [] [] [] h = refl
each3_long R (x ∷ xs) (y ∷ ys) (z ∷ zs) h = ap suc (each3_long R xs ys zs h.1)
each3_long R _ _ _ h = absurd h

pub each3_first : {A B C D : Type 0} (f : A → D) (R : A → B → C → Type 0) (xs : List A) (ys : List B) (zs : List C) → Each3 R xs ys zs → length (map f xs) ≡ length ys
each3_first f R [] [] [] h = refl
each3_first f R (x ∷ xs) (y ∷ ys) (z ∷ zs) h = ap suc (each3_first f R xs ys zs h.1)
each3_first f R _ _ _ h = absurd h
