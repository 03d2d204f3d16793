-- A stop keeps what every step keeps, and so whole runs do.
use Rattle.std.proofs.Common.{◌≡◌, ℕ, suc, inl, inr, List, [], ◌∷◌, ◌++◌, sym, ap, subst, ◌∙◌, append_assoc, append-nil}
use Rattle.std.specs.List.{AllByRecursion}
use Rattle.dns_records.specs.Record.{Record}
use Rattle.dns_zone.specs.Zone.{Zone}
use Rattle.dns_store.specs.Versions.{Shape, Opened}
use Rattle.dns_versions.specs.Each.{Each2, Each3}
use Rattle.dns_primary.specs.declared.primary.ZoneSpec.{ZoneSpec}
use Rattle.dns_primary.specs.Machine.{Setting, Made, ZoneState, Waits, Machine, updates_of}
use Rattle.dns_primary.specs.Step.{Event}
use Rattle.dns_primary.specs.Stop.{IsMaking, IsRecovered, AreRecovered, IsStopped, IsSetAnew, IsConfigured}
use Rattle.dns_primary.specs.Fresh.{IsLoaded, IsFresh, IsReopened, IsResumed, IsStart}
use Rattle.dns_primary.specs.Runs.{Moment, Took, Stopped, Configured, machine_after, sent_in, Happens, Run, machine_at_end, AllLast, IsHistory, HasHistory, Lasts, StaysTrue, Promise, Continuation}
use Rattle.dns_primary.proofs.Zonewise.{all_last_same, all_last_on, pair_map, pair_over}
use Rattle.dns_primary.proofs.Sound.{IsPlaced, IsSound, Preserves, all_true_over}
use Rattle.dns_primary.proofs.Preserved.{step_preserves}
use Rattle.dns_primary.proofs.Brought.{all_came, all_came_since, run_counts}

-- what is left of a history when its tail goes
pub history_front : (s : Shape) (number : ℕ) (records : List Record) (xs ys : List Made) → IsHistory s number records (xs ++ ys) → IsHistory s number records xs
history_front s number records [] ys h = tt
history_front s number records (x ∷ xs) ys h = (h.0, history_front s (suc number) x.records xs ys h.1)

recovered_lasts : (least most : ℕ) (making : ℕ → Type 0) (z w : ZoneState) → IsRecovered least most making z w → Lasts z w
recovered_lasts least most making z w r = record { shape = ap (λ (x : Setting). x.shape) r.setting; loaded = r.loaded; more = r.kept; shown = r.shown }

recovered_history : (least most : ℕ) (making : ℕ → Type 0) (z w : ZoneState) → IsRecovered least most making z w → HasHistory z → HasHistory w
recovered_history least most making z w r h =
    let whole : updates_of z ≡ (z.shown ++ r.kept) ++ r.lost = ap (λ (us : List Made). z.shown ++ us) r.front ∙ sym (append_assoc z.shown r.kept r.lost) in
    let now : updates_of w ≡ z.shown ++ r.kept = ap (λ (us : List Made). w.shown ++ us) r.staged ∙ append-nil w.shown ∙ r.shown in
    let front = history_front z.setting.shape 0 z.loaded (z.shown ++ r.kept) r.lost (subst (λ (us : List Made). IsHistory z.setting.shape 0 z.loaded us) whole h) in
    subst (λ (us : List Made). IsHistory w.setting.shape 0 w.loaded us) (sym now) (
    subst (λ (records : List Record). IsHistory w.setting.shape 0 records (z.shown ++ r.kept)) (sym r.loaded) (
    subst (λ (s : Setting). IsHistory s.shape 0 z.loaded (z.shown ++ r.kept)) (sym r.setting) front))

all_recovered : (least most : ℕ) (m : Machine) (event : Event) (index : ℕ) (old new : List ZoneState) → AreRecovered least most m event index old new → AllByRecursion HasHistory old → AllLast old new × AllByRecursion HasHistory new
all_recovered least most m event index [] [] r h = (tt, tt)
all_recovered least most m event index [] (w ∷ new) r h = absurd r
all_recovered least most m event index (z ∷ old) [] r h = absurd r
all_recovered least most m event index (z ∷ old) (w ∷ new) r h =
    let rest = all_recovered least most m event (suc index) old new r.1 h.1 in
    ((recovered_lasts least most (IsMaking m event index z) z w r.0, rest.0), (recovered_history least most (IsMaking m event index z) z w r.0 h.0, rest.1))

stop_preserves : (tries : ℕ) (old : Machine) (event : Event) (new : Machine) → IsSound old → IsStopped tries old event new → Preserves old new []
stop_preserves tries old event new s t =
    let both = all_recovered 1 (suc tries) old event 0 old.zones new.zones t.zones s.zones in
    record {
      lasts = both.0;
      sound = record { zones = both.1; waiting = subst (λ (ws : List Waits). AllByRecursion (IsPlaced new.zones) ws) (sym t.waiting) tt };
      good = tt;
    }

-- other settings
anew_lasts : (z w : ZoneState) → IsSetAnew z w → Lasts z w
anew_lasts z w s = record { shape = s.shape; loaded = ap (λ (x : ZoneState). x.loaded) s.rest; more = []; shown = ap (λ (x : ZoneState). x.shown) s.rest ∙ sym (append-nil z.shown) }

anew_history : (z w : ZoneState) → IsSetAnew z w → HasHistory z → HasHistory w
anew_history z w s h =
    subst (λ (us : List Made). IsHistory w.setting.shape 0 w.loaded us) (sym (ap updates_of s.rest)) (
    subst (λ (records : List Record). IsHistory w.setting.shape 0 records (updates_of z)) (sym (ap (λ (x : ZoneState). x.loaded) s.rest)) (
    subst (λ (t : Shape). IsHistory t 0 z.loaded (updates_of z)) (sym s.shape) h))

configured_preserves : (old new : Machine) → IsSound old → IsConfigured old new → Preserves old new []
configured_preserves old new s c =
    let none : new.waiting ≡ [] = ap (λ (m : Machine). m.waiting) c.rest ∙ c.waiting in
    record {
      lasts = pair_map IsSetAnew Lasts anew_lasts old.zones new.zones c.zones;
      sound = record {
        zones = pair_over IsSetAnew HasHistory anew_history old.zones new.zones c.zones s.zones;
        waiting = subst (λ (ws : List Waits). AllByRecursion (IsPlaced new.zones) ws) (sym none) tt;
      };
      good = tt;
    }

moment_preserves : (old : Machine) (t : Moment) → IsSound old → Happens old t → Preserves old (machine_after t) (sent_in t)
moment_preserves old (Took event fails effects new) s h = step_preserves fails old event effects new s h
moment_preserves old (Stopped event tries new) s h = stop_preserves tries old event new s h
moment_preserves old (Configured new) s h = configured_preserves old new s h

-- what a run keeps, from any sound machine
record Kept (start : Machine) (run : List Moment) : Type 0 where
  loaded : AllLast start.zones (machine_at_end start run).zones
  history : AllByRecursion HasHistory (machine_at_end start run).zones
  moments : AllByRecursion (StaysTrue (machine_at_end start run).zones) run

run_keeps : (start : Machine) (run : List Moment) → IsSound start → Run start run → Kept start run
run_keeps start [] s r = record { loaded = all_last_same start.zones; history = s.zones; moments = tt }
run_keeps start (t ∷ rest) s r =
    let step = moment_preserves start t s r.0 in
    let later = run_keeps (machine_after t) rest step.sound r.1 in
    record {
      loaded = all_last_on start.zones (machine_after t).zones (machine_at_end (machine_after t) rest).zones step.lasts later.loaded;
      history = later.history;
      moments = (record { shown = later.loaded; answered = all_true_over (machine_after t).zones (machine_at_end (machine_after t) rest).zones later.loaded (sent_in t) step.good }, later.moments);
    }

-- a machine to which nothing has happened
fresh_history : (zones : List Zone) (settings : List ZoneSpec) (states : List ZoneState) → Each3 IsLoaded zones settings states → AllByRecursion HasHistory states
fresh_history [] [] [] h = tt
fresh_history (z ∷ zones) (s ∷ settings) (m ∷ states) h =
    let none : updates_of m ≡ [] = ap (λ (ms : List Made). ms ++ m.staged) (h.0).shown ∙ (h.0).staged in
    (subst (λ (us : List Made). IsHistory m.setting.shape 0 m.loaded us) (sym none) tt, fresh_history zones settings states h.1)
fresh_history _ _ _ h = absurd h

fresh_sound : (zones : List Zone) (settings : List ZoneSpec) (m : Machine) → IsFresh zones settings m → IsSound m
fresh_sound zones settings m f = record {
  zones = fresh_history zones settings m.zones f.zones_are;
  waiting = subst (λ (ws : List Waits). AllByRecursion (IsPlaced m.zones) ws) (sym f.waiting) tt;
}

pub fresh_keeps : (zones : List Zone) (settings : List ZoneSpec) (start : Machine) (run : List Moment) → IsFresh zones settings start → Run start run → Promise start run
fresh_keeps zones settings start run f r =
    let kept = run_keeps start run (fresh_sound zones settings start f) r in
    record { loaded = kept.loaded; history = kept.history; came = all_came zones settings start run f r; openings = run_counts start run r; moments = kept.moments }

-- a machine of zones that were opened again
reopened_history : (held : List Opened) (states : List ZoneState) → Each2 IsReopened held states → AllByRecursion HasHistory states
reopened_history [] [] h = tt
reopened_history [] (z ∷ states) h = absurd h
reopened_history (o ∷ held) [] h = absurd h
reopened_history (o ∷ held) (z ∷ states) h = ((h.0).history, reopened_history held states h.1)

resumed_sound : (held : List Opened) (m : Machine) → IsResumed held m → IsSound m
resumed_sound held m f = record {
  zones = reopened_history held m.zones f.zones_are;
  waiting = subst (λ (ws : List Waits). AllByRecursion (IsPlaced m.zones) ws) (sym f.waiting) tt;
}

pub resumed_keeps : (held : List Opened) (start : Machine) (run : List Moment) → IsResumed held start → Run start run → Continuation start run
resumed_keeps held start run f r =
    let kept = run_keeps start run (resumed_sound held start f) r in
    record { loaded = kept.loaded; history = kept.history; came = all_came_since start run r; openings = run_counts start run r; moments = kept.moments }

-- what was loaded and the history of each zone stay, from any start
start_sound : (start : Machine) → IsStart start → IsSound start
start_sound start (inl (zones, settings, f)) = fresh_sound zones settings start f
start_sound start (inr (held, f)) = resumed_sound held start f

pub start_keeps : (start : Machine) (run : List Moment) → IsStart start → Run start run → AllLast start.zones (machine_at_end start run).zones × AllByRecursion HasHistory (machine_at_end start run).zones
start_keeps start run begins r = (let kept = run_keeps start run (start_sound start begins) r in (kept.loaded, kept.history))

-- from a moment of a run to a later one
run_sound : (start : Machine) (run : List Moment) → IsSound start → Run start run → IsSound (machine_at_end start run)
run_sound start [] s r = s
run_sound start (t ∷ rest) s r = run_sound (machine_after t) rest (moment_preserves start t s r.0).sound r.1

pub later_lasts : (zones : List Zone) (settings : List ZoneSpec) (start : Machine) (earlier between : List Moment) → IsFresh zones settings start → Run start earlier
    → Run (machine_at_end start earlier) between → AllLast (machine_at_end start earlier).zones (machine_at_end (machine_at_end start earlier) between).zones
later_lasts zones settings start earlier between f r q =
    (run_keeps (machine_at_end start earlier) between (run_sound start earlier (fresh_sound zones settings start f) r) q).loaded
