-- After a crash each zone is what is left on its device, opened again.
use Rattle.std.proofs.Common.{◌≡◌, ℕ, suc, inl, inr, Some, None, List, [], ◌∷◌, ◌++◌, refl, sym, ap, subst, ◌∙◌, append-nil, arith}
use Rattle.std.specs.Prelude.{◌⊎◌}
use Rattle.dns_names.specs.Name.{Labels}
use Rattle.dns_sectors.specs.Device.{Content}
use Rattle.dns_sectors.specs.declared.device.Sectors.{Ghosts}
use Rattle.dns_sectors.specs.declared.memory.Keep as told
use Rattle.dns_store.specs.Opens.{opens}
use Rattle.dns_primary.specs.declared.primary.ZoneSpec.{ZoneSpec}
use Rattle.dns_primary.specs.Machine.{Made, Machine, Setting, ZoneState}
use Rattle.dns_primary.specs.Keeps.{IsSet}
use Rattle.dns_primary.specs.Step.{Event, Flush}
use Rattle.dns_primary.specs.Stop.{IsMaking, IsRecovered, AreRecovered, IsStopped, reopened_as}
use Rattle.dns_primary.specs.Open.{AreHonest, AreRecoverable}
use Rattle.dns_replay.specs.Keeps.{ZoneKeep}
use Rattle.dns_replay.specs.Crashes.{AreHonestDevicesOf, AreLeftBy, AreOpenedOver, IsLeftBy, keep_at}
use Rattle.dns_replay.proofs.Crashed.{crashed_recoverable}
use Rattle.dns_replay.proofs.Honest.{crashed_honest}

pub none_kept : (kept lost : List Made) → [] ≡ kept ++ lost → kept ≡ []
none_kept [] lost e = refl
none_kept (x ∷ kept) lost e = absurd cc

pub none_moved : (moved : ℕ × ℕ) → None ≡ Some moved → ⊥
none_moved moved e = cc

-- Of a zone that was opened again the base stays where none is made.
base_stays : (making : ℕ → Type 0) (w v : ZoneState) → ((b : ℕ) → making b → ⊥) → w.second ≡ None → IsRecovered 1 1 making w v → v.base ≡ w.base
base_stays making w v never second r = elim (r.base) [
  | inl e ↦ e
  | inr h ↦ elim h [
    | inl e ↦ (let no : None ≡ Some v.base = sym second ∙ e in absurd cc)
    | inr made ↦ absurd (never v.base made)
  ]
]

-- What was opened, opened again.
recovered_again : (tries : ℕ) (making later : ℕ → Type 0) (z w v : ZoneState) → ((b : ℕ) → later b → ⊥) → IsRecovered 0 tries making z w → IsRecovered 1 1 later w v → IsRecovered 1 (suc tries) making z v
recovered_again tries making later z w v never first r =
    let from_least = first.at_least in
    let from_most = first.at_most in
    let least = r.at_least in
    let most = r.at_most in
    let none = none_kept r.kept r.lost (sym first.staged ∙ r.front) in
    let base = base_stays later w v never first.second r in
    record {
      setting = r.setting ∙ first.setting;
      loaded = r.loaded ∙ first.loaded;
      kept = first.kept;
      lost = first.lost;
      front = first.front;
      shown = r.shown ∙ ap (λ (l : List Made). w.shown ++ l) none ∙ append-nil w.shown ∙ first.shown;
      staged = r.staged;
      base = subst (λ (b : ℕ). (b ≡ z.base) ⊎ ((z.second ≡ Some b) ⊎ making b)) (sym base) first.base;
      so_far = r.so_far;
      second = r.second;
      altered = r.altered ∙ first.altered;
      opened = r.opened;
      at_least = omega (arith, from_least, least);
      at_most = omega (arith, from_most, most);
    }

-- One that no base is made of is.
recovered_so : (tries : ℕ) (making later : ℕ → Type 0) (z w v : ZoneState) → ((b : ℕ) → later b → ⊥) → IsRecovered 0 tries making z w → IsRecovered 1 1 later w v → IsRecovered 1 1 (λ _. ⊥) w v
recovered_so tries making later z w v never first r = record {
  setting = r.setting;
  loaded = r.loaded;
  kept = r.kept;
  lost = r.lost;
  front = r.front;
  shown = r.shown;
  staged = r.staged;
  base = inl (base_stays later w v never first.second r);
  so_far = r.so_far;
  second = r.second;
  altered = r.altered;
  opened = r.opened;
  at_least = r.at_least;
  at_most = r.at_most;
}

-- A zone of which nothing is staged is one that it may be recovered as.
recovered_itself : (tries : ℕ) (making later : ℕ → Type 0) (z w : ZoneState) → IsRecovered 0 tries making z w → IsRecovered 0 0 later w w
recovered_itself tries making later z w r = record {
  setting = refl;
  loaded = refl;
  kept = [];
  lost = [];
  front = r.staged;
  shown = sym (append-nil w.shown);
  staged = r.staged;
  base = inl refl;
  so_far = r.so_far;
  second = r.second;
  altered = refl;
  opened = r.opened;
  at_least = omega arith;
  at_most = omega arith;
}

set_again : (s : ZoneSpec) (z w : ZoneState) → w.setting ≡ z.setting → IsSet s z → IsSet s w
set_again s z w e set =
    let same = subst (λ (x : Setting). IsSet s (record z { setting = x })) (sym e) set in
    record { keep = same.keep; update = same.update; transfer = same.transfer }

module _ {D : Type 0} (g : Ghosts D) (stays : (device : D) → g.is_honest device → g.may_leave device (g.seen device)) (tries : ℕ) (m : Machine) (event : Event) where
  -- what is on the device of the zone there
  record IsHeld (index : ℕ) (z : ZoneState) (device : D) (w : ZoneState) : Type 0 where
    recovered : IsRecovered 0 tries (IsMaking m event index z) z w
    opens_as : opens w.setting.shape (reopened_as w) (g.seen device)

  abbrev AreHeld : ℕ → List ZoneState → List D → List ZoneState → Type 0
  AreHeld index [] [] [] = Unit {0}
  AreHeld index (z ∷ zones) (d ∷ devices) (w ∷ held) = IsHeld index z d w × AreHeld (suc index) zones devices held
  AreHeld index _ _ _ = ⊥

  held_on : (index : ℕ) (zones : List ZoneState) (names : List Labels) (settings : List ZoneSpec) (devices : List D) → AreRecoverable g tries m event index zones names settings devices → AreHonest g devices → (held : List ZoneState) × AreHeld index zones devices held
  held_on index [] [] [] [] is honest = ([], tt)
  held_on index (z ∷ zones) (a ∷ names) (s ∷ settings) (d ∷ devices) is honest =
      let one = is.0.leaves honest.0 (g.seen d) (stays d honest.0) in
      let rest = held_on (suc index) zones names settings devices is.1 honest.1 in
      (one.0 ∷ rest.0, (record { recovered = one.1; opens_as = one.2 }, rest.1))
  held_on index _ _ _ _ is honest = absurd is

  module _ (kept : D → told.Keep → Content) (keeps : List ZoneKeep) where
    -- a crash leaves what is read, and nothing else
    only_seen : (keep : _) (d e : D) → g.is_honest d → IsLeftBy g kept keep d e → (c : Content) → g.may_leave e c → g.seen e ≡ c
    only_seen keep d e honest is c left = is.exact honest (g.seen e) (stays e (is.honest honest)) ∙ sym (is.exact honest c left)

    held_recoverable : (other : Machine) (at index : ℕ) (zones : List ZoneState) (names : List Labels) (settings : List ZoneSpec) (olds news : List D) (held : List ZoneState) → AreRecoverable g tries m event index zones names settings olds → AreHonest g olds → AreLeftBy g kept keeps at olds news → AreHeld index zones news held → AreRecoverable g 0 other Flush index held names settings news
    held_recoverable other at index [] [] [] [] [] [] is honest each h = tt
    held_recoverable other at index (z ∷ zones) (a ∷ names) (s ∷ settings) (d ∷ olds) (e ∷ news) (w ∷ held) is honest each h = (
      record {
        shape = ap (λ (x : Setting). x.shape) h.0.recovered.setting ∙ is.0.shape;
        set = set_again s z w h.0.recovered.setting is.0.set;
        range = is.0.range;
        leaves = λ _ c left. (
          w,
          recovered_itself tries (IsMaking m event index z) (IsMaking other Flush index w) z w h.0.recovered,
          subst (λ (x : Content). opens w.setting.shape (reopened_as w) x) (only_seen (keep_at keeps at) d e honest.0 each.0 c left) h.0.opens_as,
        );
      },
      held_recoverable other (suc at) (suc index) zones names settings olds news held is.1 honest.1 each.1 h.1,
    )
    held_recoverable other at index zones names settings [] (e ∷ news) held is honest each h = absurd each
    held_recoverable other at index zones names settings (d ∷ olds) [] held is honest each h = absurd each
    held_recoverable other at index (z ∷ zones) names settings (d ∷ olds) (e ∷ news) [] is honest each h = absurd h
    held_recoverable other at index [] names settings [] [] (w ∷ held) is honest each h = absurd h
    held_recoverable other at index _ _ _ olds news held is honest each h = absurd is

  opened_over_all : (other : Machine) (index : ℕ) (zones : List ZoneState) (devices : List D) (held news : List ZoneState) → AreHeld index zones devices held → AreRecovered 1 1 other Flush index held news → AreRecovered 1 (suc tries) m event index zones news × AreOpenedOver g devices news
  opened_over_all other index [] [] [] [] h r = (tt, tt)
  opened_over_all other index (z ∷ zones) (d ∷ devices) (w ∷ held) (v ∷ news) h r =
      let never : (b : ℕ) → IsMaking other Flush index w b → ⊥ = λ b made. none_moved (index, made.1.0) made.1.1 in
      let making = IsMaking m event index z in
      let later = IsMaking other Flush index w in
      let rest = opened_over_all other (suc index) zones devices held news h.1 r.1 in (
        (recovered_again tries making later z w v never h.0.recovered r.0, rest.0),
        (record { held = w; nothing_staged = h.0.recovered.staged; opens_as = h.0.opens_as; again = recovered_so tries making later z w v never h.0.recovered r.0 }, rest.1),
      )
  opened_over_all other index zones devices [] (v ∷ news) h r = absurd r
  opened_over_all other index zones devices (w ∷ held) [] h r = absurd r
  opened_over_all other index _ _ _ _ h r = absurd h

  -- The machine that is opened over devices that crashed is what is left on them.
  pub opened_over : (P : Machine → Type 0) (kept : D → told.Keep → Content) (keeps : List ZoneKeep) (names : List Labels) (settings : List ZoneSpec) (olds news : List D) → AreHonestDevicesOf g tries m event names settings olds → AreLeftBy g kept keeps 0 olds news
      → ((m : Machine) (event : Event) (tries : ℕ) → AreHonestDevicesOf g tries m event names settings news → (new : Machine) × IsStopped tries m event new × P new)
      → (new : Machine) × IsStopped tries m event new × P new × AreOpenedOver g news new.zones
  opened_over P kept keeps names settings olds news is each opens =
      let crashed = crashed_recoverable g tries m event kept keeps 0 0 m.zones names settings olds news is.0 is.1 each in
      let honest = crashed_honest g kept keeps 0 olds news each is.1 in
      let held = held_on 0 m.zones names settings news crashed honest in
      let other : Machine = record { zones = held.0; waiting = []; connections = [] } in
      let new = opens other Flush 0 (held_recoverable kept keeps other 0 0 m.zones names settings olds news held.0 is.0 is.1 each held.1, honest) in
      let both = opened_over_all other 0 m.zones news held.0 new.0.zones held.1 new.1.zones in
      (new.0, record { zones = both.0; waiting = new.1.waiting; connections = new.1.connections }, new.2, both.1)
