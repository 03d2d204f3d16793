-- What a life keeps.
use Rattle.std.proofs.Common.{◌≡◌, ◌+◌, ◌≤◌, ◌⊎◌, ℕ, suc, inl, inr, List, [], ◌∷◌, ◌++◌, length, refl, sym, ap, subst, ◌∙◌, arith, append_assoc, append-nil}
use Rattle.std.specs.List.{AllByRecursion}
use Rattle.std.proofs.lemmas.List.{length-append}
use Rattle.dns_records.specs.Record.{Record}
use Rattle.dns_wire.specs.Message.{Message}
use Rattle.dns_zone.specs.Zone.{Zone}
use Rattle.dns_store.specs.Versions.{Kept, Opened, Shape, newest_after, shown_of}
use Rattle.dns_versions.specs.Each.{Each2, Each3}
use Rattle.dns_primary.specs.declared.primary.ZoneSpec.{ZoneSpec}
use Rattle.dns_primary.specs.Machine.{Setting, ZoneState, Made, Waits, Machine, kept_of, updates_of, versions_of}
use Rattle.dns_primary.specs.Step.{Event}
use Rattle.dns_primary.specs.Stop.{IsMaking, IsRecovered, AreRecovered, IsSetAnew}
use Rattle.dns_primary.specs.Fresh.{IsLoaded, IsReopened, IsStart}
use Rattle.dns_primary.specs.Runs.{Moment, Took, Stopped, Configured, machine_after, sent_in, Happens, BringsIn, Lasts, AllLast, IsAccepted, IsOpenedAtMost, openings_in}
use Rattle.dns_primary.proofs.Zonewise.{pair_map, pair_same, pair_set, lasts_on, lasts_same, all_last_same, all_last_on, versions_joined}
use Rattle.dns_primary.proofs.Sound.{IsPlaced, all_true_over}
use Rattle.dns_primary.proofs.Brought.{run_counts}
use Rattle.dns_theorem.specs.Lives.{Act, Ran, Loaded, Reopened, machine_after_act, IsFiled, IsOpenedWith, HasLoaded, IsTended, MayFollow, Life, end_of_life, sent_in_act, BringsBy, CameAlong, LoadsBy, LoadedAlong, IsVersionOf, AreVersionsOf, HasGrown, StaysTrueOf, openings_of, IsMachineAtRest, Legacy}
use Rattle.dns_theorem.proofs.Chained.{newest_joined}
use Rattle.dns_theorem.proofs.Grown.{Placed, IsHeld, HasOneMore, HasFewer, IsMoved, moved_itself, pair_then, step_held}

-- ---- versions of which C holds
abbrev pub AllHold : (Shape → ℕ → List Record → Made → Type 0) → Shape → ℕ → List Record → List Made → Type 0
AllHold C s n before [] = Unit {0}
AllHold C s n before (m ∷ later) = C s n before m × AllHold C s (suc n) m.records later

hold_front : (C : Shape → ℕ → List Record → Made → Type 0) (s : Shape) (n : ℕ) (before : List Record) (xs ys : List Made) → AllHold C s n before (xs ++ ys) → AllHold C s n before xs
hold_front C s n before [] ys h = tt
hold_front C s n before (x ∷ xs) ys h = (h.0, hold_front C s (suc n) x.records xs ys h.1)

hold_more : (C : Shape → ℕ → List Record → Made → Type 0) (s : Shape) (n : ℕ) (before : List Record) (xs : List Made) (made : Made) → AllHold C s n before xs
    → C s (n + length xs) (newest_after before (versions_of xs)) made → AllHold C s n before (xs ++ made ∷ [])
hold_more C s n before [] made h e = (subst (λ (k : ℕ). C s k before made) (omega arith) e, tt)
hold_more C s n before (x ∷ xs) made h e = (
  h.0,
  hold_more C s (suc n) x.records xs made h.1 (subst (λ (k : ℕ). C s k (newest_after x.records (versions_of xs)) made) (omega arith) e),
)

cancel : (xs ys zs : List Made) → xs ++ ys ≡ xs ++ zs → ys ≡ zs
cancel [] ys zs e = e
cancel (x ∷ xs) ys zs e = cancel xs ys zs (tails x (xs ++ ys) (xs ++ zs) e)
  where
    tails : (y : Made) (as' bs : List Made) → y ∷ as' ≡ y ∷ bs → as' ≡ bs
    tails y as' bs e = cc

-- A zone at the start, and as it is now: what it showed, and then such versions.
record IsOf (C : Shape → ℕ → List Record → Made → Type 0) (z w : ZoneState) : Type 0 where
  lasts : Lasts z w
  later : List Made
  updates : updates_of w ≡ z.shown ++ later
  holds : AllHold C z.setting.shape (length z.shown) (shown_of (kept_of z)) later

module _ (C : Shape → ℕ → List Record → Made → Type 0) (z y w : ZoneState) (h : IsOf C z y) (m : IsMoved C y w) where
  now_lasts : Lasts z w
  now_lasts = lasts_on z y w h.lasts m.lasts

  many : length (updates_of y) ≡ length z.shown + length h.later
  many = ap length h.updates ∙ length-append z.shown h.later

  newest : newest_after y.loaded (versions_of (updates_of y)) ≡ newest_after (shown_of (kept_of z)) (versions_of h.later)
  newest =
      (λ i. newest_after (h.lasts.loaded i) (versions_of (h.updates i)))
      ∙ ap (newest_after z.loaded) (versions_joined z.shown h.later)
      ∙ newest_joined z.loaded (versions_of z.shown) (versions_of h.later)

  with_more : HasOneMore C y w → IsOf C z w
  with_more (made, is, holds) = record {
    lasts = now_lasts;
    later = h.later ++ made ∷ [];
    updates = is ∙ ap (λ (us : List Made). us ++ made ∷ []) h.updates ∙ append_assoc z.shown h.later (made ∷ []);
    holds = hold_more C z.setting.shape (length z.shown) (shown_of (kept_of z)) h.later made h.holds
        (subst (λ (s : Shape). C s (length z.shown + length h.later) (newest_after (shown_of (kept_of z)) (versions_of h.later)) made) now_lasts.shape
        (subst (λ (k : ℕ). C w.setting.shape k (newest_after (shown_of (kept_of z)) (versions_of h.later)) made) many
        (subst (λ (rs : List Record). C w.setting.shape (length (updates_of y)) rs made) newest holds)));
  }

  with_fewer : HasFewer y w → IsOf C z w
  with_fewer (lost, is, shown) =
      let last = now_lasts in
      let apart : h.later ≡ last.more ++ lost = cancel z.shown h.later (last.more ++ lost)
      (sym h.updates ∙ is ∙ ap (λ (us : List Made). us ++ lost) (shown ∙ last.shown) ∙ append_assoc z.shown last.more lost) in
      record {
        lasts = last;
        later = last.more;
        updates = shown ∙ last.shown;
        holds = hold_front C z.setting.shape (length z.shown) (shown_of (kept_of z)) last.more lost
            (subst (λ (us : List Made). AllHold C z.setting.shape (length z.shown) (shown_of (kept_of z)) us) apart h.holds);
      }

  moved_on : IsOf C z w
  moved_on = elim (m.updates) [
    | inl e ↦ record { lasts = now_lasts; later = h.later; updates = e ∙ h.updates; holds = h.holds }
    | inr r ↦ elim r [ inl more ↦ with_more more | inr fewer ↦ with_fewer fewer ]
  ]

-- ---- a moment of a run
recovered_moved : (C : Shape → ℕ → List Record → Made → Type 0) (least most : ℕ) (making : ℕ → Type 0) (z w : ZoneState) → IsRecovered least most making z w → IsMoved C z w
recovered_moved C least most making z w r =
    let whole : updates_of z ≡ (z.shown ++ r.kept) ++ r.lost = ap (λ (us : List Made). z.shown ++ us) r.front ∙ sym (append_assoc z.shown r.kept r.lost) in
    let now : updates_of w ≡ w.shown = ap (λ (us : List Made). w.shown ++ us) r.staged ∙ append-nil w.shown in
    record {
      lasts = record { shape = ap (λ (x : Setting). x.shape) r.setting; loaded = r.loaded; more = r.kept; shown = r.shown };
      updates = inr (inr (r.lost, whole ∙ ap (λ (us : List Made). us ++ r.lost) (sym (now ∙ r.shown)), now));
    }

all_recovered : (C : Shape → ℕ → List Record → Made → Type 0) (least most : ℕ) (m : Machine) (event : Event) (index : ℕ) (old new : List ZoneState) → AreRecovered least most m event index old new
    → Each2 (IsMoved C) old new
all_recovered C least most m event index [] [] r = tt
all_recovered C least most m event index [] (w ∷ new) r = absurd r
all_recovered C least most m event index (z ∷ old) [] r = absurd r
all_recovered C least most m event index (z ∷ old) (w ∷ new) r =
    (recovered_moved C least most (IsMaking m event index z) z w r.0, all_recovered C least most m event (suc index) old new r.1)

anew_moved : (C : Shape → ℕ → List Record → Made → Type 0) (z w : ZoneState) → IsSetAnew z w → IsMoved C z w
anew_moved C z w s = record {
  lasts = record { shape = s.shape; loaded = ap (λ (x : ZoneState). x.loaded) s.rest; more = []; shown = ap (λ (x : ZoneState). x.shown) s.rest ∙ sym (append-nil z.shown) };
  updates = inl (ap updates_of s.rest);
}

none_placed : (m : Machine) → m.waiting ≡ [] → Placed m
none_placed m none = subst (λ (ws : List Waits). AllByRecursion (IsPlaced m.zones) ws) (sym none) tt

-- What an act may bring, C holds of.
abbrev Fits : (Shape → ℕ → List Record → Made → Type 0) → Machine → Act → Type 0
Fits C m act =
    (w : ZoneState) (n : ℕ) (before : List Record) (made : Made)
    → (IsAccepted w.setting.shape n before made × BringsBy m act w made.update) ⊎ (IsFiled w.setting.shape n before made.records × LoadsBy m act w made.records)
    → C w.setting.shape n before made

moment_held : (C : Shape → ℕ → List Record → Made → Type 0) (m : Machine) (t : Moment) → Fits C m (Ran t) → Placed m → Happens m t → IsHeld (IsMoved C) m (machine_after t) (sent_in t)
moment_held C m (Took event fails effects new) fits p h = step_held C fails m event effects new (λ w n before made a b. fits w n before made (inl (a, b))) p h
moment_held C m (Stopped event tries new) fits p h = record { zones = all_recovered C 1 (suc tries) m event 0 m.zones new.zones h.zones; placed = none_placed new h.waiting; good = tt }
moment_held C m (Configured new) fits p h = record {
  zones = pair_map IsSetAnew (IsMoved C) (anew_moved C) m.zones new.zones h.zones;
  placed = none_placed new (ap (λ (x : Machine). x.waiting) h.rest ∙ h.waiting);
  good = tt;
}

-- ---- a file, and a store that is opened
opened_none : (more : List Made) (z w : ZoneState) → IsOpenedWith more z w → updates_of z ≡ z.shown
opened_none more z w o = ap (λ (us : List Made). z.shown ++ us) o.rests ∙ append-nil z.shown

opened_now : (more : List Made) (z w : ZoneState) → IsOpenedWith more z w → updates_of w ≡ z.shown ++ more
opened_now more z w o = ap (λ (us : List Made). w.shown ++ us) o.staged ∙ append-nil w.shown ∙ o.shown

opened_lasts : (more : List Made) (z w : ZoneState) → IsOpenedWith more z w → Lasts z w
opened_lasts more z w o = record { shape = ap (λ (x : Setting). x.shape) o.setting; loaded = o.loaded; more = more; shown = o.shown }

reopened_moved : (C : Shape → ℕ → List Record → Made → Type 0) (z w : ZoneState) → IsOpenedWith [] z w → IsMoved C z w
reopened_moved C z w o = record { lasts = opened_lasts [] z w o; updates = inl (opened_now [] z w o ∙ append-nil z.shown ∙ sym (opened_none [] z w o)) }

loaded_moved : (C : Shape → ℕ → List Record → Made → Type 0) (m : Machine) (index : ℕ) (file : List Record) (new : Machine) → Fits C m (Loaded index file new)
    → (t : IsTended (HasLoaded file) index m new) → IsMoved C t.zone t.next
loaded_moved C m index file new fits t =
    let z = t.zone in
    let w = t.next in
    let h = t.made in
    let made = h.made in
    let none : updates_of z ≡ z.shown = opened_none (made ∷ []) z w h.opened in
    let shape : w.setting.shape ≡ z.setting.shape = ap (λ (x : Setting). x.shape) h.opened.setting in
    let filed : IsFiled w.setting.shape (length (updates_of z)) (newest_after z.loaded (versions_of (updates_of z))) made.records =
    subst (λ (rs : List Record). IsFiled w.setting.shape (length (updates_of z)) (newest_after z.loaded (versions_of (updates_of z))) rs) (sym h.records)
    (subst (λ (us : List Made). IsFiled w.setting.shape (length us) (newest_after z.loaded (versions_of us)) file) (sym none)
    (subst (λ (s : Shape). IsFiled s (length z.shown) (newest_after z.loaded (versions_of z.shown)) file) (sym shape) h.filed)) in
    record {
      lasts = opened_lasts (made ∷ []) z w h.opened;
      updates = inr (inl (
        made,
        opened_now (made ∷ []) z w h.opened ∙ ap (λ (us : List Made). us ++ made ∷ []) (sym none),
        fits w (length (updates_of z)) (newest_after z.loaded (versions_of (updates_of z))) made (inr (filed, (h.records, record { zone = z; there = t.there; shape = sym shape }))),
      ));
    }

tended_held : (C : Shape → ℕ → List Record → Made → Type 0) (R : ZoneState → ZoneState → Type 0) (index : ℕ) (m new : Machine) → (t : IsTended R index m new) → IsMoved C t.zone t.next
    → IsHeld (IsMoved C) m new []
tended_held C R index m new t moved = record {
  zones = subst (λ (x : Machine). Each2 (IsMoved C) m.zones x.zones) (sym t.is) (pair_set (IsMoved C) (moved_itself C) m.zones index t.zone t.next t.there moved);
  placed = none_placed new (ap (λ (x : Machine). x.waiting) t.is ∙ t.waiting);
  good = tt;
}

act_held : (C : Shape → ℕ → List Record → Made → Type 0) (m : Machine) (act : Act) → Fits C m act → Placed m → MayFollow m act → IsHeld (IsMoved C) m (machine_after_act act) (sent_in_act act)
act_held C m (Ran moment) fits p h = moment_held C m moment fits p h
act_held C m (Loaded index file new) fits p h = tended_held C (HasLoaded file) index m new h (loaded_moved C m index file new fits h)
act_held C m (Reopened index new) fits p h = tended_held C (IsOpenedWith []) index m new h (reopened_moved C h.zone h.next h.made)

-- ---- a life
abbrev AllFit : (Shape → ℕ → List Record → Made → Type 0) → Machine → List Act → Type 0
AllFit C m life = (w : ZoneState) (n : ℕ) (before : List Record) (made : Made) → IsVersionOf m life w n before made → C w.setting.shape n before made

first_fits : (C : Shape → ℕ → List Record → Made → Type 0) (m : Machine) (act : Act) (rest : List Act) → AllFit C m (act ∷ rest) → Fits C m act
first_fits C m act rest fits w n before made (inl (a, b)) = fits w n before made (inl (a, inl b))
first_fits C m act rest fits w n before made (inr (f, l)) = fits w n before made (inr (f, inl l))

rest_fit : (C : Shape → ℕ → List Record → Made → Type 0) (m : Machine) (act : Act) (rest : List Act) → AllFit C m (act ∷ rest) → AllFit C (machine_after_act act) rest
rest_fit C m act rest fits w n before made (inl (a, b)) = fits w n before made (inl (a, inr b))
rest_fit C m act rest fits w n before made (inr (f, l)) = fits w n before made (inr (f, inr l))

record IsKeptBy (C : Shape → ℕ → List Record → Made → Type 0) (zeros : List ZoneState) (m : Machine) (life : List Act) : Type 0 where
  loaded : AllLast m.zones (end_of_life m life).zones
  grown : Each2 (IsOf C) zeros (end_of_life m life).zones
  acts : AllByRecursion (StaysTrueOf (end_of_life m life).zones) life

life_keeps : (C : Shape → ℕ → List Record → Made → Type 0) (zeros : List ZoneState) (m : Machine) (life : List Act) → AllFit C m life → Placed m → Each2 (IsOf C) zeros m.zones → Life m life
    → IsKeptBy C zeros m life
life_keeps C zeros m [] fits p h l = record { loaded = all_last_same m.zones; grown = h; acts = tt }
life_keeps C zeros m (act ∷ rest) fits p h l =
    let next = machine_after_act act in
    let ended = end_of_life next rest in
    let step = act_held C m act (first_fits C m act rest fits) p l.0 in
    let here = pair_then (IsOf C) (IsMoved C) (IsOf C) (moved_on C) zeros m.zones next.zones h step.zones in
    let later = life_keeps C zeros next rest (rest_fit C m act rest fits) step.placed here l.1 in
    record {
      loaded = all_last_on m.zones next.zones ended.zones (pair_map (IsMoved C) Lasts (λ a b x. x.lasts) m.zones next.zones step.zones) later.loaded;
      grown = later.grown;
      acts = (record { shown = later.loaded; answered = all_true_over next.zones ended.zones later.loaded (sent_in_act act) step.good }, later.acts);
    }

-- ---- the same zone, by its name and sizes
brings_as : (m : Machine) (t : Moment) (y w : ZoneState) (x : Message) → w.setting.shape ≡ y.setting.shape → BringsIn m t y x → BringsIn m t w x
brings_as m (Took event fails effects new) y w x e b = record {
  peer = b.peer;
  transport = b.transport;
  octets = b.octets;
  came = b.came;
  question = b.question;
  asks = b.asks;
  index = b.index;
  zone = b.zone;
  there = b.there;
  shape = b.shape ∙ sym e;
  named = b.named;
  allowed = b.allowed;
}
brings_as m (Stopped event tries new) y w x e b = absurd b
brings_as m (Configured new) y w x e b = absurd b

brought_as : (m : Machine) (act : Act) (y w : ZoneState) (x : Message) → w.setting.shape ≡ y.setting.shape → BringsBy m act y x → BringsBy m act w x
brought_as m (Ran moment) y w x e b = brings_as m moment y w x e b
brought_as m (Loaded index file new) y w x e b = absurd b
brought_as m (Reopened index new) y w x e b = absurd b

came_as : (m : Machine) (life : List Act) (y w : ZoneState) (x : Message) → w.setting.shape ≡ y.setting.shape → CameAlong m life y x → CameAlong m life w x
came_as m [] y w x e c = absurd c
came_as m (act ∷ rest) y w x e (inl b) = inl (brought_as m act y w x e b)
came_as m (act ∷ rest) y w x e (inr c) = inr (came_as (machine_after_act act) rest y w x e c)

loads_as : (m : Machine) (act : Act) (y w : ZoneState) (rs : List Record) → w.setting.shape ≡ y.setting.shape → LoadsBy m act y rs → LoadsBy m act w rs
loads_as m (Ran moment) y w rs e b = absurd b
loads_as m (Loaded index file new) y w rs e b = (b.0, record { zone = (b.1).zone; there = (b.1).there; shape = (b.1).shape ∙ sym e })
loads_as m (Reopened index new) y w rs e b = absurd b

loaded_as : (m : Machine) (life : List Act) (y w : ZoneState) (rs : List Record) → w.setting.shape ≡ y.setting.shape → LoadedAlong m life y rs → LoadedAlong m life w rs
loaded_as m [] y w rs e c = absurd c
loaded_as m (act ∷ rest) y w rs e (inl b) = inl (loads_as m act y w rs e b)
loaded_as m (act ∷ rest) y w rs e (inr c) = inr (loaded_as (machine_after_act act) rest y w rs e c)

version_as : (m : Machine) (life : List Act) (y w : ZoneState) (n : ℕ) (before : List Record) (made : Made) → w.setting.shape ≡ y.setting.shape → IsVersionOf m life y n before made
    → IsVersionOf m life w n before made
version_as m life y w n before made e (inl (a, c)) = inl (subst (λ (s : Shape). IsAccepted s n before made) (sym e) a, came_as m life y w made.update e c)
version_as m life y w n before made e (inr (f, c)) = inr (subst (λ (s : Shape). IsFiled s n before made.records) (sym e) f, loaded_as m life y w made.records e c)

-- ---- from a machine at rest
abbrev IsCaused : Machine → List Act → Shape → ℕ → List Record → Made → Type 0
IsCaused start life s n before made = (w : ZoneState) → w.setting.shape ≡ s → IsVersionOf start life w n before made

all_caused : (start : Machine) (life : List Act) (w : ZoneState) (s : Shape) (n : ℕ) (before : List Record) (later : List Made) → w.setting.shape ≡ s → AllHold (IsCaused start life) s n before later
    → AreVersionsOf start life w n before later
all_caused start life w s n before [] e h = tt
all_caused start life w s n before (m ∷ later) e h = (h.0 w e, all_caused start life w s (suc n) m.records later e h.1)

of_start : (C : Shape → ℕ → List Record → Made → Type 0) (zones : List ZoneState) → AllByRecursion (λ z. z.staged ≡ []) zones → Each2 (IsOf C) zones zones
of_start C [] h = tt
of_start C (z ∷ zones) h = (record { lasts = lasts_same z; later = []; updates = ap (λ (us : List Made). z.shown ++ us) h.0; holds = tt }, of_start C zones h.1)

grown_of : (start : Machine) (life : List Act) (z w : ZoneState) → IsOf (IsCaused start life) z w → HasGrown start life z w
grown_of start life z w h = record {
  later = h.later;
  updates = h.updates;
  versions = all_caused start life w z.setting.shape (length z.shown) (shown_of (kept_of z)) h.later h.lasts.shape h.holds;
}

-- how often stores were opened
tended_opens : (R : ZoneState → ZoneState → Type 0) (index : ℕ) (m new : Machine) → (t : IsTended R index m new) → (t.next).openings ≤ (t.zone).openings + 1 → Each2 (IsOpenedAtMost 1) m.zones new.zones
tended_opens R index m new t few =
    subst (λ (x : Machine). Each2 (IsOpenedAtMost 1) m.zones x.zones) (sym t.is) (pair_set (IsOpenedAtMost 1) (λ z. omega arith) m.zones index t.zone t.next t.there few)

life_opens : (m : Machine) (life : List Act) → Life m life → Each2 (IsOpenedAtMost (openings_of life)) m.zones (end_of_life m life).zones
life_opens m [] l = pair_same (IsOpenedAtMost 0) (λ z. omega arith) m.zones
life_opens m (Ran moment ∷ rest) l =
    pair_then (IsOpenedAtMost (openings_in (moment ∷ []))) (IsOpenedAtMost (openings_of rest)) (IsOpenedAtMost (openings_in (moment ∷ []) + openings_of rest)) (λ a b c p q. omega (arith, p, q))
    m.zones (machine_after moment).zones (end_of_life (machine_after moment) rest).zones (run_counts m (moment ∷ []) (l.0, tt)) (life_opens (machine_after moment) rest l.1)
life_opens m (Loaded index file new ∷ rest) l =
    pair_then (IsOpenedAtMost 1) (IsOpenedAtMost (openings_of rest)) (IsOpenedAtMost (suc (openings_of rest))) (λ a b c p q. omega (arith, p, q))
    m.zones new.zones (end_of_life new rest).zones (tended_opens (HasLoaded file) index m new l.0 (l.0).made.opened.at_most) (life_opens new rest l.1)
life_opens m (Reopened index new ∷ rest) l =
    pair_then (IsOpenedAtMost 1) (IsOpenedAtMost (openings_of rest)) (IsOpenedAtMost (suc (openings_of rest))) (λ a b c p q. omega (arith, p, q))
    m.zones new.zones (end_of_life new rest).zones (tended_opens (IsOpenedWith []) index m new l.0 (l.0).made.at_most) (life_opens new rest l.1)

pub life_leaves : (start : Machine) (life : List Act) → IsMachineAtRest start → Life start life → Legacy start life
life_leaves start life rest l =
    let C = IsCaused start life in
    let kept = life_keeps C start.zones start life (λ w n before made h v e. version_as start life w v n before made e h) (none_placed start rest.waiting) (of_start C start.zones rest.staged) l in
    record {
      loaded = kept.loaded;
      grown = pair_map (IsOf C) (HasGrown start life) (grown_of start life) start.zones (end_of_life start life).zones kept.grown;
      openings = life_opens start life l;
      acts = kept.acts;
    }

-- ---- what begins is at rest
loaded_rest : (zones : List Zone) (settings : List ZoneSpec) (states : List ZoneState) → Each3 IsLoaded zones settings states → AllByRecursion (λ z. z.staged ≡ []) states
loaded_rest [] [] [] h = tt
loaded_rest (a ∷ zones) (s ∷ settings) (z ∷ states) h = ((h.0).staged, loaded_rest zones settings states h.1)
loaded_rest _ _ _ h = absurd h

none_made : (made : List Made) → versions_of made ≡ [] → made ≡ []
none_made [] e = refl
none_made (m ∷ made) e = absurd cc

reopened_rest : (held : List Opened) (states : List ZoneState) → Each2 IsReopened held states → AllByRecursion (λ z. z.staged ≡ []) states
reopened_rest [] [] h = tt
reopened_rest [] (z ∷ states) h = absurd h
reopened_rest (o ∷ held) [] h = absurd h
reopened_rest (o ∷ held) (z ∷ states) h = (none_made z.staged (ap (λ (k : Kept). k.staged) (h.0).versions), reopened_rest held states h.1)

pub start_rests : (m : Machine) → IsStart m → IsMachineAtRest m
start_rests m (inl (zones, settings, f)) = record { waiting = f.waiting; staged = loaded_rest zones settings m.zones f.zones_are }
start_rests m (inr (held, f)) = record { waiting = f.waiting; staged = reopened_rest held m.zones f.zones_are }
