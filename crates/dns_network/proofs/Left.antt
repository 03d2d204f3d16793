-- What a crash within a run leaves, moment by moment.
use Rattle.std.proofs.Common.{◌≡◌, ◌+◌, ℕ, suc, inl, inr, List, [], ◌∷◌, ◌++◌, Bool, Option, ap, ◌∙◌, arith}
use Rattle.std.specs.Prelude.{Some, slice_get}
use Rattle.dns_zone.specs.Zone.{Zone}
use Rattle.dns_zone.specs.declared.index.ZoneIndex as zone_index
use Rattle.dns_sectors.specs.Device.{Content, LeavesOnly}
use Rattle.dns_sectors.proofs.Moments.{joined, started, weaker}
use Rattle.dns_store.specs.declared.zone_store.ZoneStore as store
use Rattle.dns_versions.specs.declared.zone_versions.ZoneVersions.{ZoneVersions}
use Rattle.dns_versions.specs.Each.{Each3}
use Rattle.dns_primary.specs.declared.primary.Primary.{Primary}
use Rattle.dns_primary.specs.Keeps.{HaveVersions, IsKept}
use Rattle.dns_primary.specs.Machine.{Machine, ZoneState, kept_of}
use Rattle.dns_primary.specs.Runs.{Moment, Took, machine_at_end, machine_after}
use Rattle.dns_primary.specs.Step as machine
use Rattle.dns_primary.specs.Step.{Event, base_moved}
use Rattle.dns_primary.specs.Steps.{AtAnyMomentOf, LeavesIfHonest, OpensAsEvent, StayHonest, with_rooms}
use Rattle.dns_network.specs.Left.{AreLeftFrom, LeadsThrough, OpensInRun, RestLaw}

-- What is at a position of a list, counted from another.
at_here : {A : Type 0} (all : List A) (index : ℕ) (x : A) (xs : List A) → ((j : ℕ) → slice_get all (index + j) ≡ slice_get (x ∷ xs) j) → slice_get all index ≡ Some x
at_here all index x xs h = ap (slice_get all) (let e : index ≡ index + 0 = omega arith in e) ∙ h 0

at_next : {A : Type 0} (all : List A) (index : ℕ) (x : A) (xs : List A) → ((j : ℕ) → slice_get all (index + j) ≡ slice_get (x ∷ xs) j) → (j : ℕ) → slice_get all (suc index + j) ≡ slice_get xs j
at_next all index x xs h j = ap (slice_get all) (let e : suc index + j ≡ index + suc j = omega arith in e) ∙ h (suc j)

module _ {S : Type 0} (s : store.Ghosts S) where
  -- A crash in the first part of a run, or in the rest of it, falls in the whole.
  front : (m : Machine) (first later : List Moment) (index : ℕ) (c : Content) → OpensInRun s.opens m first index c → OpensInRun s.opens m (first ++ later) index c
  front m [] [] index c is = is
  front m [] (t ∷ later) index c is = inl is
  front m (t ∷ first) later index c (inl rests) = inl rests
  front m (t ∷ first) later index c (inr (inl within)) = inr (inl within)
  front m (t ∷ first) later index c (inr (inr on)) = inr (inr (front (machine_after t) first later index c on))

  behind : (m : Machine) (first later : List Moment) (index : ℕ) (c : Content) → OpensInRun s.opens (machine_at_end m first) later index c → OpensInRun s.opens m (first ++ later) index c
  behind m [] later index c is = is
  behind m (t ∷ first) later index c is = inr (inr (behind (machine_after t) first later index c is))

module _ {I S : Type 0} (s : store.Ghosts S) where
  rest_from : RestLaw s → (m : Machine) (index : ℕ) (zones : List Zone) (pending : List (ZoneVersions I S)) (states : List ZoneState) → ((j : ℕ) → slice_get m.zones (index + j) ≡ slice_get states j)
      → HaveVersions s.keeps zones pending states → AreLeftFrom s index m [] pending pending
  rest_from law m index [] [] [] at kept = tt
  rest_from law m index (y ∷ zones) (b ∷ pending) (z ∷ states) at kept = (
    ((λ h. h, λ h. h), λ honest. started s.moment s.left_since b.store (OpensInRun s.opens m [] index) (λ c left. (z, at_here m.zones index z states at, law b.store (kept_of z) (kept.0).kept honest c left))),
    rest_from law m (suc index) zones pending states (at_next m.zones index z states at) kept.1,
  )
  rest_from law m index [] (b ∷ pending) states at kept = absurd kept
  rest_from law m index (y ∷ zones) [] states at kept = absurd kept
  rest_from law m index [] [] (z ∷ states) at kept = absurd kept
  rest_from law m index (y ∷ zones) (b ∷ pending) [] at kept = absurd kept

  event_from : (m : Machine) (event : Event) (fails : List Bool) (stated : machine.Effects) (next : Machine) (index : ℕ) (olds news : List (ZoneVersions I S)) (ks : List (Option ℕ × ZoneState))
      → ((j : ℕ) → slice_get (with_rooms (base_moved m event) m.zones) (index + j) ≡ slice_get ks j)
      → Each3 (λ a b k. LeavesIfHonest s a.store b.store (OpensAsEvent s.opens k.0 k.1)) olds news ks → StayHonest s olds news
      → AreLeftFrom s index m (Took event fails stated next ∷ []) olds news
  event_from m event fails stated next index [] [] [] at is same = tt
  event_from m event fails stated next index (a ∷ olds) (b ∷ news) (k ∷ ks) at is same = (
    (
      same.0,
      λ honest. weaker s.moment s.left_since a.store b.store (OpensAsEvent s.opens k.0 k.1) (OpensInRun s.opens m (Took event fails stated next ∷ []) index) (is.0 honest)
          (λ c left. inr (inl (k, at_here (with_rooms (base_moved m event) m.zones) index k ks at, left))),
    ),
    event_from m event fails stated next (suc index) olds news ks (at_next (with_rooms (base_moved m event) m.zones) index k ks at) is.1 same.1,
  )
  event_from m event fails stated next index [] (b ∷ news) ks at is same = absurd is
  event_from m event fails stated next index (a ∷ olds) [] ks at is same = absurd is
  event_from m event fails stated next index [] [] (k ∷ ks) at is same = absurd is
  event_from m event fails stated next index (a ∷ olds) (b ∷ news) [] at is same = absurd is

  on_from : (m : Machine) (first later : List Moment) (index : ℕ) (olds mids news : List (ZoneVersions I S)) → AreLeftFrom s index m first olds mids
      → AreLeftFrom s index (machine_at_end m first) later mids news → AreLeftFrom s index m (first ++ later) olds news
  on_from m first later index [] [] [] h k = tt
  on_from m first later index (a ∷ olds) (b ∷ mids) (d ∷ news) h k = (
    (
      (λ x. h.0.0.0 (k.0.0.0 x), λ x. k.0.0.1 (h.0.0.1 x)),
      λ honest. joined s.moment s.left_since a.store b.store d.store (OpensInRun s.opens m (first ++ later) index) (OpensInRun s.opens (machine_at_end m first) later index)
          (weaker s.moment s.left_since a.store b.store (OpensInRun s.opens m first index) (OpensInRun s.opens m (first ++ later) index) (h.0.1 honest) (λ c left. front s m first later index c left)) (k.0.1 (h.0.0.1 honest))
          (λ c left. behind s m first later index c left),
    ),
    on_from m first later (suc index) olds mids news h.1 k.1,
  )
  on_from m first later index [] (b ∷ mids) news h k = absurd h
  on_from m first later index (a ∷ olds) [] news h k = absurd h
  on_from m first later index [] [] (d ∷ news) h k = absurd k
  on_from m first later index (a ∷ olds) (b ∷ mids) [] h k = absurd k

module _ {I S : Type 0} {i : zone_index.Ghosts I} {s : store.Ghosts S} where
  -- Nothing is done to a primary.
  pub leads_nowhere : RestLaw s → (p : Primary I S i s) (m : Machine) → IsKept p m → LeadsThrough p p m []
  leads_nowhere law p m kept =
      rest_from s law m 0 p.zones.items p.pending.items m.zones (λ j. ap (slice_get m.zones) (let e : 0 + j ≡ j = omega arith in e)) kept.zones_are

  -- One run after another.
  pub leads_on : (m : Machine) (first later : List Moment) (old mid new : Primary I S i s) → LeadsThrough old mid m first → LeadsThrough mid new (machine_at_end m first) later → LeadsThrough old new m (first ++ later)
  leads_on m first later old mid new h k = on_from s m first later 0 old.pending.items mid.pending.items new.pending.items h k

  -- One event.
  pub led_by : (m : Machine) (event : Event) (fails : List Bool) (stated : machine.Effects) (next : Machine) (old new : Primary I S i s) → AtAnyMomentOf s (base_moved m event) m old.pending.items new.pending.items → StayHonest s old.pending.items new.pending.items → LeadsThrough old new m (Took event fails stated next ∷ [])
  led_by m event fails stated next old new is same =
      event_from s m event fails stated next 0 old.pending.items new.pending.items (with_rooms (base_moved m event) m.zones) (λ j. ap (slice_get (with_rooms (base_moved m event) m.zones)) (let e : 0 + j ≡ j = omega arith in e)) is same
