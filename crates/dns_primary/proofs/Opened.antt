-- Devices that are opened one after the other, and what that is for a machine that stopped.
use Rattle.std.proofs.Common.{◌≡◌, ◌⊎◌, ◌+◌, ◌<◌, ◌≤◌, ℕ, zero, suc, inl, inr, ⊎_elim, List, [], ◌∷◌, ◌++◌, length, map, drop, None, false, refl, sym, ap, subst, ◌∙◌, arith}
use Rattle.std.specs.Prelude.{◌↔◌, slice_index_or}
use Rattle.dns_names.specs.Name.{Labels}
use Rattle.dns_records.specs.Record.{Record}
use Rattle.dns_zone.specs.Zone.{Zone}
use Rattle.dns_wire.specs.Message.{Message, header_of}
use Rattle.dns_sectors.specs.Device.{Content, LeavesOnly}
use Rattle.dns_sectors.specs.Crash.{Write}
use Rattle.dns_sectors.specs.declared.device.Sectors.{Ghosts}
use Rattle.dns_sectors.proofs.Moments.{weaker, started}
use Rattle.dns_layout.specs.Sector.{sector_at}
use Rattle.dns_store.specs.Versions.{Shape, Kept, Opened, Versions, opened_again}
use Rattle.dns_store.specs.Opens.{opens, fresh}
use Rattle.dns_store.specs.Opening.{IsNotReopened, MayOpen, NamesInUse, OpensAsPossible, StopsPossible, keeps}
use Rattle.dns_store.specs.declared.kept_store.KeptStore.{KeptStore}
use Rattle.dns_store.specs.declared.root.OpenError.{OpenError}
use Rattle.dns_store.specs.declared.root.OpenError.TheVariants.{Device, Blank, Damaged, Geometry, OutOfMemory}
use Rattle.dns_versions.specs.declared.zone_versions.ZoneVersions.{ZoneVersions}
use Rattle.dns_versions.specs.Each.{Each2}
use Rattle.dns_versions.specs.Held.{HasVersions}
use Rattle.dns_primary.specs.declared.primary.ZoneSpec.{ZoneSpec}
use Rattle.dns_primary.specs.Machine.{Made, Setting, ZoneState, Machine, kept_of, versions_of}
use Rattle.dns_primary.specs.Step.{Event}
use Rattle.dns_primary.specs.Stop.{IsSetAnew, IsMaking, IsRecovered, AreRecovered, OpensAsRecovered, reopened_as}
use Rattle.dns_primary.specs.Keeps.{HaveVersions, IsSet}
use Rattle.dns_primary.proofs.Places.{itself2}
use Rattle.dns_primary.proofs.Begun.{setting_of, allows_is}
use Rattle.dns_primary.specs.Open.{shape_of, device_of_pending, AnySettings, AreAsHonest, AreHonestOrNot, AreSetIfHonest, AreHonest, AreReopened, IsHonestAt, StaysPossible, IsOpened, IsNotOpened, AreOpened, AreHandedBack, AreRefused, IsRecoverableAs, AreRecoverable, AreRecoverableAs, LeaveRecovered, NamesOneOf, IsRecoveryStopped}

pub first_dropped : {A : Type 0} (xs : List A) (i : ℕ) (d : A) → slice_index_or (drop i xs) 0 d ≡ slice_index_or xs i d
first_dropped xs zero d = refl
first_dropped [] (suc i) d = refl
first_dropped (x ∷ xs) (suc i) d = first_dropped xs i d

pub drop_more : {A : Type 0} (xs : List A) (i : ℕ) → drop 1 (drop i xs) ≡ drop (suc i) xs
drop_more [] zero = refl
drop_more (x ∷ xs) zero = refl
drop_more [] (suc i) = refl
drop_more (x ∷ xs) (suc i) = drop_more xs i

module _ {D I : Type 0} {g : Ghosts D} where
  pub opened_none : (apexes : List Labels) (settings : List ZoneSpec) (devices : List D) (zones : List Zone) (pending : List (ZoneVersions I (KeptStore D I g))) → zones ≡ [] → pending ≡ [] → AreOpened zero apexes settings devices zones pending
  opened_none apexes settings devices zones pending e f =
      subst (λ (l : List Zone). AreOpened {D = D} {I = I} {g = g} zero apexes settings devices l pending) (sym e) (subst (λ (l : List (ZoneVersions I (KeptStore D I g))). AreOpened {D = D} {I = I} {g = g} zero apexes settings devices [] l) (sym f) tt)

  pub opened_within : (i : ℕ) (apexes : List Labels) (settings : List ZoneSpec) (devices : List D) (zones : List Zone) (pending : List (ZoneVersions I (KeptStore D I g))) → AreOpened i apexes settings devices zones pending → i ≤ length settings
  opened_within zero apexes settings devices zones pending each = omega arith
  opened_within (suc i) (x ∷ apexes) (y ∷ settings) (v ∷ devices) (w ∷ zones) (c ∷ pending) each = (let rest = opened_within i apexes settings devices zones pending each.1 in omega (arith, rest))
  opened_within _ _ _ _ _ _ each = absurd each

  pub opened_many : (i : ℕ) (apexes : List Labels) (settings : List ZoneSpec) (devices : List D) (zones : List Zone) (pending : List (ZoneVersions I (KeptStore D I g))) → AreOpened i apexes settings devices zones pending → (length zones ≡ i) × (length pending ≡ i)
  opened_many zero apexes settings devices [] [] each = (refl, refl)
  opened_many zero apexes settings devices [] (c ∷ pending) each = absurd each
  opened_many zero apexes settings devices (w ∷ zones) pending each = absurd each
  opened_many (suc i) (x ∷ apexes) (y ∷ settings) (v ∷ devices) (w ∷ zones) (c ∷ pending) each =
      (let rest = opened_many i apexes settings devices zones pending each.1 in (ap suc rest.0, ap suc rest.1))
  opened_many _ _ _ _ _ _ each = absurd each

  -- one more was opened
  pub opened_more : (i : ℕ) (apexes : List Labels) (settings : List ZoneSpec) (devices : List D) (zones : List Zone) (pending : List (ZoneVersions I (KeptStore D I g))) (a : Labels) (s : ZoneSpec) (d : D) (z : Zone) (b : ZoneVersions I (KeptStore D I g))
      → AreOpened i apexes settings devices zones pending
      → i < length apexes → i < length settings → i < length devices
      → IsOpened (slice_index_or apexes i a) (slice_index_or settings i s) (slice_index_or devices i d) z b
      → AreOpened (suc i) apexes settings devices (zones ++ z ∷ []) (pending ++ b ∷ [])
  opened_more zero [] settings devices zones pending a s d z b each l m n is = absurd (omega (arith, l))
  opened_more zero (x ∷ apexes) [] devices zones pending a s d z b each l m n is = absurd (omega (arith, m))
  opened_more zero (x ∷ apexes) (y ∷ settings) [] zones pending a s d z b each l m n is = absurd (omega (arith, n))
  opened_more zero (x ∷ apexes) (y ∷ settings) (v ∷ devices) [] [] a s d z b each l m n is = (is, tt)
  opened_more zero (x ∷ apexes) (y ∷ settings) (v ∷ devices) [] (c ∷ pending) a s d z b each l m n is = absurd each
  opened_more zero (x ∷ apexes) (y ∷ settings) (v ∷ devices) (w ∷ zones) pending a s d z b each l m n is = absurd each
  opened_more (suc i) (x ∷ apexes) (y ∷ settings) (v ∷ devices) (w ∷ zones) (c ∷ pending) a s d z b each l m n is =
      (each.0, opened_more i apexes settings devices zones pending a s d z b each.1 (omega (arith, l)) (omega (arith, m)) (omega (arith, n)) is)
  opened_more _ _ _ _ _ _ a s d z b each l m n is = absurd each

  -- one was not
  pub handed_back : (error : OpenError) (i : ℕ) (apexes : List Labels) (settings : List ZoneSpec) (devices : List D) (zones : List Zone) (pending : List (ZoneVersions I (KeptStore D I g))) (a : Labels) (s : ZoneSpec) (d e : D)
      → AreOpened i apexes settings devices zones pending
      → i < length apexes → i < length settings → i < length devices
      → IsNotOpened g (slice_index_or apexes i a) (slice_index_or settings i s) error (slice_index_or devices i d) e
      → AreHandedBack g error i apexes settings devices (map (λ b. device_of_pending b) pending ++ e ∷ drop (suc i) devices)
  handed_back error zero [] settings devices zones pending a s d e each l m n is = absurd (omega (arith, l))
  handed_back error zero (x ∷ apexes) [] devices zones pending a s d e each l m n is = absurd (omega (arith, m))
  handed_back error zero (x ∷ apexes) (y ∷ settings) [] zones pending a s d e each l m n is = absurd (omega (arith, n))
  handed_back error zero (x ∷ apexes) (y ∷ settings) (v ∷ devices) [] [] a s d e each l m n is = (is, refl)
  handed_back error zero (x ∷ apexes) (y ∷ settings) (v ∷ devices) [] (c ∷ pending) a s d e each l m n is = absurd each
  handed_back error zero (x ∷ apexes) (y ∷ settings) (v ∷ devices) (w ∷ zones) pending a s d e each l m n is = absurd each
  handed_back error (suc i) (x ∷ apexes) (y ∷ settings) (v ∷ devices) (w ∷ zones) (c ∷ pending) a s d e each l m n is =
      (each.0.leaves, each.0.intact, handed_back error i apexes settings devices zones pending a s d e each.1 (omega (arith, l)) (omega (arith, m)) (omega (arith, n)) is)
  handed_back error _ _ _ _ _ _ a s d e each l m n is = absurd each

-- each device is as honest as it was
module _ {D I : Type 0} {g : Ghosts D} where
  pub opened_honest : (n : ℕ) (apexes : List Labels) (settings : List ZoneSpec) (devices : List D) (zones : List Zone) (pending : List (ZoneVersions I (KeptStore D I g))) → length devices ≡ n → AreOpened n apexes settings devices zones pending
      → AreAsHonest g devices (map (λ (b : ZoneVersions I (KeptStore D I g)). device_of_pending b) pending)
  opened_honest zero apexes settings [] [] [] many each = tt
  opened_honest zero apexes settings (d ∷ devices) [] [] many each = absurd (omega (arith, many))
  opened_honest zero apexes settings devices [] (c ∷ pending) many each = absurd each
  opened_honest zero apexes settings devices (w ∷ zones) pending many each = absurd each
  opened_honest (suc n) (a ∷ apexes) (s ∷ settings) (d ∷ devices) (w ∷ zones) (b ∷ pending) many each =
      (each.0.leaves.honest, opened_honest n apexes settings devices zones pending (omega (arith, many)) each.1)
  opened_honest _ _ _ _ _ _ many each = absurd each

module _ {D : Type 0} (g : Ghosts D) where
  pub same_honest : (devices : List D) → AreAsHonest g devices devices
  same_honest devices = itself2 (λ (d e : D). g.is_honest e ↔ g.is_honest d) devices (λ d. (λ h. h, λ h. h))

  back_honest : (error : OpenError) (n : ℕ) (apexes : List Labels) (settings : List ZoneSpec) (devices back : List D) → AreHandedBack g error n apexes settings devices back → AreAsHonest g devices back
  back_honest error zero (a ∷ apexes) (s ∷ settings) (d ∷ devices) (e ∷ back) h = (h.0.leaves.honest, subst (λ (l : List D). AreAsHonest g devices l) (sym h.1) (same_honest devices))
  back_honest error (suc n) (a ∷ apexes) (s ∷ settings) (d ∷ devices) (e ∷ back) h = (h.0.honest, back_honest error n apexes settings devices back h.2)
  back_honest error _ _ _ _ _ h = absurd h

  pub refused_honest : (error : OpenError) (n : ℕ) (apexes : List Labels) (settings : List ZoneSpec) (devices back : List D) → AreRefused g error n apexes settings devices back → AreAsHonest g devices back
  refused_honest error n apexes settings devices back (inl h) = back_honest error n apexes settings devices back h
  refused_honest error n apexes settings devices back (inr (memory, same)) = subst (λ (l : List D). AreAsHonest g devices l) (sym same) (same_honest devices)

-- what a zone is that may be recovered, and its device
module _ {D : Type 0} {g : Ghosts D} (tries : ℕ) (making : ℕ → Type 0) (z : ZoneState) (a : Labels) (s : ZoneSpec) (d : D) {set_as : ZoneSpec → ZoneState → Type 0} (is : IsRecoverableAs set_as g tries making z a s d) where
  shape_is : (least most : ℕ) (w : ZoneState) → IsRecovered least most making z w → w.setting.shape ≡ shape_of a s
  shape_is least most w r = ap (λ (x : Setting). x.shape) r.setting ∙ is.shape

  pub may_open : g.is_honest d → MayOpen g (shape_of a s) d
  may_open honest c left =
      let there = is.leaves honest c left in
      (reopened_as there.0, subst (λ (x : Shape). opens x (reopened_as there.0) c) (shape_is 0 tries there.0 there.1) there.2)

  -- the zone, opened once more
  abbrev again : ZoneState → ZoneState
  again w = record w { openings = w.openings + 1 }

  at_most_more : (w : ZoneState) → IsRecovered 0 tries making z w → IsRecovered 0 (suc tries) making z w
  at_most_more w r = record {
    setting = r.setting;
    loaded = r.loaded;
    kept = r.kept;
    lost = r.lost;
    front = r.front;
    shown = r.shown;
    staged = r.staged;
    base = r.base;
    so_far = r.so_far;
    second = r.second;
    altered = r.altered;
    opened = r.opened;
    at_least = r.at_least;
    at_most = (let most = r.at_most in omega (arith, most));
  }

  once_more : (least : ℕ) → least ≤ 1 → (w : ZoneState) → IsRecovered 0 tries making z w → IsRecovered least (suc tries) making z (again w)
  once_more least few w r = record {
    setting = r.setting;
    loaded = r.loaded;
    kept = r.kept;
    lost = r.lost;
    front = r.front;
    shown = r.shown;
    staged = r.staged;
    base = r.base;
    so_far = r.so_far;
    second = r.second;
    altered = r.altered;
    opened = r.opened;
    at_least = (let at = r.at_least in omega (arith, at, few));
    at_most = (let most = r.at_most in omega (arith, most));
  }

  possible_recovered : g.is_honest d → (c : Content) → OpensAsPossible g (shape_of a s) d c → OpensAsRecovered opens (suc tries) making z c
  possible_recovered honest c possible =
      let there = is.leaves honest possible.0 possible.1 in
      let w = there.0 in
      let same = shape_is 0 tries w there.1 in
      elim (possible.2 (reopened_as w) (subst (λ (x : Shape). opens x (reopened_as w) possible.0) same there.2)) [
        | inl now ↦ (w, at_most_more w there.1, subst (λ (x : Shape). opens x (reopened_as w) c) (sym same) now)
        | inr now ↦ (again w, once_more 0 (omega arith) w there.1, subst (λ (x : Shape). opens x (reopened_as (again w)) c) (sym same) now)
      ]

  pub leaves_recovered : g.is_honest d → (e : D) → StaysPossible g a s d e → LeavesOnly g.moment g.left_since d e (OpensAsRecovered opens (suc tries) making z)
  leaves_recovered honest e stays = weaker g.moment g.left_since d e (OpensAsPossible g (shape_of a s) d) (OpensAsRecovered opens (suc tries) making z) (stays.any_moment honest is.range) (possible_recovered honest)

  -- one try more
  pub tried : IsRecoverableAs set_as g (suc tries) making z a s d
  tried = record {
    shape = is.shape;
    set = is.set;
    range = is.range;
    leaves = λ honest c left. (let there = is.leaves honest c left in (there.0, at_most_more there.0 there.1, there.2));
  }

  module _ (counts_now : (device : D) (t : ℕ) (c : Content) → g.is_honest device → t ≤ g.moment device → g.may_leave device c → g.left_since device t c) where
    pub stays_recoverable : (e : D) → StaysPossible g a s d e → IsRecoverableAs set_as g (suc tries) making z a s e
    stays_recoverable e stays = record {
      shape = is.shape;
      set = is.set;
      range = is.range;
      leaves = λ honest c left.
          (let run = leaves_recovered (stays.honest.0 honest) e stays in
          run.each c (counts_now e (g.moment d) c honest run.later left));
    }

  -- why it was not opened, by how often the machine says that it was, or which sectors of it were altered
  pub stopped_by : g.is_honest d → (error : OpenError) → StopsPossible g (shape_of a s) d error → IsNotReopened (z.openings + tries) error ⊎ NamesOneOf z.altered error
  stopped_by honest error stops =
      let there = is.leaves honest stops.0 stops.1 in
      let w = there.0 in
      let most = (there.1).at_most in
      ⊎_elim (λ again. inl (by w.openings most again)) (λ named. inr (subst (λ (ws : List Write). NamesOneOf ws error) (there.1).altered (names w error named)))
      (stops.2 (reopened_as w) (subst (λ (x : Shape). opens x (reopened_as w) stops.0) (shape_is 0 tries w there.1) there.2))
    where
      names : (w : ZoneState) (e : OpenError) → NamesInUse (shape_of a s) (reopened_as w) stops.0 e → NamesOneOf w.altered e
      names w Device named = absurd named
      names w Blank named = absurd named
      names w (Damaged position) named = (position, sector_at stops.0 position, refl, named.0)
      names w Geometry named = absurd named
      names w OutOfMemory named = absurd named

      by : (n : ℕ) → n ≤ z.openings + tries → IsNotReopened n error → IsNotReopened (z.openings + tries) error
      by n most (inl device) = inl device
      by n most (inr (inl memory)) = inr (inl memory)
      by n most (inr (inr often)) = inr (inr (often.0, (let limit = often.1 in omega (arith, limit, most))))

  kept_fresh : (w : ZoneState) → IsRecovered 0 tries making z w → kept_of (again w) ≡ fresh (shape_of a s) (opened_again (reopened_as w))
  kept_fresh w r = λ i. record {
    shape = shape_is 0 tries w r i;
    loaded = w.loaded;
    shown = versions_of w.shown;
    staged = versions_of (r.staged i);
    base = w.base;
    second = r.second i;
    openings = w.openings + 1;
    altered = w.altered;
    closed = r.opened i;
  }

  pub record IsReopened {I : Type 0} (zone : Zone) (b : ZoneVersions I (KeptStore D I g)) : Type 0 where
    pub state : ZoneState
    pub recovered : IsRecovered 1 (suc tries) making z state
    pub held : HasVersions (λ x k. keeps x k) zone b (kept_of state)

  pub reopened : g.is_honest d → {I : Type 0} (zone : Zone) (b : ZoneVersions I (KeptStore D I g)) → IsOpened a s d zone b → IsReopened zone b
  reopened honest {I} zone b opened =
      let takes = opened.takes honest is.range (may_open honest) in
      let there = is.leaves honest takes.0 takes.1 in
      let held = takes.2 (reopened_as there.0) (subst (λ (x : Shape). opens x (reopened_as there.0) takes.0) (shape_is 0 tries there.0 there.1) there.2) in
      record {
        state = again there.0;
        recovered = once_more 1 (omega arith) there.0 there.1;
        held = subst (λ (k : Kept). HasVersions (λ (x : KeptStore D I g) (k : Kept). keeps x k) zone b k) (sym (kept_fresh there.0 there.1)) held;
      }

-- a zone with other settings
abbrev set_up : ZoneSpec → ZoneState → ZoneState
set_up s w = record w { setting = setting_of w.setting.shape s }

set_up_so : (s : ZoneSpec) (w : ZoneState) → IsSet s (set_up s w)
set_up_so s w = record { keep = refl; update = allows_is s.update.items; transfer = allows_is s.transfer.items }

-- what is opened again with the settings that it had
set_recovered : (least most : ℕ) (making : ℕ → Type 0) (s : ZoneSpec) (z w : ZoneState) → IsSet s z → IsRecovered least most making z w → IsSet s w
set_recovered least most making s z w set r = record {
  keep = set.keep ∙ sym (ap (λ (x : Setting). x.keep) r.setting);
  update = (subst (λ (x : Setting). IsSet s (record z { setting = x })) (sym r.setting) set).update;
  transfer = (subst (λ (x : Setting). IsSet s (record z { setting = x })) (sym r.setting) set).transfer;
}

-- the settings of zones that are opened again
module _ {D : Type 0} (g : Ghosts D) (m : Machine) (event : Event) (tries : ℕ) where
  -- with the settings that the zones had
  pub all_set_again : (index : ℕ) (olds : List ZoneState) (apexes : List Labels) (settings : List ZoneSpec) (devices : List D) (news : List ZoneState)
      → AreRecoverable g tries m event index olds apexes settings devices → AreRecovered 1 (suc tries) m event index olds news → Each2 IsSet settings news
  all_set_again index [] [] [] [] [] is r = tt
  all_set_again index [] [] [] [] (w ∷ news) is r = absurd r
  all_set_again index (z ∷ olds) (a ∷ apexes) (s ∷ settings) (d ∷ devices) [] is r = absurd r
  all_set_again index (z ∷ olds) (a ∷ apexes) (s ∷ settings) (d ∷ devices) (w ∷ news) is r =
      (set_recovered 1 (suc tries) (IsMaking m event index z) s z w (is.0).set r.0, all_set_again (suc index) olds apexes settings devices news is.1 r.1)
  all_set_again index _ _ _ _ news is r = absurd is

  many_recovered : (index : ℕ) (olds : List ZoneState) (apexes : List Labels) (settings : List ZoneSpec) (devices : List D) (news : List ZoneState)
      → (set_as : ZoneSpec → ZoneState → Type 0) → AreRecoverableAs set_as g tries m event index olds apexes settings devices → AreRecovered 1 (suc tries) m event index olds news → length settings ≡ length news
  many_recovered index [] [] [] [] [] set_as is r = refl
  many_recovered index [] [] [] [] (w ∷ news) set_as is r = absurd r
  many_recovered index (z ∷ olds) (a ∷ apexes) (s ∷ settings) (d ∷ devices) [] set_as is r = absurd r
  many_recovered index (z ∷ olds) (a ∷ apexes) (s ∷ settings) (d ∷ devices) (w ∷ news) set_as is r = ap suc (many_recovered (suc index) olds apexes settings devices news set_as is.1 r.1)
  many_recovered index _ _ _ _ news set_as is r = absurd is

-- all zones of a machine that stopped within an event
module _ {D I : Type 0} {g : Ghosts D} (m : Machine) (event : Event) (tries : ℕ) where
  pub record AreAllReopened (index : ℕ) (olds : List ZoneState) (zones : List Zone) (pending : List (ZoneVersions I (KeptStore D I g))) : Type 0 where
    pub states : List ZoneState
    pub recovered : AreRecovered 1 (suc tries) m event index olds states
    pub held : HaveVersions (λ (x : KeptStore D I g) k. keeps x k) zones pending states

  -- each zone whose device is honest
  pub each_reopened : (index : ℕ) (olds : List ZoneState) (apexes : List Labels) (settings : List ZoneSpec) (devices : List D) (zones : List Zone) (pending : List (ZoneVersions I (KeptStore D I g)))
      → (set_as : ZoneSpec → ZoneState → Type 0) → AreRecoverableAs set_as g tries m event index olds apexes settings devices → AreOpened (length settings) apexes settings devices zones pending → AreReopened g tries m event index olds devices zones pending
  each_reopened index [] [] [] [] [] [] set_as is each = tt
  each_reopened index [] [] [] [] [] (b ∷ pending) set_as is each = absurd each
  each_reopened index [] [] [] [] (y ∷ zones) pending set_as is each = absurd each
  each_reopened index (z ∷ olds) (a ∷ apexes) (s ∷ settings) (d ∷ devices) [] pending set_as is each = absurd each
  each_reopened index (z ∷ olds) (a ∷ apexes) (s ∷ settings) (d ∷ devices) (y ∷ zones) [] set_as is each = absurd each
  each_reopened index (z ∷ olds) (a ∷ apexes) (s ∷ settings) (d ∷ devices) (y ∷ zones) (b ∷ pending) set_as is each = (
    λ honest.
        (let one = reopened tries (IsMaking m event index z) z a s d is.0 honest y b each.0 in
        (one.state, one.recovered, one.held)),
    each_reopened (suc index) olds apexes settings devices zones pending set_as is.1 each.1,
  )
  each_reopened index _ _ _ _ zones pending set_as is each = absurd is

  -- all of them
  pub all_reopened : (index : ℕ) (olds : List ZoneState) (devices : List D) (zones : List Zone) (pending : List (ZoneVersions I (KeptStore D I g)))
      → AreReopened g tries m event index olds devices zones pending → AreHonest g devices → AreAllReopened index olds zones pending
  all_reopened index [] [] [] [] each honest = record { states = []; recovered = tt; held = tt }
  all_reopened index (z ∷ olds) (d ∷ devices) (y ∷ zones) (b ∷ pending) each honest =
      let one = each.0 honest.0 in
      let rest = all_reopened (suc index) olds devices zones pending each.1 honest.1 in
      record {
        states = one.0 ∷ rest.states;
        recovered = (one.1, rest.recovered);
        held = (one.2, rest.held);
      }
  all_reopened index _ _ _ _ each honest = absurd each

  -- what a crash leaves of each honest device
  pub all_left : (index : ℕ) (olds : List ZoneState) (apexes : List Labels) (settings : List ZoneSpec) (devices : List D) (zones : List Zone) (pending : List (ZoneVersions I (KeptStore D I g)))
      → (set_as : ZoneSpec → ZoneState → Type 0) → AreRecoverableAs set_as g tries m event index olds apexes settings devices → AreOpened (length settings) apexes settings devices zones pending → LeaveRecovered g (suc tries) m event index olds devices (map (λ (b : ZoneVersions I (KeptStore D I g)). device_of_pending b) pending)
  all_left index [] [] [] [] [] [] set_as is each = tt
  all_left index [] [] [] [] [] (b ∷ pending) set_as is each = absurd each
  all_left index [] [] [] [] (y ∷ zones) pending set_as is each = absurd each
  all_left index (z ∷ olds) (a ∷ apexes) (s ∷ settings) (d ∷ devices) [] pending set_as is each = absurd each
  all_left index (z ∷ olds) (a ∷ apexes) (s ∷ settings) (d ∷ devices) (y ∷ zones) [] set_as is each = absurd each
  all_left index (z ∷ olds) (a ∷ apexes) (s ∷ settings) (d ∷ devices) (y ∷ zones) (b ∷ pending) set_as is each = (
    λ honest. leaves_recovered tries (IsMaking m event index z) z a s d is.0 honest (device_of_pending b) each.0.leaves,
    all_left (suc index) olds apexes settings devices zones pending set_as is.1 each.1,
  )
  all_left index _ _ _ _ zones pending set_as is each = absurd is

  -- ... or with others
  pub record AreSetUp (settings : List ZoneSpec) (states : List ZoneState) (zones : List Zone) (pending : List (ZoneVersions I (KeptStore D I g))) : Type 0 where
    pub news : List ZoneState
    pub anew : Each2 IsSetAnew states news
    pub held : HaveVersions (λ (x : KeptStore D I g) k. keeps x k) zones pending news
    pub set : Each2 IsSet settings news

  all_set_up : (settings : List ZoneSpec) (states : List ZoneState) (zones : List Zone) (pending : List (ZoneVersions I (KeptStore D I g))) → length settings ≡ length states
      → HaveVersions (λ (x : KeptStore D I g) k. keeps x k) zones pending states → AreSetUp settings states zones pending
  all_set_up [] [] [] [] many h = record { news = []; anew = tt; held = tt; set = tt }
  all_set_up (s ∷ settings) (w ∷ states) (y ∷ zones) (b ∷ pending) many h =
      let rest = all_set_up settings states zones pending (omega (arith, many)) h.1 in
      record {
        news = set_up s w ∷ rest.news;
        anew = (record { shape = refl; rest = refl }, rest.anew);
        held = (h.0, rest.held);
        set = (set_up_so s w, rest.set);
      }
  all_set_up [] (w ∷ states) zones pending many h = absurd (omega (arith, many))
  all_set_up (s ∷ settings) [] zones pending many h = absurd (omega (arith, many))
  all_set_up [] [] [] (b ∷ pending) many h = absurd h
  all_set_up [] [] (y ∷ zones) [] many h = absurd h
  all_set_up [] [] (y ∷ zones) (b ∷ pending) many h = absurd h
  all_set_up (s ∷ settings) (w ∷ states) [] [] many h = absurd h
  all_set_up (s ∷ settings) (w ∷ states) [] (b ∷ pending) many h = absurd h
  all_set_up (s ∷ settings) (w ∷ states) (y ∷ zones) [] many h = absurd h

  pub set_up_anew : (index : ℕ) (olds : List ZoneState) (apexes : List Labels) (settings : List ZoneSpec) (devices : List D) (zones : List Zone) (pending : List (ZoneVersions I (KeptStore D I g)))
      → (set_as : ZoneSpec → ZoneState → Type 0) → AreRecoverableAs set_as g tries m event index olds apexes settings devices → (all : AreAllReopened index olds zones pending) → AreSetUp settings all.states zones pending
  set_up_anew index olds apexes settings devices zones pending set_as is all =
      all_set_up settings all.states zones pending (many_recovered g m event tries index olds apexes settings devices all.states set_as is all.recovered) all.held

-- ---- whichever devices are honest
-- versions that came by some updates
abbrev some_update : Message
some_update = record { header = header_of []; questions = []; answers = []; authorities = []; additionals = [] }

abbrev made_so : Versions → List Made
made_so = map (λ (v : List Record). record { update = some_update; records = v })

versions_so : (vs : Versions) → versions_of (made_so vs) ≡ vs
versions_so [] = refl
versions_so (v ∷ vs) = ap (λ (ws : Versions). v ∷ ws) (versions_so vs)

-- a zone of these versions
abbrev zone_so : Shape → ZoneSpec → Opened → ZoneState
zone_so shape s o = record {
  setting = setting_of shape s;
  loaded = o.loaded;
  shown = made_so o.versions;
  staged = [];
  base = o.base;
  second = None;
  openings = o.openings;
  altered = o.altered;
  closed = false;
}

kept_so : (shape : Shape) (s : ZoneSpec) (o : Opened) → kept_of (zone_so shape s o) ≡ fresh shape o
kept_so shape s o = ap (λ (vs : Versions). fresh shape (record o { versions = vs })) (versions_so o.versions)

zone_set_so : (shape : Shape) (s : ZoneSpec) (o : Opened) → IsSet s (zone_so shape s o)
zone_set_so shape s o = record { keep = refl; update = allows_is s.update.items; transfer = allows_is s.transfer.items }

module _ {D I : Type 0} {g : Ghosts D} (m : Machine) (event : Event) (tries : ℕ) where
  -- one zone, and all of them
  pub record IsHeldAnyway (index : ℕ) (z : ZoneState) (s : ZoneSpec) (d : D) (zone : Zone) (b : ZoneVersions I (KeptStore D I g)) : Type 0 where
    pub state : ZoneState
    pub recovered : g.is_honest d → (w : ZoneState) × IsRecovered 1 (suc tries) (IsMaking m event index z) z w × IsSetAnew w state
    pub held : HasVersions (λ (x : KeptStore D I g) k. keeps x k) zone b (kept_of state)
    pub set : IsSet s state

  held_anyway : (index : ℕ) (z : ZoneState) (a : Labels) (s : ZoneSpec) (d : D) → IsRecoverableAs AnySettings g tries (IsMaking m event index z) z a s d → g.is_honest d ⊎ (g.is_honest d → ⊥)
      → (zone : Zone) (b : ZoneVersions I (KeptStore D I g)) → IsOpened a s d zone b → IsHeldAnyway index z s d zone b
  held_anyway index z a s d is (inl honest) zone b opened =
      let one = reopened tries (IsMaking m event index z) z a s d is honest zone b opened in
      record {
        state = set_up s one.state;
        recovered = λ h. (one.state, one.recovered, record { shape = refl; rest = refl });
        held = one.held;
        set = set_up_so s one.state;
      }
  held_anyway index z a s d is (inr not) zone b opened =
      let there = opened.memory not in
      let shape = shape_of a s in
      record {
        state = zone_so shape s there.0;
        recovered = λ honest. absurd (not honest);
        held = subst (λ (k : Kept). HasVersions (λ (x : KeptStore D I g) (k : Kept). keeps x k) zone b k) (sym (kept_so shape s there.0)) there.1;
        set = zone_set_so shape s there.0;
      }

  pub record AreHeldAnyway (index : ℕ) (olds : List ZoneState) (settings : List ZoneSpec) (devices : List D) (zones : List Zone) (pending : List (ZoneVersions I (KeptStore D I g))) : Type 0 where
    pub states : List ZoneState
    pub recovered : AreSetIfHonest g tries m event index olds devices states
    pub held : HaveVersions (λ (x : KeptStore D I g) k. keeps x k) zones pending states
    pub set : Each2 IsSet settings states

  pub all_held_anyway : (index : ℕ) (olds : List ZoneState) (apexes : List Labels) (settings : List ZoneSpec) (devices : List D) (zones : List Zone) (pending : List (ZoneVersions I (KeptStore D I g)))
      → AreRecoverableAs AnySettings g tries m event index olds apexes settings devices → AreOpened (length settings) apexes settings devices zones pending → AreHonestOrNot g devices → AreHeldAnyway index olds settings devices zones pending
  all_held_anyway index [] [] [] [] [] [] is each known = record { states = []; recovered = tt; held = tt; set = tt }
  all_held_anyway index [] [] [] [] [] (b ∷ pending) is each known = absurd each
  all_held_anyway index [] [] [] [] (y ∷ zones) pending is each known = absurd each
  all_held_anyway index (z ∷ olds) (a ∷ apexes) (s ∷ settings) (d ∷ devices) [] pending is each known = absurd each
  all_held_anyway index (z ∷ olds) (a ∷ apexes) (s ∷ settings) (d ∷ devices) (y ∷ zones) [] is each known = absurd each
  all_held_anyway index (z ∷ olds) (a ∷ apexes) (s ∷ settings) (d ∷ devices) (y ∷ zones) (b ∷ pending) is each known =
      let one = held_anyway index z a s d is.0 known.0 y b each.0 in
      let rest = all_held_anyway (suc index) olds apexes settings devices zones pending is.1 each.1 known.1 in
      record {
        states = one.state ∷ rest.states;
        recovered = (one.recovered, rest.recovered);
        held = (one.held, rest.held);
        set = (one.set, rest.set);
      }
  all_held_anyway index _ _ _ _ zones pending is each known = absurd is

-- the devices that are handed back
module _ {D : Type 0} (set_as : ZoneSpec → ZoneState → Type 0) (g : Ghosts D) (m : Machine) (event : Event) (tries : ℕ)
    (counts_now : (device : D) (t : ℕ) (c : Content) → g.is_honest device → t ≤ g.moment device → g.may_leave device c → g.left_since device t c)
    (only_now : (device : D) (c : Content) → g.is_honest device → g.left_since device (g.moment device) c → g.may_leave device c)
  where
    stays_itself : (a : Labels) (s : ZoneSpec) (d : D) → StaysPossible g a s d d
    stays_itself a s d = record {
      honest = (λ h. h, λ h. h);
      any_moment = λ honest range. started g.moment g.left_since d (OpensAsPossible g (shape_of a s) d) (λ c left. (c, only_now d c honest left, λ o is. inl is));
    }

    same_left : (index : ℕ) (olds : List ZoneState) (apexes : List Labels) (settings : List ZoneSpec) (devices : List D) → AreRecoverableAs set_as g tries m event index olds apexes settings devices → LeaveRecovered g (suc tries) m event index olds devices devices
    same_left index [] [] [] [] is = tt
    same_left index (z ∷ olds) (a ∷ apexes) (s ∷ settings) (d ∷ devices) is =
        (λ honest. leaves_recovered tries (IsMaking m event index z) z a s d is.0 honest d (stays_itself a s d), same_left (suc index) olds apexes settings devices is.1)
    same_left index _ _ _ _ is = absurd is

    all_tried : (index : ℕ) (olds : List ZoneState) (apexes : List Labels) (settings : List ZoneSpec) (devices : List D) → AreRecoverableAs set_as g tries m event index olds apexes settings devices → AreRecoverableAs set_as g (suc tries) m event index olds apexes settings devices
    all_tried index [] [] [] [] is = tt
    all_tried index (z ∷ olds) (a ∷ apexes) (s ∷ settings) (d ∷ devices) is =
        (tried tries (IsMaking m event index z) z a s d is.0, all_tried (suc index) olds apexes settings devices is.1)
    all_tried index _ _ _ _ is = absurd is

    pub record AreHeld (error : OpenError) (n index : ℕ) (olds : List ZoneState) (apexes : List Labels) (settings : List ZoneSpec) (devices back : List D) : Type 0 where
      pub recoverable : AreRecoverableAs set_as g (suc tries) m event index olds apexes settings back
      pub stopped : IsHonestAt g n devices → IsRecoveryStopped tries error n olds
      pub left : LeaveRecovered g (suc tries) m event index olds devices back

    all_back : (error : OpenError) (n index : ℕ) (olds : List ZoneState) (apexes : List Labels) (settings : List ZoneSpec) (devices back : List D)
        → AreRecoverableAs set_as g tries m event index olds apexes settings devices → AreHandedBack g error n apexes settings devices back → AreHeld error n index olds apexes settings devices back
    all_back error zero index (z ∷ olds) (a ∷ apexes) (s ∷ settings) (d ∷ devices) (e ∷ back) is h =
        let making = IsMaking m event index z in
        record {
          recoverable = (
            stays_recoverable tries making z a s d is.0 counts_now e h.0.leaves,
            subst (λ (l : List D). AreRecoverableAs set_as g (suc tries) m event (suc index) olds apexes settings l) (sym h.1) (all_tried (suc index) olds apexes settings devices is.1),
          );
          stopped = λ honest. stopped_by tries making z a s d is.0 honest error (h.0.stopped honest is.0.range (may_open tries making z a s d is.0 honest));
          left = (λ honest. leaves_recovered tries making z a s d is.0 honest e h.0.leaves, subst (λ (l : List D). LeaveRecovered g (suc tries) m event (suc index) olds devices l) (sym h.1) (same_left (suc index) olds apexes settings devices is.1));
        }
    all_back error (suc n) index (z ∷ olds) (a ∷ apexes) (s ∷ settings) (d ∷ devices) (e ∷ back) is h =
        let making = IsMaking m event index z in
        let rest = all_back error n (suc index) olds apexes settings devices back is.1 h.2 in
        record {
          recoverable = (stays_recoverable tries making z a s d is.0 counts_now e h.0, rest.recoverable);
          stopped = rest.stopped;
          left = (λ honest. leaves_recovered tries making z a s d is.0 honest e h.0, rest.left);
        }
    all_back error n index _ (a ∷ apexes) (s ∷ settings) (d ∷ devices) [] is h = absurd h
    all_back error n index [] [] [] [] back is h = absurd h
    all_back error n index _ _ _ _ back is h = absurd is

    for_memory : (error : OpenError) (n : ℕ) (olds : List ZoneState) → error ≡ OutOfMemory → IsRecoveryStopped tries error n olds
    for_memory error n [] e = e
    for_memory error zero (z ∷ olds) e = inl (inr (inl e))
    for_memory error (suc n) (z ∷ olds) e = for_memory error n olds e

    pub refused_held : (error : OpenError) (n : ℕ) (olds : List ZoneState) (apexes : List Labels) (settings : List ZoneSpec) (devices back : List D)
        → AreRecoverableAs set_as g tries m event 0 olds apexes settings devices → AreRefused g error n apexes settings devices back → AreHeld error n 0 olds apexes settings devices back
    refused_held error n olds apexes settings devices back is (inl h) = all_back error n 0 olds apexes settings devices back is h
    refused_held error n olds apexes settings devices back is (inr (memory, same)) = record {
      recoverable = subst (λ (l : List D). AreRecoverableAs set_as g (suc tries) m event 0 olds apexes settings l) (sym same) (all_tried 0 olds apexes settings devices is);
      stopped = λ honest. for_memory error n olds memory;
      left = subst (λ (l : List D). LeaveRecovered g (suc tries) m event 0 olds devices l) (sym same) (same_left 0 olds apexes settings devices is);
    }
