-- A step that moves the base of a zone, after a flush.
use Rattle.std.proofs.Common.{◌≡◌, ◌⊎◌, inl, inr, ⊎_elim, ◌<◌, ◌≤◌, ◌-◌, ◌^◌, ℕ, zero, suc, Bool, true, false, List, [], ◌∷◌, length, map, Option, Some, None, Result, Ok, Err, refl, sym, ap, subst, ◌∙◌, arith, append-nil}
use Rattle.std.specs.Prelude.{OnOk, OnErr, ◌↔◌, nat_lt, slice_get, slice_set, slice_index_or, is_some}
use Rattle.std.proofs.lemmas.Bool.Decides.{nat_tests}
use Rattle.dns_zone.specs.Sets.{true_or_false}
use Rattle.dns_wire.proofs.Binds.{true_lt}
use Rattle.dns_zone.specs.Zone.{Zone}
use Rattle.dns_zone.specs.declared.index.ZoneIndex as zone_index
use Rattle.dns_records.specs.Record.{Record}
use Rattle.dns_sectors.specs.Device.{Content, LeavesOnly}
use Rattle.dns_sectors.specs.Crash.{Write}
use Rattle.dns_sectors.proofs.Moments.{weaker}
use Rattle.dns_store.specs.declared.zone_store.ZoneStore as store
use Rattle.dns_store.specs.declared.checkpoint.CheckpointError.{CheckpointError}
use Rattle.dns_store.specs.declared.checkpoint.CheckpointError.TheVariants as refused
use Rattle.dns_store.specs.Versions.{Shape, Opened, Kept, OpensAsLeft, moved_to}
use Rattle.dns_versions.specs.declared.zone_versions.ZoneVersions.{ZoneVersions}
use Rattle.dns_versions.specs.Each.{Each2, Each3}
use Rattle.dns_versions.specs.Held.{HasVersions}
use Rattle.dns_versions.specs.Flush as held
use Rattle.dns_versions.specs.Flush.{first_true, HasFailed, IsCounted, FailedWhere}
use Rattle.dns_versions.specs.Checkpoint.{IsNextBaseNumber}
use Rattle.dns_primary.specs.declared.event.Noted.{Noted}
use Rattle.dns_primary.specs.declared.event.Noted.TheVariants.{OutOfMemory}
use Rattle.dns_primary.specs.declared.event.Effects.{Effects}
use Rattle.dns_primary.specs.declared.primary.Primary.{Primary}
use Rattle.dns_primary.specs.Machine.{ZoneState, Made, Machine, kept_of}
use Rattle.dns_primary.specs.Flush.{flushed, flush_sends, flushed_zone, flushed_zones}
use Rattle.dns_primary.specs.Checkpoint.{rebased, IsMoved, IsMovedUnlessClosed, IsMovedBy, IsSettled, either_fails, first_to_fail}
use Rattle.dns_primary.specs.Step as machine
use Rattle.dns_primary.specs.Step.{Step, noted_of, IsCheckpointed, Checkpoint, base_moved}
use Rattle.dns_primary.specs.Keeps.{IsKept, AreEffects}
use Rattle.dns_primary.specs.Steps.{Stepped, SteppedOn, SteppedBy, IsBegunOrLacks, AtAnyMoment, AtAnyMomentOf, OpensAsEvent, with_room, without_room, noted_then, noted_moved, nothing}
use Rattle.dns_primary.proofs.Flushed.{kept_flushed}
use Rattle.dns_primary.proofs.Served.{as_honest, gives_none}
use Rattle.dns_store.specs.Versions.{closed_between, OpensAsEither, StandsStill}
use Rattle.dns_store.specs.Checkpoint.{IsKeptNumber}
use Rattle.dns_versions.proofs.Moved.{number_there, move_leaves}
use Rattle.dns_versions.specs.Held.{IsTip}
use Rattle.dns_primary.specs.Machine.{Setting, versions_of}
use Rattle.dns_primary.proofs.Places.{set_same}

-- where no base is moved
without : {S B : Type 0} (store : B → S) (is_honest : S → Type 0) (moment : S → ℕ) (left_since : S → ℕ → Content → Type 0) (opens : Shape → Opened → Content → Type 0) (olds news : List B) (zones : List ZoneState)
    → Each3 (λ a b k. is_honest (store a) → LeavesOnly moment left_since (store a) (store b) (OpensAsLeft opens k)) olds news (map kept_of zones)
    → Each3 (λ a b k. is_honest (store a) → LeavesOnly moment left_since (store a) (store b) (OpensAsEvent opens k.0 k.1)) olds news (map without_room zones)
without store is_honest moment left_since opens [] [] [] each = tt
without store is_honest moment left_since opens (a ∷ olds) (b ∷ news) (z ∷ zones) each = (each.0, without store is_honest moment left_since opens olds news zones each.1)
without store is_honest moment left_since opens _ _ _ each = absurd each

-- a zone of which nothing is staged, or that is closed, is as it would be after a flush
settled_by : (s : Setting) (l : List Record) (shown staged : List Made) (base : ℕ) (second : Option ℕ) (openings : ℕ) (altered : List Write) (closed : Bool) → (closed ≡ true) ⊎ (staged ≡ [])
    → held.kept_after_flush false (kept_of (record { setting = s; loaded = l; shown = shown; staged = staged; base = base; second = second; openings = openings; altered = altered; closed = closed })) ≡ kept_of (record { setting = s; loaded = l; shown = shown; staged = staged; base = base; second = second; openings = openings; altered = altered; closed = closed })
settled_by s l shown staged base second openings altered true settled = refl
settled_by s l shown [] base second openings altered false settled = refl
settled_by s l shown (m ∷ staged) base second openings altered false settled = ⊎_elim (λ e. absurd cc) (λ e. absurd cc) settled

pub settled_flushed : (z : ZoneState) → IsSettled z → held.kept_after_flush false (kept_of z) ≡ kept_of z
settled_flushed z settled = settled_by z.setting z.loaded z.shown z.staged z.base z.second z.openings z.altered z.closed settled

open_of : (b : Bool) → (b ≡ true → ⊥) → b ≡ false
open_of true none = absurd (none refl)
open_of false none = refl

pub open_staged : (z : ZoneState) → IsSettled z → z.closed ≡ false → (kept_of z).staged ≡ []
open_staged z settled is = ⊎_elim (λ c. (let clash : true ≡ false = sym c ∙ is in absurd (cc clash))) (λ n. ap versions_of n) settled

tip_moved : (tip : Option Zone) (fails : Bool) (base : ℕ) (z : ZoneState) → IsTip tip (kept_of z) → IsTip tip (kept_of (rebased fails base z))
tip_moved None true base z is = is
tip_moved None false base z is = is
tip_moved (Some t) true base z is = is
tip_moved (Some t) false base z is = is

module _ {I S : Type 0} (keeps : S → Kept → Type 0) (zone : Zone) (b : ZoneVersions I S) (store : S) (z : ZoneState) (keep room : ℕ) (keep_is : keep ≡ z.setting.keep) (settled : IsSettled z) (h : HasVersions keeps zone b (kept_of z)) where
  next_base : (d : ℕ) → IsKeptNumber (kept_of z) keep room d → IsNextBaseNumber z.setting.keep room (kept_of z) (length (kept_of z).shown - d)
  next_base d number =
      subst (λ (j : Kept). (n : ℕ) × IsKeptNumber j z.setting.keep room n × (length (kept_of z).shown - d ≡ length j.shown - n)) (sym (settled_flushed z settled))
      (d, subst (λ (n : ℕ). IsKeptNumber (kept_of z) n room d) keep_is number, refl)

  number : (d : ℕ) × IsKeptNumber (kept_of z) keep room d
  number = number_there (kept_of z) keep room

  moved_is : (base : ℕ) → keeps store (moved_to base (kept_of z)) → HasVersions keeps zone (record b { store = store }) (kept_of (rebased false base z))
  moved_is base kept = record { zone_is = h.zone_is; tip_is = tip_moved b.tip false base z h.tip_is; number_is = h.number_is; octets_are = h.octets_are; snapshot_is = h.snapshot_is; journal_is = h.journal_is; kept = kept }

  between_is : (base : ℕ) → keeps store (closed_between base (kept_of z)) → HasVersions keeps zone (record b { store = store }) (kept_of (rebased true base z))
  between_is base kept = record { zone_is = h.zone_is; tip_is = tip_moved b.tip true base z h.tip_is; number_is = h.number_is; octets_are = h.octets_are; snapshot_is = h.snapshot_is; journal_is = h.journal_is; kept = kept }

  still_is : keeps store (kept_of z) → HasVersions keeps zone (record b { store = store }) (kept_of z)
  still_is kept = record { zone_is = h.zone_is; tip_is = h.tip_is; number_is = h.number_is; octets_are = h.octets_are; snapshot_is = h.snapshot_is; journal_is = h.journal_is; kept = kept }

  pub moved_ok : {T : Type 0} (v : T) → (z.closed ≡ true → ⊥)
      → ((n : ℕ) → (kept_of z).staged ≡ [] → IsKeptNumber (kept_of z) keep room n → keeps store (moved_to (length (kept_of z).shown - n) (kept_of z)))
      → (new : ZoneState) × IsMovedBy {T = T} room z (Ok v) new × HasVersions keeps zone (record b { store = store }) (kept_of new)
  moved_ok v shut clause =
      let is_open = open_of z.closed shut in
      let base = length (kept_of z).shown - number.0 in (
        rebased false base z,
        (is_open, (base, next_base number.0 number.1, refl)),
        moved_is base (clause number.0 (open_staged z settled is_open) number.1),
      )

  pub moved_refused : {T : Type 0} (e : CheckpointError)
      → (z.closed ≡ true → ◌≡◌ {A = Result T CheckpointError} (Err e) (Err refused.Closed))
      → (◌≡◌ {A = Result T CheckpointError} (Err e) (Err refused.Closed) → z.closed ≡ true)
      → ((n : ℕ) → (kept_of z).staged ≡ [] → IsKeptNumber (kept_of z) keep room n → ◌≡◌ {A = Result T CheckpointError} (Err e) (Err refused.Device) → keeps store (closed_between (length (kept_of z).shown - n) (kept_of z)))
      → ◌≡◌ {A = Result T CheckpointError} (Err e) (Err refused.Device) ⊎ keeps store (kept_of z)
      → (new : ZoneState) × IsMovedBy {T = T} room z (Err e) new × HasVersions keeps zone (record b { store = store }) (kept_of new)
  moved_refused refused.Device shuts shut closes stays =
      let is_open = open_of z.closed (λ is. (let other = shuts is in absurd cc)) in
      let base = length (kept_of z).shown - number.0 in (
        rebased true base z,
        (is_open, (base, next_base number.0 number.1, refl)),
        between_is base (closes number.0 (open_staged z settled is_open) number.1 refl),
      )
  moved_refused refused.Closed shuts shut closes stays = ⊎_elim (λ failed. absurd cc) (λ kept. (z, (shut refl, refl), still_is kept)) stays
  moved_refused refused.OutOfMemory shuts shut closes stays = ⊎_elim (λ failed. absurd cc) (λ kept. (z, refl, still_is kept)) stays

  pub moved_result : {T : Type 0} (r : Result T CheckpointError)
      → r ≡ Err refused.Closed ↔ z.closed ≡ true
      → ((n : ℕ) → (kept_of z).staged ≡ [] → IsKeptNumber (kept_of z) keep room n → OnOk r (keeps store (moved_to (length (kept_of z).shown - n) (kept_of z))))
      → ((n : ℕ) → (kept_of z).staged ≡ [] → IsKeptNumber (kept_of z) keep room n → r ≡ Err refused.Device → (z.closed ≡ false) × keeps store (closed_between (length (kept_of z).shown - n) (kept_of z)))
      → OnErr r ((r ≡ Err refused.Device) ⊎ keeps store (kept_of z))
      → (new : ZoneState) × IsMovedBy room z r new × HasVersions keeps zone (record b { store = store }) (kept_of new)
  moved_result (Ok v) closed moved device stays = moved_ok v (λ shut. (let other = closed.1 shut in absurd cc)) moved
  moved_result (Err e) closed moved device stays = moved_refused e closed.1 closed.0 (λ n none is failed. (device n none is failed).1) stays

-- a closed store makes no call on its device
pub still_result : {T : Type 0} (S F : Type 0) (r : Result T CheckpointError) → r ≡ Err refused.Closed → OnErr r ((r ≡ Err refused.Device) ⊎ (S × F)) → S
still_result S F (Ok v) is still = absurd (cc is)
still_result {T} S F (Err e) is still =
    ⊎_elim (λ failed. (let clash : ◌≡◌ {A = Result T CheckpointError} (Err refused.Device) (Err refused.Closed) = sym failed ∙ is in absurd (cc clash))) (λ both. both.0) still

-- a zone after a flush
zone_by : (f : Bool) (s : Setting) (l : List Record) (shown staged : List Made) (base : ℕ) (second : Option ℕ) (openings : ℕ) (altered : List Write) (closed : Bool)
    → IsSettled (flushed_zone f (record { setting = s; loaded = l; shown = shown; staged = staged; base = base; second = second; openings = openings; altered = altered; closed = closed }))
zone_by f s l shown staged base second openings altered true = inl refl
zone_by f s l shown [] base second openings altered false = inr refl
zone_by true s l shown (m ∷ staged) base second openings altered false = inl refl
zone_by false s l shown (m ∷ staged) base second openings altered false = inr refl

pub zone_settled : (f : Bool) (z : ZoneState) → IsSettled (flushed_zone f z)
zone_settled f z = zone_by f z.setting z.loaded z.shown z.staged z.base z.second z.openings z.altered z.closed

open_by : (f : Bool) (s : Setting) (l : List Record) (shown staged : List Made) (base : ℕ) (second : Option ℕ) (openings : ℕ) (altered : List Write) (closed : Bool)
    → (flushed_zone f (record { setting = s; loaded = l; shown = shown; staged = staged; base = base; second = second; openings = openings; altered = altered; closed = closed })).closed ≡ false
    → flushed_zone f (record { setting = s; loaded = l; shown = shown; staged = staged; base = base; second = second; openings = openings; altered = altered; closed = closed })
    ≡ flushed_zone false (record { setting = s; loaded = l; shown = shown; staged = staged; base = base; second = second; openings = openings; altered = altered; closed = closed })
open_by f s l shown staged base second openings altered true is = refl
open_by f s l shown [] base second openings altered false is = refl
open_by true s l shown (m ∷ staged) base second openings altered false is = absurd (cc is)
open_by false s l shown (m ∷ staged) base second openings altered false is = refl

-- where it isn't closed then, it did not fail
zone_open : (f : Bool) (z : ZoneState) → (flushed_zone f z).closed ≡ false → kept_of (flushed_zone f z) ≡ held.kept_after_flush false (kept_of z)
zone_open f z is = ap kept_of (open_by f z.setting z.loaded z.shown z.staged z.base z.second z.openings z.altered z.closed is) ∙ kept_flushed false z

pub zone_at : (fails : List Bool) (zones : List ZoneState) (index : ℕ) (z : ZoneState) → length fails ≡ length zones → slice_get zones index ≡ Some z → (f : Bool) × (slice_get (flushed_zones fails zones) index ≡ Some (flushed_zone f z))
zone_at [] [] index z long e = absurd (cc e)
zone_at [] (a ∷ zones) index z long e = absurd (omega (arith, long))
zone_at (f ∷ fails) [] index z long e = absurd (cc e)
zone_at (f ∷ fails) (a ∷ zones) zero z long e = (let is : a ≡ z = cc e in (f, ap (λ (x : ZoneState). Some (flushed_zone f x)) is))
zone_at (f ∷ fails) (a ∷ zones) (suc index) z long e = zone_at fails zones index z (omega (arith, long)) e

-- the zone of the event among all
with_more : {S B : Type 0} (store : B → S) (is_honest : S → Type 0) (moment : S → ℕ) (left_since : S → ℕ → Content → Type 0) (opens : Shape → Opened → Content → Type 0) (olds news : List B) (zones : List ZoneState) (index room : ℕ)
    → Each3 (λ a b k. is_honest (store a) → LeavesOnly moment left_since (store a) (store b) (OpensAsLeft opens k)) olds news (map kept_of zones)
    → Each3 (λ a b k. is_honest (store a) → LeavesOnly moment left_since (store a) (store b) (OpensAsEvent opens k.0 k.1)) olds news (with_room index room zones)
with_more store is_honest moment left_since opens [] [] [] index room each = tt
with_more store is_honest moment left_since opens (a ∷ olds) (b ∷ news) (z ∷ zones) zero room each =
    (λ honest. weaker moment left_since (store a) (store b) (OpensAsLeft opens (kept_of z)) (OpensAsEvent opens (Some room) z) (each.0 honest) (λ c left. inl left), without store is_honest moment left_since opens olds news zones each.1)
with_more store is_honest moment left_since opens (a ∷ olds) (b ∷ news) (z ∷ zones) (suc index) room each = (each.0, with_more store is_honest moment left_since opens olds news zones index room each.1)
with_more store is_honest moment left_since opens _ _ _ index room each = absurd each

-- a step that moves no base
moments_of : {I S : Type 0} (s : store.Ghosts S) (moved : Option (ℕ × ℕ)) (m : Machine) (olds news : List (ZoneVersions I S)) → AtAnyMoment s m olds news → AtAnyMomentOf s moved m olds news
moments_of {I} {S} s None m olds news each = without (λ (b : ZoneVersions I S). b.store) s.is_honest s.moment s.left_since s.opens olds news m.zones each
moments_of {I} {S} s (Some moved) m olds news each = with_more (λ (b : ZoneVersions I S). b.store) s.is_honest s.moment s.left_since s.opens olds news m.zones moved.0 moved.1 each

pub on_any : {I S : Type 0} {i : zone_index.Ghosts I} {s : store.Ghosts S} (m : Machine) (old new : Primary I S i s) (effects : Effects) (moved : Option (ℕ × ℕ)) (step : List Bool → machine.Effects → Machine → Type 0)
    → Stepped m old new effects step → SteppedOn m moved old new effects step
on_any {s = s} m old new effects moved step stepped = record {
  fails = stepped.fails;
  failed = stepped.failed;
  any_moment = moments_of s moved m old.pending.items new.pending.items stepped.any_moment;
  honest = stepped.honest;
  next = stepped.next;
  stated = stepped.stated;
  is = stepped.is;
  effects_are = stepped.effects_are;
  kept = stepped.kept;
}

pub simple : {I S : Type 0} {i : zone_index.Ghosts I} {s : store.Ghosts S} (m : Machine) (event : machine.Event) (old new : Primary I S i s) (effects : Effects)
    → base_moved m event ≡ None → Stepped m old new effects (λ fails stated next. Step fails m event stated next) → SteppedBy m event old new effects
simple m event old new effects none step = on_any m old new effects (base_moved m event) (λ fails stated next. Step fails m event stated next) step

pub moved_moments : {S B : Type 0} (store : B → S) (is_honest : S → Type 0) (moment : S → ℕ) (left_since : S → ℕ → Content → Type 0) (opens : Shape → Opened → Content → Type 0) (olds mids : List B) (zones : List ZoneState) (index room : ℕ) (z : ZoneState) (e new : B)
    → Each3 (λ a b k. is_honest (store a) → LeavesOnly moment left_since (store a) (store b) (OpensAsLeft opens k)) olds mids (map kept_of zones)
    → Each2 (λ a b. is_honest (store b) ↔ is_honest (store a)) olds mids
    → slice_get zones index ≡ Some z
    → ((a : B) → is_honest (store (slice_index_or mids index e)) → LeavesOnly moment left_since (store a) (store (slice_index_or mids index e)) (OpensAsLeft opens (kept_of z)) → LeavesOnly moment left_since (store a) (store new) (OpensAsEvent opens (Some room) z))
    → Each3 (λ a b k. is_honest (store a) → LeavesOnly moment left_since (store a) (store b) (OpensAsEvent opens k.0 k.1)) olds (slice_set mids index new) (with_room index room zones)
moved_moments store is_honest moment left_since opens [] [] [] index room z e new each same there go = tt
moved_moments store is_honest moment left_since opens (a ∷ olds) (b ∷ mids) (y ∷ zones) zero room z e new each same there go =
    let is : y ≡ z = cc there in (
      λ honest.
          subst (λ (x : ZoneState). LeavesOnly moment left_since (store a) (store new) (OpensAsEvent opens (Some room) x)) (sym is)
          (go a (same.0.1 honest) (subst (λ (x : ZoneState). LeavesOnly moment left_since (store a) (store b) (OpensAsLeft opens (kept_of x))) is (each.0 honest))),
      without store is_honest moment left_since opens olds mids zones each.1,
    )
moved_moments store is_honest moment left_since opens (a ∷ olds) (b ∷ mids) (y ∷ zones) (suc index) room z e new each same there go = (each.0, moved_moments store is_honest moment left_since opens olds mids zones index room z e new each.1 same.1 there go)
moved_moments store is_honest moment left_since opens _ _ _ index room z e new each same there go = absurd each

-- one of a list
pub got : {A : Type 0} (xs : List A) (n : ℕ) (a d : A) → slice_get xs n ≡ Some a → slice_index_or xs n d ≡ a
got [] n a d e = absurd (cc e)
got (x ∷ xs) zero a d e = cc e
got (x ∷ xs) (suc n) a d e = got xs n a d e

pub put : {A : Type 0} (xs : List A) (n : ℕ) (a b : A) → n < length xs → slice_get (slice_set xs n a) n ≡ Some b → a ≡ b
put [] n a b lt e = absurd (omega arith)
put (x ∷ xs) zero a b lt e = cc e
put (x ∷ xs) (suc n) a b lt e = put xs n a b (omega arith) e

-- there is no such zone
pub not_there : {I S : Type 0} {i : zone_index.Ghosts I} {s : store.Ghosts S} (m : Machine) (index : ℕ) (p : Primary I S i s) (effects : Effects) → slice_get m.zones index ≡ None → AtAnyMoment s m p.pending.items p.pending.items → IsKept p m → AreEffects nothing effects
    → SteppedBy m (Checkpoint index) p p effects
not_there {s = s} m index p effects none rest kept effects_are = record {
  fails = [];
  failed = tt;
  any_moment = with_more (λ (b : ZoneVersions _ _). b.store) s.is_honest s.moment s.left_since s.opens p.pending.items p.pending.items m.zones index 0 rest;
  honest = as_honest s p.pending.items;
  next = m;
  stated = nothing;
  is = inl (subst (λ (o : Option ZoneState). IsCheckpointed [] m index o nothing m) (sym none) (refl, gives_none m));
  effects_are = effects_are;
  kept = kept;
}

-- the move after the flush, at any moment
module _ {S : Type 0} (moment : S → ℕ) (left_since : S → ℕ → Content → Type 0) (opens : Shape → Opened → Content → Type 0) (room : ℕ) (z : ZoneState) (f : Bool) (old mid new : S) where
  pub move_at : LeavesOnly moment left_since old mid (OpensAsLeft opens (kept_of z))
      → ((k : Kept) (n : ℕ) → k ≡ kept_of (flushed_zone f z) → k.staged ≡ [] → IsKeptNumber k z.setting.keep room n → LeavesOnly moment left_since mid new (OpensAsEither opens k (length k.shown - n)))
      → ((flushed_zone f z).closed ≡ true → StandsStill moment left_since mid new)
      → ((k : Kept) → k ≡ kept_of (flushed_zone f z) → (c : Content) → left_since mid (moment mid) c → OpensAsLeft opens k c)
      → LeavesOnly moment left_since old new (OpensAsEvent opens (Some room) z)
  move_at first moves still rest = by (flushed_zone f z).closed refl
    where
      by : (closed : Bool) → (flushed_zone f z).closed ≡ closed → LeavesOnly moment left_since old new (OpensAsEvent opens (Some room) z)
      by true is =
          let same = still is in
          record {
            later = omega (arith, first.later, same.no_later);
            each = λ c left. inl (first.each c (same.same (moment old) c left));
            before = λ t c le left. ⊎_elim (λ was. inl was) (λ now. inr (inl now)) (first.before t c le (same.same t c left));
          }
      by false is =
          let open_is = zone_open f z is in
          move_leaves moment left_since opens z.setting.keep room (kept_of z) old mid new first
          (λ n none number. moves (held.kept_after_flush false (kept_of z)) n (sym open_is) none number)
          (λ shut. still (ap (λ (k : Kept). k.closed) open_is ∙ shut))
          (rest (held.kept_after_flush false (kept_of z)) (sym open_is))

-- what is told of the move
abbrev pub moved_by : {T : Type 0} → Result T CheckpointError → Bool
moved_by (Ok v) = false
moved_by (Err refused.Device) = true
moved_by (Err refused.Closed) = false
moved_by (Err refused.OutOfMemory) = false

pub device_of : {T : Type 0} (r : Result T CheckpointError) → moved_by r ≡ true → r ≡ Err refused.Device
device_of (Ok v) e = absurd (cc e)
device_of (Err refused.Device) e = refl
device_of (Err refused.Closed) e = absurd (cc e)
device_of (Err refused.OutOfMemory) e = absurd (cc e)

noted_first : (o : Option ℕ) (index : ℕ) → noted_of (first_to_fail o true index) ≡ noted_then (noted_of o) index
noted_first None index = refl
noted_first (Some n) index = refl

noted_same : (o : Option ℕ) (index : ℕ) → noted_of (first_to_fail o false index) ≡ noted_of o
noted_same None index = refl
noted_same (Some n) index = refl

rebased_setting : (fails : Bool) (base : ℕ) (z : ZoneState) → (rebased fails base z).setting ≡ z.setting
rebased_setting true base z = refl
rebased_setting false base z = refl

moved_setting : (fails : Bool) (room : ℕ) (z new : ZoneState) → IsMoved fails room z new → new.setting ≡ z.setting
moved_setting fails room z new h = ap (λ (x : ZoneState). x.setting) h.2 ∙ rebased_setting fails h.0 z

pub setting_of : {T : Type 0} (room : ℕ) (z new : ZoneState) (r : Result T CheckpointError) → IsMovedBy room z r new → new.setting ≡ z.setting
setting_of room z new (Ok v) h = moved_setting false room z new h.1
setting_of room z new (Err refused.Device) h = moved_setting true room z new h.1
setting_of room z new (Err refused.Closed) h = ap (λ (x : ZoneState). x.setting) h.1
setting_of room z new (Err refused.OutOfMemory) h = ap (λ (x : ZoneState). x.setting) h

-- the step, by what the move gave
module _ (m : Machine) (index : ℕ) (fails : List Bool) (z zf new : ZoneState) (long : length fails ≡ length m.zones) (there : slice_get m.zones index ≡ Some z) (stands : slice_get (flushed fails m).zones index ≡ Some zf) where
  abbrev pub next : Machine
  next = record (flushed fails m) { zones = slice_set (flushed fails m).zones index new }

  abbrev pub stated : Noted → machine.Effects
  stated noted = record { sent = flush_sends fails m; accepted = None; noted = noted }

  checkpointed : (room : ℕ) (moving : Bool) (noted : Noted) → IsMovedUnlessClosed moving room zf new → noted ≡ noted_of (first_to_fail (first_true fails) moving index)
      → IsBegunOrLacks m (Some (index, room)) (either_fails moving index fails) (stated noted) next
  checkpointed room moving noted moved noted_is =
      inl (fails, moving, refl, record { all = long; zone = zf; stands = stands; next = new; moved = moved; is = refl }, record { sent = refl; accepted = refl; noted = noted_is })

  without_memory : (room : ℕ) → new ≡ zf → IsBegunOrLacks m (Some (index, room)) fails (stated OutOfMemory) next
  without_memory room same = inr (
    refl,
    record {
      failures = long;
      state = λ i. record (flushed fails m) { zones = (ap (λ (x : ZoneState). slice_set (flushed fails m).zones index x) same ∙ set_same (flushed fails m).zones index zf stands) i };
      sent = refl;
      accepted = refl;
      noted = refl;
    },
  )

  pub stepped : {T : Type 0} (room : ℕ) (r : Result T CheckpointError) → IsMovedBy room zf r new
      → IsBegunOrLacks m (Some (index, room)) (either_fails (moved_by r) index fails) (stated (noted_moved (noted_of (first_true fails)) index r)) next
  stepped room (Ok v) h = checkpointed room false (noted_of (first_true fails)) (inr h) (sym (noted_same (first_true fails) index))
  stepped room (Err refused.Device) h = checkpointed room true (noted_then (noted_of (first_true fails)) index) (inr h) (sym (noted_first (first_true fails) index))
  stepped room (Err refused.Closed) h = checkpointed room false (noted_of (first_true fails)) (inl (h.0, refl, h.1)) (sym (noted_same (first_true fails) index))
  stepped room (Err refused.OutOfMemory) h = without_memory room h

-- a checkpoint that is asked for
pub step_of : (fails : List Bool) (m : Machine) (index : ℕ) (z : ZoneState) (effects : machine.Effects) (new : Machine) → slice_get m.zones index ≡ Some z → IsBegunOrLacks m (Some (index, 0)) fails effects new → Step fails m (Checkpoint index) effects new
step_of fails m index z effects new there (inl begun) = inl (subst (λ (o : Option ZoneState). IsCheckpointed fails m index o effects new) (sym there) begun)
step_of fails m index z effects new there (inr (some, l)) = inr (record {
  takes = refl;
  noted = l.noted;
  accepted = l.accepted;
  stays = inr (inl (ap (λ (o : Option ZoneState). is_some o) there, l.failures, l.state, l.sent ∙ sym (append-nil (flush_sends fails m))));
})

-- devices that failed in a flush, or that of one zone in the move of its base after it
still_counted : (f : Bool) (a b c : ℕ) → IsCounted f a b → b ≤ c → IsCounted f a c
still_counted f a b c one on = record {
  grows = (let up = one.grows in omega (arith, up, on));
  rises = λ e. ⊎_elim (λ less. inl (omega (arith, less, on))) (λ end. inr end) (one.rises e);
}

then_failed : (a b c : ℕ) → a ≤ b → b ≤ c → HasFailed b c → IsCounted true a c
then_failed a b c up on rose = record { grows = omega (arith, up, on); rises = λ e. ⊎_elim (λ less. inl (omega (arith, up, less))) at_end rose }
  where
    at_end : b ≡ 2 ^ 64 - 1 → HasFailed a c
    at_end end = elim (true_or_false (nat_lt a (2 ^ 64 - 1))) [
      | inl t ↦ (let less = true_lt a (2 ^ 64 - 1) t in inl (omega (arith, less, end, on)))
      | inr t ↦ (let most : 2 ^ 64 - 1 ≤ a = grind (arith, nat_tests, t) in inr (omega (arith, most, up, end)))
    ]

pub failed_either : {A : Type 0} (failed : A → ℕ) (moving : Bool) (index : ℕ) (fails : List Bool) (olds mids : List A) (new : A) → FailedWhere failed fails olds mids
    → ((a : A) → slice_get mids index ≡ Some a → IsCounted moving (failed a) (failed new)) → FailedWhere failed (either_fails moving index fails) olds (slice_set mids index new)
failed_either failed false index [] olds mids new h moved = tt
failed_either failed true index [] olds mids new h moved = tt
failed_either failed moving index (f ∷ fails) [] mids new h moved = absurd h
failed_either failed moving index (f ∷ fails) (a ∷ olds) [] new h moved = absurd h
failed_either failed false zero (f ∷ fails) (a ∷ olds) (b ∷ mids) new h moved = (still_counted f (failed a) (failed b) (failed new) h.0 (moved b refl).grows, h.1)
failed_either failed true zero (f ∷ fails) (a ∷ olds) (b ∷ mids) new h moved =
    (then_failed (failed a) (failed b) (failed new) (h.0).grows (moved b refl).grows ((moved b refl).rises refl), h.1)
failed_either failed false (suc index) (f ∷ fails) (a ∷ olds) (b ∷ mids) new h moved = (h.0, failed_either failed false index fails olds mids new h.1 moved)
failed_either failed true (suc index) (f ∷ fails) (a ∷ olds) (b ∷ mids) new h moved = (h.0, failed_either failed true index fails olds mids new h.1 moved)
