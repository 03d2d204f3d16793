-- Zones before and after an event: what each pair of them keeps.
use Rattle.std.proofs.Common.{◌≡◌, ◌+◌, ℕ, zero, suc, Bool, true, false, ◌||◌, ◌⊎◌, inl, inr, List, [], ◌∷◌, ◌++◌, length, Some, refl, sym, ap, subst, ◌∙◌, arith, append_assoc, append-nil}
use Rattle.std.specs.Prelude.{slice_get, slice_set, if◌then◌else◌}
use Rattle.std.specs.List.{AllByRecursion}
use Rattle.std.proofs.lemmas.List.{length-append, length-map}
use Rattle.dns_records.specs.Record.{Record}
use Rattle.dns_store.specs.Versions.{Shape, newest_after, newest_of}
use Rattle.dns_versions.specs.Each.{Each2}
use Rattle.dns_primary.specs.Machine.{Setting, ZoneState, Made, kept_of, updates_of, versions_of}
use Rattle.dns_primary.specs.Flush.{is_none_made, flushed_zone}
use Rattle.dns_primary.specs.Runs.{IsAccepted, IsHistory, HasHistory, Lasts, AllLast}

-- a test of a case
pub tested : {A : Type 0} (P : A → Type 0) (b : Bool) (x y : A) → (b ≡ true → P x) → (b ≡ false → P y) → P (if b then x else y)
tested P true x y f g = f refl
tested P false x y f g = g refl

pub record Found (R : ZoneState → ZoneState → Type 0) (z : ZoneState) (index : ℕ) (zones : List ZoneState) : Type 0 where
  pub zone : ZoneState
  pub stands : slice_get zones index ≡ Some zone
  pub holds : R z zone

pub pair_found : (R : ZoneState → ZoneState → Type 0) (old new : List ZoneState) (index : ℕ) (z : ZoneState) → Each2 R old new → slice_get old index ≡ Some z → Found R z index new
pair_found R [] [] index z h e = absurd cc
pair_found R [] (w ∷ new) index z h e = absurd h
pair_found R (a ∷ old) [] index z h e = absurd h
pair_found R (a ∷ old) (w ∷ new) zero z h e = (let same : a ≡ z = cc in record { zone = w; stands = refl; holds = subst (λ x. R x w) same h.0 })
pair_found R (a ∷ old) (w ∷ new) (suc index) z h e = (let rest = pair_found R old new index z h.1 e in record { zone = rest.zone; stands = rest.stands; holds = rest.holds })

pub record FoundBefore (R : ZoneState → ZoneState → Type 0) (w : ZoneState) (index : ℕ) (zones : List ZoneState) : Type 0 where
  pub zone : ZoneState
  pub there : slice_get zones index ≡ Some zone
  pub holds : R zone w

pub pair_found_before : (R : ZoneState → ZoneState → Type 0) (old new : List ZoneState) (index : ℕ) (w : ZoneState) → Each2 R old new → slice_get new index ≡ Some w → FoundBefore R w index old
pair_found_before R [] [] index w h e = absurd cc
pair_found_before R [] (b ∷ new) index w h e = absurd h
pair_found_before R (a ∷ old) [] index w h e = absurd h
pair_found_before R (a ∷ old) (b ∷ new) zero w h e = (let same : b ≡ w = cc in record { zone = a; there = refl; holds = subst (λ x. R a x) same h.0 })
pair_found_before R (a ∷ old) (b ∷ new) (suc index) w h e = (let rest = pair_found_before R old new index w h.1 e in record { zone = rest.zone; there = rest.there; holds = rest.holds })

-- what each pair has another relation from
pub pair_map : (R Q : ZoneState → ZoneState → Type 0) → ((a b : ZoneState) → R a b → Q a b) → (old new : List ZoneState) → Each2 R old new → Each2 Q old new
pair_map R Q f [] [] h = tt
pair_map R Q f [] (w ∷ new) h = absurd h
pair_map R Q f (a ∷ old) [] h = absurd h
pair_map R Q f (a ∷ old) (w ∷ new) h = (f a w h.0, pair_map R Q f old new h.1)

pub pair_same : (R : ZoneState → ZoneState → Type 0) → ((z : ZoneState) → R z z) → (zones : List ZoneState) → Each2 R zones zones
pair_same R same [] = tt
pair_same R same (z ∷ zones) = (same z, pair_same R same zones)

pub pair_on : (R : ZoneState → ZoneState → Type 0) → ((a b c : ZoneState) → R a b → R b c → R a c) → (old mid new : List ZoneState) → Each2 R old mid → Each2 R mid new → Each2 R old new
pair_on R on [] [] [] p q = tt
pair_on R on [] [] (c ∷ new) p q = absurd q
pair_on R on [] (b ∷ mid) new p q = absurd p
pair_on R on (a ∷ old) [] new p q = absurd p
pair_on R on (a ∷ old) (b ∷ mid) [] p q = absurd q
pair_on R on (a ∷ old) (b ∷ mid) (c ∷ new) p q = (on a b c p.0 q.0, pair_on R on old mid new p.1 q.1)

pub pair_set : (R : ZoneState → ZoneState → Type 0) → ((z : ZoneState) → R z z) → (zones : List ZoneState) (index : ℕ) (z w : ZoneState) → slice_get zones index ≡ Some z → R z w → Each2 R zones (slice_set zones index w)
pair_set R same [] index z w e h = absurd cc
pair_set R same (a ∷ zones) zero z w e h = (let is : z ≡ a = cc in (subst (λ x. R x w) is h, pair_same R same zones))
pair_set R same (a ∷ zones) (suc index) z w e h = (same a, pair_set R same zones index z w e h)

-- a fact of each zone goes over
pub pair_over : (R : ZoneState → ZoneState → Type 0) (P : ZoneState → Type 0) → ((a b : ZoneState) → R a b → P a → P b) → (old new : List ZoneState) → Each2 R old new → AllByRecursion P old → AllByRecursion P new
pair_over R P over [] [] h p = tt
pair_over R P over [] (w ∷ new) h p = absurd h
pair_over R P over (a ∷ old) [] h p = absurd h
pair_over R P over (a ∷ old) (w ∷ new) h p = (over a w h.0 p.0, pair_over R P over old new h.1 p.1)

pub all_found : (P : ZoneState → Type 0) (zones : List ZoneState) (index : ℕ) (z : ZoneState) → AllByRecursion P zones → slice_get zones index ≡ Some z → P z
all_found P [] index z h e = absurd cc
all_found P (a ∷ zones) zero z h e = (let same : a ≡ z = cc in subst P same h.0)
all_found P (a ∷ zones) (suc index) z h e = all_found P zones index z h.1 e

pub all_set : (P : ZoneState → Type 0) (zones : List ZoneState) (index : ℕ) (w : ZoneState) → AllByRecursion P zones → P w → AllByRecursion P (slice_set zones index w)
all_set P [] index w h p = tt
all_set P (a ∷ zones) zero w h p = (p, h.1)
all_set P (a ∷ zones) (suc index) w h p = (h.0, all_set P zones index w h.1 p)

pub lasts_same : (z : ZoneState) → Lasts z z
lasts_same z = record { shape = refl; loaded = refl; more = []; shown = sym (append-nil z.shown) }

pub lasts_on : (a b c : ZoneState) → Lasts a b → Lasts b c → Lasts a c
lasts_on a b c p q = record {
  shape = q.shape ∙ p.shape;
  loaded = q.loaded ∙ p.loaded;
  more = p.more ++ q.more;
  shown = q.shown ∙ ap (λ (xs : List Made). xs ++ q.more) p.shown ∙ append_assoc a.shown p.more q.more;
}

pub all_last_same : (zones : List ZoneState) → AllLast zones zones
all_last_same zones = pair_same Lasts lasts_same zones

pub all_last_on : (old mid new : List ZoneState) → AllLast old mid → AllLast mid new → AllLast old new
all_last_on old mid new p q = pair_on Lasts lasts_on old mid new p q

-- the same updates after the same records
pub record Same (z w : ZoneState) : Type 0 where
  pub setting : w.setting ≡ z.setting
  pub loaded : w.loaded ≡ z.loaded
  pub updates : updates_of w ≡ updates_of z
  pub openings : w.openings ≡ z.openings
  pub altered : w.altered ≡ z.altered

pub same_itself : (z : ZoneState) → Same z z
same_itself z = record { setting = refl; loaded = refl; updates = refl; openings = refl; altered = refl }

pub same_history : (z w : ZoneState) → Same z w → HasHistory z → HasHistory w
same_history z w s h =
    subst (λ u. IsHistory w.setting.shape 0 w.loaded u) (sym s.updates) (
    subst (λ r. IsHistory w.setting.shape 0 r (updates_of z)) (sym s.loaded) (
    subst (λ (t : Setting). IsHistory t.shape 0 z.loaded (updates_of z)) (sym s.setting) h))

-- a zone that is flushed, or closes
pub record IsFlushed (z w : ZoneState) : Type 0 where
  pub lasts : Lasts z w
  pub same : Same z w
  pub whole : (w.closed ≡ true) ⊎ (w.shown ≡ updates_of z)

either_true : (a b : Bool) → (a || b) ≡ true → (a ≡ true) ⊎ (b ≡ true)
either_true true b e = inl refl
either_true false b e = inr e

none_made : (ms : List Made) → is_none_made ms ≡ true → ms ≡ []
none_made [] e = refl
none_made (m ∷ ms) e = absurd cc

pub zone_flushed : (fails : Bool) (z : ZoneState) → IsFlushed z (flushed_zone fails z)
zone_flushed fails z =
    tested (IsFlushed z) (z.closed || is_none_made z.staged) z (if fails then record z { closed = true } else record z { shown = z.shown ++ z.staged; staged = [] })
    (λ e. record {
      lasts = lasts_same z;
      same = same_itself z;
      whole = elim (either_true z.closed (is_none_made z.staged) e) [
        | inl c ↦ inl c
        | inr n ↦ inr (sym (ap (λ xs. z.shown ++ xs) (none_made z.staged n) ∙ append-nil z.shown))
      ];
    })
    (λ e. tested (IsFlushed z) fails (record z { closed = true }) (record z { shown = z.shown ++ z.staged; staged = [] })
    (λ f. record { lasts = record { shape = refl; loaded = refl; more = []; shown = sym (append-nil z.shown) }; same = record { setting = refl; loaded = refl; updates = refl; openings = refl; altered = refl }; whole = inl refl })
    (λ f. record { lasts = record { shape = refl; loaded = refl; more = z.staged; shown = refl }; same = record { setting = refl; loaded = refl; updates = append-nil (z.shown ++ z.staged); openings = refl; altered = refl }; whole = inr refl }))

-- one update more, judged on the newest version
pub history_more : (s : Shape) (number : ℕ) (records : List Record) (updates : List Made) (made : Made) → IsHistory s number records updates
    → IsAccepted s (number + length updates) (newest_after records (versions_of updates)) made
    → IsHistory s number records (updates ++ made ∷ [])
history_more s number records [] made h e = (subst (λ (n : ℕ). IsAccepted s n records made) (omega arith) e, tt)
history_more s number records (m ∷ updates) made h e = (
  h.0,
  history_more s (suc number) m.records updates made h.1
      (subst (λ (n : ℕ). IsAccepted s n (newest_after m.records (versions_of updates)) made) (omega arith) e),
)

pub versions_joined : (xs ys : List Made) → versions_of (xs ++ ys) ≡ versions_of xs ++ versions_of ys
versions_joined [] ys = refl
versions_joined (x ∷ xs) ys = ap (λ (vs : List (List Record)). x.records ∷ vs) (versions_joined xs ys)

pub newest_is : (z : ZoneState) → newest_of (kept_of z) ≡ newest_after z.loaded (versions_of (updates_of z))
newest_is z = ap (newest_after z.loaded) (sym (versions_joined z.shown z.staged))

pub number_is : (z : ZoneState) → length (versions_of z.shown) + length (versions_of z.staged) ≡ length (updates_of z)
number_is z =
    let one = length-map z.shown (λ (m : Made). m.records) in
    let two = length-map z.staged (λ (m : Made). m.records) in
    let both = length-append z.shown z.staged in
    omega (arith, one, two, both)
