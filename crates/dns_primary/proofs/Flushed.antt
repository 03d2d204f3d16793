-- A flush of the machine's zones, and of what their stores keep.
use Rattle.std.proofs.Common.{◌≡◌, ◌≤◌, arith, ℕ, zero, suc, Bool, true, false, List, [], ◌∷◌, ◌++◌, length, map, take, drop, refl, sym, ◌∙◌, ap, subst}
use Rattle.std.specs.Prelude.{Some, None, Option, slice_get, IsTrue, ◌↔◌, ◌||◌, if◌then◌else◌}
use Rattle.std.proofs.lemmas.List.{map-append}
use Rattle.dns_records.specs.Record.{Record}
use Rattle.dns_sectors.specs.Crash.{Write}
use Rattle.dns_store.specs.Versions.{Kept}
use Rattle.dns_versions.specs.Each.{Each3}
use Rattle.dns_versions.specs.Flush as held
use Rattle.dns_versions.specs.Flush.{FailedWhere}
use Rattle.dns_primary.specs.Machine.{Setting, Made, ZoneState, kept_of}
use Rattle.dns_primary.specs.Flush.{flushed_zone, flushed_zones, is_none_made}
use Rattle.dns_primary.specs.Keeps.{IsSet}
use Rattle.dns_primary.specs.declared.primary.ZoneSpec.{ZoneSpec}
use Rattle.dns_policy.specs.Prefix.{IsAllowed}
use Rattle.dns_versions.specs.Each.{Each2}

case : (f : Bool) (s : Setting) (l : List Record) (shown staged : List Made) (base : ℕ) (second : Option ℕ) (openings : ℕ) (altered : List Write) (closed : Bool)
    → kept_of (flushed_zone f (record { setting = s; loaded = l; shown = shown; staged = staged; base = base; second = second; openings = openings; altered = altered; closed = closed })) ≡ held.kept_after_flush f (kept_of (record { setting = s; loaded = l; shown = shown; staged = staged; base = base; second = second; openings = openings; altered = altered; closed = closed }))
case f s l shown staged base second openings altered true = refl
case f s l shown [] base second openings altered false = refl
case true s l shown (m ∷ staged) base second openings altered false = refl
case false s l shown (m ∷ staged) base second openings altered false = λ i. record { shape = s.shape; loaded = l; shown = map-append (λ (x : Made). x.records) shown (m ∷ staged) i; staged = []; base = base; second = second; openings = openings; altered = altered; closed = false }

pub kept_flushed : (f : Bool) (z : ZoneState) → kept_of (flushed_zone f z) ≡ held.kept_after_flush f (kept_of z)
kept_flushed f z = case f z.setting z.loaded z.shown z.staged z.base z.second z.openings z.altered z.closed

pub kept_flushed_all : (fails : List Bool) (zs : List ZoneState) → map kept_of (flushed_zones fails zs) ≡ held.flushed_to fails (map kept_of zs)
kept_flushed_all [] zs = refl
kept_flushed_all (f ∷ fails) [] = refl
kept_flushed_all (f ∷ fails) (z ∷ zs) = λ i. kept_flushed f z i ∷ kept_flushed_all fails zs i

-- what a vector holds after a write of all its elements
pub refilled : {A : Type 0} (n : ℕ) (xs ys : List A) → length xs ≡ n → take n (xs ++ drop (length xs) ys) ≡ xs
refilled n xs ys e = ap (λ m. take m (xs ++ drop (length xs) ys)) (sym e) ∙ front xs (drop (length xs) ys)
  where
    front : {A : Type 0} (xs ys : List A) → take (length xs) (xs ++ ys) ≡ xs
    front [] ys = refl
    front (x ∷ xs) ys = λ i. x ∷ front xs ys i

pub mapped : (zs : List ZoneState) (i : ℕ) (k : Kept) → slice_get (map kept_of zs) i ≡ Some k → (z : ZoneState) × (slice_get zs i ≡ Some z) × (kept_of z ≡ k)
mapped [] i k e = absurd (cc e)
mapped (z ∷ zs) zero k e = (z, refl, cc e)
mapped (z ∷ zs) (suc i) k e = mapped zs i k e

pub beyond : (zs : List ZoneState) (i : ℕ) → length zs ≤ i → slice_get zs i ≡ None
beyond [] i le = refl
beyond (z ∷ zs) zero le = absurd (omega arith)
beyond (z ∷ zs) (suc i) le = beyond zs i (omega arith)

pub moved3 : {A B C : Type 0} {xs new : List A} {ys other : List B} → xs ≡ new → ys ≡ other → (zs : List C) (R : A → B → C → Type 0) → Each3 R xs ys zs → Each3 R new other zs
moved3 {A = A} {B = B} {C = C} {xs = xs} {new = new} {ys = ys} {other = other} a b zs R each = subst (λ (l : List A). Each3 R l other zs) a (subst (λ (l : List B). Each3 R xs l zs) b each)

pub moved2 : {A B : Type 0} {xs new : List A} {ys other : List B} → xs ≡ new → ys ≡ other → (R : A → B → Type 0) → Each2 R xs ys → Each2 R new other
moved2 {A = A} {B = B} {xs = xs} {new = new} {ys = ys} {other = other} a b R each = subst (λ (l : List A). Each2 R l other) a (subst (λ (l : List B). Each2 R xs l) b each)

pub failed_at : {A : Type 0} (failed : A → ℕ) (fails : List Bool) {olds others news more : List A} → olds ≡ others → news ≡ more → FailedWhere failed fails olds news → FailedWhere failed fails others more
failed_at {A} failed fails {olds} {others} {news} {more} a b h = subst (λ (l : List A). FailedWhere failed fails l more) a (subst (λ (l : List A). FailedWhere failed fails olds l) b h)

-- a flush leaves the settings
pub setting_stays : (f : Bool) (z : ZoneState) → (flushed_zone f z).setting ≡ z.setting
setting_stays f z = elim (z.closed || is_none_made z.staged) as (λ b. (if b then z else if f then record z { closed = true } else record z { shown = z.shown ++ z.staged; staged = [] }).setting ≡ z.setting) [
  | true ↦ refl
  | false ↦ elim f as (λ b. (if b then record z { closed = true } else record z { shown = z.shown ++ z.staged; staged = [] }).setting ≡ z.setting) [ true ↦ refl | false ↦ refl ]
]

pub flushed_settings : (ss : List ZoneSpec) (fails : List Bool) (zs : List ZoneState) → Each2 IsSet ss zs → Each2 IsSet ss (flushed_zones fails zs)
flushed_settings ss [] zs each = each
flushed_settings [] (f ∷ fails) [] each = each
flushed_settings (s ∷ ss) (f ∷ fails) [] each = absurd each
flushed_settings [] (f ∷ fails) (z ∷ zs) each = absurd each
flushed_settings (s ∷ ss) (f ∷ fails) (z ∷ zs) each = (record { keep = each.0.keep ∙ ap (λ (t : Setting). t.keep) (sym (setting_stays f z)); update = λ a. subst (λ (t : Setting). IsTrue (t.may_update a) ↔ IsAllowed s.update.items a) (sym (setting_stays f z)) (each.0.update a); transfer = λ a. subst (λ (t : Setting). IsTrue (t.may_transfer a) ↔ IsAllowed s.transfer.items a) (sym (setting_stays f z)) (each.0.transfer a) }, flushed_settings ss fails zs each.1)
