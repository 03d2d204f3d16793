-- Positions of lists that go together, and lists of failures.
use Rattle.std.proofs.Common.{◌≡◌, ◌<◌, ◌+◌, ℕ, zero, suc, Bool, true, false, List, [], ◌∷◌, ◌++◌, length, drop, refl, sym, ◌∙◌, ap, arith, add-one}
use Rattle.std.specs.Prelude.{Option, Some, None, slice_get, slice_set, slice_index_or, option_map}
use Rattle.dns_store.specs.Versions.{Kept}
use Rattle.dns_zone.specs.Zone.{Zone}
use Rattle.dns_versions.specs.declared.zone_versions.ZoneVersions.{ZoneVersions}
use Rattle.dns_versions.specs.Held.{newer, newest_each}
use Rattle.dns_versions.specs.Each.{Each2, Each3}
use Rattle.dns_versions.specs.Flush.{kept_after_flush, flushed_to, first_true, FailedWhere, IsCounted}

pub get3 : {A B C : Type 0} (R : A → B → C → Type 0) (xs : List A) (ys : List B) (zs : List C) (i : ℕ) (d : A) (e : B) → Each3 R xs ys zs → i < length ys
    → (c : C) × (slice_get zs i ≡ Some c) × R (slice_index_or xs i d) (slice_index_or ys i e) c
get3 R [] [] [] i d e each lt = absurd (omega arith)
get3 R (x ∷ xs) (y ∷ ys) (z ∷ zs) zero d e each lt = (z, refl, each.0)
get3 R (x ∷ xs) (y ∷ ys) (z ∷ zs) (suc i) d e each lt = get3 R xs ys zs i d e each.1 (omega arith)
get3 R _ _ _ i d e each lt = absurd each

pub set3 : {A B C : Type 0} (R : A → B → C → Type 0) (xs : List A) (ys : List B) (zs : List C) (i : ℕ) (a : A) (b : B) (c : C) → Each3 R xs ys zs → R a b c → Each3 R (slice_set xs i a) (slice_set ys i b) (slice_set zs i c)
set3 R [] [] [] i a b c each r = each
set3 R (x ∷ xs) (y ∷ ys) (z ∷ zs) zero a b c each r = (r, each.1)
set3 R (x ∷ xs) (y ∷ ys) (z ∷ zs) (suc i) a b c each r = (each.0, set3 R xs ys zs i a b c each.1 r)
set3 R _ _ _ i a b c each r = absurd each

-- the middle one alone
pub mid3 : {A B C : Type 0} (R : A → B → C → Type 0) (xs : List A) (ys : List B) (zs : List C) (i : ℕ) (e new : B) → i < length ys → Each3 R xs ys zs
    → ((a : A) (c : C) → slice_get zs i ≡ Some c → R a (slice_index_or ys i e) c → R a new c) → Each3 R xs (slice_set ys i new) zs
mid3 R [] [] [] i e new lt each go = each
mid3 R (x ∷ xs) (y ∷ ys) (z ∷ zs) zero e new lt each go = (go x z refl each.0, each.1)
mid3 R (x ∷ xs) (y ∷ ys) (z ∷ zs) (suc i) e new lt each go = (each.0, mid3 R xs ys zs i e new (omega arith) each.1 go)
mid3 R _ _ _ i e new lt each go = absurd each

pub diag : {A B C : Type 0} (R : A → B → C → Type 0) (Q : B → B → C → Type 0) (xs : List A) (ys : List B) (zs : List C) → Each3 R xs ys zs → ((a : A) (b : B) (c : C) → R a b c → Q b b c) → Each3 Q ys ys zs
diag R Q [] [] [] each go = tt
diag R Q (x ∷ xs) (y ∷ ys) (z ∷ zs) each go = (go x y z each.0, diag R Q xs ys zs each.1 go)
diag R Q _ _ _ each go = absurd each

pub map3 : {A B C : Type 0} (R Q : A → B → C → Type 0) (xs : List A) (ys : List B) (zs : List C) → ((a : A) (b : B) (c : C) → R a b c → Q a b c) → Each3 R xs ys zs → Each3 Q xs ys zs
map3 R Q [] [] [] go each = tt
map3 R Q (x ∷ xs) (y ∷ ys) (z ∷ zs) go each = (go x y z each.0, map3 R Q xs ys zs go each.1)
map3 R Q _ _ _ go each = absurd each

pub diag2 : {A : Type 0} (R : A → A → Type 0) (xs : List A) → ((a : A) → R a a) → Each2 R xs xs
diag2 R [] go = tt
diag2 R (x ∷ xs) go = (go x, diag2 R xs go)

pub set2 : {A B : Type 0} (R : A → B → Type 0) (xs : List A) (ys : List B) (i : ℕ) (e new : B) → i < length ys → Each2 R xs ys → ((a : A) → R a (slice_index_or ys i e) → R a new) → Each2 R xs (slice_set ys i new)
set2 R [] [] i e new lt each go = each
set2 R (x ∷ xs) (y ∷ ys) zero e new lt each go = (go x each.0, each.1)
set2 R (x ∷ xs) (y ∷ ys) (suc i) e new lt each go = (each.0, set2 R xs ys i e new (omega arith) each.1 go)
set2 R _ _ i e new lt each go = absurd each

pub long3 : {A B C : Type 0} (R : A → B → C → Type 0) (xs : List A) (ys : List B) (zs : List C) → Each3 R xs ys zs → length ys ≡ length zs
long3 R [] [] [] each = refl
long3 R (x ∷ xs) (y ∷ ys) (z ∷ zs) each = ap suc (long3 R xs ys zs each.1)
long3 R _ _ _ each = absurd each

pub stands : (fails : List Bool) (ks : List Kept) → slice_get (flushed_to fails ks) (length fails) ≡ slice_get ks (length fails)
stands [] ks = refl
stands (f ∷ fails) [] = refl
stands (f ∷ fails) (k ∷ ks) = stands fails ks

pub more : (fails : List Bool) (ks : List Kept) (f : Bool) (k : Kept) → slice_get ks (length fails) ≡ Some k → flushed_to (fails ++ f ∷ []) ks ≡ slice_set (flushed_to fails ks) (length fails) (kept_after_flush f k)
more [] [] f k e = absurd (cc e)
more [] (x ∷ ks) f k e = let is : x ≡ k = cc e in ap (λ (y : Kept). kept_after_flush f y ∷ ks) is
more (g ∷ fails) [] f k e = absurd (cc e)
more (g ∷ fails) (x ∷ ks) f k e = ap (λ (l : List Kept). kept_after_flush g x ∷ l) (more fails ks f k e)

pub long : (fails : List Bool) (ks : List Kept) → length (flushed_to fails ks) ≡ length ks
long [] ks = refl
long (f ∷ fails) [] = refl
long (f ∷ fails) (k ∷ ks) = ap suc (long fails ks)

abbrev pub or_more : Option ℕ → Bool → ℕ → Option ℕ
or_more (Some n) f m = Some n
or_more None true m = Some m
or_more None false m = None

shift : (o : Option ℕ) (f : Bool) (m : ℕ) → option_map suc (or_more o f m) ≡ or_more (option_map suc o) f (suc m)
shift (Some n) f m = refl
shift None true m = refl
shift None false m = refl

first_more : (fails : List Bool) (f : Bool) → first_true (fails ++ f ∷ []) ≡ or_more (first_true fails) f (length fails)
first_more [] true = refl
first_more [] false = refl
first_more (true ∷ fails) f = refl
first_more (false ∷ fails) f = ap (option_map suc) (first_more fails f) ∙ shift (first_true fails) f (length fails)

pub first_found : (fails : List Bool) (f : Bool) (n : ℕ) → first_true fails ≡ Some n → first_true (fails ++ f ∷ []) ≡ Some n
first_found fails f n e = first_more fails f ∙ ap (λ (o : Option ℕ). or_more o f (length fails)) e

pub first_fails : (fails : List Bool) (f : Bool) → first_true fails ≡ None → first_true (fails ++ f ∷ []) ≡ or_more None f (length fails)
first_fails fails f e = first_more fails f ∙ ap (λ (o : Option ℕ). or_more o f (length fails)) e

-- one position more
pub fails_more : {A : Type 0} (failed : A → ℕ) (fails : List Bool) (olds news : List A) (i : ℕ) (f : Bool) (b d : A) → length fails ≡ i → FailedWhere failed fails olds news → i < length olds → i < length news
    → IsCounted f (failed (slice_index_or olds i d)) (failed b) → FailedWhere failed (fails ++ f ∷ []) olds (slice_set news i b)
fails_more failed [] [] news i f b d e was lo ln now = absurd (omega arith)
fails_more failed [] (a ∷ olds) [] i f b d e was lo ln now = absurd (omega arith)
fails_more failed [] (a ∷ olds) (n ∷ news) zero f b d e was lo ln now = (now, tt)
fails_more failed [] (a ∷ olds) (n ∷ news) (suc i) f b d e was lo ln now = absurd (omega (arith, e))
fails_more failed (g ∷ fails) olds news zero f b d e was lo ln now = absurd (omega (arith, e))
fails_more failed (g ∷ fails) (a ∷ olds) (n ∷ news) (suc i) f b d e was lo ln now = (was.0, fails_more failed fails olds news i f b d (omega (arith, e)) was.1 (omega arith) (omega arith) now)
fails_more failed (g ∷ fails) [] news (suc i) f b d e was lo ln now = absurd (omega arith)
fails_more failed (g ∷ fails) (a ∷ olds) [] (suc i) f b d e was lo ln now = absurd (omega arith)

drop_set : {A : Type 0} (xs : List A) (i : ℕ) (b : A) → drop (suc i) (slice_set xs i b) ≡ drop (suc i) xs
drop_set [] i b = refl
drop_set (x ∷ xs) zero b = refl
drop_set (x ∷ xs) (suc i) b = drop_set xs i b

drop_one : {A : Type 0} (xs : List A) (i : ℕ) → drop (suc i) xs ≡ drop 1 (drop i xs)
drop_one xs zero = refl
drop_one [] (suc i) = refl
drop_one (x ∷ xs) (suc i) = drop_one xs i

-- the elements after the position stay
pub untouched : {A : Type 0} (xs ys : List A) (i : ℕ) (b : A) → drop i xs ≡ drop i ys → drop (i + 1) (slice_set xs i b) ≡ drop (i + 1) ys
untouched xs ys i b e = ap (λ n. drop n (slice_set xs i b)) (add-one i) ∙ drop_set xs i b ∙ drop_one xs i ∙ ap (drop 1) e ∙ sym (drop_one ys i) ∙ sym (ap (λ n. drop n ys) (add-one i))

at_drop : {A : Type 0} (xs : List A) (i : ℕ) (d : A) → slice_index_or xs i d ≡ slice_index_or (drop i xs) 0 d
at_drop xs zero d = refl
at_drop [] (suc i) d = refl
at_drop (x ∷ xs) (suc i) d = at_drop xs i d

pub same_at : {A : Type 0} (xs ys : List A) (i : ℕ) (d : A) → drop i xs ≡ drop i ys → slice_index_or xs i d ≡ slice_index_or ys i d
same_at xs ys i d e = at_drop xs i d ∙ ap (λ l. slice_index_or l 0 d) e ∙ sym (at_drop ys i d)

-- a zone in its place, with the same newest version
pub newest_set : {I S : Type 0} (zones : List Zone) (pending : List (ZoneVersions I S)) (i : ℕ) (d : Zone) (e : ZoneVersions I S) (z : Zone) (b : ZoneVersions I S) → newer z b.tip ≡ newer (slice_index_or zones i d) (slice_index_or pending i e).tip
    → newest_each (slice_set zones i z) (slice_set pending i b) ≡ newest_each zones pending
newest_set [] pending i d e z b same = refl
newest_set (y ∷ zones) [] zero d e z b same = refl
newest_set (y ∷ zones) [] (suc i) d e z b same = refl
newest_set (y ∷ zones) (c ∷ pending) zero d e z b same = ap (λ (v : Zone). v ∷ newest_each zones pending) same
newest_set (y ∷ zones) (c ∷ pending) (suc i) d e z b same = ap (λ (l : List Zone). newer y c.tip ∷ l) (newest_set zones pending i d e z b same)

pub newest_kept : {I S : Type 0} (zones : List Zone) (pending : List (ZoneVersions I S)) (i : ℕ) (e b : ZoneVersions I S) → b.tip ≡ (slice_index_or pending i e).tip → newest_each zones (slice_set pending i b) ≡ newest_each zones pending
newest_kept [] pending i e b same = refl
newest_kept (y ∷ zones) [] i e b same = refl
newest_kept (y ∷ zones) (c ∷ pending) zero e b same = ap (λ (t : Option Zone). newer y t ∷ newest_each zones pending) same
newest_kept (y ∷ zones) (c ∷ pending) (suc i) e b same = ap (λ (l : List Zone). newer y c.tip ∷ l) (newest_kept zones pending i e b same)

pub newest_at : {I S : Type 0} (zones : List Zone) (pending : List (ZoneVersions I S)) (i : ℕ) (d : Zone) (e : ZoneVersions I S) → i < length zones → i < length pending
    → slice_get (newest_each zones pending) i ≡ Some (newer (slice_index_or zones i d) (slice_index_or pending i e).tip)
newest_at [] pending i d e a b = absurd (omega arith)
newest_at (y ∷ zones) [] i d e a b = absurd (omega arith)
newest_at (y ∷ zones) (c ∷ pending) zero d e a b = refl
newest_at (y ∷ zones) (c ∷ pending) (suc i) d e a b = newest_at zones pending i d e (omega arith) (omega arith)
