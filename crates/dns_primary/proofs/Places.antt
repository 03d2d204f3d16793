-- One position of lists that go together is changed, or one element more is at their ends.
use Rattle.std.proofs.Common.{◌≡◌, ◌<◌, ℕ, zero, suc, List, [], ◌∷◌, ◌++◌, length, arith, map, refl, ap, subst}
use Rattle.std.specs.Prelude.{Some, slice_get, slice_set, slice_index_or}
use Rattle.dns_versions.specs.Each.{Each2, Each3}

pub set_same : {A : Type 0} (xs : List A) (i : ℕ) (x : A) → slice_get xs i ≡ Some x → slice_set xs i x ≡ xs
set_same [] i x e = refl
set_same {A} (y ∷ xs) zero x e = let is : x ≡ y = cc e in ap (λ (v : A). v ∷ xs) is
set_same {A} (y ∷ xs) (suc i) x e = ap (λ (l : List A). y ∷ l) (set_same xs i x e)

pub map_set : {A B : Type 0} (f : A → B) (xs : List A) (i : ℕ) (x : A) → map f (slice_set xs i x) ≡ slice_set (map f xs) i (f x)
map_set f [] i x = refl
map_set f (y ∷ xs) zero x = refl
map_set {A} {B} f (y ∷ xs) (suc i) x = ap (λ (l : List B). f y ∷ l) (map_set f xs i x)

pub map_get : {A B : Type 0} (f : A → B) (xs : List A) (i : ℕ) (x : A) → slice_get xs i ≡ Some x → slice_get (map f xs) i ≡ Some (f x)
map_get f [] i x e = absurd (cc e)
map_get {A} {B} f (y ∷ xs) zero x e = let is : y ≡ x = cc e in ap (λ (v : A). Some (f v)) is
map_get f (y ∷ xs) (suc i) x e = map_get f xs i x e

pub at3 : {A B C : Type 0} (R : A → B → C → Type 0) (xs : List A) (ys : List B) (zs : List C) (i : ℕ) (d : A) (e : B) (c : C) → Each3 R xs ys zs → slice_get zs i ≡ Some c
    → R (slice_index_or xs i d) (slice_index_or ys i e) c
at3 R [] [] [] i d e c each is = absurd (cc is)
at3 {A} {B} {C} R (x ∷ xs) (y ∷ ys) (z ∷ zs) zero d e c each is = let same : z ≡ c = cc is in subst (λ (v : C). R x y v) same each.0
at3 R (x ∷ xs) (y ∷ ys) (z ∷ zs) (suc i) d e c each is = at3 R xs ys zs i d e c each.1 is
at3 R _ _ _ i d e c each is = absurd each

-- the second and the third one
pub mid_set : {A B C : Type 0} (R : A → B → C → Type 0) (xs : List A) (ys : List B) (zs : List C) (i : ℕ) (d : A) (b : B) (c : C) → Each3 R xs ys zs → R (slice_index_or xs i d) b c
    → Each3 R xs (slice_set ys i b) (slice_set zs i c)
mid_set R [] [] [] i d b c each r = each
mid_set R (x ∷ xs) (y ∷ ys) (z ∷ zs) zero d b c each r = (r, each.1)
mid_set R (x ∷ xs) (y ∷ ys) (z ∷ zs) (suc i) d b c each r = (each.0, mid_set R xs ys zs i d b c each.1 r)
mid_set R _ _ _ i d b c each r = absurd each

-- the second one
pub right_set : {A B : Type 0} (R : A → B → Type 0) (xs : List A) (ys : List B) (i : ℕ) (y new : B) → Each2 R xs ys → slice_get ys i ≡ Some y → ((x : A) → R x y → R x new) → Each2 R xs (slice_set ys i new)
right_set R [] [] i y new each is go = each
right_set {A} {B} R (x ∷ xs) (z ∷ ys) zero y new each is go = let same : z ≡ y = cc is in (go x (subst (λ (v : B). R x v) same each.0), each.1)
right_set R (x ∷ xs) (z ∷ ys) (suc i) y new each is go = (each.0, right_set R xs ys i y new each.1 is go)
right_set R _ _ i y new each is go = absurd each

pub push2 : {A B : Type 0} (R : A → B → Type 0) (xs : List A) (ys : List B) (a : A) (b : B) → Each2 R xs ys → R a b → Each2 R (xs ++ a ∷ []) (ys ++ b ∷ [])
push2 R [] [] a b each r = (r, tt)
push2 R (x ∷ xs) (y ∷ ys) a b each r = (each.0, push2 R xs ys a b each.1 r)
push2 R _ _ a b each r = absurd each

-- each stays but the one that is changed
pub itself2 : {A : Type 0} (R : A → A → Type 0) (xs : List A) → ((x : A) → R x x) → Each2 R xs xs
itself2 R [] same = tt
itself2 R (x ∷ xs) same = (same x, itself2 R xs same)

pub changed2 : {A : Type 0} (R : A → A → Type 0) (xs : List A) (i : ℕ) (d new : A) → ((x : A) → R x x) → R (slice_index_or xs i d) new → Each2 R xs (slice_set xs i new)
changed2 R [] i d new same r = tt
changed2 R (x ∷ xs) zero d new same r = (r, itself2 R xs same)
changed2 R (x ∷ xs) (suc i) d new same r = (same x, changed2 R xs i d new same r)

pub some_at : {A : Type 0} (xs : List A) (i : ℕ) → i < length xs → (x : A) × (slice_get xs i ≡ Some x)
some_at [] i lt = absurd (omega arith)
some_at (x ∷ xs) zero lt = (x, refl)
some_at (x ∷ xs) (suc i) lt = some_at xs i (omega arith)

pub long3_first : {A B C : Type 0} (R : A → B → C → Type 0) (xs : List A) (ys : List B) (zs : List C) → Each3 R xs ys zs → length xs ≡ length zs
long3_first R [] [] [] each = refl
long3_first R (x ∷ xs) (y ∷ ys) (z ∷ zs) each = ap suc (long3_first R xs ys zs each.1)
long3_first R _ _ _ each = absurd each
