-- The sectors of a file's octets, one of them read or written.
use Rattle.std.proofs.Common.{◌≡◌, ℕ, zero, suc, ◌+◌, ◌*◌, ◌-◌, ◌≤◌, ◌<◌, List, [], ◌∷◌, ◌++◌, length, take, drop, replicate, refl, sym, ◌∙◌, ap, subst, arith, Some, inl, inr, Result, Ok, Err}
use Rattle.std.specs.Prelude.{slice_set, slice_get, OnOk}
use Rattle.std.proofs.lemmas.List.{drop-drop, take_all}
use Rattle.dns_sectors.specs.Device.{Content, MayWrite, Follows}
use Rattle.dns_sectors.specs.FileOctets.{padded, written, sectors}
use Rattle.dns_sectors.specs.File.{MayChange, FollowsBy}
use Rattle.dns_sectors.specs.FileDevice.{SectorsOf}

drop_none : (j : ℕ) → drop {A = ℕ} j [] ≡ []
drop_none zero = refl
drop_none (suc j) = refl

-- what is in front of a write
pub padded_front : (j m : ℕ) (o r : List ℕ) → j ≤ m → padded j (padded m o ++ r) ≡ padded j o
padded_front zero m o r le = refl
padded_front (suc j) zero o r le = absurd (omega arith)
padded_front (suc j) (suc m) [] r le = ap (λ (l : List ℕ). 0 ∷ l) (padded_front j m [] r (omega arith))
padded_front (suc j) (suc m) (x ∷ o) r le = ap (λ (l : List ℕ). x ∷ l) (padded_front j m o r (omega arith))

-- and what comes from there on
pub drop_front : (j k m : ℕ) (o r : List ℕ) → m ≡ j + k → drop j (padded m o ++ r) ≡ padded k (drop j o) ++ r
drop_front zero k m o r is = ap (λ (n : ℕ). padded n o ++ r) (let e : m ≡ k = omega (arith, is) in e)
drop_front (suc j) k zero o r is = absurd (omega (arith, is))
drop_front (suc j) k (suc m) [] r is =
    drop_front j k m [] r (omega (arith, is)) ∙ ap (λ (l : List ℕ). padded k l ++ r) (drop_none j)
drop_front (suc j) k (suc m) (x ∷ o) r is = drop_front j k m o r (omega (arith, is))

-- the octets of a write that begins here
pub padded_new : (m : ℕ) (x r : List ℕ) → length x ≡ m → padded m (x ++ r) ≡ x
padded_new zero [] r is = refl
padded_new zero (y ∷ x) r is = absurd (omega (arith, is))
padded_new (suc m) [] r is = absurd (omega (arith, is))
padded_new (suc m) (y ∷ x) r is = ap (λ (l : List ℕ). y ∷ l) (padded_new m x r (omega (arith, is)))

drop_new : (m : ℕ) (x r : List ℕ) → length x ≡ m → drop m (x ++ r) ≡ r
drop_new zero [] r is = refl
drop_new zero (y ∷ x) r is = absurd (omega (arith, is))
drop_new (suc m) [] r is = absurd (omega (arith, is))
drop_new (suc m) (y ∷ x) r is = drop_new m x r (omega (arith, is))

-- where all of them are there
pub padded_whole : (m : ℕ) (o : List ℕ) → length (take m o) ≡ m → padded m o ≡ take m o
padded_whole zero o is = refl
padded_whole (suc m) [] is = absurd (omega (arith, is))
padded_whole (suc m) (x ∷ o) is = ap (λ (l : List ℕ). x ∷ l) (padded_whole m o (omega (arith, is)))

both : (a b : List ℕ) (s t : List (List ℕ)) → a ≡ b → s ≡ t → a ∷ s ≡ b ∷ t
both a b s t head tail = ap (λ (h : List ℕ). h ∷ s) head ∙ ap (λ (l : List (List ℕ)). b ∷ l) tail

pub sectors_written : (n i m : ℕ) (x o : List ℕ) → m ≡ 512 * i → length x ≡ 512 → sectors n (written m x o) ≡ slice_set (sectors n o) i x
sectors_written zero zero m x o at size = refl
sectors_written zero (suc i) m x o at size = refl
sectors_written (suc n) zero m x o at size =
    let here : m ≡ 0 = omega (arith, at) in
    let behind : 0 + length x ≡ 512 = omega (arith, size) in
    ap (λ (k : ℕ). sectors (suc n) (written k x o)) here
    ∙ both (padded 512 (x ++ drop (0 + length x) o)) x (sectors n (drop 512 (x ++ drop (0 + length x) o))) (sectors n (drop 512 o))
    (padded_new 512 x (drop (0 + length x) o) size)
    (ap (sectors n) (drop_new 512 x (drop (0 + length x) o) size ∙ ap (λ (k : ℕ). drop k o) behind))
sectors_written (suc n) (suc i) m x o at size =
    let rest : List ℕ = x ++ drop (m + length x) o in
    let k : ℕ = 512 * i in
    let split : m ≡ 512 + k = omega (arith, at) in
    let shift : 512 + (k + length x) ≡ m + length x = omega (arith, split) in
    both (padded 512 (padded m o ++ rest)) (padded 512 o) (sectors n (drop 512 (padded m o ++ rest))) (slice_set (sectors n (drop 512 o)) i x)
    (padded_front 512 m o rest (omega (arith, split)))
    (ap (sectors n) (drop_front 512 k m o rest split ∙ ap (λ (l : List ℕ). padded k (drop 512 o) ++ (x ++ l)) (sym (drop-drop (k + length x) 512 o ∙ ap (λ (j : ℕ). drop j o) shift)))
    ∙ sectors_written n i k x (drop 512 o) refl size)

pub sector_at_offset : (n i m : ℕ) (o : List ℕ) → i < n → m ≡ 512 * i → slice_get (sectors n o) i ≡ Some (padded 512 (drop m o))
sector_at_offset zero i m o lt at = absurd (omega (arith, lt))
sector_at_offset (suc n) zero m o lt at =
    let here : 0 ≡ m = omega (arith, at) in
    ap (λ (k : ℕ). Some (padded 512 (drop k o))) here
sector_at_offset (suc n) (suc i) m o lt at =
    let k : ℕ = 512 * i in
    let split : 512 + k ≡ m = omega (arith, at) in
    sector_at_offset n i k (drop 512 o) (omega arith) refl ∙ ap (λ (l : List ℕ). Some (padded 512 l)) (drop-drop k 512 o ∙ ap (λ (j : ℕ). drop j o) split)

pub sector_read : (n i m k : ℕ) (o x : List ℕ) → i < n → m ≡ 512 * i → length x ≡ 512 → k ≡ 512 → take k x ≡ take k (drop m o) → slice_get (sectors n o) i ≡ Some x
sector_read n i m k o x lt at size count is =
    let same : take 512 x ≡ take 512 (drop m o) = ap (λ (j : ℕ). take j x) (sym count) ∙ is ∙ ap (λ (j : ℕ). take j (drop m o)) count in
    let all : take 512 x ≡ x = take_all 512 x (omega (arith, size)) in
    let long : length (take 512 (drop m o)) ≡ 512 = ap length (sym same) ∙ ap length all ∙ size in
    sector_at_offset n i m o lt at ∙ ap (λ (l : List ℕ). Some l) (padded_whole 512 (drop m o) long ∙ sym same ∙ all)

-- a write to the octets is a write of the sector
module _ (n i m : ℕ) (x : List ℕ) (at : m ≡ 512 * i) (size : length x ≡ 512) where
  pub may_write : (o o' : List ℕ) → MayChange (written m x) o o' → MayWrite i x (sectors n o) (sectors n o')
  may_write o o' (inl same) = inl (ap (sectors n) same)
  may_write o o' (inr is) = inr (ap (sectors n) is ∙ sectors_written n i m x o at size)

  pub crash_follows : (old new : List ℕ → Type 0) → FollowsBy (written m x) old new → Follows (MayWrite i x) (SectorsOf n old) (SectorsOf n new)
  crash_follows old new follows c (o, left, is) =
      let before = follows o left in
      (sectors n before.0, (before.0, before.1, refl), subst (λ (l : Content). MayWrite i x (sectors n before.0) l) (sym is) (may_write before.0 o before.2))

-- zeros alone
pub padded_none : (j m : ℕ) → padded j (padded m []) ≡ replicate j 0
padded_none zero m = refl
padded_none (suc j) zero = ap (λ (l : List ℕ). 0 ∷ l) (padded_none j zero)
padded_none (suc j) (suc m) = ap (λ (l : List ℕ). 0 ∷ l) (padded_none j m)

drop_zeros : (j m : ℕ) → drop j (padded m []) ≡ padded (m - j) []
drop_zeros zero m = ap (λ (n : ℕ). padded n []) (let e : m ≡ m - 0 = omega arith in e)
drop_zeros (suc j) zero = ap (λ (n : ℕ). padded n []) (let e : 0 ≡ 0 - suc j = omega arith in e)
drop_zeros (suc j) (suc m) = drop_zeros j m ∙ ap (λ (n : ℕ). padded n []) (let e : m - j ≡ suc m - suc j = omega arith in e)

sectors_zeros : (n m : ℕ) → sectors n (padded m []) ≡ replicate n (replicate 512 0)
sectors_zeros zero m = refl
sectors_zeros (suc n) m =
    both (padded 512 (padded m [])) (replicate 512 0) (sectors n (drop 512 (padded m []))) (replicate n (replicate 512 0)) (padded_none 512 m)
    (ap (sectors n) (drop_zeros 512 m) ∙ sectors_zeros n (m - 512))

pub padded_zeros : (m : ℕ) → padded m [] ≡ replicate m 0
padded_zeros m = padded_none m 0

pub sectors_blank : (n m : ℕ) (o : List ℕ) → o ≡ replicate m 0 → sectors n o ≡ replicate n (replicate 512 0)
sectors_blank n m o is = ap (sectors n) (is ∙ sym (padded_zeros m)) ∙ sectors_zeros n m

pub on_ok : {T E P : Type 0} (r : Result T E) → P → OnOk r P
on_ok (Ok x) p = p
on_ok (Err e) p = tt

-- a file that was cut to nothing, made longer and synced
pub blanked : (m : ℕ) (o a b s : List ℕ) → a ≡ padded 0 o → b ≡ padded m a → s ≡ b → s ≡ replicate m 0
blanked m o a b s cut long same = same ∙ long ∙ ap (padded m) cut ∙ padded_zeros m
