-- Leading bits: so many octets agree, and then so many bits of the next.
use Rattle.std.proofs.Common.{◌≡◌, ℕ, zero, suc, ◌+◌, ◌-◌, ◌*◌, ◌/◌, ◌%◌, ◌^◌, ◌<◌, ◌≤◌, ◌↔◌, List, [], ◌∷◌, ◌++◌, length, take, drop, get_or, refl, sym, ap, ◌∙◌, arith}
use Rattle.std.proofs.lemmas.List.{take-append-le, length-append, take_all}
use Rattle.std.proofs.Math.Seq.{take-append-add, drop-cons}
use Rattle.std.proofs.lemmas.Nat.{pow_pos, pow-add}
use Rattle.std.proofs.Math.Nat.{div-div-eq-div-mul, pow-succ', div-lt_iff_lt-mul}
use Rattle.dns_policy.specs.Prefix.{bits, bits_of}

pub length_bits : (count number : ℕ) → length (bits count number) ≡ count
unfolding bits
length_bits zero number = refl
length_bits (suc count) number = omega (arith, length-append (bits count (number / 2)) ((number % 2) ∷ []), length_bits count (number / 2))

-- the leading bits are those of the number without its last bits
pub take_bits : (more count total number : ℕ) → total ≡ count + more → take count (bits total number) ≡ bits count (number / 2 ^ more)
unfolding bits
take_bits zero count total number e = let same : total ≡ count = omega arith in rw same (take_all count (bits count number) (omega (arith, length_bits count number)) ∙ ap (bits count) (omega arith))
take_bits (suc more) count zero number e = absurd (omega arith)
take_bits (suc more) count (suc total) number e =
    let room : count ≤ length (bits total (number / 2)) = omega (arith, length_bits total (number / 2)) in
    let here : total ≡ count + more = omega arith in
    take-append-le count (bits total (number / 2)) _ room
    ∙ take_bits more count total (number / 2) here
    ∙ ap (bits count) (div-div-eq-div-mul number 2 (2 ^ more) ∙ ap (λ n. number / n) (sym (pow-succ' 2 more)))

append_split : {A : Type 0} → (a b c d : List A) → length a ≡ length c → a ++ b ≡ c ++ d → (a ≡ c) × (b ≡ d)
append_split [] b [] d e h = (refl, h)
append_split [] b (y ∷ c) d e h = absurd (omega arith)
append_split (x ∷ a) b [] d e h = absurd (omega arith)
append_split (x ∷ a) b (y ∷ c) d e h =
    let tails : a ++ b ≡ c ++ d = cc in
    let heads : x ≡ y = cc in
    let rest : (a ≡ c) × (b ≡ d) = append_split a b c d (omega arith) tails in
    (cc (rest.0), rest.1)

half_below : (count x : ℕ) → x < 2 ^ suc count → x / 2 < 2 ^ count
half_below count x h = let double : 2 ^ suc count ≡ 2 * 2 ^ count = pow-succ' 2 count in omega arith

pub bits_injective : (count x y : ℕ) → x < 2 ^ count → y < 2 ^ count → bits count x ≡ bits count y → x ≡ y
unfolding bits
bits_injective zero x y hx hy e = omega arith
bits_injective (suc count) x y hx hy e =
    let long : length (bits count (x / 2)) ≡ length (bits count (y / 2)) = length_bits count (x / 2) ∙ sym (length_bits count (y / 2)) in
    let parts : (bits count (x / 2) ≡ bits count (y / 2)) × ((x % 2) ∷ [] ≡ (y % 2) ∷ []) = append_split _ _ _ _ long e in
    let last : x % 2 ≡ y % 2 = cc (parts.1) in
    let halves : x / 2 ≡ y / 2 = bits_injective count (x / 2) (y / 2) (half_below count x hx) (half_below count y hy) parts.0 in
    omega arith

-- a whole octet in front
peeled : (x whole rest : ℕ) (xs : List ℕ) → take (8 * suc whole + rest) (bits_of (x ∷ xs)) ≡ bits 8 x ++ take (8 * whole + rest) (bits_of xs)
peeled x whole rest xs =
    let same : 8 * suc whole + rest ≡ length (bits 8 x) + (8 * whole + rest) = omega (arith, length_bits 8 x) in
    rw same (take-append-add (bits 8 x) (bits_of xs) (8 * whole + rest))

abbrev pub AreOctets : List ℕ → Type 0
AreOctets xs = (i : ℕ) → get_or xs i 0 < 256

abbrev Agree : ℕ → ℕ → List ℕ → List ℕ → Type 0
Agree whole rest xs ys = (take whole xs ≡ take whole ys) × (take rest (bits_of (drop whole xs)) ≡ take rest (bits_of (drop whole ys)))

pub agree_octets : (whole rest : ℕ) (xs ys : List ℕ) → AreOctets xs → AreOctets ys → length xs ≡ length ys → whole ≤ length xs → take (8 * whole + rest) (bits_of xs) ≡ take (8 * whole + rest) (bits_of ys) → Agree whole rest xs ys
agree_octets zero rest xs ys ox oy e w h = (refl, let n : 8 * 0 + rest ≡ rest = omega arith in rw n at h)
agree_octets (suc whole) rest [] ys ox oy e w h = absurd (omega arith)
agree_octets (suc whole) rest (x ∷ xs) [] ox oy e w h = absurd (omega arith)
agree_octets (suc whole) rest (x ∷ xs) (y ∷ ys) ox oy e w h =
    let parts : (bits 8 x ≡ bits 8 y) × (take (8 * whole + rest) (bits_of xs) ≡ take (8 * whole + rest) (bits_of ys)) = append_split _ _ _ _ (length_bits 8 x ∙ sym (length_bits 8 y)) (sym (peeled x whole rest xs) ∙ h ∙ peeled y whole rest ys) in
    let first : x ≡ y = bits_injective 8 x y (ox 0) (oy 0) parts.0 in
    let later : Agree whole rest xs ys = agree_octets whole rest xs ys (λ i. ox (suc i)) (λ i. oy (suc i)) (omega arith) (omega arith) parts.1 in
    (cc (later.0), later.1)

pub octets_agree : (whole rest : ℕ) (xs ys : List ℕ) → length xs ≡ length ys → whole ≤ length xs → Agree whole rest xs ys → take (8 * whole + rest) (bits_of xs) ≡ take (8 * whole + rest) (bits_of ys)
octets_agree zero rest xs ys e w h = let n : 8 * 0 + rest ≡ rest = omega arith in rw n (h.1)
octets_agree (suc whole) rest [] ys e w h = absurd (omega arith)
octets_agree (suc whole) rest (x ∷ xs) [] e w h = absurd (omega arith)
octets_agree (suc whole) rest (x ∷ xs) (y ∷ ys) e w h =
    let first : x ≡ y = cc (h.0) in
    let tails : take whole xs ≡ take whole ys = cc (h.0) in
    let later : take (8 * whole + rest) (bits_of xs) ≡ take (8 * whole + rest) (bits_of ys) = octets_agree whole rest xs ys (omega arith) (omega arith) (tails, h.1) in
    peeled x whole rest xs ∙ cc (first, later) ∙ sym (peeled y whole rest ys)

-- the leading bits of the first octet
leading : (rest x : ℕ) (xs : List ℕ) → rest < 8 → take rest (bits_of (x ∷ xs)) ≡ bits rest (x / 2 ^ (8 - rest))
leading rest x xs small =
    take-append-le rest (bits 8 x) (bits_of xs) (omega (arith, length_bits 8 x)) ∙ take_bits (8 - rest) rest 8 x (omega arith)

-- the octet of both at a position, and its leading bits
module _ (whole rest : ℕ) (xs ys : List ℕ) (ox : AreOctets xs) (oy : AreOctets ys) (small : rest < 8) (wx : whole < length xs) (wy : whole < length ys) where
  leading_at : (zs : List ℕ) → whole < length zs → take rest (bits_of (drop whole zs)) ≡ bits rest (get_or zs whole 0 / 2 ^ (8 - rest))
  leading_at zs w = ap (λ l. take rest (bits_of l)) (drop-cons zs whole 0 w) ∙ leading rest (get_or zs whole 0) _ small

  octet_below : (n : ℕ) → n < 256 → n / 2 ^ (8 - rest) < 2 ^ rest
  octet_below n h = (div-lt_iff_lt-mul (pow_pos (8 - rest))).1 (let all : 2 ^ rest * 2 ^ (8 - rest) ≡ 256 = sym (pow-add 2 rest (8 - rest)) ∙ (let e : rest + (8 - rest) ≡ 8 = omega arith in ap (λ k. 2 ^ k) e) in omega arith)

  pub same_octet : take rest (bits_of (drop whole xs)) ≡ take rest (bits_of (drop whole ys)) → get_or xs whole 0 / 2 ^ (8 - rest) ≡ get_or ys whole 0 / 2 ^ (8 - rest)
  same_octet h = bits_injective rest _ _ (octet_below _ (ox whole)) (octet_below _ (oy whole)) (sym (leading_at xs wx) ∙ h ∙ leading_at ys wy)

  pub octet_same : get_or xs whole 0 / 2 ^ (8 - rest) ≡ get_or ys whole 0 / 2 ^ (8 - rest) → take rest (bits_of (drop whole xs)) ≡ take rest (bits_of (drop whole ys))
  octet_same h = leading_at xs wx ∙ ap (bits rest) h ∙ sym (leading_at ys wy)

-- a number of bits as whole octets and the rest
module _ (count : ℕ) (xs ys : List ℕ) (e : length xs ≡ length ys) (within : count ≤ 8 * length xs) where
  abbrev pub AgreeOn : Type 0
  AgreeOn = take count (bits_of xs) ≡ take count (bits_of ys)

  in_octets : 8 * (count / 8) + count % 8 ≡ count
  in_octets = omega arith

  parted : AgreeOn → take (8 * (count / 8) + count % 8) (bits_of xs) ≡ take (8 * (count / 8) + count % 8) (bits_of ys)
  parted h = rw in_octets h

  joined : take (8 * (count / 8) + count % 8) (bits_of xs) ≡ take (8 * (count / 8) + count % 8) (bits_of ys) → AgreeOn
  joined h = rw in_octets at h

  pub whole_agree : AreOctets xs → AreOctets ys → AgreeOn → Agree (count / 8) (count % 8) xs ys
  whole_agree ox oy h = agree_octets (count / 8) (count % 8) xs ys ox oy e (omega arith) (parted h)

  pub no_rest : count % 8 ≡ 0 → take (count / 8) xs ≡ take (count / 8) ys → AgreeOn
  no_rest none h = joined (octets_agree (count / 8) (count % 8) xs ys e (omega arith) (h, rw none refl))

  pub with_rest : AreOctets xs → AreOctets ys → (count % 8 ≡ 0 → ⊥) → take (count / 8) xs ≡ take (count / 8) ys → (get_or xs (count / 8) 0 / 2 ^ (8 - count % 8) ≡ get_or ys (count / 8) 0 / 2 ^ (8 - count % 8)) ↔ AgreeOn
  with_rest ox oy some h = (
    λ same. joined (octets_agree (count / 8) (count % 8) xs ys e (omega arith) (h, octet_same (count / 8) (count % 8) xs ys ox oy (omega arith) (omega arith) (omega arith) same)),
    λ agree. same_octet (count / 8) (count % 8) xs ys ox oy (omega arith) (omega arith) (omega arith) ((whole_agree ox oy agree).1),
  )
