-- The first octets of a label as one number.
use Rattle.std.proofs.Common.{◌≡◌, ℕ, zero, suc, ◌+◌, ◌*◌, ◌^◌, ◌<◌, inl, inr, List, [], ◌∷◌, drop, get_or}
use Rattle.std.proofs.Common.{refl, ap, sym, ◌∙◌, arith}
use Rattle.std.proofs.Math.Nat.{mul_comm, pow-suc, zero-mul}
use Rattle.std.proofs.lemmas.Nat.{mul-add-lt}
use Rattle.std.proofs.lemmas.Bool.{cases_order}
use Rattle.std.specs.Cmp.{nat_cmp_is}
use Rattle.std.specs.Cmp.Lexicographic.{slice_cmp}
use Rattle.std.specs.Ordering.{nat_cmp, ordering_then}
use Rattle.std.specs.declared.cmp.Ordering.TheVariants.{Less, Equal}
use Rattle.dns_names.specs.Lower.{AreOctets}

-- So many octets, the first of them highest, with zeros after the last one.
abbrev pub leading : ℕ → List ℕ → ℕ
leading zero octets = 0
leading (suc n) octets = get_or octets 0 0 * 256 ^ n + leading n (drop 1 octets)

abbrev pub IsKey : ℕ → List ℕ → Type 0
IsKey key label = (key ≡ leading 8 label) × AreOctets label

pub behind : (x : ℕ) (xs : List ℕ) → AreOctets (x ∷ xs) → AreOctets xs
behind x xs o = λ i. o (suc i)

pub leading_none : (n : ℕ) → leading n [] ≡ 0
leading_none zero = refl
leading_none (suc n) = omega (arith, leading_none n, zero-mul (256 ^ n))

pub leading_below : (n : ℕ) (xs : List ℕ) → AreOctets xs → leading n xs < 256 ^ n
leading_below zero xs o = omega arith
leading_below (suc n) [] o =
    omega (arith, leading_none n, leading_below n [] o, zero-mul (256 ^ n), pow-suc 256 n)
leading_below (suc n) (x ∷ xs) o =
    let more = mul-add-lt x (256 ^ n) (leading n xs) 256 (o 0) (leading_below n xs (behind x xs o)) in
    omega (arith, more, pow-suc 256 n)

pub first_decides : (x y : ℕ) (xs ys : List ℕ) → x < y → slice_cmp nat_cmp (x ∷ xs) (y ∷ ys) ≡ Less
first_decides x y xs ys h = ap (λ o. ordering_then o (slice_cmp nat_cmp xs ys)) (sym (nat_cmp_is x y Less h))

pub first_equal : (x y : ℕ) (xs ys : List ℕ) → x ≡ y
    → slice_cmp nat_cmp (x ∷ xs) (y ∷ ys) ≡ slice_cmp nat_cmp xs ys
first_equal x y xs ys h = ap (λ o. ordering_then o (slice_cmp nat_cmp xs ys)) (sym (nat_cmp_is x y Equal h))

-- labels whose first octets differ are in the order of these
pub leading_order : (n : ℕ) (a b : List ℕ) → AreOctets a → AreOctets b → leading n a < leading n b
    → slice_cmp nat_cmp a b ≡ Less
leading_order zero a b oa ob h = absurd (omega (arith, h))
leading_order (suc n) [] [] oa ob h = absurd (omega (arith, h))
leading_order (suc n) [] (y ∷ ys) oa ob h = refl
leading_order (suc n) (x ∷ xs) [] oa ob h = absurd (omega (arith, h, leading_none n, zero-mul (256 ^ n)))
leading_order (suc n) (x ∷ xs) (y ∷ ys) oa ob h =
    elim (cases_order x y) [
      | inl e ↦
          (let less : leading n xs < leading n ys = omega (arith, h, ap (λ z. z * 256 ^ n) e) in
          first_equal x y xs ys e ∙ leading_order n xs ys (behind x xs oa) (behind y ys ob) less)
      | inr (inl l) ↦ first_decides x y xs ys l
      | inr (inr g) ↦
          (let more = mul-add-lt y (256 ^ n) (leading n ys) x g (leading_below n ys (behind y ys ob)) in
          absurd (omega (arith, h, more, mul_comm x (256 ^ n))))
    ]
