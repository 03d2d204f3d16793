-- Labels whose keys differ are in the order of their keys.
use Rattle.std.proofs.Common.{◌≡◌, ℕ, zero, suc, ◌*◌, ◌^◌, ◌+◌, ◌<◌, ◌≤◌, inl, inr, List, [], ◌∷◌, length, take, drop, ◌-◌, ◌%◌, get_or, refl, ap, sym, ◌∙◌, length-drop, arith}
use Rattle.std.proofs.lemmas.List.{take_all}
use Rattle.std.proofs.Math.Nat.{mul_comm, pow-suc, zero-mul}
use Rattle.std.proofs.lemmas.Nat.{mul-add-lt}
use Rattle.std.proofs.lemmas.Bool.{cases_order}
use Rattle.std.specs.Cmp.{nat_cmp_is}
use Rattle.std.specs.Int.{w64, from_be_bytes}
use Rattle.std.specs.Ordering.{nat_cmp, ordering_then, ordering_reverse}
use Rattle.std.specs.declared.cmp.Ordering.TheVariants.{Less, Equal, Greater}
use Rattle.dns_names.specs.Lower.{AreOctets}
use Rattle.dns_zoneindex.specs.Children.{label_cmp}
use Rattle.dns_zone.specs.Keys.{leading, IsKey, behind, leading_below, first_equal, leading_order}
use Rattle.dns_zoneindex.proofs.Sides.{label_total}

-- one octet and what is after it: neither is more than the other's
no_more : (n x y : ℕ) (xs ys : List ℕ) → AreOctets xs → x < y → leading n xs + x * 256 ^ n < leading n ys + y * 256 ^ n
no_more n x y xs ys ox l = omega (arith, mul-add-lt x (256 ^ n) (leading n xs) y l (leading_below n xs ox), mul_comm y (256 ^ n))

pub one_more : (m n : ℕ) → nat_cmp m n ≡ nat_cmp (suc m) (suc n)
one_more m n =
    elim (cases_order m n) [
      | inl e ↦ sym (nat_cmp_is m n Equal e) ∙ nat_cmp_is (suc m) (suc n) Equal (ap suc e)
      | inr (inl l) ↦ sym (nat_cmp_is m n Less l) ∙ nat_cmp_is (suc m) (suc n) Less (omega (arith, l))
      | inr (inr g) ↦ sym (nat_cmp_is m n Greater g) ∙ nat_cmp_is (suc m) (suc n) Greater (omega (arith, g))
    ]

-- labels that agree so far, of which one goes no further
leading_equal : (n : ℕ) (a b : List ℕ) → AreOctets a → AreOctets b → length a ≤ n → leading n a ≡ leading n b → label_cmp a b ≡ nat_cmp (length a) (length b)
leading_equal n [] [] oa ob short e = refl
leading_equal n [] (y ∷ ys) oa ob short e = nat_cmp_is 0 (length (y ∷ ys)) Less (omega arith)
leading_equal n (x ∷ xs) [] oa ob short e = nat_cmp_is (length (x ∷ xs)) 0 Greater (omega arith)
leading_equal zero (x ∷ xs) (y ∷ ys) oa ob short e = absurd (omega (arith, short))
leading_equal (suc n) (x ∷ xs) (y ∷ ys) oa ob short e =
    elim (cases_order x y) [
      | inl s ↦
          first_equal x y xs ys s
          ∙ leading_equal n xs ys (behind x xs oa) (behind y ys ob) (omega (arith, short)) (omega (arith, e, ap (λ z. z * 256 ^ n) s))
          ∙ one_more (length xs) (length ys)
      | inr (inl l) ↦ absurd (omega (arith, e, no_more n x y xs ys (behind x xs oa) l))
      | inr (inr g) ↦ absurd (omega (arith, e, no_more n y x ys xs (behind y ys ob) g))
    ]

pub key_below : (k l : ℕ) (a b : List ℕ) → IsKey k a → IsKey l b → k < l → Less ≡ label_cmp a b
key_below k l a b p q h = sym (leading_order 8 a b p.1 q.1 (omega (arith, h, p.0, q.0)))

pub key_above : (k l : ℕ) (a b : List ℕ) → IsKey k a → IsKey l b → l < k → Greater ≡ label_cmp a b
key_above k l a b p q h = sym (label_total.antisymm a b ∙ ap ordering_reverse (sym (key_below l k b a q p h)))

pub key_equal : (k l : ℕ) (a b : List ℕ) → IsKey k a → IsKey l b → k ≡ l → length a ≤ 8 → nat_cmp (length a) (length b) ≡ label_cmp a b
key_equal k l a b p q h short = sym (leading_equal 8 a b p.1 q.1 short (sym p.0 ∙ h ∙ q.0))
