-- How far the serial goes from one version to a later one.
use Rattle.std.proofs.Common.{◌≡◌, ℕ, ◌+◌, ◌^◌, ◌<◌, ◌≤◌, ◌⊎◌, inl, inr, Bool, true, false, List, [], ◌∷◌, refl, ap, subst, ◌∙◌, arith}
use Rattle.std.specs.Prelude.{◌&&◌, nat_lt, filter, cond}
use Rattle.std.specs.List.{AllByRecursion}
use Rattle.std.proofs.Math.Bool.{Bool-set}
use Rattle.std.proofs.Math.Logic.{∥∥₁_elim}
use Rattle.std.proofs.lemmas.Bool.Decides.{leb_tells, nat_tests}
use Rattle.dns_names.specs.Name.{Labels}
use Rattle.dns_records.specs.Record.{Record, IsRecord, serial_of}
use Rattle.dns_serial.specs.Serial.{advance, greater}
use Rattle.dns_zone.specs.Order.{both_true}
use Rattle.dns_zone.specs.Zone.{IsZone, soas}
use Rattle.dns_update.proofs.Serials.{serial_small}

-- a step of the serial, as a sum
pub steps_to : (from to : ℕ) → from < 2 ^ 32 → to < 2 ^ 32 → (from + advance from to ≡ to) ⊎ (from + advance from to ≡ to + 2 ^ 32)
steps_to from to f t = elim (leb_tells from to) [
  | inl le ↦ (let low : from ≤ to = le.1 in inl (omega arith))
  | inr lt ↦ (let high : to < from = lt.1 in inr (omega arith))
]

pub joined : (v a w b last : ℕ) → v < 2 ^ 32 → a + b < 2 ^ 31 → (v + a ≡ w) ⊎ (v + a ≡ w + 2 ^ 32) → (w + b ≡ last) ⊎ (w + b ≡ last + 2 ^ 32)
    → (v + (a + b) ≡ last) ⊎ (v + (a + b) ≡ last + 2 ^ 32)
joined v a w b last f h (inl e) (inl g) = inl (omega arith)
joined v a w b last f h (inl e) (inr g) = inr (omega arith)
joined v a w b last f h (inr e) (inl g) = inr (omega arith)
joined v a w b last f h (inr e) (inr g) = absurd (omega arith)

-- two serials from which the last is not equally far are not the same
pub unequal : (s a b last : ℕ) → b < a → a < 2 ^ 31 → (s + a ≡ last) ⊎ (s + a ≡ last + 2 ^ 32) → (s + b ≡ last) ⊎ (s + b ≡ last + 2 ^ 32) → ⊥
unequal s a b last less fits (inl e) (inl f) = omega arith
unequal s a b last less fits (inl e) (inr f) = omega arith
unequal s a b last less fits (inr e) (inl f) = omega arith
unequal s a b last less fits (inr e) (inr f) = omega arith

pub below_is : (a b : ℕ) → nat_lt a b ≡ true → a < b
below_is a b e = grind (arith, nat_tests)

is_below : (a b : ℕ) → a < b → nat_lt a b ≡ true
is_below a b e = grind (arith, nat_tests)

-- a greater serial is some steps on, by less than half the circle
pub up_from : (i j : ℕ) → greater i j ≡ true → 0 < advance j i
up_from i j h = below_is 0 (advance j i) (both_true (nat_lt 0 (advance j i)) (nat_lt (advance j i) (2 ^ 31)) h).0

-- the steps between two serials are the advance
pub gone_is : (s a last : ℕ) → s < 2 ^ 32 → last < 2 ^ 32 → a < 2 ^ 31 → (s + a ≡ last) ⊎ (s + a ≡ last + 2 ^ 32) → advance s last ≡ a
gone_is s a last f l h (inl e) = omega arith
gone_is s a last f l h (inr e) = omega arith

-- a version some steps on is greater
pub greater_by : (s a last : ℕ) → s < 2 ^ 32 → last < 2 ^ 32 → 0 < a → a < 2 ^ 31 → (s + a ≡ last) ⊎ (s + a ≡ last + 2 ^ 32) → greater last s ≡ true
greater_by s a last f l up h steps =
    let is = gone_is s a last f l h steps in
    ap (λ n. nat_lt 0 n && nat_lt n (2 ^ 31)) is ∙ (λ i. is_below 0 a up i && is_below a (2 ^ 31) h i)

-- and the other is not greater than it
back_far : (s a last : ℕ) → s < 2 ^ 32 → last < 2 ^ 32 → 0 < a → a < 2 ^ 31 → (s + a ≡ last) ⊎ (s + a ≡ last + 2 ^ 32) → 2 ^ 31 ≤ advance last s
back_far s a last f l up h (inl e) = omega arith
back_far s a last f l up h (inr e) = omega arith

not_below : (a b : ℕ) → b ≤ a → nat_lt a b ≡ false
not_below a b h = grind (arith, nat_tests)

and_none : (b : Bool) → (b && false) ≡ false
and_none true = refl
and_none false = refl

pub not_greater_by : (s a last : ℕ) → s < 2 ^ 32 → last < 2 ^ 32 → 0 < a → a < 2 ^ 31 → (s + a ≡ last) ⊎ (s + a ≡ last + 2 ^ 32) → greater s last ≡ false
not_greater_by s a last f l up h steps =
    let far = not_below (advance last s) (2 ^ 31) (back_far s a last f l up h steps) in
    ap (λ b. nat_lt 0 (advance last s) && b) far ∙ and_none (nat_lt 0 (advance last s))

-- none is greater than itself
pub not_itself : (s : ℕ) → s < 2 ^ 32 → greater s s ≡ false
not_itself s h =
    let none : advance s s ≡ 0 = omega arith in
    ap (λ n. nat_lt 0 n && nat_lt n (2 ^ 31)) none

all_kept : (test : Record → Bool) (xs : List Record) → AllByRecursion IsRecord xs → AllByRecursion IsRecord (filter test xs)
all_kept test [] h = tt
all_kept test (x ∷ xs) h =
    elim (test x) as (λ b. AllByRecursion IsRecord (cond b (x ∷ filter test xs) (filter test xs))) [
      | true ↦ (h.0, all_kept test xs h.1)
      | false ↦ all_kept test xs h.1
    ]

pub kept_soa : (xs : List Record) (a : Record) → soas xs ≡ a ∷ [] → AllByRecursion IsRecord xs → IsRecord a
kept_soa xs a one all = (subst (AllByRecursion IsRecord) one (all_kept _ xs all)).0

soa_small : (xs : List Record) (a : Record) → soas xs ≡ a ∷ [] → AllByRecursion IsRecord xs → serial_of a < 2 ^ 32
soa_small xs a one all = serial_small a (kept_soa xs a one all)

-- the serial of a version has 32 bits
pub zone_small : (apex : Labels) (xs : List Record) (a : Record) → IsZone (record { apex = apex; records = xs }) → soas xs ≡ a ∷ [] → serial_of a < 2 ^ 32
zone_small apex xs a z one =
    let test : nat_lt (serial_of a) (2 ^ 32) ≡ true =
    ∥∥₁_elim z.each (Bool-set (nat_lt (serial_of a) (2 ^ 32)) true) (λ all. is_below (serial_of a) (2 ^ 32) (soa_small xs a one all)) in
    below_is (serial_of a) (2 ^ 32) test
