-- Decimal numbers of one, two and three digits.
use Rattle.std.proofs.Common.{◌≡◌, ℕ, ◌+◌, ◌-◌, ◌*◌, ◌/◌, ◌%◌, ◌^◌, ◌<◌, ◌≤◌, List, [], ◌∷◌, ◌++◌, length, get_or, decimal, refl, sym, ap, ◌∙◌, arith, lit<, inl, inr}
use Rattle.std.proofs.lemmas.Bool.{cases_lt}
use Rattle.std.proofs.lemmas.Slice.Eq.{text_from_reads}
use Rattle.std.proofs.lemmas.Fmt.{decimal_by_steps}

-- the digits of a number below 1,000
pub record Digits (n : ℕ) (text : List ℕ) : Type 0 where
  pub one : n < 10 → text ≡ (48 + n) ∷ []
  pub two : 10 ≤ n → n < 100 → text ≡ (48 + n / 10) ∷ (48 + n % 10) ∷ []
  pub three : 100 ≤ n → n < 1000 → text ≡ (48 + n / 100) ∷ (48 + n / 10 % 10) ∷ (48 + n % 10) ∷ []

wide : 1000 < 2 ^ 64
wide = lit< tt

first_digit : (n : ℕ) → n < 10 → Digits n ((48 + n) ∷ [])
first_digit n small = record { one = λ _. refl; two = λ low _. absurd (omega arith); three = λ low _. absurd (omega arith) }

next_digit : (n : ℕ) (text : List ℕ) → 10 ≤ n → Digits (n / 10) text → Digits n (text ++ (48 + n % 10) ∷ [])
next_digit n text low h = record {
  one = λ small. absurd (omega arith);
  two = λ _ small. rw (h.one (omega arith)) refl;
  three = λ large small. rw (h.two (omega arith) (omega arith)) (let same : n / 10 / 10 ≡ n / 100 = omega arith in rw same refl);
}

pub digits_of : (n : ℕ) → n < 2 ^ 64 → Digits n (decimal n)
digits_of = decimal_by_steps Digits first_digit next_digit

-- The text of a number below 200, by its octets.
pub data Spelled (n : ℕ) (text : List ℕ) : Type 0 where
  ones : n < 10 → length text ≡ 1 → get_or text 0 0 ≡ 48 + n → Spelled n text
  tens : 10 ≤ n → n < 100 → length text ≡ 2 → get_or text 0 0 ≡ 48 + n / 10 → get_or text 1 0 ≡ 48 + n % 10 → Spelled n text
  hundreds : 100 ≤ n → n < 200 → length text ≡ 3 → get_or text 0 0 ≡ 49 → get_or text 1 0 ≡ 48 + n / 10 % 10 → get_or text 2 0 ≡ 48 + n % 10 → Spelled n text

pub spelled : (n : ℕ) (text : List ℕ) → n < 200 → text ≡ decimal n → Spelled n text
spelled n text small same =
    let digits : Digits n (decimal n) = digits_of n (omega (arith, wide)) in
    elim (cases_lt n 10) [
      | inl low ↦ let e : text ≡ (48 + n) ∷ [] = same ∙ digits.one low in ones low (ap length e) (ap (λ t. get_or t 0 0) e)
      | inr high ↦ elim (cases_lt n 100) [
        | inl low ↦ let e : text ≡ (48 + n / 10) ∷ (48 + n % 10) ∷ [] = same ∙ digits.two high low in tens high low (ap length e) (ap (λ t. get_or t 0 0) e) (ap (λ t. get_or t 1 0) e)
        | inr large ↦ let e : text ≡ (48 + n / 100) ∷ (48 + n / 10 % 10) ∷ (48 + n % 10) ∷ [] = same ∙ digits.three large (omega arith) in
            hundreds large small (ap length e) (ap (λ t. get_or t 0 0) e ∙ first n large small) (ap (λ t. get_or t 1 0) e) (ap (λ t. get_or t 2 0) e)
      ]
    ]
  where
    first : (m : ℕ) → 100 ≤ m → m < 200 → 48 + m / 100 ≡ 49
    first m large small = omega arith

pub one_digit : (text : List ℕ) → length text ≡ 1 → 48 ≤ get_or text 0 0 → get_or text 0 0 ≤ 57 → text ≡ decimal (get_or text 0 0 - 48)
one_digit text e low high =
    let digits : Digits (get_or text 0 0 - 48) (decimal (get_or text 0 0 - 48)) = digits_of _ (omega (arith, wide)) in
    let items : text ≡ get_or text 0 0 ∷ [] = text_from_reads text _ e (refl, tt) in
    let same : 48 + (get_or text 0 0 - 48) ≡ get_or text 0 0 = omega arith in
    items ∙ ap (λ a. a ∷ []) (sym same) ∙ sym (digits.one (omega arith))

pub two_digits : (text : List ℕ) → length text ≡ 2 → 49 ≤ get_or text 0 0 → get_or text 0 0 ≤ 57 → 48 ≤ get_or text 1 0 → get_or text 1 0 ≤ 57 → text ≡ decimal (10 * (get_or text 0 0 - 48) + (get_or text 1 0 - 48))
two_digits text e low high low' high' =
    let items : text ≡ get_or text 0 0 ∷ get_or text 1 0 ∷ [] = text_from_reads text _ e (refl, (refl, tt)) in
    items ∙ made (get_or text 0 0) (get_or text 1 0) low high low' high'
  where
    made : (a b : ℕ) → 49 ≤ a → a ≤ 57 → 48 ≤ b → b ≤ 57 → a ∷ b ∷ [] ≡ decimal (10 * (a - 48) + (b - 48))
    made a b la ha lb hb =
        let n : ℕ = 10 * (a - 48) + (b - 48) in
        let digits : Digits n (decimal n) = digits_of n (omega (arith, wide)) in
        let first : 48 + n / 10 ≡ a = omega arith in
        let last : 48 + n % 10 ≡ b = omega arith in
        cc (digits.two (omega arith) (omega arith), first, last)

pub three_digits : (text : List ℕ) → length text ≡ 3 → get_or text 0 0 ≡ 49 → 48 ≤ get_or text 1 0 → get_or text 1 0 ≤ 57 → 48 ≤ get_or text 2 0 → get_or text 2 0 ≤ 57 → text ≡ decimal (100 + 10 * (get_or text 1 0 - 48) + (get_or text 2 0 - 48))
three_digits text e one low high low' high' =
    let items : text ≡ get_or text 0 0 ∷ get_or text 1 0 ∷ get_or text 2 0 ∷ [] = text_from_reads text _ e (refl, (refl, (refl, tt))) in
    items ∙ made (get_or text 0 0) (get_or text 1 0) (get_or text 2 0) one low high low' high'
  where
    made : (h a b : ℕ) → h ≡ 49 → 48 ≤ a → a ≤ 57 → 48 ≤ b → b ≤ 57 → h ∷ a ∷ b ∷ [] ≡ decimal (100 + 10 * (a - 48) + (b - 48))
    made h a b lead la ha lb hb =
        let n : ℕ = 100 + 10 * (a - 48) + (b - 48) in
        let digits : Digits n (decimal n) = digits_of n (omega (arith, wide)) in
        let first : 48 + n / 100 ≡ h = omega arith in
        let second : 48 + n / 10 % 10 ≡ a = omega arith in
        let last : 48 + n % 10 ≡ b = omega arith in
        cc (digits.three (omega arith) (omega arith), first, second, last)
