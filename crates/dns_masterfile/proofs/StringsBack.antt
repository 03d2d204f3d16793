-- Numbers and strings that are printed read back.
use Rattle.std.proofs.Common.{◌≡◌, ℕ, ◌^◌, ◌<◌, Bool, true, false, List, [], ◌∷◌, ◌++◌, length, map, Some, refl, ap, ◌∙◌, arith}
use Rattle.std.specs.Prelude.{◌==◌, ◌||◌, nat_lt, flat_map, decimal, if◌then◌else◌}
use Rattle.std.specs.Char.{is_ascii_digit, digit_value}
use Rattle.std.specs.Str.Parse.{AllDigits, IsNumeral, digits_value}
use Rattle.std.specs.List.{list_all, AllByRecursion}
use Rattle.std.proofs.lemmas.Bool.Decides.{nat_tests}
use Rattle.std.proofs.lemmas.Fmt.{decimal_is_IsNumeral}
use Rattle.std.proofs.lemmas.List.{length-map}
use Rattle.dns_names.specs.Text.{Letter, Itself, Escaped, ALetter, onto, letters_from, letters, octet_of}
use Rattle.dns_names.proofs.ReadsBack.{itself, by_escape, by_number, small_is}
use Rattle.dns_masterfile.specs.Text.{printed_string_octet, string_of_text, number_of_text}

-- the letter that an octet of a string is printed as
abbrev string_letter : ℕ → Letter
string_letter c = if c == 34 || c == 92 then Escaped c else if nat_lt c 32 || nat_lt 126 c then Escaped c else Itself c

quote_is : (c : ℕ) → (c == 34 || c == 92) ≡ true → is_ascii_digit c ≡ false
quote_is c h = grind (arith, nat_tests)

unquote_is : (c : ℕ) → (c == 34 || c == 92) ≡ false → (c == 92) ≡ false
unquote_is c h = grind (arith, nat_tests)

string_octet_reads : (c : ℕ) (rest : List ℕ) → c < 256 → letters_from ALetter (printed_string_octet c ++ rest) ≡ onto (string_letter c) (letters_from ALetter rest)
string_octet_reads c rest h = go (c == 34 || c == 92) (nat_lt c 32 || nat_lt 126 c) refl refl
  where
    go : (a b : Bool) → (c == 34 || c == 92) ≡ a → (nat_lt c 32 || nat_lt 126 c) ≡ b → letters_from ALetter (printed_string_octet c ++ rest) ≡ onto (string_letter c) (letters_from ALetter rest)
    go true b p q = rw p (by_escape c rest (quote_is c p))
    go false true p q = rw (p, q) (by_number c rest h)
    go false false p q = rw (p, q) (itself c rest (unquote_is c p))

string_reads : (octets : List ℕ) → AllByRecursion (λ c. c < 256) octets → letters (flat_map printed_string_octet octets) ≡ Some (map string_letter octets)
string_reads [] h = refl
string_reads (c ∷ cs) h = string_octet_reads c (flat_map printed_string_octet cs) h.0 ∙ ap (onto (string_letter c)) (string_reads cs h.1)

string_letter_of : (c : ℕ) → octet_of (string_letter c) ≡ c
string_letter_of c = go (c == 34 || c == 92) (nat_lt c 32 || nat_lt 126 c) refl refl
  where
    go : (a b : Bool) → (c == 34 || c == 92) ≡ a → (nat_lt c 32 || nat_lt 126 c) ≡ b → octet_of (string_letter c) ≡ c
    go true b p q = rw p refl
    go false true p q = rw (p, q) refl
    go false false p q = rw (p, q) refl

string_letters_of : (octets : List ℕ) → map octet_of (map string_letter octets) ≡ octets
string_letters_of [] = refl
string_letters_of (c ∷ cs) = ap (λ (x : ℕ). x ∷ map octet_of (map string_letter cs)) (string_letter_of c) ∙ ap (λ (xs : List ℕ). c ∷ xs) (string_letters_of cs)

-- the octets of a string in print, between its quotes, are read as the string
pub string_reads_back : (octets : List ℕ) → AllByRecursion (λ c. c < 256) octets → length octets < 256 → string_of_text (flat_map printed_string_octet octets) ≡ Some octets
string_reads_back octets fit short =
    let size : nat_lt (length (map string_letter octets)) 256 ≡ true = ap (λ (n : ℕ). nat_lt n 256) (length-map octets string_letter) ∙ small_is (length octets) short in
    rw (string_reads octets fit) (rw size (ap Some (string_letters_of octets)))

digit_pass : (c : ℕ) → digit_value c < 10 → is_ascii_digit c ≡ true
digit_pass c h = grind (arith, nat_tests)

digits_pass : (ds : List ℕ) → AllDigits 10 ds → list_all is_ascii_digit ds ≡ true
digits_pass [] h = refl
digits_pass (c ∷ cs) h = rw (digit_pass c h.0) (digits_pass cs h.1)

below_pass : (m n : ℕ) → m < n → nat_lt m n ≡ true
below_pass m n h = grind (arith, nat_tests)

number_pass : (limit n : ℕ) (ds : List ℕ) → IsNumeral 10 ds → digits_value 10 ds ≡ n → n < limit → number_of_text limit ds ≡ Some n
number_pass limit n ds h e below = rw (below_pass 0 (length ds) h.0, digits_pass ds h.1, e, below_pass n limit below) refl

-- a number that is printed is read as the number
pub number_reads_back : (limit n : ℕ) → n < limit → n < 2 ^ 64 → number_of_text limit (decimal n) ≡ Some n
number_reads_back limit n below small = let d = decimal_is_IsNumeral n small in number_pass limit n (decimal n) d.0 d.1 below
