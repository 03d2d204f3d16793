-- Texts that std reads as numbers, and words without regard to case.
use Rattle.std.proofs.Common.{◌≡◌, ℕ, ◌^◌, ◌<◌, Bool, true, false, ◌↔◌, IsTrue, List, [], ◌∷◌, length, refl, sym, ap, subst, ◌∙◌, arith, drop, Decides}
use Rattle.std.specs.Prelude.{Result, Ok, Err, Some, None, map, ◌==◌, nat_lt, cond}
use Rattle.std.specs.List.{list_all}
use Rattle.std.specs.Result.{result_ok}
use Rattle.std.specs.Char.{digit_value, is_ascii_digit, to_ascii_lowercase, to_ascii_uppercase}
use Rattle.std.specs.Cmp.{first_so, second_so}
use Rattle.std.specs.Str.{IsUtf8, bytes_eq}
use Rattle.std.specs.Str.Parse.{AllDigits, IsNumeral, ParsesUnsigned, digits_value, without_leading_plus}
use Rattle.std.proofs.lemmas.Bool.Decides.{nat_tests, same_from_decides}
use Rattle.std.proofs.lemmas.Fmt.{IsAscii-from_digits}
use Rattle.std.proofs.lemmas.Str.{IsUtf8-from_ascii}
use Rattle.std.proofs.lemmas.Str.Ascii.{lowercase-uppercase}
use Rattle.std.proofs.lemmas.Slice.Eq.{bytes_eq-Decides}
use Rattle.dns_masterfile.specs.Text.{is_decimal, number_of_text}

a_digit : (c : ℕ) → is_ascii_digit c ≡ true → digit_value c < 10
a_digit c h = grind (arith, nat_tests)

no_sign : (c : ℕ) → is_ascii_digit c ≡ true → (c == 43) ≡ false
no_sign c h = grind (arith, nat_tests)

all_digits : (text : List ℕ) → list_all is_ascii_digit text ≡ true → AllDigits 10 text
all_digits [] h = tt
all_digits (c ∷ cs) h = (a_digit c (first_so (is_ascii_digit c) (list_all is_ascii_digit cs) h), all_digits cs (second_so (is_ascii_digit c) (list_all is_ascii_digit cs) h))

plain_digits : (text : List ℕ) → list_all is_ascii_digit text ≡ true → without_leading_plus text ≡ text
plain_digits [] h = refl
plain_digits (c ∷ cs) h = ap (λ (b : Bool). drop (cond b 1 0) (c ∷ cs)) (no_sign c (first_so (is_ascii_digit c) (list_all is_ascii_digit cs) h))

digits_in : (text : List ℕ) → is_decimal text ≡ true → list_all is_ascii_digit text ≡ true
digits_in text h = second_so (nat_lt 0 (length text)) (list_all is_ascii_digit text) h

pub decimal_utf8 : (text : List ℕ) → is_decimal text ≡ true → IsUtf8 text
decimal_utf8 text h = IsUtf8-from_ascii text (IsAscii-from_digits text (all_digits text (digits_in text h)))

some_digits : (text : List ℕ) → is_decimal text ≡ true → 0 < length text
some_digits text h = let first = first_so (nat_lt 0 (length text)) (list_all is_ascii_digit text) h in grind (arith, nat_tests)

abbrev value : List ℕ → ℕ
value text = digits_value 10 text

below : (text : List ℕ) → is_decimal text ≡ true → value text < 2 ^ 32 → number_of_text (2 ^ 32) text ≡ Some (value text)
below text h small = let test : nat_lt (value text) (2 ^ 32) ≡ true = grind (arith, nat_tests) in rw (h, test) refl

above : (text : List ℕ) → is_decimal text ≡ true → ¬ (value text < 2 ^ 32) → number_of_text (2 ^ 32) text ≡ None
above text h large = let test : nat_lt (value text) (2 ^ 32) ≡ false = grind (arith, nat_tests) in rw (h, test) refl

parsed : {E : Type 0} (text : List ℕ) (r : Result ℕ E) → is_decimal text ≡ true → ParsesUnsigned 32 10 text r → result_ok r ≡ number_of_text (2 ^ 32) text
parsed text (Ok n) h p =
    let plain = plain_digits text (digits_in text h) in
    let small : value text < 2 ^ 32 = subst (λ (xs : List ℕ). value xs < 2 ^ 32) plain (p.0.1) in
    ap Some (p.1 ∙ ap value plain) ∙ sym (below text h small)
parsed text (Err e) h p =
    let plain = plain_digits text (digits_in text h) in
    sym (above text h (λ small. p (
      (subst (λ (xs : List ℕ). IsNumeral 10 xs) (sym plain) (some_digits text h, all_digits text (digits_in text h))),
      subst (λ (xs : List ℕ). value xs < 2 ^ 32) (sym plain) small,
    )))

-- a text that is read of the same octets
pub parsed_of : {E : Type 0} (text octets : List ℕ) (r : Result ℕ E) → octets ≡ text → is_decimal text ≡ true → ParsesUnsigned 32 10 octets r → result_ok r ≡ number_of_text (2 ^ 32) text
parsed_of text octets r e h p = parsed text r h (subst (λ (xs : List ℕ). ParsesUnsigned 32 10 xs r) e p)

uppercase-lowercase : (c : ℕ) → to_ascii_uppercase (to_ascii_lowercase c) ≡ to_ascii_uppercase c
uppercase-lowercase c = grind (arith, nat_tests)

map_twice : (f g h : ℕ → ℕ) → ((c : ℕ) → f (g c) ≡ h c) → (xs : List ℕ) → map f (map g xs) ≡ map h xs
map_twice f g h same [] = refl
map_twice f g h same (x ∷ xs) = ap (λ (c : ℕ). c ∷ map f (map g xs)) (same x) ∙ ap (λ (rest : List ℕ). h x ∷ rest) (map_twice f g h same xs)

pub same_letters : (text keyword : List ℕ) (b : Bool) → map to_ascii_uppercase keyword ≡ keyword → (IsTrue b ↔ (map to_ascii_lowercase text ≡ map to_ascii_lowercase keyword)) → b ≡ bytes_eq (map to_ascii_uppercase text) keyword
same_letters text keyword b capitals told =
    let up = map to_ascii_uppercase in
    let low = map to_ascii_lowercase in
    let raised = map_twice to_ascii_uppercase to_ascii_lowercase to_ascii_uppercase uppercase-lowercase in
    let lowered = map_twice to_ascii_lowercase to_ascii_uppercase to_ascii_lowercase lowercase-uppercase in
    let by_call : Decides b (up text ≡ keyword) = (
      (λ t. sym (raised text) ∙ ap up (told.0 t) ∙ raised keyword ∙ capitals),
      (λ e. told.1 (sym (lowered text) ∙ ap low e)),
    ) in
    same_from_decides b (bytes_eq (up text) keyword) by_call (bytes_eq-Decides (up text) keyword)
