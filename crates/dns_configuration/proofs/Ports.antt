-- Ports in text.
use Rattle.std.proofs.Common.{◌≡◌, ◌≢◌, ℕ, zero, suc, ◌<◌, ◌^◌, List, [], ◌∷◌, ◌++◌, length, length-append, ◌+◌, Option, Some, None, Result, Ok, Err, MatchOption, Bor, take, drop, take-append-drop, decimal, get_or, refl, sym, ap, subst, ◌∙◌, arith, lit<}
use Rattle.std.specs.Result.{result_ok}
use Rattle.std.specs.Str.Parse.{AllDigits, IsNumeral, ParsesUnsigned, digits_value, without_leading_plus}
use Rattle.std.proofs.lemmas.Str.Parse.{IsNumeralModel, digit_at, numerals_by_value, tells_digits, without_leading_plus_none}
use Rattle.std.proofs.lemmas.Fmt.{decimal-digits_value, decimal_digit, decimal_is_IsNumeral, decimal_nonempty, first_decimal, parse-decimal}
use Rattle.std.proofs.lemmas.List.{get_or-append-add}
use Rattle.std.specs.Str.Pattern.{RFindsChar, SplitsAroundMatch}
use Rattle.std.proofs.lemmas.Str.Pattern.{NoCharPasses-char, drop_at_char}
use Rattle.std.specs.Net.Socket.{socket_ip, socket_port}
use Rattle.std.specs.declared.net.socket_addr.SocketAddr.{SocketAddr}
use Rattle.dns_configuration.specs.Settings.{FindsIfAny, HasNone, IsLastParted, IsSocketAddress, IsHost, IsPort}

own : IsNumeralModel (AllDigits 10) (digits_value 10)
own = numerals_by_value (AllDigits 10) tells_digits

positive : (text : List ℕ) (n : ℕ) → text ≡ decimal n → get_or text 0 0 ≢ 48 → 0 < n
positive text zero e first = (let at = ap (λ (x : List ℕ). get_or x 0 0) (e ∙ decimal_digit 0 (omega arith)) in absurd (first at))
positive text (suc n) e first = omega arith

port_of : (text : List ℕ) (n : ℕ) → IsNumeral 10 text → digits_value 10 text < 2 ^ 16 → n ≡ digits_value 10 text → get_or text 0 0 ≢ 48 → IsPort text n
port_of text n numeral small is first =
    let spelled : text ≡ decimal n = sym (decimal-digits_value own text numeral.1 numeral.0 (λ zero_first. absurd (first zero_first)) (omega (arith, small))) ∙ ap decimal (sym is) in
    (positive text n spelled first, omega (arith, small, is), spelled)

-- The text of a port begins with none of `0` and `+`.
pub no_empty_port : (text : List ℕ) (n : ℕ) → length text ≡ 0 → IsPort text n → ⊥
no_empty_port text n e h = (let some = decimal_nonempty n (omega (arith, h.1)) in absurd (omega (arith, some, e, ap length h.2)))

pub no_port_behind : (text : List ℕ) (n : ℕ) → get_or text 0 0 < 49 → IsPort text n → ⊥
no_port_behind text n low h =
    let first = first_decimal n h.0 (omega (arith, h.1)) in
    let same = ap (λ (t : List ℕ). get_or t 0 0) h.2 in
    absurd (omega (arith, first, same, low))

-- A number in text whose first octet is none of `0` and `+` is a port, and what is read as no number is none.
pub port_is : {E : Type 0} (text : List ℕ) (r : Result ℕ E) → ParsesUnsigned 16 10 text r → get_or text 0 0 ≢ 48 → get_or text 0 0 ≢ 43 → FindsIfAny (IsPort text) (result_ok r)
port_is text (Err e) h no_zero no_plus = λ n p. (let read = parse-decimal 16 n text (Err e) p.1 (omega (arith, p.1)) p.2 h in absurd cc)
port_is text (Ok n) h no_zero no_plus =
    let plain : without_leading_plus text ≡ text = without_leading_plus_none text no_plus in
    port_of text n (subst (λ (x : List ℕ). IsNumeral 10 x) plain h.0.0) (subst (λ (x : List ℕ). digits_value 10 x < 2 ^ 16) plain h.0.1) (h.1 ∙ ap (digits_value 10) plain) no_zero

-- What is parted at the last colon.
pub parted : (text : List ℕ) (r : Option (Bor (List ℕ) × Bor (List ℕ))) → MatchOption r (RFindsChar 58 text None) (λ x. SplitsAroundMatch (RFindsChar 58) text x.0.now x.1.now) → MatchOption r (HasNone 58 text) (λ parts. IsLastParted 58 text (parts.0.now, parts.1.now))
parted text None h = λ i inside. NoCharPasses-char 58 text i h (lit< tt) inside
parted text (Some parts) h =
    let cut = drop_at_char 58 text h.0 h.1 h.2.1 (lit< tt) in (
      (λ i. sym (take-append-drop h.0 text) i) ∙ ap (λ (t : List ℕ). take h.0 text ++ t) cut ∙ (λ i. sym h.3 i ++ 58 ∷ sym h.4 i),
      λ i inside e. NoCharPasses-char 58 (drop h.1 text) i h.2.0 (lit< tt) (omega (arith, inside, ap length h.4)) (ap (λ (t : List ℕ). get_or t i 0) (sym h.4) ∙ e),
    )

-- No colon occurs in a port.
no_colon : (text : List ℕ) (n : ℕ) → IsPort text n → HasNone 58 text
no_colon text n h i inside e =
    let digits = decimal_is_IsNumeral n (omega (arith, h.1)) in
    let here = digit_at (decimal n) i digits.0.1 (omega (arith, inside, ap length h.2)) in
    absurd (omega (arith, here, e, ap (λ (t : List ℕ). get_or t i 0) h.2))

head_same : {x y : ℕ} {a b : List ℕ} → x ∷ a ≡ y ∷ b → x ≡ y
head_same e = cc

tail_same : {x y : ℕ} {a b : List ℕ} → x ∷ a ≡ y ∷ b → a ≡ b
tail_same e = cc

-- A text is parted at its last colon in one way.
parted_once : (a b c d : List ℕ) → a ++ 58 ∷ b ≡ c ++ 58 ∷ d → HasNone 58 b → HasNone 58 d → (a ≡ c) × (b ≡ d)
parted_once [] b [] d e none other = (refl, tail_same e)
parted_once [] b (x ∷ c) d e none other = absurd (here c (tail_same e))
  where
    here : (c : List ℕ) → b ≡ c ++ 58 ∷ d → ⊥
    here c same = (let at = get_or-append-add c (58 ∷ d) 0 0 in none (length c) (omega (arith, ap length same, length-append c (58 ∷ d))) (ap (λ (t : List ℕ). get_or t (length c) 0) same ∙ ap (λ (i : ℕ). get_or (c ++ 58 ∷ d) i 0) {x = length c} {y = length c + 0} (omega arith) ∙ at))
parted_once (x ∷ a) b [] d e none other = absurd (here a (tail_same e))
  where
    here : (a : List ℕ) → a ++ 58 ∷ b ≡ d → ⊥
    here a same = (let at = get_or-append-add a (58 ∷ b) 0 0 in other (length a) (omega (arith, ap length same, length-append a (58 ∷ b))) (ap (λ (t : List ℕ). get_or t (length a) 0) (sym same) ∙ ap (λ (i : ℕ). get_or (a ++ 58 ∷ b) i 0) {x = length a} {y = length a + 0} (omega arith) ∙ at))
parted_once (x ∷ a) b (y ∷ c) d e none other = (let more = parted_once a b c d (tail_same e) none other in ((λ i. head_same e i ∷ more.0 i), more.1))

pub no_parts : (text : List ℕ) → HasNone 58 text → (a : SocketAddr) → IsSocketAddress text a → ⊥
no_parts text none a h = (let at = get_or-append-add h.host (58 ∷ h.port) 0 0 in none (length h.host) (omega (arith, ap length h.spelled, length-append h.host (58 ∷ h.port))) (ap (λ (t : List ℕ). get_or t (length h.host) 0) h.spelled ∙ ap (λ (i : ℕ). get_or (h.host ++ 58 ∷ h.port) i 0) {x = length h.host} {y = length h.host + 0} (omega arith) ∙ at))

-- What is around the last colon is the host and the port of each listener that the text is.
pub parts_of : (text : List ℕ) (front digits : List ℕ) → IsLastParted 58 text (front, digits) → (a : SocketAddr) → IsSocketAddress text a → IsHost front (socket_ip a) × IsPort digits (socket_port a)
parts_of text front digits h a l =
    let same = parted_once front digits l.host l.port (sym h.0 ∙ l.spelled) h.1 (no_colon l.port (socket_port a) l.port_is) in
    (subst (λ (t : List ℕ). IsHost t (socket_ip a)) (sym same.0) l.host_is, subst (λ (t : List ℕ). IsPort t (socket_port a)) (sym same.1) l.port_is)
