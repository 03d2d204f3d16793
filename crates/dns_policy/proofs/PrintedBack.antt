-- Addresses in print read back.
use Rattle.std.proofs.Common.{◌≡◌, ℕ, suc, ◌/◌, ◌%◌, ◌^◌, ◌<◌, ◌≤◌, inl, Bool, true, false, List, [], ◌∷◌, ◌++◌, length, get_or, refl, ◌∙◌, arith, subst}
use Rattle.std.specs.Prelude.{◌==◌, ◌||◌, ◌≢◌, cond, codes}
use Rattle.std.specs.List.{AllByRecursion}
use Rattle.std.specs.Fmt.{digits, digits_onto, digit_glyph}
use Rattle.std.specs.Char.{digit_value}
use Rattle.std.specs.Str.Parse.{AllDigits}
use Rattle.std.specs.declared.net.ipv6_addr.Ipv6Addr.{Ipv6Addr}
use Rattle.std.specs.declared.net.ip_addr.IpAddr.TheVariants.{V6}
use Rattle.std.specs.Net.Addr.{IsIpv6Addr}
use Rattle.std.specs.Net.Grammar.{IsGroup, IsGroupsAfter, IsGroups}
use Rattle.std.proofs.lemmas.Bool.Decides.{nat_tests}
use Rattle.std.proofs.lemmas.Fmt.{digits_is_IsNumeral}
use Rattle.std.proofs.lemmas.List.Folds.{list_any-append}
use Rattle.dns_policy.specs.Address.{IsAddress, has_dot}
use Rattle.dns_policy.specs.Printed.{printed_group, further_groups, printed_groups, printed_address}

digit_no_dot : (c : ℕ) → digit_value c < 16 → (c == 46) ≡ false
digit_no_dot c h = (let low : c ≢ 46 = λ e. (let f : digit_value 46 < 16 = subst (λ (x : ℕ). digit_value x < 16) e h in omega (arith, f)) in grind (arith, nat_tests))

-- A group of at most four digits.
last_digit : (k n m : ℕ) (acc : List ℕ) → length acc ≤ m → n < 16 → length (digits_onto (suc k) 16 false n acc) ≤ suc m
last_digit k n m acc h small =
    let none : n / 16 ≡ 0 = omega (arith, small) in
    rw none (omega (arith, h))

more_digits : (k n m : ℕ) (acc : List ℕ) → suc (length acc) ≤ m → ((acc' : List ℕ) → length acc' ≤ suc (length acc) → length (digits_onto k 16 false (n / 16) acc') ≤ m) → length (digits_onto (suc k) 16 false n acc) ≤ m
more_digits k n m acc room h = go (n / 16 == 0)
  where
    glyph : ℕ
    glyph = digit_glyph false (n % 16)

    go : (b : Bool) → length (cond b (glyph ∷ acc) (digits_onto k 16 false (n / 16) (glyph ∷ acc))) ≤ m
    go true = room
    go false = h (glyph ∷ acc) (omega arith)

group_len : (n : ℕ) → n < 2 ^ 16 → length (printed_group n) ≤ 4
unfolding digits
group_len n fits =
    more_digits 63 n 4 [] (omega arith) (λ a ha.
    more_digits 62 (n / 16) 4 a (omega (arith, ha)) (λ b hb.
    more_digits 61 (n / 16 / 16) 4 b (omega (arith, ha, hb)) (λ c hc.
    last_digit 60 (n / 16 / 16 / 16) 3 c (omega (arith, ha, hb, hc)) (omega (arith, fits)))))

pub group_is : (n : ℕ) → n < 2 ^ 16 → IsGroup (printed_group n) n
group_is n fits = (digits_is_IsNumeral 16 false (omega arith) (omega arith) n (omega (arith, fits)), group_len n fits)

abbrev pub FitSegments : List ℕ → Type 0
FitSegments segments = AllByRecursion (λ s. s < 2 ^ 16) segments

further_are : (segments : List ℕ) → FitSegments segments → IsGroupsAfter true (codes ":") (further_groups segments) segments
further_are [] h = refl
further_are (s ∷ rest) h = inl (printed_group s, further_groups rest, refl, group_is s h.0, further_are rest h.1)

pub groups_are : (segments : List ℕ) → FitSegments segments → IsGroups true (printed_groups segments) segments
groups_are [] h = refl
groups_are (s ∷ rest) h = inl (printed_group s, further_groups rest, refl, group_is s h.0, further_are rest h.1)

digits_no_dot : (text : List ℕ) → AllDigits 16 text → has_dot text ≡ false
digits_no_dot [] h = refl
digits_no_dot (c ∷ cs) h = rw (digit_no_dot c h.0) (digits_no_dot cs h.1)

either_false : (a b : Bool) → a ≡ false → b ≡ false → (a || b) ≡ false
either_false a b h k = rw (h, k) refl

group_no_dot : (s : ℕ) (rest : List ℕ) → s < 2 ^ 16 → has_dot rest ≡ false → has_dot (printed_group s ++ rest) ≡ false
group_no_dot s rest fits h = list_any-append (λ octet. octet == 46) (printed_group s) rest ∙ either_false (has_dot (printed_group s)) (has_dot rest) (digits_no_dot (printed_group s) (group_is s fits).0.0.1) h

further_no_dot : (segments : List ℕ) → FitSegments segments → has_dot (further_groups segments) ≡ false
further_no_dot [] h = refl
further_no_dot (s ∷ rest) h = group_no_dot s (further_groups rest) h.0 (further_no_dot rest h.1)

pub groups_no_dot : (segments : List ℕ) → FitSegments segments → has_dot (printed_groups segments) ≡ false
groups_no_dot [] h = refl
groups_no_dot (s ∷ rest) h = group_no_dot s (further_groups rest) h.0 (further_no_dot rest h.1)

fit_each : (segments : List ℕ) → ((k : ℕ) → get_or segments k 0 < 2 ^ 16) → FitSegments segments
fit_each [] h = tt
fit_each (s ∷ rest) h = (h 0, fit_each rest (λ k. h (suc k)))

-- What is printed of an IPv6 address is a text of it.
pub ipv6_back : (a : Ipv6Addr) → IsIpv6Addr a → IsAddress (printed_address (V6 a)) (V6 a)
ipv6_back a h = let fit = fit_each a.segments h.1 in (groups_no_dot a.segments fit, inl (groups_are a.segments fit, h.0))
