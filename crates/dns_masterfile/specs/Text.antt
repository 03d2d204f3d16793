-- Numbers, strings and addresses in text, and how each is printed.
use Rattle.std.specs.Prelude.{ℕ, Bool, ◌&&◌, ◌||◌, ◌==◌, nat_lt, List, [], ◌∷◌, ◌++◌, length, map, flat_map}
use Rattle.std.specs.Prelude.{option_and_then, Option, Some, None, if◌then◌else◌}
use Rattle.std.specs.List.{list_all}
use Rattle.std.specs.Char.{is_ascii_digit}
use Rattle.std.specs.Str.Parse.{digits_value}
use Rattle.std.specs.Net.Addr.{segments_of}
use Rattle.dns_policy.specs.Printed.{printed_groups}
use Rattle.dns_names.specs.Text.{letters, octet_of, escaped}

-- A number: decimal digits, below a limit (RFC 1035 5.1).
abbrev pub is_decimal : List ℕ → Bool
is_decimal text = nat_lt 0 (length text) && list_all is_ascii_digit text

abbrev pub number_of_text : ℕ → List ℕ → Option ℕ
number_of_text limit text =
    if is_decimal text && nat_lt (digits_value 10 text) limit then Some (digits_value 10 text) else None

-- what each is, if each is something
abbrev pub before_each : {A : Type 0} → A → Option (List A) → Option (List A)
before_each x None = None
before_each x (Some xs) = Some (x ∷ xs)

abbrev pub each_of : {A B : Type 0} → (A → Option B) → List A → Option (List B)
each_of f [] = Some []
each_of f (x ∷ xs) = option_and_then (λ y. before_each y (each_of f xs)) (f x)

-- A string: at most 255 octets (RFC 1035 3.3).
abbrev pub string_of_text : List ℕ → Option (List ℕ)
string_of_text text =
    option_and_then (λ ls. if nat_lt (length ls) 256 then Some (map octet_of ls) else None) (letters text)

-- An octet between quotes: `"` and `\` after a `\`, and what is not visible ASCII as `\DDD`.
abbrev pub printed_string_octet : ℕ → List ℕ
printed_string_octet c =
    if c == 34 || c == 92 then 92 ∷ c ∷ [] else if nat_lt c 32 || nat_lt 126 c then escaped c else c ∷ []

abbrev pub printed_string : List ℕ → List ℕ
printed_string octets = 34 ∷ flat_map printed_string_octet octets ++ 34 ∷ []

-- The octets of an IPv6 address as eight groups, none left out.
abbrev pub printed_ipv6 : List ℕ → List ℕ
printed_ipv6 octets = printed_groups (segments_of octets)
