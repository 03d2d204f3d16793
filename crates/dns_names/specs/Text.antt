-- Names in text: what a text names, and how a name is printed.
use Rattle.std.specs.Prelude.{ℕ, ◌+◌, ◌-◌, ◌*◌, ◌/◌, ◌%◌, Bool, true, false, ◌&&◌, ◌||◌, ◌==◌, nat_lt, List}
use Rattle.std.specs.Prelude.{[], ◌∷◌, ◌++◌, length, flat_map, Option, Some, None, Result, Ok, Err, bytes_eq}
use Rattle.std.specs.Prelude.{codes, if◌then◌else◌}
use Rattle.std.specs.List.{list_any}
use Rattle.std.specs.Char.{to_ascii_lowercase, is_ascii_digit}
use Rattle.dns_names.specs.Name.{Labels, wire}
use Rattle.dns_names.specs.declared.NameError.{NameError}
use Rattle.dns_names.specs.declared.NameError.TheVariants.{EmptyLabel, LabelTooLong, NameTooLong, BadEscape}

-- An octet of a text: bare, or by `\X` or `\DDD` (RFC 1035 5.1).
pub data Letter : Type 0 where
  Itself : ℕ → Letter
  Escaped : ℕ → Letter

-- Where a text is read: at a letter, after its `\`, or where two digits or one are due after a number.
pub data Due : Type 0 where
  ALetter : Due
  AnEscape : Due
  TwoDigits : ℕ → Due
  OneDigit : ℕ → Due

abbrev pub onto : Letter → Option (List Letter) → Option (List Letter)
onto x None = None
onto x (Some xs) = Some (x ∷ xs)

-- The letters of a text, unless a `\` is misused: `\X`, X no digit, is the octet X, and `\DDD` the octet of
-- that decimal value.
abbrev pub letters_from : Due → List ℕ → Option (List Letter)
letters_from ALetter [] = Some []
letters_from AnEscape [] = None
letters_from (TwoDigits n) [] = None
letters_from (OneDigit n) [] = None
letters_from ALetter (c ∷ rest) = elim (c == 92) [
  | true ↦ letters_from AnEscape rest
  | false ↦ onto (Itself c) (letters_from ALetter rest)
]
letters_from AnEscape (c ∷ rest) = elim (is_ascii_digit c) [
  | true ↦ letters_from (TwoDigits (c - 48)) rest
  | false ↦ onto (Escaped c) (letters_from ALetter rest)
]
letters_from (TwoDigits n) (c ∷ rest) = elim (is_ascii_digit c) [
  | true ↦ letters_from (OneDigit (10 * n + (c - 48))) rest
  | false ↦ None
]
letters_from (OneDigit n) (c ∷ rest) = elim (is_ascii_digit c && nat_lt (10 * n + (c - 48)) 256) [
  | true ↦ onto (Escaped (10 * n + (c - 48))) (letters_from ALetter rest)
  | false ↦ None
]

abbrev pub letters : List ℕ → Option (List Letter)
letters text = letters_from ALetter text

abbrev pub octet_of : Letter → ℕ
octet_of (Itself c) = c
octet_of (Escaped c) = c

abbrev pub is_dot : Letter → Bool
is_dot (Itself c) = c == 46
is_dot (Escaped c) = false

-- The labels that a dot ends, and the octets after the last dot. Only a bare dot ends a label.
abbrev pub before_label : ℕ → Labels × List ℕ → Labels × List ℕ
before_label c ([], tail) = ([], c ∷ tail)
before_label c (label ∷ labels, tail) = ((c ∷ label) ∷ labels, tail)

abbrev pub before_dot : Labels × List ℕ → Labels × List ℕ
before_dot (labels, tail) = ([] ∷ labels, tail)

abbrev pub dotted : List Letter → Labels × List ℕ
dotted [] = ([], [])
dotted (l ∷ rest) = elim (is_dot l) [
  | true ↦ before_dot (dotted rest)
  | false ↦ before_label (to_ascii_lowercase (octet_of l)) (dotted rest)
]

-- A name that no dot ends is followed by the origin (RFC 1035 5.1).
abbrev pub with_origin : Labels → Labels × List ℕ → Labels
with_origin origin (labels, []) = labels
with_origin origin (labels, c ∷ tail) = labels ++ (c ∷ tail) ∷ origin

-- The name within the limits (RFC 1035 2.3.4).
abbrev pub limited : Labels → Result Labels NameError
limited name =
    if list_any (λ label. length label == 0) name then Err EmptyLabel
    else if list_any (λ label. nat_lt 63 (length label)) name then Err LabelTooLong
    else if nat_lt 255 (length (wire name)) then Err NameTooLong
    else Ok name

-- What letters are parts of.
abbrev pub parts_of : Option (List Letter) → Option (Labels × List ℕ)
parts_of None = None
parts_of (Some ls) = Some (dotted ls)

-- The name of a text's parts.
abbrev pub name_of_parts : Labels → Option (Labels × List ℕ) → Result Labels NameError
name_of_parts origin None = Err BadEscape
name_of_parts origin (Some parts) = limited (with_origin origin parts)

-- The name of a text: `@` is the origin, `.` the root (RFC 1035 5.1).
abbrev pub name_of_text : Labels → List ℕ → Result Labels NameError
name_of_text origin text =
    if bytes_eq text (codes "@") then Ok origin
    else if bytes_eq text (codes ".") then Ok []
    else if length text == 0 then Err EmptyLabel
    else name_of_parts origin (parts_of (letters text))

-- three decimal digits after a `\`
abbrev pub escaped : ℕ → List ℕ
escaped c = 92 ∷ (48 + c / 100) ∷ (48 + c / 10 % 10) ∷ (48 + c % 10) ∷ []

-- `.`, `\`, `"`, `(`, `)`, `;`, `@`, `$`
abbrev pub is_special : ℕ → Bool
is_special c = c == 46 || c == 92 || c == 34 || c == 40 || c == 41 || c == 59 || c == 64 || c == 36

-- An octet of a label in print.
abbrev pub printed_octet : ℕ → List ℕ
printed_octet c =
    if is_special c then 92 ∷ c ∷ [] else if nat_lt c 33 || nat_lt 126 c then escaped c else c ∷ []

abbrev pub printed_label : List ℕ → List ℕ
printed_label label = flat_map printed_octet label

-- A name in print: each label with a dot after it, and a dot alone for the root.
abbrev pub printed_labels : Labels → List ℕ
printed_labels name = flat_map (λ label. printed_label label ++ 46 ∷ []) name

abbrev pub printed_name : Labels → List ℕ
printed_name [] = 46 ∷ []
printed_name (label ∷ rest) = printed_labels (label ∷ rest)
