-- A name that is printed reads back.
use Rattle.std.proofs.Common.{◌≡◌, ℕ, ◌+◌, ◌-◌, ◌*◌, ◌/◌, ◌%◌, ◌<◌, ◌≤◌, Bool, true, false, ◌⊎◌, inl, inr, List, [], ◌∷◌, ◌++◌, length, map, Option, Some, Result, Ok, Err, refl, sym, ap, ◌∙◌, arith, append-nil, append_assoc, length-append}
use Rattle.std.specs.Prelude.{◌==◌, ◌||◌, nat_lt, flat_map, bytes_eq, MatchResult, if◌then◌else◌}
use Rattle.std.specs.List.{list_any, AllByRecursion}
use Rattle.std.specs.Char.{to_ascii_lowercase, is_ascii_digit}
use Rattle.std.proofs.lemmas.Bool.Decides.{nat_tests}
use Rattle.dns_names.specs.Name.{Labels, IsLabel, IsName, wire}
use Rattle.dns_names.specs.Text.{Letter, Itself, Escaped, ALetter, TwoDigits, OneDigit, onto, letters_from, letters, octet_of, is_dot, before_label, before_dot, dotted, limited, name_of_text, escaped, is_special, printed_octet, printed_labels, printed_name}
use Rattle.dns_names.specs.declared.NameError.{NameError}
use Rattle.dns_names.specs.declared.NameError.TheVariants.{OutOfMemory}

pub itself : (c : ℕ) (rest : List ℕ) → (c == 92) ≡ false → letters_from ALetter (c ∷ rest) ≡ onto (Itself c) (letters_from ALetter rest)
itself c rest h = rw (h, letters_from) refl

pub by_escape : (c : ℕ) (rest : List ℕ) → is_ascii_digit c ≡ false → letters_from ALetter (92 ∷ c ∷ rest) ≡ onto (Escaped c) (letters_from ALetter rest)
by_escape c rest h = rw (h, letters_from) refl

first_digit : (x : ℕ) (rest : List ℕ) → is_ascii_digit x ≡ true → letters_from ALetter (92 ∷ x ∷ rest) ≡ letters_from (TwoDigits (x - 48)) rest
first_digit x rest h = rw (h, letters_from) refl

second_digit : (n y : ℕ) (rest : List ℕ) → is_ascii_digit y ≡ true → letters_from (TwoDigits n) (y ∷ rest) ≡ letters_from (OneDigit (10 * n + (y - 48))) rest
second_digit n y rest h = rw (h, letters_from) refl

third_digit : (n z : ℕ) (rest : List ℕ) → is_ascii_digit z ≡ true → nat_lt (10 * n + (z - 48)) 256 ≡ true → letters_from (OneDigit n) (z ∷ rest) ≡ onto (Escaped (10 * n + (z - 48))) (letters_from ALetter rest)
third_digit n z rest h small = rw (h, small, letters_from) refl

by_digits : (x y z c : ℕ) (rest : List ℕ) → is_ascii_digit x ≡ true → is_ascii_digit y ≡ true → is_ascii_digit z ≡ true → 10 * (10 * (x - 48) + (y - 48)) + (z - 48) ≡ c → nat_lt c 256 ≡ true → letters_from ALetter (92 ∷ x ∷ y ∷ z ∷ rest) ≡ onto (Escaped c) (letters_from ALetter rest)
by_digits x y z c rest dx dy dz e small =
    let fits : nat_lt (10 * (10 * (x - 48) + (y - 48)) + (z - 48)) 256 ≡ true = ap (λ (k : ℕ). nat_lt k 256) e ∙ small in
    first_digit x (y ∷ z ∷ rest) dx
    ∙ second_digit (x - 48) y (z ∷ rest) dy
    ∙ third_digit (10 * (x - 48) + (y - 48)) z rest dz fits
    ∙ ap (λ (k : ℕ). onto (Escaped k) (letters_from ALetter rest)) e

pub digit_is : (d : ℕ) → d < 10 → is_ascii_digit (48 + d) ≡ true
digit_is d h = grind (arith, nat_tests)

pub small_is : (c : ℕ) → c < 256 → nat_lt c 256 ≡ true
small_is c h = grind (arith, nat_tests)

pub by_number : (c : ℕ) (rest : List ℕ) → c < 256 → letters_from ALetter (escaped c ++ rest) ≡ onto (Escaped c) (letters_from ALetter rest)
by_number c rest h =
    by_digits (48 + c / 100) (48 + c / 10 % 10) (48 + c % 10) c rest (digit_is (c / 100) (omega arith)) (digit_is (c / 10 % 10) (omega arith)) (digit_is (c % 10) (omega arith)) (omega arith) (small_is c h)

abbrev pub name_letter : ℕ → Letter
name_letter c = if is_special c then Escaped c else if nat_lt c 33 || nat_lt 126 c then Escaped c else Itself c

special_is : (c : ℕ) → is_special c ≡ true → is_ascii_digit c ≡ false
special_is c h = grind (arith, nat_tests)

unspecial_is : (c : ℕ) → is_special c ≡ false → (c == 92) ≡ false
unspecial_is c h = grind (arith, nat_tests)

pub name_octet_reads : (c : ℕ) (rest : List ℕ) → c < 256 → letters_from ALetter (printed_octet c ++ rest) ≡ onto (name_letter c) (letters_from ALetter rest)
name_octet_reads c rest h = go (is_special c) (nat_lt c 33 || nat_lt 126 c) refl refl
  where
    go : (a b : Bool) → is_special c ≡ a → (nat_lt c 33 || nat_lt 126 c) ≡ b → letters_from ALetter (printed_octet c ++ rest) ≡ onto (name_letter c) (letters_from ALetter rest)
    go true b p q = rw p (by_escape c rest (special_is c p))
    go false true p q = rw (p, q) (by_number c rest h)
    go false false p q = rw (p, q) (itself c rest (unspecial_is c p))

-- letters before those of the rest
abbrev many : List Letter → Option (List Letter) → Option (List Letter)
many [] o = o
many (l ∷ ls) o = onto l (many ls o)

many_some : (ls xs : List Letter) → many ls (Some xs) ≡ Some (ls ++ xs)
many_some [] xs = refl
many_some (l ∷ ls) xs = ap (onto l) (many_some ls xs)

label_reads : (label rest : List ℕ) → AllByRecursion (λ c. c < 256) label → letters_from ALetter (flat_map printed_octet label ++ rest) ≡ many (map name_letter label) (letters_from ALetter rest)
label_reads [] rest h = refl
label_reads (c ∷ cs) rest h =
    ap (letters_from ALetter) (append_assoc (printed_octet c) (flat_map printed_octet cs) rest)
    ∙ name_octet_reads c (flat_map printed_octet cs ++ rest) h.0
    ∙ ap (onto (name_letter c)) (label_reads cs rest h.1)

abbrev name_letters : Labels → List Letter
name_letters [] = []
name_letters (label ∷ rest) = map name_letter label ++ Itself 46 ∷ name_letters rest

labels_read : (name : Labels) → AllByRecursion IsLabel name → letters (printed_labels name) ≡ Some (name_letters name)
labels_read [] h = refl
labels_read (label ∷ rest) h =
    ap (letters_from ALetter) (append_assoc (flat_map printed_octet label) (46 ∷ []) (printed_labels rest))
    ∙ label_reads label (46 ∷ printed_labels rest) h.0.octets
    ∙ ap (λ (o : Option (List Letter)). many (map name_letter label) (onto (Itself 46) o)) (labels_read rest h.1)
    ∙ many_some (map name_letter label) (Itself 46 ∷ name_letters rest)

dot_special : (c : ℕ) → is_special c ≡ false → (c == 46) ≡ false
dot_special c h = grind (arith, nat_tests)

name_letter_of : (c : ℕ) → octet_of (name_letter c) ≡ c
name_letter_of c = go (is_special c) (nat_lt c 33 || nat_lt 126 c) refl refl
  where
    go : (a b : Bool) → is_special c ≡ a → (nat_lt c 33 || nat_lt 126 c) ≡ b → octet_of (name_letter c) ≡ c
    go true b p q = rw p refl
    go false true p q = rw (p, q) refl
    go false false p q = rw (p, q) refl

name_letter_no_dot : (c : ℕ) → is_dot (name_letter c) ≡ false
name_letter_no_dot c = go (is_special c) (nat_lt c 33 || nat_lt 126 c) refl refl
  where
    go : (a b : Bool) → is_special c ≡ a → (nat_lt c 33 || nat_lt 126 c) ≡ b → is_dot (name_letter c) ≡ false
    go true b p q = rw p refl
    go false true p q = rw (p, q) refl
    go false false p q = rw (p, q) (dot_special c p)

letter_dotted : (l : Letter) (ls : List Letter) → is_dot l ≡ false → dotted (l ∷ ls) ≡ before_label (to_ascii_lowercase (octet_of l)) (dotted ls)
letter_dotted l ls h = rw (h, dotted) refl

octet_dotted : (c : ℕ) (ls : List Letter) → dotted (name_letter c ∷ ls) ≡ before_label (to_ascii_lowercase c) (dotted ls)
octet_dotted c ls = letter_dotted (name_letter c) ls (name_letter_no_dot c) ∙ ap (λ (x : ℕ). before_label (to_ascii_lowercase x) (dotted ls)) (name_letter_of c)

label_dotted : (label tail : List ℕ) (ls : List Letter) (name : Labels) → map to_ascii_lowercase label ≡ label → dotted ls ≡ (tail ∷ name, []) → dotted (map name_letter label ++ ls) ≡ ((label ++ tail) ∷ name, [])
label_dotted [] tail ls name low h = h
label_dotted (c ∷ cs) tail ls name low h =
    let head : to_ascii_lowercase c ≡ c = cc in
    let lows : map to_ascii_lowercase cs ≡ cs = cc in
    octet_dotted c (map name_letter cs ++ ls)
    ∙ ap (before_label (to_ascii_lowercase c)) (label_dotted cs tail ls name lows h)
    ∙ ap (λ (x : ℕ). ((x ∷ (cs ++ tail)) ∷ name, [])) head

name_dotted : (name : Labels) → AllByRecursion IsLabel name → dotted (name_letters name) ≡ (name, [])
name_dotted [] h = refl
name_dotted (label ∷ rest) h =
    label_dotted label [] (Itself 46 ∷ name_letters rest) rest h.0.lower (ap before_dot (name_dotted rest h.1))
    ∙ ap (λ (l : List ℕ). (l ∷ rest, [])) (append-nil label)

no_empty : (name : Labels) → AllByRecursion IsLabel name → list_any (λ (label : List ℕ). length label == 0) name ≡ false
no_empty [] h = refl
no_empty (label ∷ rest) h =
    let some : 0 < length label = h.0.some in
    let one : (length label == 0) ≡ false = grind (arith, nat_tests) in
    rw one (no_empty rest h.1)

no_long : (name : Labels) → AllByRecursion IsLabel name → list_any (λ (label : List ℕ). nat_lt 63 (length label)) name ≡ false
no_long [] h = refl
no_long (label ∷ rest) h =
    let short : length label ≤ 63 = h.0.short in
    let one : nat_lt 63 (length label) ≡ false = grind (arith, nat_tests) in
    rw one (no_long rest h.1)

not_longer : (n : ℕ) → n ≤ 255 → nat_lt 255 n ≡ false
not_longer n h = grind (arith, nat_tests)

limited_is : (name : Labels) → IsName name → limited name ≡ Ok name
limited_is name h = rw (no_empty name h.labels, no_long name h.labels, not_longer (length (wire name)) h.short) refl

printed_some : (c : ℕ) → 0 < length (printed_octet c)
printed_some c = go (is_special c) (nat_lt c 33 || nat_lt 126 c) refl refl
  where
    go : (a b : Bool) → is_special c ≡ a → (nat_lt c 33 || nat_lt 126 c) ≡ b → 0 < length (printed_octet c)
    go true b p q = rw p (omega arith)
    go false true p q = rw (p, q) (omega arith)
    go false false p q = rw (p, q) (omega arith)

printed_two : (label : List ℕ) (rest : Labels) → 0 < length label → 2 ≤ length (printed_labels (label ∷ rest))
printed_two [] rest h = absurd (omega (arith, h))
printed_two (c ∷ cs) rest h =
    let front = printed_octet c in
    let tail = flat_map printed_octet cs in
    let some : 0 < length front = printed_some c in
    omega (arith, some, length-append front tail, length-append (front ++ tail) (46 ∷ []), length-append ((front ++ tail) ++ 46 ∷ []) (printed_labels rest))

longer_differs : (a : ℕ) (text : List ℕ) → 2 ≤ length text → bytes_eq text (a ∷ []) ≡ false
longer_differs a [] h = refl
longer_differs a (x ∷ []) h = absurd (omega (arith, h))
longer_differs a (x ∷ y ∷ ys) h = go (x == a) refl
  where
    go : (b : Bool) → (x == a) ≡ b → bytes_eq (x ∷ y ∷ ys) (a ∷ []) ≡ false
    go true p = rw p refl
    go false p = rw p refl

not_none : (text : List ℕ) → 2 ≤ length text → (length text == 0) ≡ false
not_none text h = grind (arith, nat_tests)

-- a name that is printed reads as the same name, whatever the origin
pub name_reads_back : (origin name : Labels) → IsName name → name_of_text origin (printed_name name) ≡ Ok name
name_reads_back origin [] h = refl
name_reads_back origin (label ∷ rest) h =
    let text = printed_labels (label ∷ rest) in
    let two : 2 ≤ length text = printed_two label rest h.labels.0.some in
    rw (longer_differs 64 text two, longer_differs 46 text two, not_none text two, labels_read (label ∷ rest) h.labels, name_dotted (label ∷ rest) h.labels) (limited_is (label ∷ rest) h)

-- and so by any reading
abbrev read : Labels → Result Labels NameError
read name = Ok name

pub printed_read : (origin name : Labels) (text : List ℕ) (r : Result Labels NameError) → MatchResult r (λ n. name_of_text origin text ≡ Ok n) (λ e. (e ≡ OutOfMemory) ⊎ (name_of_text origin text ≡ Err e)) → IsName name → text ≡ printed_name name → MatchResult r (λ n. n ≡ name) (λ e. e ≡ OutOfMemory)
printed_read origin name text (Ok n) h valid e = (let same : read name ≡ Ok n = sym (name_reads_back origin name valid) ∙ ap (name_of_text origin) (sym e) ∙ h in cc)
printed_read origin name text (Err (e0)) (inl m) valid e = m
printed_read origin name text (Err (e0)) (inr w) valid e = (let same : read name ≡ Err e0 = sym (name_reads_back origin name valid) ∙ ap (name_of_text origin) (sym e) ∙ w in absurd (cc))
