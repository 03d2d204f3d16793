-- Words as they are printed: each is one piece.
use Rattle.std.proofs.Common.{◌≡◌, ℕ, ◌+◌, ◌/◌, ◌%◌, ◌^◌, ◌<◌, ◌≤◌, inl, inr, Bool, true, false, List, [], ◌∷◌, ◌++◌, length, decimal, refl, sym, ap, subst, ◌∙◌, arith, append_assoc, length-append}
use Rattle.std.specs.Prelude.{◌≢◌, ◌==◌, ◌||◌, nat_lt, flat_map}
use Rattle.std.specs.List.{AllByRecursion, concat}
use Rattle.std.specs.Char.{digit_value}
use Rattle.std.specs.Str.Parse.{AllDigits}
use Rattle.std.proofs.lemmas.Bool.Decides.{nat_tests}
use Rattle.std.proofs.lemmas.Fmt.{decimal_is_IsNumeral}
use Rattle.dns_names.specs.Name.{Labels, IsLabel, IsName}
use Rattle.dns_names.specs.Text.{escaped, is_special, printed_octet, printed_label, printed_labels, printed_name}
use Rattle.dns_masterfile.specs.declared.kind.Kind.{Kind}
use Rattle.dns_masterfile.specs.declared.kind.Kind.TheVariants.{LineFeed, Return, Control, Blank, Semicolon, Quote, Opening, Closing, Backslash, Plain}
use Rattle.dns_masterfile.specs.Kinds.{kind}
use Rattle.dns_masterfile.specs.Text.{printed_string_octet}
use Rattle.dns_masterfile.specs.Pieces.{Word, Bare, Quoted, IsVisible, IsQuotable, IsUnit, IsWord}
use Rattle.dns_masterfile.specs.Meaning.{begins_with_dollar}
use Rattle.dns_masterfile.proofs.OnlyPieces.{IsPlain}
use Rattle.dns_masterfile.proofs.Complete.{true_false}
use Rattle.dns_masterfile.proofs.Covered.{OfKind, kind_is, empty_word, more_word}

-- A word as it is in a line.
abbrev pub written : Word → List ℕ
written (Bare text) = text
written (Quoted text) = 34 ∷ text ++ 34 ∷ []

-- What is there is the word, before a blank or a line end.
abbrev pub IsWritten : Word → Type 0
IsWritten (Bare text) = (0 < length text) × IsWord IsPlain text
IsWritten (Quoted text) = IsWord IsQuotable text

units_append : (Stands : Kind → Type 0) (units : List (List ℕ)) (b : List ℕ) → AllByRecursion (IsUnit Stands) units → IsWord Stands b → IsWord Stands (concat units ++ b)
units_append Stands [] b all word = word
units_append Stands (u ∷ us) b all word = rw (append_assoc u (concat us) b) (more_word Stands u (concat us ++ b) all.0 (units_append Stands us b all.1 word))

pub word_append : (Stands : Kind → Type 0) (a b : List ℕ) → IsWord Stands a → IsWord Stands b → IsWord Stands (a ++ b)
word_append Stands a b (units, e, all) word = rw e (units_append Stands units b all word)

-- Kinds of octets by their numbers.
plain_of : (c : ℕ) (k : Kind) → OfKind c k → 32 < c → c < 127 → c ≢ 34 → c ≢ 40 → c ≢ 41 → c ≢ 59 → c ≢ 92 → k ≡ Plain
plain_of c LineFeed e low high q o x s b = absurd (omega (arith, e))
plain_of c Return e low high q o x s b = absurd (omega (arith, e))
plain_of c Control (inl e) low high q o x s b = absurd (omega (arith, e))
plain_of c Control (inr e) low high q o x s b = absurd (omega (arith, e))
plain_of c Blank (inl e) low high q o x s b = absurd (omega (arith, e))
plain_of c Blank (inr e) low high q o x s b = absurd (omega (arith, e))
plain_of c Quote e low high q o x s b = absurd (q e)
plain_of c Opening e low high q o x s b = absurd (o e)
plain_of c Closing e low high q o x s b = absurd (x e)
plain_of c Semicolon e low high q o x s b = absurd (s e)
plain_of c Backslash e low high q o x s b = absurd (b e)
plain_of c Plain e low high q o x s b = refl

pub plain_kind : (c : ℕ) → 32 < c → c < 127 → c ≢ 34 → c ≢ 40 → c ≢ 41 → c ≢ 59 → c ≢ 92 → kind c ≡ Plain
plain_kind c = plain_of c (kind c) (kind_is c)

visible_of : (c : ℕ) (k : Kind) → OfKind c k → 32 ≤ c → c < 127 → IsVisible k
visible_of c LineFeed e low high = absurd (omega (arith, e))
visible_of c Return e low high = absurd (omega (arith, e))
visible_of c Control (inl e) low high = absurd (omega (arith, e))
visible_of c Control (inr e) low high = absurd (omega (arith, e))
visible_of c _ e low high = tt

quotable_of : (c : ℕ) (k : Kind) → OfKind c k → 32 ≤ c → c < 127 → c ≢ 34 → c ≢ 92 → IsQuotable k
quotable_of c Quote e low high q b = absurd (q e)
quotable_of c Backslash e low high q b = absurd (b e)
quotable_of c LineFeed e low high q b = absurd (omega (arith, e))
quotable_of c Return e low high q b = absurd (omega (arith, e))
quotable_of c Control (inl e) low high q b = absurd (omega (arith, e))
quotable_of c Control (inr e) low high q b = absurd (omega (arith, e))
quotable_of c _ e low high q b = tt

digit_plain : (d : ℕ) → d < 10 → kind (48 + d) ≡ Plain
digit_plain d h = plain_kind (48 + d) (omega arith) (omega arith) (λ e. omega (arith, e)) (λ e. omega (arith, e)) (λ e. omega (arith, e)) (λ e. omega (arith, e)) (λ e. omega (arith, e))

one_word : (Stands : Kind → Type 0) (c : ℕ) → Stands (kind c) → IsWord Stands (c ∷ [])
one_word Stands c h = ((c ∷ []) ∷ [], refl, ((c, inl (refl, h)), tt))

pub escape_word : (Stands : Kind → Type 0) (c : ℕ) → IsVisible (kind c) → IsWord Stands (92 ∷ c ∷ [])
escape_word Stands c h = ((92 ∷ c ∷ []) ∷ [], refl, ((c, inr (refl, h)), tt))

escaped_word : (Stands : Kind → Type 0) → Stands Plain → (c : ℕ) → c < 256 → IsWord Stands (escaped c)
escaped_word Stands stands c h =
    let first = digit_plain (c / 100) (omega arith) in
    let second = digit_plain (c / 10 % 10) (omega arith) in
    let third = digit_plain (c % 10) (omega arith) in
    let end : IsWord Stands ((48 + c / 10 % 10) ∷ (48 + c % 10) ∷ []) =
    more_word Stands ((48 + c / 10 % 10) ∷ []) ((48 + c % 10) ∷ []) (48 + c / 10 % 10, inl (refl, subst Stands (sym second) stands)) (one_word Stands (48 + c % 10) (subst Stands (sym third) stands)) in
    more_word Stands (92 ∷ (48 + c / 100) ∷ []) ((48 + c / 10 % 10) ∷ (48 + c % 10) ∷ []) (48 + c / 100, inr (refl, subst IsVisible (sym first) tt)) end

-- Names.
special_range : (c : ℕ) → is_special c ≡ true → (32 ≤ c) × (c < 127)
special_range c h = (grind (arith, nat_tests), grind (arith, nat_tests))

unspecial : (c x : ℕ) → is_special c ≡ false → is_special x ≡ true → c ≢ x
unspecial c x h k = λ e. true_false (is_special c) (ap is_special e ∙ k) h

range_is : (c : ℕ) → (nat_lt c 33 || nat_lt 126 c) ≡ false → (32 < c) × (c < 127)
range_is c h = (grind (arith, nat_tests), grind (arith, nat_tests))

name_octet_word : (c : ℕ) → c < 256 → IsWord IsPlain (printed_octet c)
name_octet_word c h = go (is_special c) (nat_lt c 33 || nat_lt 126 c) refl refl
  where
    go : (a b : Bool) → is_special c ≡ a → (nat_lt c 33 || nat_lt 126 c) ≡ b → IsWord IsPlain (printed_octet c)
    go true b p q = (let r = special_range c p in rw p (escape_word IsPlain c (visible_of c (kind c) (kind_is c) r.0 r.1)))
    go false true p q = rw (p, q) (escaped_word IsPlain refl c h)
    go false false p q = (let r = range_is c q in rw (p, q) (one_word IsPlain c (plain_kind c r.0 r.1 (unspecial c 34 p refl) (unspecial c 40 p refl) (unspecial c 41 p refl) (unspecial c 59 p refl) (unspecial c 92 p refl))))

label_word : (label : List ℕ) → AllByRecursion (λ c. c < 256) label → IsWord IsPlain (printed_label label)
label_word [] h = empty_word IsPlain
label_word (c ∷ cs) h = word_append IsPlain (printed_octet c) (printed_label cs) (name_octet_word c h.0) (label_word cs h.1)

labels_word : (name : Labels) → AllByRecursion IsLabel name → IsWord IsPlain (printed_labels name)
labels_word [] h = empty_word IsPlain
labels_word (label ∷ rest) h =
    word_append IsPlain (printed_label label ++ 46 ∷ []) (printed_labels rest) (word_append IsPlain (printed_label label) (46 ∷ []) (label_word label h.0.octets) (one_word IsPlain 46 refl)) (labels_word rest h.1)

pub name_written : (name : Labels) → IsName name → IsWritten (Bare (printed_name name))
name_written [] h = (omega arith, one_word IsPlain 46 refl)
name_written (label ∷ rest) h =
    (omega (arith, length-append (printed_label label) (46 ∷ []), length-append (printed_label label ++ 46 ∷ []) (printed_labels rest)), labels_word (label ∷ rest) h.labels)

octet_no_dollar : (c : ℕ) (rest : List ℕ) → begins_with_dollar (Bare (printed_octet c ++ rest)) ≡ false
octet_no_dollar c rest = go (is_special c) (nat_lt c 33 || nat_lt 126 c) refl refl
  where
    dollar : is_special c ≡ false → (c == 36) ≡ false
    dollar h = grind (arith, nat_tests)

    go : (a b : Bool) → is_special c ≡ a → (nat_lt c 33 || nat_lt 126 c) ≡ b → begins_with_dollar (Bare (printed_octet c ++ rest)) ≡ false
    go true b p q = rw p refl
    go false true p q = rw (p, q) refl
    go false false p q = rw (p, q) (dollar p)

pub name_no_dollar : (name : Labels) → IsName name → begins_with_dollar (Bare (printed_name name)) ≡ false
name_no_dollar [] h = refl
name_no_dollar ([] ∷ rest) h = (let some : 0 < 0 = h.labels.0.some in absurd (omega (arith, some)))
name_no_dollar ((c ∷ cs) ∷ rest) h =
    ap (λ (t : List ℕ). begins_with_dollar (Bare (t ++ printed_labels rest))) (append_assoc (printed_octet c) (printed_label cs) (46 ∷ []))
    ∙ ap (λ (t : List ℕ). begins_with_dollar (Bare t)) (append_assoc (printed_octet c) (printed_label cs ++ 46 ∷ []) (printed_labels rest))
    ∙ octet_no_dollar c ((printed_label cs ++ 46 ∷ []) ++ printed_labels rest)

-- Strings.
quote_range : (c : ℕ) → (c == 34 || c == 92) ≡ true → (32 ≤ c) × (c < 127)
quote_range c h = (grind (arith, nat_tests), grind (arith, nat_tests))

string_range : (c : ℕ) → (nat_lt c 32 || nat_lt 126 c) ≡ false → (32 ≤ c) × (c < 127)
string_range c h = (grind (arith, nat_tests), grind (arith, nat_tests))

no_quote : (c : ℕ) → (c == 34 || c == 92) ≡ false → (c ≢ 34) × (c ≢ 92)
no_quote c h = ((λ e. true_false (c == 34 || c == 92) (ap (λ (x : ℕ). x == 34 || x == 92) e) h), (λ e. true_false (c == 34 || c == 92) (ap (λ (x : ℕ). x == 34 || x == 92) e) h))

string_octet_word : (c : ℕ) → c < 256 → IsWord IsQuotable (printed_string_octet c)
string_octet_word c h = go (c == 34 || c == 92) (nat_lt c 32 || nat_lt 126 c) refl refl
  where
    go : (a b : Bool) → (c == 34 || c == 92) ≡ a → (nat_lt c 32 || nat_lt 126 c) ≡ b → IsWord IsQuotable (printed_string_octet c)
    go true b p q = (let r = quote_range c p in rw p (escape_word IsQuotable c (visible_of c (kind c) (kind_is c) r.0 r.1)))
    go false true p q = rw (p, q) (escaped_word IsQuotable tt c h)
    go false false p q = (let r = string_range c q in let n = no_quote c p in rw (p, q) (one_word IsQuotable c (quotable_of c (kind c) (kind_is c) r.0 r.1 n.0 n.1)))

pub string_written : (octets : List ℕ) → AllByRecursion (λ c. c < 256) octets → IsWritten (Quoted (flat_map printed_string_octet octets))
string_written [] h = empty_word IsQuotable
string_written (c ∷ cs) h = word_append IsQuotable (printed_string_octet c) (flat_map printed_string_octet cs) (string_octet_word c h.0) (string_written cs h.1)

-- Digits.
record DigitOctet (c : ℕ) : Type 0 where
  low : 48 ≤ c
  high : c ≤ 122
  no_colon : c ≢ 58
  no_semicolon : c ≢ 59
  no_backslash : c ≢ 92

digit_octet : (c : ℕ) → digit_value c < 16 → DigitOctet c
digit_octet c h = record {
  low = grind (arith, nat_tests);
  high = grind (arith, nat_tests);
  no_colon = λ e. (let f : digit_value 58 < 16 = subst (λ (x : ℕ). digit_value x < 16) e h in omega (arith, f));
  no_semicolon = λ e. (let f : digit_value 59 < 16 = subst (λ (x : ℕ). digit_value x < 16) e h in omega (arith, f));
  no_backslash = λ e. (let f : digit_value 92 < 16 = subst (λ (x : ℕ). digit_value x < 16) e h in omega (arith, f));
}

digit_kind : (c : ℕ) → digit_value c < 16 → kind c ≡ Plain
digit_kind c h =
    let d = digit_octet c h in
    plain_kind c (omega (arith, d.low)) (omega (arith, d.high)) (λ e. omega (arith, e, d.low)) (λ e. omega (arith, e, d.low)) (λ e. omega (arith, e, d.low)) d.no_semicolon d.no_backslash

pub digits_word : (radix : ℕ) (text : List ℕ) → radix ≤ 16 → AllDigits radix text → IsWord IsPlain text
digits_word radix [] small h = empty_word IsPlain
digits_word radix (c ∷ cs) small h = more_word IsPlain (c ∷ []) cs (c, inl (refl, digit_kind c (omega (arith, small, h.0)))) (digits_word radix cs small h.1)

pub number_written : (n : ℕ) → n < 2 ^ 64 → IsWritten (Bare (decimal n))
number_written n h = (let d = decimal_is_IsNumeral n h in (d.0.0, digits_word 10 (decimal n) (omega arith) d.0.1))
