-- Octets taken one after the other.
use Rattle.std.proofs.Common.{◌≡◌, ℕ, ◌+◌, ◌<◌, ◌≤◌, inl, inr, Bool, true, false, List, [], ◌∷◌, ◌++◌, length, refl, sym, ap, subst, ◌∙◌, arith, append_assoc, append-nil, length-append, suc, drop, get_or}
use Rattle.std.specs.Prelude.{Option, Some, None, Ok, Err, map, flat_map, nat_lt, ok_or, option_and_then, if◌then◌else◌}
use Rattle.std.specs.List.{AllByRecursion, list_all}
use Rattle.hex.specs.Hex.{is_hex_digit}
use Rattle.std.proofs.lemmas.Bool.Decides.{nat_tests}
use Rattle.std.proofs.lemmas.List.{length-map}
use Rattle.std.proofs.Math.Seq.{drop-cons}
use Rattle.dns_names.specs.Name.{Labels}
use Rattle.dns_names.specs.Text.{Letter, letters, octet_of}
use Rattle.dns_records.specs.Types.{Field, Value}
use Rattle.dns_records.specs.Record.{string}
use Rattle.dns_records.specs.declared.parts.Field.{Field as Part}
use Rattle.dns_records.specs.declared.parts.Field.TheVariants as part
use Rattle.dns_masterfile.specs.declared.FileError.{FileError}
use Rattle.dns_masterfile.specs.declared.FileError.TheVariants.{BadData}
use Rattle.dns_masterfile.specs.Text.{string_of_text}
use Rattle.dns_masterfile.specs.Pieces.{Word, text_of}
use Rattle.dns_masterfile.specs.Data.{octets_of_text}
use Rattle.dns_masterfile.specs.Reading.{ReadResult, TakenValue, ◌>>=◌, next_word, take_values, take_field, take_data, take_strings, fault_of_value, fits_data, is_or_bad, digits_in}
use Rattle.dns_masterfile.specs.Taking.{FitField, FitFields, RefusesFor, string_at, strings_in}

-- octets before those that are taken
abbrev pub joined : List ℕ → TakenValue (List ℕ) → TakenValue (List ℕ)
joined front (Ok x) = Ok (front ++ x.0, x.1)
joined front (Err e) = Err e

joined_twice : (a b : List ℕ) (r : TakenValue (List ℕ)) → joined a (joined b r) ≡ joined (a ++ b) r
joined_twice a b (Ok x) = ap (λ (octets : List ℕ). Ok (octets, x.1)) (sym (append_assoc a b x.0))
joined_twice a b (Err e) = refl

bind_joined : (front : List ℕ) (r : TakenValue (List ℕ)) → (r >>= λ x. Ok (front ++ x.0, x.1)) ≡ joined front r
bind_joined front (Ok x) = refl
bind_joined front (Err e) = refl

-- one more number or address
pub fixed_more : (f : Value) (fs : List Value) (all : TakenValue (List ℕ)) (front more : List ℕ) (words rest : List Word) (w : Word) → all ≡ joined front (take_values (f ∷ fs) words) → next_word words ≡ Ok (w, rest) → octets_of_text f (text_of w) ≡ Some more → all ≡ joined (front ++ more) (take_values fs rest)
fixed_more f fs all front more words rest w h word octets =
    let read : List ℕ → TakenValue (List ℕ) = λ o. take_values fs rest >>= λ r. Ok (o ++ r.0, r.1) in
    let taken : take_values (f ∷ fs) words ≡ joined more (take_values fs rest) =
    ap (λ (r : TakenValue Word). r >>= λ w. ok_or (octets_of_text f (text_of w.0)) (fault_of_value f) >>= λ o. take_values fs w.1 >>= λ r. Ok (o ++ r.0, r.1)) word
    ∙ ap (λ (o : Option (List ℕ)). ok_or o (fault_of_value f) >>= read) octets
    ∙ bind_joined more (take_values fs rest) in
    h ∙ ap (joined front) taken ∙ joined_twice front more (take_values fs rest)

pub fixed_missing : (f : Value) (fs : List Value) (all : TakenValue (List ℕ)) (front : List ℕ) (words : List Word) (e : FileError) → all ≡ joined front (take_values (f ∷ fs) words) → next_word words ≡ Err e → all ≡ Err e
fixed_missing f fs all front words e h word =
    h ∙ ap (λ (r : TakenValue Word). joined front (r >>= λ w. ok_or (octets_of_text f (text_of w.0)) (fault_of_value f) >>= λ o. take_values fs w.1 >>= λ r. Ok (o ++ r.0, r.1))) word

-- one more part of data
pub fields_more : (origin : Labels) (f : Field) (fs : List Field) (all : TakenValue (List ℕ)) (front more : List ℕ) (words rest : List Word) → all ≡ joined front (take_data origin (f ∷ fs) words) → take_field origin f words ≡ Ok (more, rest) → all ≡ joined (front ++ more) (take_data origin fs rest)
fields_more origin f fs all front more words rest h field =
    h ∙ ap (λ (r : TakenValue (List ℕ)). joined front (r >>= λ a. take_data origin fs a.1 >>= λ b. Ok (a.0 ++ b.0, b.1))) field
    ∙ ap (joined front) (bind_joined more (take_data origin fs rest))
    ∙ joined_twice front more (take_data origin fs rest)

-- parts that are still to come complete those before
abbrev pub Completes : List Field → List Field → List ℕ → Type 0
Completes all fs front = (tail : List ℕ) → FitFields fs tail → FitFields all (front ++ tail)

pub completes_more : (all fs : List Field) (f : Field) (front more : List ℕ) → Completes all (f ∷ fs) front → FitField f more → Completes all fs (front ++ more)
completes_more all fs f front more h fit = λ tail rest. subst (FitFields all) (sym (append_assoc front more tail)) (h (more ++ tail) (more, tail, refl, fit, rest))

-- strings before those that are taken
abbrev pub strung : List ℕ → ReadResult (List ℕ) → ReadResult (List ℕ)
strung front (Ok octets) = Ok (front ++ octets)
strung front (Err e) = Err e

strung_twice : (a b : List ℕ) (r : ReadResult (List ℕ)) → strung a (strung b r) ≡ strung (a ++ b) r
strung_twice a b (Ok octets) = ap (λ (x : List ℕ). Ok x) (sym (append_assoc a b octets))
strung_twice a b (Err e) = refl

bind_strung : (front : List ℕ) (r : ReadResult (List ℕ)) → (r >>= λ rest. Ok (front ++ rest)) ≡ strung front r
bind_strung front (Ok octets) = refl
bind_strung front (Err e) = refl

first_string : (size : ℕ) (w : Word) (words : List Word) → take_strings size (w ∷ words) ≡ (string_at size (text_of w) >>= λ s. strung (string s) (take_strings (size + 1 + length s) words))
first_string size w words = go (string_of_text (text_of w))
  where
    fit : (b : Bool) (s : List ℕ) → (fits_data b >>= λ _. take_strings (size + 1 + length s) words >>= λ rest. Ok (string s ++ rest)) ≡ ((fits_data b >>= λ _. Ok s) >>= λ s. strung (string s) (take_strings (size + 1 + length s) words))
    fit true s = refl
    fit false s = bind_strung (string s) (take_strings (size + 1 + length s) words)

    go : (o : Option (List ℕ)) → (ok_or o BadData >>= λ s. fits_data (nat_lt 4096 (size + 1 + length s)) >>= λ _. take_strings (size + 1 + length s) words >>= λ rest. Ok (string s ++ rest)) ≡ ((ok_or o BadData >>= λ s. fits_data (nat_lt 4096 (size + 1 + length s)) >>= λ _. Ok s) >>= λ s. strung (string s) (take_strings (size + 1 + length s) words))
    go None = refl
    go (Some s) = fit (nat_lt 4096 (size + 1 + length s)) s

pub strings_more : (all : ReadResult (List ℕ)) (size next : ℕ) (front s : List ℕ) (w : Word) (words : List Word) → all ≡ strung front (take_strings size (w ∷ words)) → string_at size (text_of w) ≡ Ok s → next ≡ size + 1 + length s → all ≡ strung (front ++ string s) (take_strings next words)
strings_more all size next front s w words h read e =
    h ∙ ap (strung front) (first_string size w words ∙ ap (λ (r : ReadResult (List ℕ)). r >>= λ s. strung (string s) (take_strings (size + 1 + length s) words)) read)
    ∙ strung_twice front (string s) (take_strings (size + 1 + length s) words)
    ∙ ap (λ (n : ℕ). strung (front ++ string s) (take_strings n words)) (sym e)

pub strings_refused : (all : ReadResult (List ℕ)) (size : ℕ) (front : List ℕ) (w : Word) (words : List Word) (e : FileError) → all ≡ strung front (take_strings size (w ∷ words)) → string_at size (text_of w) ≡ Err e → all ≡ Err e
strings_refused all size front w words e h read =
    h ∙ ap (strung front) (first_string size w words ∙ ap (λ (r : ReadResult (List ℕ)). r >>= λ s. strung (string s) (take_strings (size + 1 + length s) words)) read)

pub strings_fault : (words : List Word) (e : FileError) → 0 < length words → take_strings 0 words ≡ Err e → strings_in words ≡ Err e
strings_fault [] e some h = absurd (omega arith)
strings_fault (w ∷ words) e some h = ap (λ (r : ReadResult (List ℕ)). r >>= λ octets. Ok (octets, [])) h

-- strings one after another
pub strings_push : (strings : List (List ℕ)) (s : List ℕ) → flat_map string (strings ++ s ∷ []) ≡ flat_map string strings ++ string s
strings_push [] s = append-nil (string s)
strings_push (x ∷ strings) s = ap (λ (rest : List ℕ). string x ++ rest) (strings_push strings s) ∙ sym (append_assoc (string x) (flat_map string strings) (string s))

pub short_push : (strings : List (List ℕ)) (s : List ℕ) → AllByRecursion (λ s. length s < 256) strings → length s < 256 → AllByRecursion (λ s. length s < 256) (strings ++ s ∷ [])
short_push [] s h short = (short, tt)
short_push (x ∷ strings) s h short = (h.0, short_push strings s h.1 short)

-- a string is short
pub short_string : (text s : List ℕ) → string_of_text text ≡ Some s → length s < 256
short_string text s h = go (letters text) h
  where
    if_some : (ls : List Letter) (b : Bool) → nat_lt (length ls) 256 ≡ b → (if b then Some (map octet_of ls) else None) ≡ Some s → length s < 256
    if_some ls true t e =
        let same : map octet_of ls ≡ s = cc in
        let small : length ls < 256 = grind (arith, nat_tests) in
        subst (λ (n : ℕ). n < 256) (sym (length-map ls octet_of) ∙ ap length same) small
    if_some ls false t e = absurd cc

    go : (o : Option (List Letter)) → option_and_then (λ ls. if nat_lt (length ls) 256 then Some (map octet_of ls) else None) o ≡ Some s → length s < 256
    go None e = absurd cc
    go (Some ls) e = if_some ls (nat_lt (length ls) 256) refl e

pub string_fits : (size : ℕ) (text s : List ℕ) → string_of_text text ≡ Some s → size + 1 + length s ≤ 4096 → string_at size text ≡ Ok s
string_fits size text s h room =
    let test : nat_lt 4096 (size + 1 + length s) ≡ false = grind (arith, nat_tests) in
    ap (λ (o : Option (List ℕ)). ok_or o BadData >>= λ octets. fits_data (nat_lt 4096 (size + 1 + length octets)) >>= λ _. Ok octets) h
    ∙ ap (λ (b : Bool). fits_data b >>= λ _. Ok s) test

-- a length octet and what it counts
pub put_two : (old pushed new slice s : List ℕ) (n : ℕ) → pushed ≡ old ++ n ∷ [] → new ≡ pushed ++ slice → slice ≡ s → n ≡ length s → new ≡ old ++ string s
put_two old pushed new slice s n p q e m =
    q ∙ ap (λ (front : List ℕ). front ++ slice) p ∙ append_assoc old (n ∷ []) slice
    ∙ ap (λ (octets : List ℕ). old ++ n ∷ octets) e ∙ ap (λ (k : ℕ). old ++ k ∷ s) m

-- the string that comes next is refused
pub refused_string : (all self words : List Word) (size : ℕ) (front text : List ℕ) (w : Word) (e : FileError) → 0 < length all → take_strings 0 all ≡ strung front (take_strings size self) → self ≡ w ∷ words → text ≡ text_of w → RefusesFor (string_at size text) e → RefusesFor (strings_in all) e
refused_string all self words size front text w e some h at same (inl oom) = inl oom
refused_string all self words size front text w e some h at same (inr fault) =
    let here : take_strings 0 all ≡ strung front (take_strings size (w ∷ words)) = h ∙ ap (λ (ws : List Word). strung front (take_strings size ws)) at in
    let read : string_at size (text_of w) ≡ Err e = ap (string_at size) (sym same) ∙ fault in
    inr (strings_fault all e some (strings_refused (take_strings 0 all) size front w words e here read))

pub length_both : (front more : List ℕ) (size rest left total : ℕ) → length more ≡ size → length front + left ≡ total → left ≡ size + rest → length (front ++ more) + rest ≡ total
length_both front more size rest left total p q r = omega (arith, length-append front more)

pub drop_next : {A : Type 0} (xs : List A) (i : ℕ) (d : A) → i < length xs → drop i xs ≡ get_or xs i d ∷ drop (i + 1) xs
drop_next xs i d h = let e : suc i ≡ i + 1 = omega arith in drop-cons xs i d h ∙ ap (λ n. get_or xs i d ∷ drop n xs) e

-- the digits of one more word
pub digits_more : (all : ReadResult (List ℕ)) (front text : List ℕ) (words rest : List Word) (w : Word) → all ≡ strung front (digits_in words) → words ≡ w ∷ rest → text ≡ text_of w → list_all is_hex_digit text ≡ true → all ≡ strung (front ++ text) (digits_in rest)
digits_more all front text words rest w h at same digits =
    let passed : list_all is_hex_digit (text_of w) ≡ true = ap (list_all is_hex_digit) (sym same) ∙ digits in
    h ∙ ap (λ (ws : List Word). strung front (digits_in ws)) at
    ∙ ap (λ (b : Bool). strung front (is_or_bad b >>= λ _. digits_in rest >>= λ more. Ok (text_of w ++ more))) passed
    ∙ ap (strung front) (bind_strung (text_of w) (digits_in rest))
    ∙ strung_twice front (text_of w) (digits_in rest)
    ∙ ap (λ (x : List ℕ). strung (front ++ x) (digits_in rest)) (sym same)

-- what is after the last part of data
abbrev pub no_field : Part
no_field = part.Values (record { ref_ptr = (0, 0); now = [] })
