-- Entries that mean records are read as those records.
use Rattle.std.proofs.Common.{◌≡◌, ℕ, ◌+◌, ◌^◌, ◌<◌, ◌≤◌, inl, inr, Bool, true, false, List, [], ◌∷◌, ◌++◌, length, map, Some, None, Ok, refl, sym, ap, ◌∙◌, arith, append_assoc, append-nil, length-append}
use Rattle.std.specs.Prelude.{Option, Result, ok_or, flat_map, nat_lt, ◌==◌, ◌&&◌, codes, option_and_then, option_map, MatchOption, bytes_eq, take, drop, cond, if◌then◌else◌}
use Rattle.std.specs.Option.{option_or}
use Rattle.std.specs.Cmp.{first_so, second_so}
use Rattle.std.proofs.lemmas.List.Sums.{list_all-from_AllPass}
use Rattle.hex.specs.Hex.{decode_of, is_hex_digit}
use Rattle.hex.proofs.HexLemmas.{decode_of-ok}
use Rattle.std.specs.List.{AllByRecursion, find, list_all}
use Rattle.std.specs.Char.{is_ascii_digit, to_ascii_uppercase}
use Rattle.std.specs.Str.Parse.{digits_value}
use Rattle.std.proofs.lemmas.Bool.Decides.{nat_tests}
use Rattle.std.proofs.lemmas.Slice.Eq.{bytes_eq-Decides}
use Rattle.dns_names.specs.Name.{Labels, wire}
use Rattle.dns_records.specs.Types.{Field, Name, UncompressedName, Strings, form, Value, Values}
use Rattle.dns_records.specs.Fields.{StringsLast}
use Rattle.dns_records.specs.Laws.{form_last}
use Rattle.dns_records.specs.Record.{Record, string}
use Rattle.dns_masterfile.specs.declared.FileError.{FileError}
use Rattle.dns_masterfile.specs.Text.{number_of_text, is_decimal, string_of_text, each_of, before_each}
use Rattle.dns_masterfile.specs.Pieces.{Word, Bare, Quoted, text_of}
use Rattle.dns_masterfile.specs.Entries.{FileEntry}
use Rattle.dns_masterfile.specs.Data.{octets_of_text, is_keyword, type_words, type_by_name, type_of_word, IsNameWord, AreValues, IsFieldText, IsDataText, IsRDataText}
use Rattle.dns_masterfile.specs.Opaque.{is_numbered, opaque_only, type_of_number, is_opaque_mark, IsOpaqueText}
use Rattle.dns_masterfile.specs.Meaning.{Context, Said, Nothing, Origin, Default, Item, after, records_in, ttl_in, is_class, begins_with_dollar, IsTtl, IsMiddle, IsOwner, IsItem, Says, Mean}
use Rattle.dns_masterfile.specs.Reading.{ReadResult, ◌>>=◌, or_bad_name, name_in, take_name, take_number, take_values, fault_of_value, take_strings, fits_data, take_wire, take_field, take_data, take_type, is_or_bad, take_mark, take_size, digits_in, sized, take_opaque, take_by_form, take_rdata, take_ttl, ttl_or_not, class_or_not, skip_class, ttl_then_class, either_first, take_middle, take_owner, value_only_if, ended, item_in, which_directive, directive_or_item, said_by, on_line, with_records_before, read_entries}

pub bind_is : {A B E : Type 0} (r : Result A E) (f : A → Result B E) (x : A) (y : B) → r ≡ Ok x → f x ≡ Ok y → (r >>= f) ≡ Ok y
bind_is r f x y h k = rw h k

-- A name, a number.
name_in_is : (origin : Labels) (word : Word) (name : Labels) → IsNameWord origin word name → name_in origin word ≡ Ok name
name_in_is origin (Bare text) name h = ap or_bad_name h
name_in_is origin (Quoted text) name h = absurd h

take_name_is : (origin : Labels) (word : Word) (rest : List Word) (name : Labels) → IsNameWord origin word name → take_name origin (word ∷ rest) ≡ Ok (name, rest)
take_name_is origin word rest name h = bind_is (name_in origin word) (λ n. Ok (n, rest)) name (name, rest) (name_in_is origin word name h) refl

take_wire_is : (origin : Labels) (word : Word) (rest : List Word) (name : Labels) → IsNameWord origin word name → take_wire origin (word ∷ rest) ≡ Ok (wire name, rest)
take_wire_is origin word rest name h = bind_is (take_name origin (word ∷ rest)) (λ n. Ok (wire n.0, n.1)) (name, rest) (wire name, rest) (take_name_is origin word rest name h) refl

some_or : {A : Type 0} (o : Option A) (e : FileError) (x : A) → o ≡ Some x → ok_or o e ≡ Ok x
some_or o e x h = rw h refl

take_number_is : (word : Word) (rest : List Word) (n : ℕ) → number_of_text (2 ^ 32) (text_of word) ≡ Some n → take_number (word ∷ rest) ≡ Ok (n, rest)
take_number_is word rest n h = bind_is (ok_or (number_of_text (2 ^ 32) (text_of word)) _) (λ k. Ok (k, rest)) n (n, rest) (some_or (number_of_text (2 ^ 32) (text_of word)) _ n h) refl

-- Fixed octets.
fixed_step : (f : Value) (fs : List Value) (word : Word) (more rest : List Word) (front tail : List ℕ) → octets_of_text f (text_of word) ≡ Some front → take_values fs (more ++ rest) ≡ Ok (tail, rest) → take_values (f ∷ fs) ((word ∷ more) ++ rest) ≡ Ok (front ++ tail, rest)
fixed_step f fs word more rest front tail h k =
    bind_is (ok_or (octets_of_text f (text_of word)) (fault_of_value f)) _ front (front ++ tail, rest) (some_or (octets_of_text f (text_of word)) (fault_of_value f) front h)
    (bind_is (take_values fs (more ++ rest)) (λ r. Ok (front ++ r.0, r.1)) (tail, rest) (front ++ tail, rest) k refl)

take_fixed_is : (fs : List Value) (here rest : List Word) (octets : List ℕ) → AreValues fs here octets → take_values fs (here ++ rest) ≡ Ok (octets, rest)
take_fixed_is [] here rest octets h = rw (h.0, h.1) refl
take_fixed_is (f ∷ fs) here rest octets (word, more, front, tail, e, o, read, others) =
    rw (e, o) (fixed_step f fs word more rest front tail read (take_fixed_is fs more rest tail others))

-- Strings.
abbrev strings_of : List Word → Option (List (List ℕ))
strings_of words = each_of (λ w. string_of_text (text_of w)) words

abbrev FirstOf : Option (List ℕ) → Option (List (List ℕ)) → List (List ℕ) → Type 0
FirstOf o rest strings = (s : List ℕ) × (ss : List (List ℕ)) × (o ≡ Some s) × (rest ≡ Some ss) × (strings ≡ s ∷ ss)

some_same : {A : Type 0} (x y : A) → Some x ≡ Some y → x ≡ y
some_same x y h = cc

first_of_each : (o : Option (List ℕ)) (rest : Option (List (List ℕ))) (strings : List (List ℕ)) → option_and_then (λ y. before_each y rest) o ≡ Some strings → FirstOf o rest strings
first_of_each None rest strings h = absurd cc
first_of_each (Some s) None strings h = absurd cc
first_of_each (Some s) (Some ss) strings h = (s, ss, refl, refl, sym (some_same (s ∷ ss) strings h))

fits_is : (n : ℕ) → n ≤ 4096 → fits_data (nat_lt 4096 n) ≡ Ok true
fits_is n h = let room : nat_lt 4096 n ≡ false = grind (arith, nat_tests) in rw room refl

-- the first string and those after it, which are read
strings_step : (size : ℕ) (w : Word) (words : List Word) (strings : List (List ℕ)) → ((more : ℕ) (ss : List (List ℕ)) → strings_of words ≡ Some ss → more + length (flat_map string ss) ≤ 4096 → take_strings more words ≡ Ok (flat_map string ss)) → FirstOf (string_of_text (text_of w)) (strings_of words) strings → size + length (flat_map string strings) ≤ 4096 → take_strings size (w ∷ words) ≡ Ok (flat_map string strings)
strings_step size w words strings again (s, ss, one, others, all) room =
    let tail : List ℕ = flat_map string ss in
    let size_of : length (flat_map string strings) ≡ length (string s ++ tail) = ap (λ (x : List (List ℕ)). length (flat_map string x)) all in
    let bound : size + 1 + length s + length tail ≤ 4096 = omega (arith, room, size_of, length-append s tail) in
    let inner : take_strings (size + 1 + length s) words ≡ Ok tail = again (size + 1 + length s) ss others bound in
    rw all (bind_is (ok_or (string_of_text (text_of w)) _) _ s (string s ++ tail) (some_or (string_of_text (text_of w)) _ s one)
    (bind_is (fits_data (nat_lt 4096 (size + 1 + length s))) _ true (string s ++ tail) (fits_is (size + 1 + length s) (omega (arith, bound)))
    (bind_is (take_strings (size + 1 + length s) words) (λ rest. Ok (string s ++ rest)) tail (string s ++ tail) inner refl)))

take_strings_is : (size : ℕ) (words : List Word) (strings : List (List ℕ)) → strings_of words ≡ Some strings → size + length (flat_map string strings) ≤ 4096 → take_strings size words ≡ Ok (flat_map string strings)
take_strings_is size [] strings h room = let none : [] ≡ strings = some_same [] strings h in ap (λ (ss : List (List ℕ)). Ok (flat_map string ss)) none
take_strings_is size (w ∷ words) strings h room =
    strings_step size w words strings (λ more ss k fits. take_strings_is more words ss k fits) (first_of_each (string_of_text (text_of w)) (strings_of words) strings h) room

take_all_strings : (origin : Labels) (words : List Word) (octets : List ℕ) → IsFieldText origin Strings words octets → take_field origin Strings words ≡ Ok (octets, [])
take_all_strings origin [] octets h = absurd (h.1 refl)
take_all_strings origin (w ∷ words) octets (strings, some, each, e, short) =
    let size : length octets ≡ length (flat_map string strings) = ap length e in
    rw e (bind_is (take_strings 0 (w ∷ words)) (λ o. Ok (o, [])) (flat_map string strings) (flat_map string strings, []) (take_strings_is 0 (w ∷ words) strings each (omega (arith, short, size))) refl)

-- Data by its parts.
field_step : (origin : Labels) (f : Field) (fs : List Field) (words more : List Word) (front tail : List ℕ) → take_field origin f words ≡ Ok (front, more) → take_data origin fs more ≡ Ok (tail, []) → take_data origin (f ∷ fs) words ≡ Ok (front ++ tail, [])
field_step origin f fs words more front tail h k =
    bind_is (take_field origin f words) _ (front, more) (front ++ tail, []) h
    (bind_is (take_data origin fs more) (λ r. Ok (front ++ r.0, r.1)) (tail, []) (front ++ tail, []) k refl)

take_data_is : (origin : Labels) (fs : List Field) (words : List Word) (octets : List ℕ) → StringsLast fs → IsDataText origin fs words octets → take_data origin fs words ≡ Ok (octets, [])
take_data_is origin [] words octets last h = rw (h.0, h.1) refl
take_data_is origin (Values vs ∷ fs) words octets last (here, more, front, tail, e, o, field, others) =
    rw (e, o) (field_step origin (Values vs) fs (here ++ more) more front tail (take_fixed_is vs here more front field) (take_data_is origin fs more tail last others))
take_data_is origin (Name ∷ fs) words octets last (here, more, front, tail, e, o, (word, name, w, read, is), others) =
    rw (e, o, w, is) (field_step origin Name fs (word ∷ more) more (wire name) tail (take_wire_is origin word more name read) (take_data_is origin fs more tail last others))
take_data_is origin (UncompressedName ∷ fs) words octets last (here, more, front, tail, e, o, (word, name, w, read, is), others) =
    rw (e, o, w, is) (field_step origin UncompressedName fs (word ∷ more) more (wire name) tail (take_wire_is origin word more name read) (take_data_is origin fs more tail last others))
take_data_is origin (Strings ∷ []) words octets last (here, more, front, tail, e, o, field, others) =
    let all : words ≡ here = e ∙ ap (λ (ws : List Word). here ++ ws) others.0 ∙ append-nil here in
    rw (all, o) (field_step origin Strings [] here [] front tail (take_all_strings origin here front field) (take_data_is origin [] [] tail tt (refl, others.1)))
take_data_is origin (Strings ∷ f ∷ fs) words octets last h = absurd last

-- A word that is a keyword is bare, and is it without case.
abbrev IsKeyword : List ℕ → Word → Type 0
IsKeyword keyword word = (text : List ℕ) × (word ≡ Bare text) × (map to_ascii_uppercase text ≡ keyword)

keyword_is : (keyword : List ℕ) (word : Word) → is_keyword keyword word ≡ true → IsKeyword keyword word
keyword_is keyword (Quoted text) h = absurd cc
keyword_is keyword (Bare text) h = (text, refl, (bytes_eq-Decides (map to_ascii_uppercase text) keyword).0 h)

other_keyword : (keyword other : List ℕ) (word : Word) → IsKeyword keyword word → bytes_eq keyword other ≡ false → is_keyword other word ≡ false
other_keyword keyword other word (text, w, same) h = rw (w, same) h

large_no_digit : (c k : ℕ) → to_ascii_uppercase c ≡ k → 57 < k → is_ascii_digit c ≡ false
large_no_digit c k e h = grind (arith, nat_tests)

large_no_dollar : (c k : ℕ) → to_ascii_uppercase c ≡ k → 57 < k → (c == 36) ≡ false
large_no_dollar c k e h = grind (arith, nat_tests)

is_dollar : (c : ℕ) → to_ascii_uppercase c ≡ 36 → (c == 36) ≡ true
is_dollar c e = grind (arith, nat_tests)

digit_no_dollar : (c : ℕ) → is_ascii_digit c ≡ true → (c == 36) ≡ false
digit_no_dollar c h = grind (arith, nat_tests)

and_false : (a b : Bool) → b ≡ false → (a && b) ≡ false
and_false true b h = h
and_false false b h = refl

no_decimal : (c : ℕ) (text : List ℕ) → is_ascii_digit c ≡ false → is_decimal (c ∷ text) ≡ false
no_decimal c text h = and_false (nat_lt 0 (length (c ∷ text))) (list_all is_ascii_digit (c ∷ text)) (rw h refl)

-- A word that begins with a letter, as those of types and the class do.
record IsLetters (word : Word) : Type 0 where
  text : List ℕ
  bare : word ≡ Bare text
  no_number : is_decimal text ≡ false
  no_dollar : begins_with_dollar word ≡ false

letters_of : (word : Word) (text : List ℕ) (k : ℕ) (ks : List ℕ) → word ≡ Bare text → map to_ascii_uppercase text ≡ k ∷ ks → 57 < k → IsLetters word
letters_of word [] k ks w same large = absurd cc
letters_of word (c ∷ text) k ks w same large =
    let first : to_ascii_uppercase c ≡ k = cc in record {
      text = c ∷ text;
      bare = w;
      no_number = no_decimal c text (large_no_digit c k first large);
      no_dollar = rw w (large_no_dollar c k first large);
    }

class_letters : (word : Word) → is_class word ≡ true → IsLetters word
class_letters word h = step (keyword_is (codes "IN") word h)
  where
    step : IsKeyword (codes "IN") word → IsLetters word
    step (text, w, same) = letters_of word text 73 (78 ∷ []) w same (omega arith)

-- A number's word.
number_decimal : (limit : ℕ) (text : List ℕ) (n : ℕ) → number_of_text limit text ≡ Some n → is_decimal text ≡ true
number_decimal limit text n h = go (is_decimal text) refl h
  where
    go : (b : Bool) → is_decimal text ≡ b → cond (b && nat_lt (digits_value 10 text) limit) (Some (digits_value 10 text)) None ≡ Some n → is_decimal text ≡ true
    go true p h = p
    go false p h = absurd cc

pub true_false : (b : Bool) → b ≡ true → b ≡ false → ⊥
true_false b h k = absurd cc

ttl_no_class : (word : Word) (ttl : ℕ) → IsTtl word ttl → is_class word ≡ false
ttl_no_class (Quoted text) ttl h = absurd h
ttl_no_class (Bare text) ttl h = go (is_class (Bare text)) refl
  where
    go : (b : Bool) → is_class (Bare text) ≡ b → is_class (Bare text) ≡ false
    go false p = p
    go true p =
        let letters = class_letters (Bare text) p in
        let same : text ≡ letters.text = ap text_of letters.bare in
        absurd (true_false (is_decimal text) (number_decimal (2 ^ 32) text ttl h) (rw same letters.no_number))

decimal_no_dollar : (text : List ℕ) → is_decimal text ≡ true → begins_with_dollar (Bare text) ≡ false
decimal_no_dollar [] h = refl
decimal_no_dollar (c ∷ text) h = go (is_ascii_digit c) refl
  where
    go : (b : Bool) → is_ascii_digit c ≡ b → begins_with_dollar (Bare (c ∷ text)) ≡ false
    go true p = digit_no_dollar c p
    go false p = absurd (true_false (is_decimal (c ∷ text)) h (no_decimal c text p))

ttl_no_dollar : (word : Word) (ttl : ℕ) → IsTtl word ttl → begins_with_dollar word ≡ false
ttl_no_dollar (Quoted text) ttl h = absurd h
ttl_no_dollar (Bare text) ttl h = decimal_no_dollar text (number_decimal (2 ^ 32) text ttl h)

-- The word of a type.
record IsTypeWord (word : Word) : Type 0 where
  letters : IsLetters word
  no_class : is_class word ≡ false

abbrev IsTypeKeyword : List ℕ → Type 0
IsTypeKeyword keyword = (k : ℕ) × (ks : List ℕ) × (keyword ≡ k ∷ ks) × (57 < k) × (bytes_eq keyword (codes "IN") ≡ false)

type_keywords : AllByRecursion (λ (t : ℕ × List ℕ). IsTypeKeyword t.1) type_words
type_keywords = (
  (65, [], refl, omega arith, refl),
  (
    (78, 83 ∷ [], refl, omega arith, refl),
    (
      (67, 78 ∷ 65 ∷ 77 ∷ 69 ∷ [], refl, omega arith, refl),
      (
        (83, 79 ∷ 65 ∷ [], refl, omega arith, refl),
        (
          (80, 84 ∷ 82 ∷ [], refl, omega arith, refl),
          (
            (77, 88 ∷ [], refl, omega arith, refl),
            (
              (84, 88 ∷ 84 ∷ [], refl, omega arith, refl),
              (
                (65, 65 ∷ 65 ∷ 65 ∷ [], refl, omega arith, refl),
                ((83, 82 ∷ 86 ∷ [], refl, omega arith, refl), tt),
              ),
            ),
          ),
        ),
      ),
    ),
  ),
)

type_word_of : (keyword : List ℕ) (word : Word) → IsTypeKeyword keyword → is_keyword keyword word ≡ true → IsTypeWord word
type_word_of keyword word (k, ks, e, large, other) h = step (keyword_is keyword word h)
  where
    step : IsKeyword keyword word → IsTypeWord word
    step (text, w, same) = record {
      letters = letters_of word text k ks w (same ∙ e) large;
      no_class = other_keyword keyword (codes "IN") word (text, w, same) other;
    }

abbrev Found : List (ℕ × List ℕ) → Word → ℕ → Type 0
Found types word rtype = option_map (λ (t : ℕ × List ℕ). t.0) (find (λ (t : ℕ × List ℕ). is_keyword t.1 word) types) ≡ Some rtype

found_first : (t : ℕ × List ℕ) (types : List (ℕ × List ℕ)) (word : Word) (rtype : ℕ) → IsTypeKeyword t.1 → (Found types word rtype → IsTypeWord word) → Found (t ∷ types) word rtype → IsTypeWord word
found_first t types word rtype good others h = go (is_keyword t.1 word) refl h
  where
    go : (b : Bool) → is_keyword t.1 word ≡ b → option_map (λ (s : ℕ × List ℕ). s.0) (cond b (Some t) (find (λ (s : ℕ × List ℕ). is_keyword s.1 word) types)) ≡ Some rtype → IsTypeWord word
    go true p h = type_word_of t.1 word good p
    go false p h = others h

found_type : (types : List (ℕ × List ℕ)) (word : Word) (rtype : ℕ) → AllByRecursion (λ (t : ℕ × List ℕ). IsTypeKeyword t.1) types → Found types word rtype → IsTypeWord word
found_type [] word rtype good h = absurd cc
found_type (t ∷ types) word rtype good h = found_first t types word rtype good.0 (λ k. found_type types word rtype good.1 k) h

-- a type's number
numbered_word : (text : List ℕ) → map to_ascii_uppercase (take 4 text) ≡ codes "TYPE" → IsTypeWord (Bare text)
numbered_word [] h = absurd cc
numbered_word (c ∷ cs) h =
    let first : to_ascii_uppercase c ≡ 84 = cc in record {
      letters = letters_of (Bare (c ∷ cs)) (c ∷ cs) (to_ascii_uppercase c) (map to_ascii_uppercase cs) refl refl (omega (arith, first));
      no_class = ap (λ (k : ℕ). bytes_eq (k ∷ map to_ascii_uppercase cs) (codes "IN")) first;
    }

number_word_is : (word : Word) (rtype : ℕ) → type_of_number word ≡ Some rtype → IsTypeWord word
number_word_is (Quoted text) rtype h = absurd cc
number_word_is (Bare text) rtype h = go (is_numbered text) refl h
  where
    go : (b : Bool) → is_numbered text ≡ b → cond b (opaque_only (number_of_text (2 ^ 32) (drop 4 text))) None ≡ Some rtype → IsTypeWord (Bare text)
    go true p h = numbered_word text ((bytes_eq-Decides (map to_ascii_uppercase (take 4 text)) (codes "TYPE")).0 (first_so (bytes_eq (map to_ascii_uppercase (take 4 text)) (codes "TYPE")) _ p))
    go false p h = absurd cc

type_word_is : (word : Word) (rtype : ℕ) → type_of_word word ≡ Some rtype → IsTypeWord word
type_word_is word rtype h = go (type_by_name word) refl h
  where
    go : (o : Option ℕ) → type_by_name word ≡ o → option_or o (type_of_number word) ≡ Some rtype → IsTypeWord word
    go None p h = number_word_is word rtype h
    go (Some t) p h = found_type type_words word t type_keywords p

-- The TTL and the class.
ttl_is_taken : (word : Word) (rest : List Word) (ttl : ℕ) → IsTtl word ttl → take_ttl (word ∷ rest) ≡ Ok (Some ttl, rest)
ttl_is_taken (Quoted text) rest ttl h = absurd h
ttl_is_taken (Bare text) rest ttl h =
    let number : ttl_or_not true text rest ≡ Ok (Some ttl, rest) = bind_is (ok_or (number_of_text (2 ^ 32) text) _) (λ n. Ok (Some n, rest)) ttl (Some ttl, rest) (some_or (number_of_text (2 ^ 32) text) _ ttl h) refl in
    ap (λ (b : Bool). ttl_or_not b text rest) (number_decimal (2 ^ 32) text ttl h) ∙ number

no_ttl_taken : (word : Word) (rest : List Word) → IsLetters word → take_ttl (word ∷ rest) ≡ Ok (None, word ∷ rest)
no_ttl_taken word rest letters = rw (letters.bare) (ap (λ (b : Bool). ttl_or_not b letters.text rest) letters.no_number)

class_skipped : (word : Word) (rest : List Word) → is_class word ≡ true → skip_class (word ∷ rest) ≡ rest
class_skipped word rest h = ap (λ (b : Bool). class_or_not b word rest) h

none_skipped : (word : Word) (rest : List Word) → is_class word ≡ false → skip_class (word ∷ rest) ≡ word ∷ rest
none_skipped word rest h = ap (λ (b : Bool). class_or_not b word rest) h

-- a TTL, or none, and then the words left after the class
ttl_then : (words : List Word) (written : Option ℕ) (left rest : List Word) → take_ttl words ≡ Ok (written, left) → skip_class left ≡ rest → ttl_then_class words ≡ Ok (written, rest)
ttl_then words written left rest h k = bind_is (take_ttl words) (λ ttl. Ok (ttl.0, skip_class ttl.1)) (written, left) (written, rest) h (ap (λ (ws : List Word). Ok (written, ws)) k)

class_first : (word : Word) (rest : List Word) (r : ReadResult (Option ℕ × List Word)) → is_class word ≡ true → take_ttl rest ≡ r → take_middle (word ∷ rest) ≡ r
class_first word rest r h k = ap (λ (b : Bool). either_first b word rest) h ∙ k

ttl_first : (word : Word) (rest : List Word) (r : ReadResult (Option ℕ × List Word)) → is_class word ≡ false → ttl_then_class (word ∷ rest) ≡ r → take_middle (word ∷ rest) ≡ r
ttl_first word rest r h k = ap (λ (b : Bool). either_first b word rest) h ∙ k

take_middle_is : (middle : List Word) (written : Option ℕ) (word : Word) (rest : List Word) → IsTypeWord word → IsMiddle middle written → take_middle (middle ++ word ∷ rest) ≡ Ok (written, word ∷ rest)
take_middle_is [] written word rest t h = rw h (ttl_first word rest _ t.no_class (ttl_then (word ∷ rest) None (word ∷ rest) (word ∷ rest) (no_ttl_taken word rest t.letters) (none_skipped word rest t.no_class)))
take_middle_is (a ∷ []) None word rest t h = class_first a (word ∷ rest) _ h (no_ttl_taken word rest t.letters)
take_middle_is (a ∷ []) (Some ttl) word rest t h = ttl_first a (word ∷ rest) _ (ttl_no_class a ttl h) (ttl_then (a ∷ word ∷ rest) (Some ttl) (word ∷ rest) (word ∷ rest) (ttl_is_taken a (word ∷ rest) ttl h) (none_skipped word rest t.no_class))
take_middle_is (a ∷ b ∷ []) None word rest t h = absurd h
take_middle_is (a ∷ b ∷ []) (Some ttl) word rest t (inl (number, class)) = ttl_first a (b ∷ word ∷ rest) _ (ttl_no_class a ttl number) (ttl_then (a ∷ b ∷ word ∷ rest) (Some ttl) (b ∷ word ∷ rest) (word ∷ rest) (ttl_is_taken a (b ∷ word ∷ rest) ttl number) (class_skipped b (word ∷ rest) class))
take_middle_is (a ∷ b ∷ []) (Some ttl) word rest t (inr (class, number)) = class_first a (b ∷ word ∷ rest) _ class (ttl_is_taken b (word ∷ rest) ttl number)
take_middle_is (a ∷ b ∷ c ∷ more) written word rest t h = absurd h

-- The first word is no directive.
abbrev FirstPlain : List Word → Type 0
FirstPlain [] = ⊥
FirstPlain (w ∷ rest) = begins_with_dollar w ≡ false

middle_plain : (middle : List Word) (written : Option ℕ) (word : Word) (rest : List Word) → IsTypeWord word → IsMiddle middle written → FirstPlain (middle ++ word ∷ rest)
middle_plain [] written word rest t h = t.letters.no_dollar
middle_plain (a ∷ []) None word rest t h = (class_letters a h).no_dollar
middle_plain (a ∷ []) (Some ttl) word rest t h = ttl_no_dollar a ttl h
middle_plain (a ∷ b ∷ []) None word rest t h = absurd h
middle_plain (a ∷ b ∷ []) (Some ttl) word rest t (inl h) = ttl_no_dollar a ttl h.0
middle_plain (a ∷ b ∷ []) (Some ttl) word rest t (inr h) = (class_letters a h.0).no_dollar
middle_plain (a ∷ b ∷ c ∷ more) written word rest t h = absurd h

owner_plain : (ctx : Context) (blank : Bool) (front rest : List Word) (owner : Labels) → IsOwner ctx blank front owner → FirstPlain rest → FirstPlain (front ++ rest)
owner_plain ctx true front rest owner h plain = rw (h.0) plain
owner_plain ctx false front rest owner (word, e, no_dollar, read) plain = rw e no_dollar

take_owner_is : (ctx : Context) (blank : Bool) (front rest : List Word) (owner : Labels) → IsOwner ctx blank front owner → take_owner ctx blank (front ++ rest) ≡ Ok (owner, rest)
take_owner_is ctx true front rest owner h =
    rw (h.0) (bind_is (ok_or ctx.owner _) (λ o. Ok (o, rest)) owner (owner, rest) (some_or ctx.owner _ owner h.1) refl)
take_owner_is ctx false front rest owner (word, e, no_dollar, read) = rw e (take_name_is ctx.origin word rest owner read)

said_plain : (ctx : Context) (e : FileEntry) (words : List Word) → FirstPlain words → said_by ctx e words ≡ item_in ctx e words
said_plain ctx e [] h = absurd h
said_plain ctx e (w ∷ rest) h = ap (λ (b : Bool). directive_or_item b ctx e w rest) h

ended_is : {A : Type 0} (e : FileEntry) (x : A) → e.whole ≡ true → ended e [] x ≡ Ok x
ended_is e x h = ap (λ (b : Bool). value_only_if b x) h

-- The word of a type.
take_type_is : (word : Word) (rest : List Word) (rtype : ℕ) → type_of_word word ≡ Some rtype → take_type (word ∷ rest) ≡ Ok (rtype, rest)
take_type_is word rest rtype h = bind_is (ok_or (type_of_word word) _) (λ t. Ok (t, rest)) rtype (rtype, rest) (some_or (type_of_word word) _ rtype h) refl

-- Data of a type without a form.
all_front : (p : ℕ → Bool) (xs ys : List ℕ) → list_all p (xs ++ ys) ≡ true → (list_all p xs ≡ true) × (list_all p ys ≡ true)
all_front p [] ys h = (refl, h)
all_front p (x ∷ xs) ys h =
    let inner = all_front p xs ys (second_so (p x) (list_all p (xs ++ ys)) h) in
    (both_so (p x) (list_all p xs) (first_so (p x) (list_all p (xs ++ ys)) h) inner.0, inner.1)
  where
    both_so : (a b : Bool) → a ≡ true → b ≡ true → (a && b) ≡ true
    both_so a b h k = rw (h, k) refl

digits_are : (words : List Word) → list_all is_hex_digit (flat_map text_of words) ≡ true → digits_in words ≡ Ok (flat_map text_of words)
digits_are [] h = refl
digits_are (w ∷ words) h =
    let both = all_front is_hex_digit (text_of w) (flat_map text_of words) h in
    bind_is (is_or_bad (list_all is_hex_digit (text_of w))) _ true (text_of w ++ flat_map text_of words) (ap is_or_bad both.0)
    (bind_is (digits_in words) (λ rest. Ok (text_of w ++ rest)) (flat_map text_of words) (text_of w ++ flat_map text_of words) (digits_are words both.1) refl)

take_size_is : (word : Word) (rest : List Word) (size : ℕ) → number_of_text (2 ^ 16) (text_of word) ≡ Some size → size ≤ 4096 → take_size (word ∷ rest) ≡ Ok (size, rest)
take_size_is word rest size h short =
    bind_is (ok_or (number_of_text (2 ^ 16) (text_of word)) _) _ size (size, rest) (some_or (number_of_text (2 ^ 16) (text_of word)) _ size h)
    (bind_is (fits_data (nat_lt 4096 size)) (λ _. Ok (size, rest)) true (size, rest) (fits_is size short) refl)

sized_is : (octets digits : List ℕ) → decode_of digits ≡ Ok octets → sized (length octets) (decode_of digits) ≡ Some octets
sized_is octets digits h = ap (sized (length octets)) h ∙ ap (λ (b : Bool). if b then Some octets else None) (number_itself (length octets))
  where
    number_itself : (n : ℕ) → (n == n) ≡ true
    number_itself n = grind (arith, nat_tests)

take_opaque_is : (words : List Word) (octets : List ℕ) → IsOpaqueText words octets → take_opaque true words ≡ Ok (octets, [])
take_opaque_is words octets (mark, size, digits, e, is, n, short, decoded) =
    let text : List ℕ = flat_map text_of digits in
    let passed : list_all is_hex_digit text ≡ true = list_all-from_AllPass is_hex_digit text (decode_of-ok text octets decoded).1 in
    rw e (bind_is (take_mark true (mark ∷ size ∷ digits)) _ (size ∷ digits) (octets, []) (bind_is (is_or_bad (is_opaque_mark mark)) (λ _. Ok (size ∷ digits)) true (size ∷ digits) (ap is_or_bad is) refl)
    (bind_is (take_size (size ∷ digits)) _ (length octets, digits) (octets, []) (take_size_is size digits (length octets) n short)
    (bind_is (digits_in digits) _ text (octets, []) (digits_are digits passed)
    (bind_is (ok_or (sized (length octets) (decode_of text)) _) (λ o. Ok (o, [])) octets (octets, []) (some_or (sized (length octets) (decode_of text)) _ octets (sized_is octets text decoded)) refl))))

take_rdata_is : (origin : Labels) (rtype : ℕ) (words : List Word) (octets : List ℕ) → IsRDataText origin rtype words octets → take_rdata origin true rtype words ≡ Ok (octets, [])
take_rdata_is origin rtype words octets h = go (form rtype) refl h
  where
    go : (f : Option (List Field)) → form rtype ≡ f → MatchOption f (IsOpaqueText words octets) (λ fields. IsDataText origin fields words octets) → take_by_form origin true f words ≡ Ok (octets, [])
    go None e h = take_opaque_is words octets h
    go (Some fields) e h = take_data_is origin fields words octets (form_last rtype fields e) h

-- an entry that says a record is read as it
item_read : (ctx : Context) (e : FileEntry) (front middle data' : List Word) (word : Word) (r : Record) (written : Option ℕ) → IsOwner ctx e.blank front r.owner → IsMiddle middle written → ttl_in ctx written ≡ Some r.ttl → type_of_word word ≡ Some r.rtype → IsRDataText ctx.origin r.rtype data' r.rdata → e.whole ≡ true → item_in ctx e (front ++ (middle ++ word ∷ data')) ≡ Ok (Item r written)
item_read ctx e front middle data' word r written owner middle_is ttl rtype rdata whole =
    let behind : List Word = middle ++ word ∷ data' in
    let typed = type_word_is word r.rtype rtype in
    bind_is (take_owner ctx e.blank (front ++ behind)) _ (r.owner, behind) (Item r written) (take_owner_is ctx e.blank front behind r.owner owner)
    (bind_is (take_middle behind) _ (written, word ∷ data') (Item r written) (take_middle_is middle written word data' typed middle_is)
    (bind_is (take_type (word ∷ data')) _ (r.rtype, data') (Item r written) (take_type_is word data' r.rtype rtype)
    (bind_is (ok_or (ttl_in ctx written) _) _ r.ttl (Item r written) (some_or (ttl_in ctx written) _ r.ttl ttl)
    (bind_is (take_rdata ctx.origin e.whole r.rtype data') _ (r.rdata, []) (Item r written) (ap (λ (b : Bool). take_rdata ctx.origin b r.rtype data') whole ∙ take_rdata_is ctx.origin r.rtype data' r.rdata rdata)
    (ended_is e (Item r written) whole)))))

item_said : (ctx : Context) (e : FileEntry) (r : Record) (written : Option ℕ) → IsItem ctx e.blank e.words r written → e.whole ≡ true → said_by ctx e e.words ≡ Ok (Item r written)
item_said ctx e r written h whole =
    let behind : List Word = h.middle ++ h.type_word ∷ h.data_words in
    let words : e.words ≡ h.front ++ behind = h.parts ∙ append_assoc h.front h.middle (h.type_word ∷ h.data_words) in
    let typed = type_word_is h.type_word r.rtype h.rtype in
    let plain : FirstPlain (h.front ++ behind) = owner_plain ctx e.blank h.front behind r.owner h.owner (middle_plain h.middle written h.type_word h.data_words typed h.ttl_written) in
    ap (said_by ctx e) words
    ∙ said_plain ctx e (h.front ++ behind) plain
    ∙ item_read ctx e h.front h.middle h.data_words h.type_word r written h.owner h.ttl_written h.ttl h.rtype h.rdata whole

-- A directive.
directive_dollar : (keyword : List ℕ) (word : Word) → IsKeyword (36 ∷ keyword) word → begins_with_dollar word ≡ true
directive_dollar keyword word ([], w, same) = absurd cc
directive_dollar keyword word (c ∷ text, w, same) = let first : to_ascii_uppercase c ≡ 36 = cc in rw w (is_dollar c first)

origin_said : (ctx : Context) (e : FileEntry) (directive word : Word) (name : Labels) → is_keyword (codes "$ORIGIN") directive ≡ true → IsNameWord ctx.origin word name → e.whole ≡ true → said_by ctx e (directive ∷ word ∷ []) ≡ Ok (Origin name)
origin_said ctx e directive word name h read whole =
    ap (λ (b : Bool). directive_or_item b ctx e directive (word ∷ [])) (directive_dollar _ directive (keyword_is (codes "$ORIGIN") directive h))
    ∙ ap (λ (b : Bool). which_directive b (is_keyword (codes "$TTL") directive) ctx e (word ∷ [])) h
    ∙ bind_is (take_name ctx.origin (word ∷ [])) _ (name, []) (Origin name) (take_name_is ctx.origin word [] name read) (ended_is e (Origin name) whole)

default_said : (ctx : Context) (e : FileEntry) (directive word : Word) (ttl : ℕ) → is_keyword (codes "$TTL") directive ≡ true → number_of_text (2 ^ 32) (text_of word) ≡ Some ttl → e.whole ≡ true → said_by ctx e (directive ∷ word ∷ []) ≡ Ok (Default ttl)
default_said ctx e directive word ttl h read whole =
    let is = keyword_is (codes "$TTL") directive h in
    ap (λ (b : Bool). directive_or_item b ctx e directive (word ∷ [])) (directive_dollar _ directive is)
    ∙ ap (λ (b : Bool). which_directive b (is_keyword (codes "$TTL") directive) ctx e (word ∷ [])) (other_keyword (codes "$TTL") (codes "$ORIGIN") directive is refl)
    ∙ ap (λ (b : Bool). which_directive false b ctx e (word ∷ [])) h
    ∙ bind_is (take_number (word ∷ [])) _ (ttl, []) (Default ttl) (take_number_is word [] ttl read) (ended_is e (Default ttl) whole)

-- what an entry says is read
said_is : (ctx : Context) (e : FileEntry) (said : Said) → Says ctx e said → e.whole ≡ true → said_by ctx e e.words ≡ Ok said
said_is ctx e Nothing h whole = ap (said_by ctx e) h ∙ ended_is e Nothing whole
said_is ctx e (Origin name) (directive, word, words, h, read) whole = ap (said_by ctx e) words ∙ origin_said ctx e directive word name h read whole
said_is ctx e (Default ttl) (directive, word, words, h, read) whole = ap (said_by ctx e) words ∙ default_said ctx e directive word ttl h read whole
said_is ctx e (Item r written) h whole = item_said ctx e r written h whole

-- entries are read as what they mean
pub entries_read : (ctx : Context) (entries : List FileEntry) (records : List Record) → Mean ctx entries records → read_entries ctx entries ≡ Ok records
entries_read ctx [] records h = ap (λ (rs : List Record). Ok rs) (sym h)
entries_read ctx (e ∷ rest) records (said, more, whole, says, parts, others) =
    bind_is (on_line e.line (said_by ctx e e.words)) _ said records (ap (on_line e.line) (said_is ctx e said says whole))
    (ap (with_records_before (records_in said)) (entries_read (after ctx said) rest more others) ∙ ap (λ (rs : List Record). Ok rs) (sym parts))
