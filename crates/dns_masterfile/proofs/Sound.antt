-- What is computed of a file is what it means.
use Rattle.std.proofs.Common.{◌≡◌, ℕ, ◌+◌, ◌^◌, ◌≤◌, ◌⊎◌, inl, inr, Bool, true, false, List, [], ◌∷◌, ◌++◌, length, Some, None, Ok, Err, refl, sym, ap, subst, ◌∙◌, arith, append_assoc}
use Rattle.std.specs.Prelude.{Option, Result, MatchOption, ok_or, flat_map, nat_lt, ◌==◌, ⊤, codes, cond}
use Rattle.std.specs.List.{list_all}
use borrow.Author.Tests.{eqb-true}
use Rattle.hex.specs.Hex.{decode_of, is_hex_digit}
use Rattle.hex.specs.declared.error.FromHexError.{FromHexError}
use Rattle.std.proofs.lemmas.Bool.Decides.{nat_tests}
use Rattle.std.proofs.lemmas.List.{length-append, append-nil}
use Rattle.dns_names.specs.Name.{Labels, wire}
use Rattle.dns_names.specs.declared.NameError.{NameError}
use Rattle.dns_records.specs.Types.{Field, Name, UncompressedName, Strings, form, Value, Values}
use Rattle.dns_records.specs.Record.{Record, string}
use Rattle.dns_masterfile.specs.declared.FileError.{FileError}
use Rattle.dns_masterfile.specs.declared.FileError.TheVariants.{BadNumber, BadData, UnknownType, NoOwner, NoTtl}
use Rattle.dns_names.specs.Text.{name_of_text}
use Rattle.dns_masterfile.specs.Text.{number_of_text, is_decimal, string_of_text, each_of}
use Rattle.dns_masterfile.specs.Pieces.{Word, Bare, Quoted, text_of}
use Rattle.dns_masterfile.specs.Entries.{FileEntry}
use Rattle.dns_masterfile.specs.Data.{octets_of_text, is_keyword, type_of_word, IsNameWord, AreValues, IsFieldText, IsDataText, IsRDataText}
use Rattle.dns_masterfile.specs.Opaque.{is_opaque_mark, IsOpaqueText}
use Rattle.dns_masterfile.specs.Meaning.{Context, Said, Nothing, Origin, Default, Item, after, records_in, ttl_in, is_class, begins_with_dollar, IsTtl, IsMiddle, IsOwner, IsItem, Says, Mean}
use Rattle.dns_masterfile.specs.Reading.{ReadResult, ◌>>=◌, or_bad_name, name_in, take_name, take_number, take_values, fault_of_value, take_strings, fits_data, take_wire, take_field, take_data, take_type, is_or_bad, no_mark, take_mark, take_size, digits_in, sized, take_opaque, take_by_form, take_rdata, take_ttl, ttl_or_not, skip_class, either_first, take_middle, take_owner, value_only_if, ended, item_in, which_directive, directive_or_item, said_by, on_line, with_records_before, read_entries}

pub bind_ok : {A B E : Type 0} (r : Result A E) (f : A → Result B E) (y : B) → (r >>= f) ≡ Ok y → (x : A) × (r ≡ Ok x) × (f x ≡ Ok y)
bind_ok (Ok x) f y h = (x, refl, h)
bind_ok (Err e) f y h = absurd cc

pub ok_or_ok : {A : Type 0} (o : Option A) (e : FileError) (x : A) → ok_or o e ≡ Ok x → o ≡ Some x
ok_or_ok (Some y) e x h = cc
ok_or_ok None e x h = absurd cc

abbrev is_ok_of : {A E : Type 0} → A → Result A E
is_ok_of x = Ok x

ok_same : {A E : Type 0} (x y : A) → is_ok_of {E = E} x ≡ Ok y → x ≡ y
ok_same x y h = cc

ok_pair : {A B E : Type 0} (a c : A) (b d : B) → is_ok_of {A = A × B} {E = E} (a, b) ≡ Ok (c, d) → (a ≡ c) × (b ≡ d)
ok_pair {A} {B} a c b d h = let pair : (a, b) ≡ (c, d) = ok_same {A = A × B} (a, b) (c, d) h in (ap (λ (p : A × B). p.0) pair, ap (λ (p : A × B). p.1) pair)

or_bad_name_ok : (r : Result Labels NameError) (name : Labels) → or_bad_name r ≡ Ok name → r ≡ Ok name
or_bad_name_ok (Ok n) name h = cc
or_bad_name_ok (Err e) name h = absurd cc

name_in_ok : (origin : Labels) (word : Word) (name : Labels) → name_in origin word ≡ Ok name → IsNameWord origin word name
name_in_ok origin (Bare text) name h = or_bad_name_ok (name_of_text origin text) name h
name_in_ok origin (Quoted text) name h = absurd cc

take_name_ok : (origin : Labels) (words : List Word) (name : Labels) (rest : List Word) → take_name origin words ≡ Ok (name, rest) → (word : Word) × (words ≡ word ∷ rest) × IsNameWord origin word name
take_name_ok origin [] name rest h = absurd cc
take_name_ok origin (w ∷ more) name rest h =
    let got = bind_ok (name_in origin w) (λ n. Ok (n, more)) (name, rest) h in
    let n = got.0 in
    let p = ok_pair n name more rest got.2 in
    (w, ap (λ (xs : List Word). w ∷ xs) p.1, subst (λ (k : Labels). IsNameWord origin w k) p.0 (name_in_ok origin w n got.1))

take_number_ok : (words : List Word) (n : ℕ) (rest : List Word) → take_number words ≡ Ok (n, rest) → (word : Word) × (words ≡ word ∷ rest) × (number_of_text (2 ^ 32) (text_of word) ≡ Some n)
take_number_ok [] n rest h = absurd cc
take_number_ok (w ∷ more) n rest h =
    let got = bind_ok (ok_or (number_of_text (2 ^ 32) (text_of w)) BadNumber) (λ k. Ok (k, more)) (n, rest) h in
    let p = ok_pair got.0 n more rest got.2 in
    (w, ap (λ (xs : List Word). w ∷ xs) p.1, ok_or_ok _ BadNumber got.0 got.1 ∙ ap Some p.0)

-- A TTL is first, or none is taken.
abbrev TtlFirst : List Word → Option ℕ → List Word → Type 0
TtlFirst words None rest = words ≡ rest
TtlFirst words (Some ttl) rest = (word : Word) × (words ≡ word ∷ rest) × IsTtl word ttl

ttl_or_not_ok : (b : Bool) (text : List ℕ) (more : List Word) (written : Option ℕ) (rest : List Word) → ttl_or_not b text more ≡ Ok (written, rest) → TtlFirst (Bare text ∷ more) written rest
ttl_or_not_ok false text more written rest h =
    let p = ok_pair None written (Bare text ∷ more) rest h in
    subst (λ (o : Option ℕ). TtlFirst (Bare text ∷ more) o rest) p.0 p.1
ttl_or_not_ok true text more written rest h =
    let got = bind_ok (ok_or (number_of_text (2 ^ 32) text) BadNumber) (λ k. Ok (Some k, more)) (written, rest) h in
    let p = ok_pair (Some got.0) written more rest got.2 in
    subst (λ (o : Option ℕ). TtlFirst (Bare text ∷ more) o rest) p.0 (Bare text, ap (λ (xs : List Word). Bare text ∷ xs) p.1, ok_or_ok _ BadNumber got.0 got.1)

take_ttl_ok : (words : List Word) (written : Option ℕ) (rest : List Word) → take_ttl words ≡ Ok (written, rest) → TtlFirst words written rest
take_ttl_ok [] written rest h = let p = ok_pair None written [] rest h in subst (λ (o : Option ℕ). TtlFirst [] o rest) p.0 p.1
take_ttl_ok (Quoted text ∷ more) written rest h = let p = ok_pair None written (Quoted text ∷ more) rest h in subst (λ (o : Option ℕ). TtlFirst (Quoted text ∷ more) o rest) p.0 p.1
take_ttl_ok (Bare text ∷ more) written rest h = ttl_or_not_ok (is_decimal text) text more written rest h

-- What is before the type.
abbrev MiddleFirst : List Word → Option ℕ → List Word → Type 0
MiddleFirst words written rest = (middle : List Word) × (words ≡ middle ++ rest) × IsMiddle middle written

skip_class_ok : (words : List Word) → (words ≡ skip_class words) ⊎ ((word : Word) × (words ≡ word ∷ skip_class words) × (is_class word ≡ true))
skip_class_ok [] = inl refl
skip_class_ok (w ∷ rest) = go (is_class w) refl
  where
    go : (b : Bool) → is_class w ≡ b → (w ∷ rest ≡ skip_class (w ∷ rest)) ⊎ ((word : Word) × (w ∷ rest ≡ word ∷ skip_class (w ∷ rest)) × (is_class word ≡ true))
    go true p = inr (w, rw p refl, p)
    go false p = inl (rw p refl)

with_class : (words : List Word) (written : Option ℕ) (rest : List Word) → TtlFirst words written rest → MiddleFirst words written (skip_class rest)
with_class words None rest h = elim (skip_class_ok rest) [
  | inl same ↦ ([], h ∙ same, refl)
  | inr c ↦ (c.0 ∷ [], h ∙ c.1, c.2)
]
with_class words (Some ttl) rest h = elim (skip_class_ok rest) [
  | inl same ↦ (h.0 ∷ [], h.1 ∙ ap (λ (xs : List Word). h.0 ∷ xs) same, h.2)
  | inr c ↦ (h.0 ∷ c.0 ∷ [], h.1 ∙ ap (λ (xs : List Word). h.0 ∷ xs) c.1, inl (h.2, c.2))
]

behind_class : (w : Word) (words : List Word) (written : Option ℕ) (rest : List Word) → is_class w ≡ true → TtlFirst words written rest → MiddleFirst (w ∷ words) written rest
behind_class w words None rest c h = (w ∷ [], ap (λ (xs : List Word). w ∷ xs) h, c)
behind_class w words (Some ttl) rest c h = (w ∷ h.0 ∷ [], ap (λ (xs : List Word). w ∷ xs) h.1, inr (c, h.2))

either_first_ok : (b : Bool) (w : Word) (more : List Word) (written : Option ℕ) (rest : List Word) → is_class w ≡ b → either_first b w more ≡ Ok (written, rest) → MiddleFirst (w ∷ more) written rest
either_first_ok true w more written rest p h = behind_class w more written rest p (take_ttl_ok more written rest h)
either_first_ok false w more written rest p h =
    let got = bind_ok (take_ttl (w ∷ more)) (λ ttl. Ok (ttl.0, skip_class ttl.1)) (written, rest) h in
    let q = ok_pair (got.0).0 written (skip_class (got.0).1) rest got.2 in
    let stands = with_class (w ∷ more) (got.0).0 (got.0).1 (take_ttl_ok (w ∷ more) (got.0).0 (got.0).1 got.1) in
    subst (λ (o : Option ℕ). MiddleFirst (w ∷ more) o rest) q.0 (subst (λ (xs : List Word). MiddleFirst (w ∷ more) (got.0).0 xs) q.1 stands)

take_middle_ok : (words : List Word) (written : Option ℕ) (rest : List Word) → take_middle words ≡ Ok (written, rest) → MiddleFirst words written rest
take_middle_ok [] written rest h =
    let p = ok_pair None written [] rest h in
    ([], p.1, sym p.0)
take_middle_ok (w ∷ more) written rest h = either_first_ok (is_class w) w more written rest refl h

take_fixed_ok : (fs : List Value) (words : List Word) (octets : List ℕ) (rest : List Word) → take_values fs words ≡ Ok (octets, rest) → (here : List Word) × (words ≡ here ++ rest) × AreValues fs here octets
take_fixed_ok [] words octets rest h = let p = ok_pair [] octets words rest h in ([], p.1, (refl, sym p.0))
take_fixed_ok (f ∷ fs) [] octets rest h = absurd cc
take_fixed_ok (f ∷ fs) (w ∷ more) octets rest h =
    let got = bind_ok (ok_or (octets_of_text f (text_of w)) (fault_of_value f)) (λ front. take_values fs more >>= λ r. Ok (front ++ r.0, r.1)) (octets, rest) h in
    let then = bind_ok (take_values fs more) (λ r. Ok (got.0 ++ r.0, r.1)) (octets, rest) got.2 in
    let tail = (then.0).0 in
    let p = ok_pair (got.0 ++ tail) octets (then.0).1 rest then.2 in
    let inner = take_fixed_ok fs more tail (then.0).1 then.1 in
    let here = inner.0 in (
      w ∷ here,
      ap (λ (xs : List Word). w ∷ xs) inner.1 ∙ ap (λ (xs : List Word). w ∷ (here ++ xs)) p.1,
      (w, here, got.0, tail, refl, sym p.0, ok_or_ok _ (fault_of_value f) got.0 got.1, inner.2),
    )

fits_data_ok : (b x : Bool) → fits_data b ≡ Ok x → b ≡ false
fits_data_ok true x h = absurd cc
fits_data_ok false x h = refl

room_is : (n : ℕ) → nat_lt 4096 n ≡ false → n ≤ 4096
room_is n h = grind (arith, nat_tests)

abbrev strings_of : List Word → Option (List (List ℕ))
strings_of words = each_of (λ w. string_of_text (text_of w)) words

strings_on : (w : Word) (words : List Word) (s : List ℕ) (strings : List (List ℕ)) → string_of_text (text_of w) ≡ Some s → strings_of words ≡ Some strings → strings_of (w ∷ words) ≡ Some (s ∷ strings)
strings_on w words s strings h k = rw (h, k) refl

take_strings_ok : (size : ℕ) (words : List Word) (octets : List ℕ) → size ≤ 4096 → take_strings size words ≡ Ok octets → (strings : List (List ℕ)) × (strings_of words ≡ Some strings) × (octets ≡ flat_map string strings) × (size + length octets ≤ 4096)
take_strings_ok size [] octets room h = let none : [] ≡ octets = ok_same [] octets h in ([], refl, sym none, subst (λ (xs : List ℕ). size + length xs ≤ 4096) none (omega (arith, room)))
take_strings_ok size (w ∷ words) octets room h =
    let got = bind_ok (ok_or (string_of_text (text_of w)) BadData) (λ s. fits_data (nat_lt 4096 (size + 1 + length s)) >>= λ _. take_strings (size + 1 + length s) words >>= λ rest. Ok (string s ++ rest)) octets h in
    let s = got.0 in
    let more = size + 1 + length s in
    let fit = bind_ok (fits_data (nat_lt 4096 more)) (λ _. take_strings more words >>= λ rest. Ok (string s ++ rest)) octets got.2 in
    let then = bind_ok (take_strings more words) (λ rest. Ok (string s ++ rest)) octets fit.2 in
    let tail = then.0 in
    let whole : string s ++ tail ≡ octets = ok_same (string s ++ tail) octets then.2 in
    let inner = take_strings_ok more words tail (room_is more (fits_data_ok (nat_lt 4096 more) fit.0 fit.1)) then.1 in
    let read : string_of_text (text_of w) ≡ Some s = ok_or_ok _ BadData s got.1 in
    let bound : size + 1 + length s + length tail ≤ 4096 = inner.3 in (
      s ∷ inner.0,
      strings_on w words s inner.0 read inner.1,
      sym whole ∙ ap (λ (xs : List ℕ). string s ++ xs) inner.2,
      subst (λ (xs : List ℕ). size + length xs ≤ 4096) whole (omega (arith, bound, length-append s tail)),
    )

-- Words that are taken, and what they are.
abbrev Front : List Word → (List Word → Type 0) → List Word → Type 0
Front words Is rest = (here : List Word) × (words ≡ here ++ rest) × Is here

name_field_ok : (origin : Labels) (words : List Word) (octets : List ℕ) (rest : List Word) → take_wire origin words ≡ Ok (octets, rest) → Front words (λ here. IsFieldText origin Name here octets) rest
name_field_ok origin words octets rest h =
    let got = bind_ok (take_name origin words) (λ name. Ok (wire name.0, name.1)) (octets, rest) h in
    let name = (got.0).0 in
    let p = ok_pair (wire name) octets (got.0).1 rest got.2 in
    let read = take_name_ok origin words name (got.0).1 got.1 in
    (read.0 ∷ [], read.1 ∙ ap (λ (xs : List Word). read.0 ∷ xs) p.1, (read.0, name, refl, read.2, sym p.0))

take_field_ok : (origin : Labels) (f : Field) (words : List Word) (octets : List ℕ) (rest : List Word) → take_field origin f words ≡ Ok (octets, rest) → Front words (λ here. IsFieldText origin f here octets) rest
take_field_ok origin (Values vs) words octets rest h = take_fixed_ok vs words octets rest h
take_field_ok origin Name words octets rest h = name_field_ok origin words octets rest h
take_field_ok origin UncompressedName words octets rest h = name_field_ok origin words octets rest h
take_field_ok origin Strings [] octets rest h = absurd cc
take_field_ok origin Strings (w ∷ words) octets rest h =
    let got = bind_ok (take_strings 0 (w ∷ words)) (λ o. Ok (o, [])) (octets, rest) h in
    let p = ok_pair got.0 octets [] rest got.2 in
    let inner = take_strings_ok 0 (w ∷ words) octets (omega arith) (got.1 ∙ ap (λ (o : List ℕ). Ok o) p.0) in
    let bound : 0 + length octets ≤ 4096 = inner.3 in (
      w ∷ words,
      sym (append-nil (w ∷ words)) ∙ ap (λ (xs : List Word). (w ∷ words) ++ xs) p.1,
      (inner.0, (λ e. absurd cc), inner.1, inner.2, omega (arith, bound)),
    )

take_data_ok : (origin : Labels) (fs : List Field) (words : List Word) (octets : List ℕ) (rest : List Word) → take_data origin fs words ≡ Ok (octets, rest) → Front words (λ here. IsDataText origin fs here octets) rest
take_data_ok origin [] words octets rest h = let p = ok_pair [] octets words rest h in ([], p.1, (refl, sym p.0))
take_data_ok origin (f ∷ fs) words octets rest h =
    let got = bind_ok (take_field origin f words) (λ front. take_data origin fs front.1 >>= λ r. Ok (front.0 ++ r.0, r.1)) (octets, rest) h in
    let front = (got.0).0 in
    let then = bind_ok (take_data origin fs (got.0).1) (λ r. Ok (front ++ r.0, r.1)) (octets, rest) got.2 in
    let tail = (then.0).0 in
    let p = ok_pair (front ++ tail) octets (then.0).1 rest then.2 in
    let first = take_field_ok origin f words front (got.0).1 got.1 in
    let others = take_data_ok origin fs (got.0).1 tail (then.0).1 then.1 in (
      first.0 ++ others.0,
      first.1 ∙ ap (λ (xs : List Word). first.0 ++ xs) (others.1 ∙ ap (λ (xs : List Word). others.0 ++ xs) p.1) ∙ sym (append_assoc first.0 others.0 rest),
      (first.0, others.0, front, tail, refl, sym p.0, first.2, others.2),
    )

abbrev NoDollar : List Word → Type 0
NoDollar [] = ⊤
NoDollar (w ∷ rest) = begins_with_dollar w ≡ false

first_no_dollar : (words : List Word) (word : Word) (rest : List Word) → NoDollar words → words ≡ word ∷ rest → begins_with_dollar word ≡ false
first_no_dollar words word rest h e = subst NoDollar e h

take_owner_ok : (ctx : Context) (blank : Bool) (words : List Word) (owner : Labels) (rest : List Word) → NoDollar words → take_owner ctx blank words ≡ Ok (owner, rest) → Front words (λ here. IsOwner ctx blank here owner) rest
take_owner_ok ctx true words owner rest plain h =
    let got = bind_ok (ok_or ctx.owner NoOwner) (λ o. Ok (o, words)) (owner, rest) h in
    let p = ok_pair got.0 owner words rest got.2 in
    ([], p.1, (refl, ok_or_ok ctx.owner NoOwner got.0 got.1 ∙ ap Some p.0))
take_owner_ok ctx false words owner rest plain h =
    let read = take_name_ok ctx.origin words owner rest h in
    (read.0 ∷ [], read.1, (read.0, refl, first_no_dollar words read.0 rest plain read.1, read.2))

only_if_ok : {A : Type 0} (b : Bool) (x y : A) → value_only_if b x ≡ Ok y → (b ≡ true) × (x ≡ y)
only_if_ok true x y h = (refl, ok_same x y h)
only_if_ok false x y h = absurd cc

ended_ok : {A : Type 0} (e : FileEntry) (words : List Word) (x y : A) → ended e words x ≡ Ok y → (words ≡ []) × (e.whole ≡ true) × (x ≡ y)
ended_ok e [] x y h = let p = only_if_ok e.whole x y h in (refl, p.0, p.1)
ended_ok e (w ∷ rest) x y h = absurd cc

-- The word of a type.
take_type_ok : (words : List Word) (rtype : ℕ) (rest : List Word) → take_type words ≡ Ok (rtype, rest) → (word : Word) × (words ≡ word ∷ rest) × (type_of_word word ≡ Some rtype)
take_type_ok [] rtype rest h = absurd cc
take_type_ok (w ∷ more) rtype rest h =
    let got = bind_ok (ok_or (type_of_word w) UnknownType) (λ t. Ok (t, more)) (rtype, rest) h in
    let p = ok_pair got.0 rtype more rest got.2 in
    (w, ap (λ (xs : List Word). w ∷ xs) p.1, ok_or_ok _ UnknownType got.0 got.1 ∙ ap Some p.0)

-- Data of a type without a form.
is_or_bad_ok : (b x : Bool) → is_or_bad b ≡ Ok x → b ≡ true
is_or_bad_ok true x h = refl
is_or_bad_ok false x h = absurd cc

no_mark_ok : (whole : Bool) (behind : List Word) → no_mark whole ≡ Ok behind → ⊥
no_mark_ok true behind h = cc
no_mark_ok false behind h = cc

take_mark_ok : (whole : Bool) (words behind : List Word) → take_mark whole words ≡ Ok behind → (mark : Word) × (words ≡ mark ∷ behind) × (is_opaque_mark mark ≡ true)
take_mark_ok whole [] behind h = absurd (no_mark_ok whole behind h)
take_mark_ok whole (w ∷ rest) behind h =
    let got = bind_ok (is_or_bad (is_opaque_mark w)) (λ _. Ok rest) behind h in
    (w, ap (λ (xs : List Word). w ∷ xs) (ok_same rest behind got.2), is_or_bad_ok (is_opaque_mark w) got.0 got.1)

take_size_ok : (words : List Word) (size : ℕ) (rest : List Word) → take_size words ≡ Ok (size, rest) → (word : Word) × (words ≡ word ∷ rest) × (number_of_text (2 ^ 16) (text_of word) ≡ Some size) × (size ≤ 4096)
take_size_ok [] size rest h = absurd cc
take_size_ok (w ∷ more) size rest h =
    let got = bind_ok (ok_or (number_of_text (2 ^ 16) (text_of w)) BadNumber) (λ n. fits_data (nat_lt 4096 n) >>= λ _. Ok (n, more)) (size, rest) h in
    let fit = bind_ok (fits_data (nat_lt 4096 got.0)) (λ _. Ok (got.0, more)) (size, rest) got.2 in
    let p = ok_pair got.0 size more rest fit.2 in
    let room = room_is got.0 (fits_data_ok (nat_lt 4096 got.0) fit.0 fit.1) in
    (w, ap (λ (xs : List Word). w ∷ xs) p.1, ok_or_ok _ BadNumber got.0 got.1 ∙ ap Some p.0, subst (λ (n : ℕ). n ≤ 4096) p.0 room)

digits_ok : (words : List Word) (digits : List ℕ) → digits_in words ≡ Ok digits → digits ≡ flat_map text_of words
digits_ok [] digits h = sym (ok_same [] digits h)
digits_ok (w ∷ words) digits h =
    let here = bind_ok (is_or_bad (list_all is_hex_digit (text_of w))) (λ _. digits_in words >>= λ rest. Ok (text_of w ++ rest)) digits h in
    let more = bind_ok (digits_in words) (λ rest. Ok (text_of w ++ rest)) digits here.2 in
    sym (ok_same (text_of w ++ more.0) digits more.2) ∙ ap (λ (xs : List ℕ). text_of w ++ xs) (digits_ok words more.0 more.1)

sized_ok : (size : ℕ) (r : Result (List ℕ) FromHexError) (octets : List ℕ) → sized size r ≡ Some octets → (r ≡ Ok octets) × (length octets ≡ size)
sized_ok size (Err e) octets h = absurd cc
sized_ok size (Ok x) octets h = go (length x == size) refl h
  where
    go : (b : Bool) → (length x == size) ≡ b → cond b (Some x) None ≡ Some octets → (is_ok_of {E = FromHexError} x ≡ Ok octets) × (length octets ≡ size)
    go true p h = (let same : x ≡ octets = cc in (ap (λ (o : List ℕ). Ok o) same, ap length (sym same) ∙ eqb-true (length x) size p))
    go false p h = absurd cc

take_opaque_ok : (whole : Bool) (words : List Word) (octets : List ℕ) (rest : List Word) → take_opaque whole words ≡ Ok (octets, rest) → IsOpaqueText words octets × (rest ≡ [])
take_opaque_ok whole words octets rest h =
    let a = bind_ok (take_mark whole words) _ (octets, rest) h in
    let b = bind_ok (take_size a.0) _ (octets, rest) a.2 in
    let c = bind_ok (digits_in (b.0).1) _ (octets, rest) b.2 in
    let d = bind_ok (value_only_if whole true) _ (octets, rest) c.2 in
    let f = bind_ok (ok_or (sized (b.0).0 (decode_of c.0)) BadData) _ (octets, rest) d.2 in
    let p = ok_pair f.0 octets [] rest f.2 in
    let mark = take_mark_ok whole words a.0 a.1 in
    let size = take_size_ok a.0 (b.0).0 (b.0).1 b.1 in
    let read = sized_ok (b.0).0 (decode_of c.0) octets (ok_or_ok _ BadData f.0 f.1 ∙ ap Some p.0) in (
      (
        mark.0,
        size.0,
        (b.0).1,
        mark.1 ∙ ap (λ (xs : List Word). mark.0 ∷ xs) size.1,
        mark.2,
        size.2 ∙ ap Some (sym read.1),
        subst (λ (n : ℕ). n ≤ 4096) (sym read.1) size.3,
        ap decode_of (sym (digits_ok (b.0).1 c.0 c.1)) ∙ read.0,
      ),
      sym p.1,
    )

take_rdata_ok : (origin : Labels) (whole : Bool) (f : Option (List Field)) (words : List Word) (octets : List ℕ) (rest : List Word) → take_by_form origin whole f words ≡ Ok (octets, rest) → Front words (λ here. MatchOption f (IsOpaqueText here octets) (λ fields. IsDataText origin fields here octets)) rest
take_rdata_ok origin whole (Some fields) words octets rest h = take_data_ok origin fields words octets rest h
take_rdata_ok origin whole None words octets rest h =
    let opaque = take_opaque_ok whole words octets rest h in
    (words, sym (append-nil words) ∙ ap (λ (xs : List Word). words ++ xs) (sym opaque.1), opaque.0)

item_ok : (ctx : Context) (e : FileEntry) (words : List Word) (said : Said) → NoDollar words → words ≡ e.words → item_in ctx e words ≡ Ok said → Says ctx e said × (e.whole ≡ true)
item_ok ctx e words said plain same h =
    let a = bind_ok (take_owner ctx e.blank words) _ said h in
    let b = bind_ok (take_middle (a.0).1) _ said a.2 in
    let c = bind_ok (take_type (b.0).1) _ said b.2 in
    let t = bind_ok (ok_or (ttl_in ctx (b.0).0) NoTtl) _ said c.2 in
    let g = bind_ok (take_rdata ctx.origin e.whole (c.0).0 (c.0).1) _ said t.2 in
    let r : Record = record { owner = (a.0).0; rtype = (c.0).0; ttl = t.0; rdata = (g.0).0 } in
    let z = ended_ok e (g.0).1 (Item r (b.0).0) said g.2 in
    let front = take_owner_ok ctx e.blank words (a.0).0 (a.0).1 plain a.1 in
    let middle = take_middle_ok (a.0).1 (b.0).0 (b.0).1 b.1 in
    let typed = take_type_ok (b.0).1 (c.0).0 (c.0).1 c.1 in
    let data' = take_rdata_ok ctx.origin e.whole (form (c.0).0) (c.0).1 (g.0).0 (g.0).1 g.1 in
    let all : (c.0).1 ≡ data'.0 = data'.1 ∙ ap (λ (xs : List Word). data'.0 ++ xs) z.0 ∙ append-nil data'.0 in
    let item : IsItem ctx e.blank e.words r (b.0).0 = record {
      front = front.0;
      middle = middle.0;
      type_word = typed.0;
      data_words = (c.0).1;
      parts = sym same ∙ front.1 ∙ ap (λ (xs : List Word). front.0 ++ xs) (middle.1 ∙ ap (λ (xs : List Word). middle.0 ++ xs) typed.1) ∙ sym (append_assoc front.0 middle.0 (typed.0 ∷ (c.0).1));
      owner = front.2;
      ttl_written = middle.2;
      ttl = ok_or_ok _ NoTtl t.0 t.1;
      rtype = typed.2;
      rdata = subst (λ (xs : List Word). IsRDataText ctx.origin (c.0).0 xs (g.0).0) (sym all) data'.2;
    } in
    (subst (λ (s : Said). Says ctx e s) z.2 item, z.1)

which_ok : (origin ttl : Bool) (ctx : Context) (e : FileEntry) (w : Word) (rest : List Word) (said : Said) → w ∷ rest ≡ e.words → is_keyword (codes "$ORIGIN") w ≡ origin → is_keyword (codes "$TTL") w ≡ ttl → which_directive origin ttl ctx e rest ≡ Ok said → Says ctx e said × (e.whole ≡ true)
which_ok true b ctx e w rest said same p q h =
    let got = bind_ok (take_name ctx.origin rest) (λ name. ended e name.1 (Origin name.0)) said h in
    let read = take_name_ok ctx.origin rest (got.0).0 (got.0).1 got.1 in
    let z = ended_ok e (got.0).1 (Origin (got.0).0) said got.2 in
    (subst (λ (s : Said). Says ctx e s) z.2 (w, read.0, sym same ∙ ap (λ (xs : List Word). w ∷ xs) (read.1 ∙ ap (λ (xs : List Word). read.0 ∷ xs) z.0), p, read.2), z.1)
which_ok false true ctx e w rest said same p q h =
    let got = bind_ok (take_number rest) (λ ttl. ended e ttl.1 (Default ttl.0)) said h in
    let read = take_number_ok rest (got.0).0 (got.0).1 got.1 in
    let z = ended_ok e (got.0).1 (Default (got.0).0) said got.2 in
    (subst (λ (s : Said). Says ctx e s) z.2 (w, read.0, sym same ∙ ap (λ (xs : List Word). w ∷ xs) (read.1 ∙ ap (λ (xs : List Word). read.0 ∷ xs) z.0), q, read.2), z.1)
which_ok false false ctx e w rest said same p q h = absurd cc

either_ok : (b : Bool) (ctx : Context) (e : FileEntry) (w : Word) (rest : List Word) (said : Said) → w ∷ rest ≡ e.words → begins_with_dollar w ≡ b → directive_or_item b ctx e w rest ≡ Ok said → Says ctx e said × (e.whole ≡ true)
either_ok true ctx e w rest said same p h = which_ok (is_keyword (codes "$ORIGIN") w) (is_keyword (codes "$TTL") w) ctx e w rest said same refl refl h
either_ok false ctx e w rest said same p h = item_ok ctx e (w ∷ rest) said p same h

said_ok : (ctx : Context) (e : FileEntry) (words : List Word) (said : Said) → words ≡ e.words → said_by ctx e words ≡ Ok said → Says ctx e said × (e.whole ≡ true)
said_ok ctx e [] said same h = let z = ended_ok e [] Nothing said h in (subst (λ (s : Said). Says ctx e s) z.2 (sym same), z.1)
said_ok ctx e (w ∷ rest) said same h = either_ok (begins_with_dollar w) ctx e w rest said same refl h

on_line_ok : (line : ℕ) (o : ReadResult Said) (said : Said) → on_line line o ≡ Ok said → o ≡ Ok said
on_line_ok line (Ok s) said h = ap (λ (x : Said). Ok x) (ok_same s said h)
on_line_ok line (Err e) said h = absurd cc

before_ok : (records all : List Record) (r : Result (List Record) (ℕ × FileError)) → with_records_before records r ≡ Ok all → (more : List Record) × (r ≡ Ok more) × (all ≡ records ++ more)
before_ok records all (Ok more) h = (more, refl, sym (ok_same (records ++ more) all h))
before_ok records all (Err f) h = absurd cc

-- entries that are read mean what is read
pub entries_mean : (ctx : Context) (entries : List FileEntry) (records : List Record) → read_entries ctx entries ≡ Ok records → Mean ctx entries records
entries_mean ctx [] records h = sym (ok_same [] records h)
entries_mean ctx (e ∷ rest) records h =
    let a = bind_ok (on_line e.line (said_by ctx e e.words)) (λ said. with_records_before (records_in said) (read_entries (after ctx said) rest)) records h in
    let said = a.0 in
    let says = said_ok ctx e e.words said refl (on_line_ok e.line (said_by ctx e e.words) said a.1) in
    let b = before_ok (records_in said) records (read_entries (after ctx said) rest) a.2 in
    (said, b.0, says.1, says.0, b.2, entries_mean (after ctx said) rest b.0 b.1)
