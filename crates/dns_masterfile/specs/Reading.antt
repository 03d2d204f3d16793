-- Reading computed: the records of a file, or its first fault and the line on which the entry of the fault
-- begins.
use Rattle.std.specs.Prelude.{ℕ, ◌+◌, ◌^◌, Bool, true, false, nat_lt, ◌==◌, List, [], ◌∷◌, ◌++◌, length}
use Rattle.std.specs.Prelude.{Option, Some, None, Result, Ok, Err, codes, ok_or, if◌then◌else◌}
use Rattle.std.specs.List.{list_all}
use Rattle.hex.specs.Hex.{decode_of, is_hex_digit}
use Rattle.hex.specs.declared.error.FromHexError.{FromHexError}
use Rattle.dns_names.specs.Name.{Labels, wire}
use Rattle.dns_names.specs.declared.NameError.{NameError}
use Rattle.dns_records.specs.Types.{Field, Name, UncompressedName, Strings, form, Ipv4, Ipv6, U16, U32, Value}
use Rattle.dns_records.specs.Types.{Values}
use Rattle.dns_records.specs.Record.{Record, string}
use Rattle.dns_masterfile.specs.declared.FileError.{FileError}
use Rattle.dns_masterfile.specs.declared.FileError.TheVariants.{Syntax, BadName, BadNumber, BadData, NoTtl}
use Rattle.dns_masterfile.specs.declared.FileError.TheVariants.{NoOwner, UnknownType, TooLong}
use Rattle.dns_names.specs.Text.{name_of_text}
use Rattle.dns_masterfile.specs.Text.{number_of_text, string_of_text, is_decimal}
use Rattle.dns_masterfile.specs.Pieces.{Word, Bare, Quoted, text_of, pieces_of}
use Rattle.dns_masterfile.specs.Entries.{FileEntry, entries_of}
use Rattle.dns_masterfile.specs.Data.{octets_of_text, is_keyword, type_of_word}
use Rattle.dns_masterfile.specs.Opaque.{is_opaque_mark}
use Rattle.dns_masterfile.specs.Meaning.{Context, at_start, Said, Nothing, Origin, Default, Item, after}
use Rattle.dns_masterfile.specs.Meaning.{records_in, ttl_in, is_class, begins_with_dollar}

abbrev pub ReadResult : Type 0 → Type 0
ReadResult A = Result A FileError

infixl 10 ◌>>=◌
abbrev pub ◌>>=◌ : {A B E : Type 0} → Result A E → (A → Result B E) → Result B E
(Err e) >>= f = Err e
(Ok x) >>= f = f x

-- A value and the words after it.
abbrev pub TakenValue : Type 0 → Type 0
TakenValue A = ReadResult (A × List Word)

abbrev pub next_word : List Word → TakenValue Word
next_word [] = Err Syntax
next_word (w ∷ rest) = Ok (w, rest)

abbrev pub or_bad_name : Result Labels NameError → ReadResult Labels
or_bad_name (Ok name) = Ok name
or_bad_name (Err e) = Err BadName

abbrev pub name_in : Labels → Word → ReadResult Labels
name_in origin (Quoted text) = Err BadName
name_in origin (Bare text) = or_bad_name (name_of_text origin text)

abbrev pub take_name : Labels → List Word → TakenValue Labels
take_name origin words = next_word words >>= λ w. name_in origin w.0 >>= λ name. Ok (name, w.1)

abbrev pub take_number : List Word → TakenValue ℕ
take_number words =
    next_word words >>= λ w. ok_or (number_of_text (2 ^ 32) (text_of w.0)) BadNumber >>= λ n. Ok (n, w.1)

abbrev pub fault_of_value : Value → FileError
fault_of_value U16 = BadNumber
fault_of_value U32 = BadNumber
fault_of_value Ipv4 = BadData
fault_of_value Ipv6 = BadData

abbrev pub take_values : List Value → List Word → TakenValue (List ℕ)
take_values [] words = Ok ([], words)
take_values (f ∷ fs) words = do
  w ← next_word words
  front ← ok_or (octets_of_text f (text_of w.0)) (fault_of_value f)
  rest ← take_values fs w.1
  Ok (front ++ rest.0, rest.1)

abbrev pub fits_data : Bool → ReadResult Bool
fits_data true = Err TooLong
fits_data false = Ok true

-- All words after so many octets of data.
abbrev pub take_strings : ℕ → List Word → ReadResult (List ℕ)
take_strings size [] = Ok []
take_strings size (w ∷ words) = do
  octets ← ok_or (string_of_text (text_of w)) BadData
  _ ← fits_data (nat_lt 4096 (size + 1 + length octets))
  rest ← take_strings (size + 1 + length octets) words
  Ok (string octets ++ rest)

abbrev pub take_wire : Labels → List Word → TakenValue (List ℕ)
take_wire origin words = take_name origin words >>= λ name. Ok (wire name.0, name.1)

abbrev pub take_field : Labels → Field → List Word → TakenValue (List ℕ)
take_field origin (Values vs) words = take_values vs words
take_field origin Name words = take_wire origin words
take_field origin UncompressedName words = take_wire origin words
take_field origin Strings words =
    next_word words >>= λ first. take_strings 0 words >>= λ octets. Ok (octets, [])

abbrev pub take_data : Labels → List Field → List Word → TakenValue (List ℕ)
take_data origin [] words = Ok ([], words)
take_data origin (f ∷ fs) words = do
  front ← take_field origin f words
  rest ← take_data origin fs front.1
  Ok (front.0 ++ rest.0, rest.1)

abbrev pub ttl_or_not : Bool → List ℕ → List Word → TakenValue (Option ℕ)
ttl_or_not true text rest = ok_or (number_of_text (2 ^ 32) text) BadNumber >>= λ n. Ok (Some n, rest)
ttl_or_not false text rest = Ok (None, Bare text ∷ rest)

abbrev pub take_ttl : List Word → TakenValue (Option ℕ)
take_ttl (Bare text ∷ rest) = ttl_or_not (is_decimal text) text rest
take_ttl words = Ok (None, words)

abbrev pub class_or_not : Bool → Word → List Word → List Word
class_or_not true w rest = rest
class_or_not false w rest = w ∷ rest

abbrev pub skip_class : List Word → List Word
skip_class [] = []
skip_class (w ∷ rest) = class_or_not (is_class w) w rest

abbrev pub ttl_then_class : List Word → TakenValue (Option ℕ)
ttl_then_class words = take_ttl words >>= λ ttl. Ok (ttl.0, skip_class ttl.1)

abbrev pub either_first : Bool → Word → List Word → TakenValue (Option ℕ)
either_first true w rest = take_ttl rest
either_first false w rest = ttl_then_class (w ∷ rest)

-- The TTL that is written, if one is: the class may come before or after it.
abbrev pub take_middle : List Word → TakenValue (Option ℕ)
take_middle [] = Ok (None, [])
take_middle (w ∷ rest) = either_first (is_class w) w rest

abbrev pub take_owner : Context → Bool → List Word → TakenValue Labels
take_owner ctx false words = take_name ctx.origin words
take_owner ctx true words = ok_or ctx.owner NoOwner >>= λ owner. Ok (owner, words)

abbrev pub value_only_if : {A : Type 0} → Bool → A → ReadResult A
value_only_if true x = Ok x
value_only_if false x = Err Syntax

-- No word is left over, and no fault follows the words.
abbrev pub ended : {A : Type 0} → FileEntry → List Word → A → ReadResult A
ended e [] x = value_only_if e.whole x
ended e (w ∷ rest) x = Err Syntax

abbrev pub take_type : List Word → TakenValue ℕ
take_type words = do
  w ← next_word words
  rtype ← ok_or (type_of_word w.0) UnknownType
  Ok (rtype, w.1)

abbrev pub is_or_bad : Bool → ReadResult Bool
is_or_bad true = Ok true
is_or_bad false = Err BadData

-- `\#`. Where no word is left, a fault at that position is reported.
abbrev pub no_mark : Bool → ReadResult (List Word)
no_mark true = Err BadData
no_mark false = Err Syntax

abbrev pub take_mark : Bool → List Word → ReadResult (List Word)
take_mark whole [] = no_mark whole
take_mark whole (w ∷ rest) = is_or_bad (is_opaque_mark w) >>= λ _. Ok rest

-- How many octets follow.
abbrev pub take_size : List Word → TakenValue ℕ
take_size words = do
  w ← next_word words
  size ← ok_or (number_of_text (2 ^ 16) (text_of w.0)) BadNumber
  _ ← fits_data (nat_lt 4096 size)
  Ok (size, w.1)

-- All words, which are digits.
abbrev pub digits_in : List Word → ReadResult (List ℕ)
digits_in [] = Ok []
digits_in (w ∷ words) = do
  _ ← is_or_bad (list_all is_hex_digit (text_of w))
  rest ← digits_in words
  Ok (text_of w ++ rest)

abbrev pub sized : ℕ → Result (List ℕ) FromHexError → Option (List ℕ)
sized size (Ok octets) = if length octets == size then Some octets else None
sized size (Err e) = None

-- Octets, and all words: a fault after the digits takes precedence over their count.
abbrev pub take_opaque : Bool → List Word → TakenValue (List ℕ)
take_opaque whole words = do
  behind ← take_mark whole words
  size ← take_size behind
  digits ← digits_in size.1
  _ ← value_only_if whole true
  octets ← ok_or (sized size.0 (decode_of digits)) BadData
  Ok (octets, [])

abbrev pub take_by_form : Labels → Bool → Option (List Field) → List Word → TakenValue (List ℕ)
take_by_form origin whole None words = take_opaque whole words
take_by_form origin whole (Some fields) words = take_data origin fields words

abbrev pub take_rdata : Labels → Bool → ℕ → List Word → TakenValue (List ℕ)
take_rdata origin whole rtype words = take_by_form origin whole (form rtype) words

abbrev pub item_in : Context → FileEntry → List Word → ReadResult Said
item_in ctx e words = do
  owner ← take_owner ctx e.blank words
  middle ← take_middle owner.1
  typed ← take_type middle.1
  ttl ← ok_or (ttl_in ctx middle.0) NoTtl
  rdata ← take_rdata ctx.origin e.whole typed.0 typed.1
  ended e rdata.1 (Item (record { owner = owner.0; rtype = typed.0; ttl = ttl; rdata = rdata.0 }) middle.0)

abbrev pub which_directive : Bool → Bool → Context → FileEntry → List Word → ReadResult Said
which_directive true _ ctx e rest = take_name ctx.origin rest >>= λ name. ended e name.1 (Origin name.0)
which_directive false true ctx e rest = take_number rest >>= λ ttl. ended e ttl.1 (Default ttl.0)
which_directive false false ctx e rest = Err Syntax

abbrev pub directive_in : Context → FileEntry → Word → List Word → ReadResult Said
directive_in ctx e w rest =
    which_directive (is_keyword (codes "$ORIGIN") w) (is_keyword (codes "$TTL") w) ctx e rest

abbrev pub directive_or_item : Bool → Context → FileEntry → Word → List Word → ReadResult Said
directive_or_item true ctx e w rest = directive_in ctx e w rest
directive_or_item false ctx e w rest = item_in ctx e (w ∷ rest)

abbrev pub said_by : Context → FileEntry → List Word → ReadResult Said
said_by ctx e [] = ended e [] Nothing
said_by ctx e (w ∷ rest) = directive_or_item (begins_with_dollar w) ctx e w rest

abbrev pub on_line : ℕ → ReadResult Said → Result Said (ℕ × FileError)
on_line line (Ok said) = Ok said
on_line line (Err fault) = Err (line, fault)

-- What was read is put before the rest.
abbrev pub with_records_before : List Record → Result (List Record) (ℕ × FileError)
    → Result (List Record) (ℕ × FileError)
with_records_before records (Ok more) = Ok (records ++ more)
with_records_before records (Err fault) = Err fault

abbrev pub read_entries : Context → List FileEntry → Result (List Record) (ℕ × FileError)
read_entries ctx [] = Ok []
read_entries ctx (e ∷ rest) =
    on_line e.line (said_by ctx e e.words) >>= λ said.
    with_records_before (records_in said) (read_entries (after ctx said) rest)

abbrev pub read_file : List ℕ → Labels → Result (List Record) (ℕ × FileError)
read_file octets origin = read_entries (at_start origin) (entries_of (pieces_of octets))
