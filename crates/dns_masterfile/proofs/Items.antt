-- Records and entries, read step by step.
use Rattle.std.proofs.Common.{◌≡◌, ℕ, Bool, true, false, List, [], ◌∷◌, ◌++◌, refl, sym, ap, ◌∙◌, append_assoc}
use Rattle.std.specs.Prelude.{Option, Some, Result, Ok, Err, codes, ok_or}
use Rattle.dns_names.specs.Name.{Labels}
use Rattle.dns_records.specs.Record.{Record}
use Rattle.dns_masterfile.specs.declared.FileError.{FileError}
use Rattle.dns_masterfile.specs.declared.FileError.TheVariants.{Syntax, NoTtl}
use Rattle.dns_masterfile.specs.Pieces.{Word}
use Rattle.dns_masterfile.specs.Entries.{FileEntry}
use Rattle.dns_masterfile.specs.Data.{is_keyword}
use Rattle.dns_masterfile.specs.Meaning.{Context, Said, Item, Origin, Default, after, begins_with_dollar, records_in, ttl_in}
use Rattle.dns_masterfile.specs.Reading.{ReadResult, TakenValue, ◌>>=◌, take_owner, take_middle, take_type, take_rdata, ended, value_only_if, item_in, said_by, on_line, with_records_before, read_entries, take_name, take_number, which_directive, directive_or_item, directive_in}
use Rattle.dns_masterfile.specs.Contexts.{ended_at}

abbrev with_data : FileEntry → Labels → ℕ → ℕ → Option ℕ → List ℕ × List Word → ReadResult Said
with_data e owner rtype ttl written rdata = ended e rdata.1 (Item (record { owner = owner; rtype = rtype; ttl = ttl; rdata = rdata.0 }) written)

-- a record, as far as its data
pub item_data : (ctx : Context) (e : FileEntry) (words first second third : List Word) (owner : Labels) (written : Option ℕ) (rtype ttl : ℕ) → take_owner ctx e.blank words ≡ Ok (owner, first) → take_middle first ≡ Ok (written, second) → take_type second ≡ Ok (rtype, third) → ttl_in ctx written ≡ Some ttl → item_in ctx e words ≡ (take_rdata ctx.origin e.whole rtype third >>= with_data e owner rtype ttl written)
item_data ctx e words first second third owner written rtype ttl a b c d =
    let rest : Labels → Option ℕ → ℕ × List Word → ReadResult Said = λ owner written t. ok_or (ttl_in ctx written) NoTtl >>= λ ttl. take_rdata ctx.origin e.whole t.0 t.1 >>= with_data e owner t.0 ttl written in
    let typing : Labels → Option ℕ × List Word → ReadResult Said = λ owner middle. take_type middle.1 >>= rest owner middle.0 in
    ap (λ (r : TakenValue Labels). r >>= λ owner. take_middle owner.1 >>= typing owner.0) a
    ∙ ap (λ (r : TakenValue (Option ℕ)). r >>= typing owner) b
    ∙ ap (λ (r : TakenValue ℕ). r >>= rest owner written) c
    ∙ ap (λ (o : Option ℕ). ok_or o NoTtl >>= λ ttl. take_rdata ctx.origin e.whole rtype third >>= with_data e owner rtype ttl written) d

not_ended : {A : Type 0} (e : FileEntry) (words : List Word) (x : A) → ended_at e.whole words ≡ false → ended e words x ≡ Err Syntax
not_ended e [] x h = ap (λ (b : Bool). value_only_if b x) h
not_ended e (w ∷ rest) x h = refl

-- the data is refused, or something is left after it
pub data_refused : (ctx : Context) (e : FileEntry) (third : List Word) (all : ReadResult Said) (owner : Labels) (written : Option ℕ) (rtype ttl : ℕ) (fault : FileError) → all ≡ (take_rdata ctx.origin e.whole rtype third >>= with_data e owner rtype ttl written) → take_rdata ctx.origin e.whole rtype third ≡ Err fault → all ≡ Err fault
data_refused ctx e third all owner written rtype ttl fault h no_data = h ∙ ap (λ (r : TakenValue (List ℕ)). r >>= with_data e owner rtype ttl written) no_data

pub data_left : (ctx : Context) (e : FileEntry) (third fourth : List Word) (all : ReadResult Said) (owner : Labels) (written : Option ℕ) (rtype ttl : ℕ) (octets : List ℕ) (fault : FileError) → all ≡ (take_rdata ctx.origin e.whole rtype third >>= with_data e owner rtype ttl written) → take_rdata ctx.origin e.whole rtype third ≡ Ok (octets, fourth) → ended_at e.whole fourth ≡ false → fault ≡ Syntax → all ≡ Err fault
data_left ctx e third fourth all owner written rtype ttl octets fault h read left syntax =
    h ∙ ap (λ (r : TakenValue (List ℕ)). r >>= with_data e owner rtype ttl written) read
    ∙ not_ended e fourth (Item (record { owner = owner; rtype = rtype; ttl = ttl; rdata = octets }) written) left
    ∙ ap (λ (f : FileError). Err f) (sym syntax)

before_twice : (a b : List Record) (r : Result (List Record) (ℕ × FileError)) → with_records_before a (with_records_before b r) ≡ with_records_before (a ++ b) r
before_twice a b (Ok more) = ap (λ (records : List Record). Ok records) (sym (append_assoc a b more))
before_twice a b (Err fault) = refl

-- one more entry
pub one_more : (all : Result (List Record) (ℕ × FileError)) (records more : List Record) (ctx next : Context) (e : FileEntry) (behind rest : List FileEntry) (said : Said) → all ≡ with_records_before records (read_entries ctx (e ∷ behind)) → said_by ctx e e.words ≡ Ok said → next ≡ after ctx said → more ≡ records ++ records_in said → behind ≡ rest → all ≡ with_records_before more (read_entries next rest)
one_more all records more ctx next e behind rest said h says c r same =
    h ∙ ap (λ (o : ReadResult Said). with_records_before records (on_line e.line o >>= λ said. with_records_before (records_in said) (read_entries (after ctx said) behind))) says
    ∙ before_twice records (records_in said) (read_entries (after ctx said) behind)
    ∙ ap (λ (xs : List Record). with_records_before xs (read_entries (after ctx said) behind)) (sym r)
    ∙ ap (λ (k : Context). with_records_before more (read_entries k behind)) (sym c)
    ∙ ap (λ (es : List FileEntry). with_records_before more (read_entries next es)) same

bind_same : {A : Type 0} (r : ReadResult A) (f g : A → ReadResult Said) → ((x : A) → f x ≡ g x) → (r >>= f) ≡ (r >>= g)
bind_same (Ok x) f g h = h x
bind_same (Err e) f g h = refl

ended_same : {A : Type 0} (e f : FileEntry) (words : List Word) (x : A) → e.whole ≡ f.whole → ended e words x ≡ ended f words x
ended_same e f [] x h = ap (λ (b : Bool). value_only_if b x) h
ended_same e f (w ∷ rest) x h = refl

directive_same : (a b : Bool) (ctx : Context) (e f : FileEntry) (rest : List Word) → e.whole ≡ f.whole → which_directive a b ctx e rest ≡ which_directive a b ctx f rest
directive_same true b ctx e f rest h = bind_same (take_name ctx.origin rest) (λ name. ended e name.1 (Origin name.0)) (λ name. ended f name.1 (Origin name.0)) (λ name. ended_same e f name.1 (Origin name.0) h)
directive_same false true ctx e f rest h = bind_same (take_number rest) (λ ttl. ended e ttl.1 (Default ttl.0)) (λ ttl. ended f ttl.1 (Default ttl.0)) (λ ttl. ended_same e f ttl.1 (Default ttl.0) h)
directive_same false false ctx e f rest h = refl

-- an entry that begins with a directive's word
pub directive_said : (ctx : Context) (e f : FileEntry) (w : Word) (words rest : List Word) → words ≡ w ∷ rest → begins_with_dollar w ≡ true → e.whole ≡ f.whole → said_by ctx e words ≡ directive_in ctx f w rest
directive_said ctx e f w words rest at dollar h =
    ap (said_by ctx e) at ∙ ap (λ (b : Bool). directive_or_item b ctx e w rest) dollar
    ∙ directive_same (is_keyword (codes "$ORIGIN") w) (is_keyword (codes "$TTL") w) ctx e f rest h
