-- Records in print mean the records, whatever the origin.
use Rattle.std.proofs.Common.{◌≡◌, ℕ, suc, ◌^◌, inl, inr, Bool, true, false, List, [], ◌∷◌, ◌++◌, map, decimal, Some, Ok, refl, sym, ap, subst, ◌∙◌, arith, append_assoc, append-nil}
use Rattle.std.specs.Prelude.{cond, filter, flat_map, codes}
use Rattle.std.specs.List.{AllByRecursion}
use Rattle.std.proofs.lemmas.List.Concat.{flat_map-append}
use Rattle.dns_names.specs.Name.{Labels}
use Rattle.dns_names.specs.Text.{printed_name}
use Rattle.dns_names.proofs.ReadsBack.{name_reads_back}
use Rattle.dns_records.specs.Record.{Record, IsRecord}
use Rattle.dns_masterfile.specs.Pieces.{Word, Bare, Quoted, Piece, Gap, LineEnd, Text, EndsWord, ArePieces}
use Rattle.dns_masterfile.specs.Entries.{FileEntry, begun, entries_from}
use Rattle.dns_masterfile.specs.Meaning.{Context, at_start, Nothing, Item, after, IsItem, Says, Mean, FileMeans}
use Rattle.dns_masterfile.specs.Reading.{read_file}
use Rattle.dns_masterfile.specs.Printed.{rdata_words, spaced, printed_record, is_wanted, in_print_order, printed_zone}
use Rattle.dns_masterfile.proofs.Agree.{means_is_read}
use Rattle.dns_masterfile.proofs.Written.{written, IsWritten, name_written, name_no_dollar, number_written}
use Rattle.dns_masterfile.proofs.StringsBack.{number_reads_back}
use Rattle.dns_masterfile.proofs.DataText.{all_append, TypeText, type_text, RDataText, rdata_text}

-- Words after a first one, as pieces.
abbrev spaced_pieces : List Word → List Piece
spaced_pieces [] = []
spaced_pieces (w ∷ ws) = Gap ∷ Text w ∷ spaced_pieces ws

abbrev rest_of_line : List Word → List ℕ → List ℕ
rest_of_line ws behind = spaced (map written ws) ++ 10 ∷ behind

word_ends : (ws : List Word) (behind : List ℕ) → EndsWord (rest_of_line ws behind)
word_ends [] behind = ((λ e. absurd cc), (λ e. absurd cc))
word_ends (w ∷ ws) behind = ((λ e. absurd cc), (λ e. absurd cc))

word_are : (w : Word) (ws : List Word) (ps : List Piece) (behind : List ℕ) → IsWritten w → ArePieces ps (rest_of_line ws behind) → ArePieces (Text w ∷ ps) ((written w ++ spaced (map written ws)) ++ 10 ∷ behind)
word_are (Bare text) ws ps behind h others = (text, rest_of_line ws behind, append_assoc text (spaced (map written ws)) (10 ∷ behind), (refl, h.0), inl (h.1, word_ends ws behind), others)
word_are (Quoted text) ws ps behind h others = (34 ∷ text ++ 34 ∷ [], rest_of_line ws behind, append_assoc (34 ∷ text ++ 34 ∷ []) (spaced (map written ws)) (10 ∷ behind), (refl, h), tt, others)

words_are : (ws : List Word) (ps : List Piece) (behind : List ℕ) → AllByRecursion IsWritten ws → ArePieces ps behind → ArePieces (spaced_pieces ws ++ LineEnd ∷ ps) (rest_of_line ws behind)
words_are [] ps behind h others = (10 ∷ [], behind, refl, inl refl, tt, others)
words_are (w ∷ ws) ps behind h others =
    (32 ∷ [], (written w ++ spaced (map written ws)) ++ 10 ∷ behind, refl, inr refl, tt, word_are w ws (spaced_pieces ws ++ LineEnd ∷ ps) behind h.0 (words_are ws ps behind h.1 others))

-- The entry of words.
abbrev entry_with : FileEntry → List Word → FileEntry
entry_with e words = record e { words = e.words ++ words }

words_in : (ws : List Word) (e : FileEntry) (line : ℕ) (ps : List Piece) → entries_from false e line (spaced_pieces ws ++ LineEnd ∷ ps) ≡ entry_with e ws ∷ entries_from false (begun (suc line) ps) (suc line) ps
words_in [] e line ps = ap (λ (words : List Word). (record e { words = words }) ∷ entries_from false (begun (suc line) ps) (suc line) ps) (sym (append-nil e.words))
words_in (w ∷ ws) e line ps =
    words_in ws (entry_with e (w ∷ [])) line ps
    ∙ ap (λ (words : List Word). (record e { words = words }) ∷ entries_from false (begun (suc line) ps) (suc line) ps) (append_assoc e.words (w ∷ []) ws)

abbrev line_entry : ℕ → List Word → FileEntry
line_entry line words = record { line = line; blank = false; words = words; whole = true }

-- A record's line: its words after the owner, which say the record.
record RecordText (r : Record) : Type 0 where
  words : List Word
  text : printed_record r ≡ (printed_name r.owner ++ spaced (map written words)) ++ 10 ∷ []
  owner : IsWritten (Bare (printed_name r.owner))
  each : AllByRecursion IsWritten words
  says : (ctx : Context) (line : ℕ) → Says ctx (line_entry line (Bare (printed_name r.owner) ∷ words)) (Item r (Some r.ttl))

in_word : IsWritten (Bare (codes "IN"))
in_word = (omega arith, (codes "I" ∷ codes "N" ∷ [], refl, ((73, inl (refl, refl)), ((78, inl (refl, refl)), tt))))

abbrev words_of : Record → List ℕ → List Word → List Word
words_of r type_text more = Bare (decimal r.ttl) ∷ Bare (codes "IN") ∷ Bare type_text ∷ more

line_text : (owner : List ℕ) (texts more : List (List ℕ)) (end : List ℕ) → ((owner ++ spaced texts) ++ spaced more) ++ end ≡ (owner ++ spaced (texts ++ more)) ++ end
line_text owner texts more end =
    ap (λ (x : List ℕ). x ++ end) (append_assoc owner (spaced texts) (spaced more) ∙ ap (λ (x : List ℕ). owner ++ x) (sym (flat_map-append (λ (word : List ℕ). 32 ∷ word) texts more)))

item_of : (r : Record) → IsRecord r → (t : TypeText r.rtype) (d : RDataText r.rtype r.rdata) (ctx : Context) → IsItem ctx false (Bare (printed_name r.owner) ∷ words_of r t.text d.words) r (Some r.ttl)
item_of r h t d ctx = record {
  front = Bare (printed_name r.owner) ∷ [];
  middle = Bare (decimal r.ttl) ∷ Bare (codes "IN") ∷ [];
  type_word = Bare t.text;
  data_words = d.words;
  parts = refl;
  owner = (Bare (printed_name r.owner), refl, name_no_dollar r.owner h.owner, name_reads_back ctx.origin r.owner h.owner);
  ttl_written = inl (number_reads_back (2 ^ 32) r.ttl h.ttl (omega (arith, h.ttl)), refl);
  ttl = refl;
  rtype = t.read;
  rdata = d.means ctx.origin;
}

abbrev three_texts : Record → List ℕ → List (List ℕ)
three_texts r type_text = decimal r.ttl ∷ codes "IN" ∷ type_text ∷ []

text_is : (r : Record) (t : TypeText r.rtype) (d : RDataText r.rtype r.rdata) → printed_record r ≡ (printed_name r.owner ++ spaced (map written (words_of r t.text d.words))) ++ 10 ∷ []
text_is r t d =
    ap (λ (x : List ℕ). ((printed_name r.owner ++ spaced (three_texts r x)) ++ spaced (rdata_words r.rtype r.rdata)) ++ 10 ∷ []) t.word
    ∙ ap (λ (texts : List (List ℕ)). ((printed_name r.owner ++ spaced (three_texts r t.text)) ++ spaced texts) ++ 10 ∷ []) (sym d.texts)
    ∙ line_text (printed_name r.owner) (three_texts r t.text) (map written d.words) (10 ∷ [])

made : (r : Record) → IsRecord r → (t : TypeText r.rtype) → RDataText r.rtype r.rdata → RecordText r
made r h t d = record {
  words = words_of r t.text d.words;
  text = text_is r t d;
  owner = name_written r.owner h.owner;
  each = (number_written r.ttl (omega (arith, h.ttl)), (in_word, (t.written, d.each)));
  says = λ ctx line. item_of r h t d ctx;
}

record_text : (r : Record) → IsRecord r → RecordText r
record_text r h = made r h (type_text r.rtype h.rtype) (rdata_text r.rtype r.rdata h.octets h.short h.rdata)

-- The lines of records, whatever the context and the line on which they begin.
record FileText (records : List Record) : Type 0 where
  pieces : List Piece
  are : ArePieces pieces (flat_map printed_record records)
  mean : (ctx : Context) (line : ℕ) → Mean ctx (entries_from false (begun line pieces) line pieces) records

line_before : (r : Record) (rest : List Record) → RecordText r → FileText rest → FileText (r ∷ rest)
line_before r rest here inner =
    let owner : Word = Bare (printed_name r.owner) in
    let behind : List ℕ = flat_map printed_record rest in
    let pieces : List Piece = Text owner ∷ (spaced_pieces here.words ++ LineEnd ∷ inner.pieces) in
    let line_is : printed_record r ++ behind ≡ (printed_name r.owner ++ spaced (map written here.words)) ++ 10 ∷ behind =
    ap (λ (x : List ℕ). x ++ behind) here.text ∙ append_assoc (printed_name r.owner ++ spaced (map written here.words)) (10 ∷ []) behind in
    let are = word_are owner here.words (spaced_pieces here.words ++ LineEnd ∷ inner.pieces) behind here.owner (words_are here.words inner.pieces behind here.each inner.are) in
    record {
      pieces = pieces;
      are = subst (ArePieces pieces) (sym line_is) are;
      mean = λ ctx line.
          subst (λ (entries : List FileEntry). Mean ctx entries (r ∷ rest)) (sym (words_in here.words (line_entry line (owner ∷ [])) line inner.pieces))
          (Item r (Some r.ttl), rest, refl, here.says ctx line, refl, inner.mean (after ctx (Item r (Some r.ttl))) (suc line));
    }

file_text : (records : List Record) → AllByRecursion IsRecord records → FileText records
file_text [] h = record { pieces = []; are = refl; mean = λ ctx line. (Nothing, [], refl, refl, refl, refl) }
file_text (r ∷ rest) h = line_before r rest (record_text r h.0) (file_text rest h.1)

filter_step : (b : Bool) (r : Record) (rest : List Record) → IsRecord r → AllByRecursion IsRecord rest → AllByRecursion IsRecord (cond b (r ∷ rest) rest)
filter_step true r rest h k = (h, k)
filter_step false r rest h k = k

filtered : (test : Record → Bool) (records : List Record) → AllByRecursion IsRecord records → AllByRecursion IsRecord (filter test records)
filtered test [] h = tt
filtered test (r ∷ rest) h = filter_step (test r) r (filter test rest) h.0 (filtered test rest h.1)

-- what is printed of records means them in the order of print, whatever the origin
pub print_means : (records : List Record) → AllByRecursion IsRecord records → (origin : Labels) → FileMeans (printed_zone records) origin (in_print_order records)
print_means records h origin =
    let all = all_append IsRecord (filter (is_wanted true) records) (filter (is_wanted false) records) (filtered (is_wanted true) records h) (filtered (is_wanted false) records h) in
    let file = file_text (in_print_order records) all in
    (file.pieces, file.are, file.mean (at_start origin) 1)

pub print_reads : (records : List Record) → AllByRecursion IsRecord records → (origin : Labels) → read_file (printed_zone records) origin ≡ Ok (in_print_order records)
print_reads records h origin = means_is_read (printed_zone records) origin (in_print_order records) (print_means records h origin)
