-- Entries by what is left of them, and how an entry begins.
use Rattle.std.proofs.Common.{◌≡◌, ℕ, suc, ◌+◌, Bool, true, false, List, [], ◌∷◌, ◌++◌, refl, sym, ap, ◌∙◌, arith, append-nil, append_assoc}
use Rattle.std.specs.Prelude.{not}
use Rattle.dns_masterfile.specs.Pieces.{Word, Piece, Gap, Comment, LineEnd, Open, Close, Text, Fault}
use Rattle.dns_masterfile.specs.Entries.{FileEntry, begun, entries_from}
use Rattle.dns_masterfile.specs.Left.{Left, no_words, entry_at, left_from}

abbrev pub with_left : FileEntry → Left → List FileEntry
with_left e left = record e { words = e.words ++ left.words; whole = left.whole } ∷ left.behind

stopped : (e : FileEntry) (whole : Bool) (behind : List FileEntry) → record e { whole = whole } ∷ behind ≡ with_left e (no_words whole behind)
stopped e whole behind = ap (λ (words : List Word). record e { words = words; whole = whole } ∷ behind) (sym (append-nil e.words))

pub entries_left : (inside : Bool) (e : FileEntry) (line : ℕ) (ps : List Piece) → e.whole ≡ true → entries_from inside e line ps ≡ with_left e (left_from inside line ps)
entries_left inside e line [] h = stopped e (not inside) []
entries_left true e line (LineEnd ∷ ps) h = entries_left true e (suc line) ps h
entries_left false e line (LineEnd ∷ ps) h =
    let behind = entries_from false (begun (suc line) ps) (suc line) ps in
    ap (λ (b : Bool). record e { whole = b } ∷ behind) h ∙ stopped e true behind
entries_left true e line (Open ∷ ps) h = stopped e false []
entries_left false e line (Open ∷ ps) h = entries_left true e line ps h
entries_left true e line (Close ∷ ps) h = entries_left false e line ps h
entries_left false e line (Close ∷ ps) h = stopped e false []
entries_left inside e line (Text w ∷ ps) h =
    let left = left_from inside line ps in
    entries_left inside (record e { words = e.words ++ w ∷ [] }) line ps h
    ∙ ap (λ (words : List Word). record e { words = words; whole = left.whole } ∷ left.behind) (append_assoc e.words (w ∷ []) left.words)
entries_left inside e line (Gap ∷ ps) h = entries_left inside e line ps h
entries_left inside e line (Comment ∷ ps) h = entries_left inside e line ps h
entries_left inside e line (Fault ∷ ps) h = stopped e false []

-- the entries of pieces, by how the first begins
pub entries_begun : (line : ℕ) (blank : Bool) (ps : List Piece) → begun line ps ≡ record { line = line; blank = blank; words = []; whole = true } → entries_from false (begun line ps) line ps ≡ with_left (record { line = line; blank = blank; words = []; whole = true }) (left_from false line ps)
entries_begun line blank ps h =
    ap (λ (e : FileEntry). entries_from false e line ps) h
    ∙ entries_left false (record { line = line; blank = blank; words = []; whole = true }) line ps refl

-- a line end outside parentheses, after which an entry begins so
abbrev at_next : Bool → ℕ → ℕ → Bool → List Piece → Left
at_next inside line start blank ps = let left = left_from inside line ps in no_words true (entry_at start blank left ∷ left.behind)

next_line : (line next : ℕ) (blank : Bool) (ps : List Piece) → suc line ≡ next → begun next ps ≡ record { line = next; blank = blank; words = []; whole = true } → left_from false line (LineEnd ∷ ps) ≡ at_next false next next blank ps
next_line line next blank ps e h =
    ap (λ (n : ℕ). no_words true (entries_from false (begun n ps) n ps)) e ∙ ap (no_words true) (entries_begun next blank ps h)

pub next_entry : (inside : Bool) (line start : ℕ) (blank : Bool) (all ps : List Piece) → inside ≡ false → all ≡ LineEnd ∷ ps → start ≡ line + 1 → begun (line + 1) ps ≡ record { line = line + 1; blank = blank; words = []; whole = true } → left_from inside line all ≡ at_next inside (line + 1) start blank ps
next_entry inside line start blank all ps outside e s h =
    ap (λ (b : Bool). left_from b line all) outside
    ∙ ap (left_from false line) e
    ∙ next_line line (line + 1) blank ps (omega arith) h
    ∙ ap (λ (n : ℕ). at_next false (line + 1) n blank ps) (sym s)
    ∙ ap (λ (b : Bool). at_next b (line + 1) start blank ps) (sym outside)
