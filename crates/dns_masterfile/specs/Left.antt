-- What is left of a file after the words read so far.
use Rattle.std.specs.Prelude.{ℕ, suc, Bool, true, false, not, List, [], ◌∷◌}
use Rattle.dns_masterfile.specs.Pieces.{Word, Piece, Gap, Comment, LineEnd, Open, Close, Text, Fault}
use Rattle.dns_masterfile.specs.Entries.{FileEntry, begun, entries_from}

pub record Left : Type 0 where
  -- of the entry that is being read
  pub words : List Word
  -- no fault follows them
  pub whole : Bool
  -- the entries after it
  pub behind : List FileEntry

abbrev pub no_words : Bool → List FileEntry → Left
no_words whole behind = record { words = []; whole = whole; behind = behind }

abbrev pub word_before : Word → Left → Left
word_before w left = record left { words = w ∷ left.words }

-- Pieces, in parentheses or not, from some line on: a line end ends an entry except within parentheses, which
-- do not nest.
abbrev pub left_from : Bool → ℕ → List Piece → Left
left_from inside line [] = no_words (not inside) []
left_from inside line (LineEnd ∷ ps) = elim inside [
  | true ↦ left_from true (suc line) ps
  | false ↦ no_words true (entries_from false (begun (suc line) ps) (suc line) ps)
]
left_from inside line (Open ∷ ps) = elim inside [ true ↦ no_words false [] | false ↦ left_from true line ps ]
left_from inside line (Close ∷ ps) =
    elim inside [ true ↦ left_from false line ps | false ↦ no_words false [] ]
left_from inside line (Text w ∷ ps) = word_before w (left_from inside line ps)
left_from inside line (Gap ∷ ps) = left_from inside line ps
left_from inside line (Comment ∷ ps) = left_from inside line ps
left_from inside line (Fault ∷ ps) = no_words false []

-- The entry that begins so, and has what is left.
abbrev pub entry_at : ℕ → Bool → Left → FileEntry
entry_at line blank left = record { line = line; blank = blank; words = left.words; whole = left.whole }
