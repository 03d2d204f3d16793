-- Bare words, quoted strings and comments, by what is next in them.
use Rattle.std.specs.Prelude.{◌≡◌, ℕ, ◌<◌, ◌≤◌, Option, Some, None, List, [], ◌∷◌, length, take, drop}
use Rattle.dns_masterfile.specs.declared.kind.Kind.{Kind}
use Rattle.dns_masterfile.specs.declared.kind.Kind.TheVariants.{LineFeed, Return, Control}
use Rattle.dns_masterfile.specs.declared.words.Step.{Step}
use Rattle.dns_masterfile.specs.declared.words.Step.TheVariants.{Take, End, Stop}
use Rattle.dns_masterfile.specs.Pieces.{Piece, InWord, InQuotes, BehindEscape, Fault, grown, bare_end}
use Rattle.dns_masterfile.specs.Pieces.{quoted_end, pieces_from, pieces_of}

-- the word at the front with octets before it
abbrev pub grown_by : List ℕ → List Piece → List Piece
grown_by [] ps = ps
grown_by (c ∷ cs) ps = grown c (grown_by cs ps)

-- What the step makes of the pieces from here on.
abbrev pub IsWordStep : List ℕ → Step → Type 0
IsWordStep rest (Take n) =
    (0 < n) × (n ≤ length rest)
    × (pieces_from InWord rest ≡ grown_by (take n rest) (pieces_from InWord (drop n rest)))
IsWordStep rest End = pieces_from InWord rest ≡ bare_end ∷ pieces_of rest
IsWordStep rest Stop = pieces_from InWord rest ≡ Fault ∷ []

-- how many octets after a `\` belong to it in a bare word, by the kind of the first, or none where that is a
-- fault
abbrev pub escape_takes : Kind → Option ℕ
escape_takes LineFeed = Some 0
escape_takes Return = Some 0
escape_takes Control = None
escape_takes _ = Some 1

-- After a `\` in a bare word: so many octets belong to it, or a fault occurs here.
abbrev pub IsEscape : List ℕ → Option ℕ → Type 0
IsEscape rest None = pieces_from BehindEscape rest ≡ Fault ∷ []
IsEscape rest (Some n) =
    (n ≤ length rest)
    × (pieces_from BehindEscape rest ≡ grown_by (take n rest) (pieces_from InWord (drop n rest)))

-- The same in a quoted string.
abbrev pub IsQuotedStep : List ℕ → Step → Type 0
IsQuotedStep rest (Take n) =
    (0 < n) × (n ≤ length rest)
    × (pieces_from InQuotes rest ≡ grown_by (take n rest) (pieces_from InQuotes (drop n rest)))
IsQuotedStep rest End = (0 < length rest) × (pieces_from InQuotes rest ≡ quoted_end ∷ pieces_of (drop 1 rest))
IsQuotedStep rest Stop = pieces_from InQuotes rest ≡ Fault ∷ []
