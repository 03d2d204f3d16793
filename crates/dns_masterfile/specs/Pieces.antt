-- A file as its pieces: words, comments, parentheses and line ends (RFC 1035 5.1).
use Rattle.std.specs.Prelude.{◌≡◌, ℕ, ◌<◌, ◌⊎◌, ⊤, List, [], ◌∷◌, ◌++◌, length}
use Rattle.std.specs.List.{AllByRecursion, concat}
use Rattle.dns_masterfile.specs.declared.kind.Kind.{Kind}
use Rattle.dns_masterfile.specs.declared.kind.Kind.TheVariants.{LineFeed, Return, Control, Blank, Semicolon}
use Rattle.dns_masterfile.specs.declared.kind.Kind.TheVariants.{Quote, Opening, Closing, Backslash, Plain}
use Rattle.dns_masterfile.specs.Kinds.{kind}

-- A word as it is written, `\` and what follows it included, and without its quotes.
pub data Word : Type 0 where
  Bare : List ℕ → Word
  Quoted : List ℕ → Word

abbrev pub text_of : Word → List ℕ
text_of (Bare text) = text
text_of (Quoted text) = text

pub data Piece : Type 0 where
  -- a blank or a tab
  Gap : Piece
  Comment : Piece
  LineEnd : Piece
  Open : Piece
  Close : Piece
  Text : Word → Piece
  -- what is here is no piece
  Fault : Piece

-- The octet may occur in a comment, and after a `\`.
abbrev pub IsVisible : Kind → Type 0
IsVisible LineFeed = ⊥
IsVisible Return = ⊥
IsVisible Control = ⊥
IsVisible _ = ⊤

-- The octet stands for itself in quotes.
abbrev pub IsQuotable : Kind → Type 0
IsQuotable Quote = ⊥
IsQuotable Backslash = ⊥
IsQuotable k = IsVisible k

-- One octet, or `\` and one octet.
abbrev pub IsUnit : (Kind → Type 0) → List ℕ → Type 0
IsUnit Stands unit =
    (c : ℕ) × (((unit ≡ c ∷ []) × Stands (kind c)) ⊎ ((unit ≡ 92 ∷ c ∷ []) × IsVisible (kind c)))

abbrev pub IsWord : (Kind → Type 0) → List ℕ → Type 0
IsWord Stands text = (units : List (List ℕ)) × (text ≡ concat units) × AllByRecursion (IsUnit Stands) units

-- The octets are the piece.
abbrev pub IsPiece : Piece → List ℕ → Type 0
IsPiece Gap octets = (octets ≡ 9 ∷ []) ⊎ (octets ≡ 32 ∷ [])
IsPiece Comment octets =
    (text : List ℕ) × (octets ≡ 59 ∷ text) × AllByRecursion (λ c. IsVisible (kind c)) text
IsPiece LineEnd octets = (octets ≡ 10 ∷ []) ⊎ (octets ≡ 13 ∷ 10 ∷ [])
IsPiece Open octets = octets ≡ 40 ∷ []
IsPiece Close octets = octets ≡ 41 ∷ []
IsPiece (Text (Quoted text)) octets = (octets ≡ 34 ∷ text ++ 34 ∷ []) × IsWord IsQuotable text
IsPiece (Text (Bare text)) octets = (octets ≡ text) × (0 < length text)
IsPiece Fault octets = ⊥

-- Where a line ends, and with it a comment, and where a bare word does.
abbrev pub EndsLine : List ℕ → Type 0
EndsLine [] = ⊤
EndsLine (c ∷ rest) = (kind c ≡ LineFeed) ⊎ (kind c ≡ Return)

abbrev pub EndsWord : List ℕ → Type 0
EndsWord [] = ⊤
EndsWord (c ∷ rest) = ¬ (kind c ≡ Plain) × ¬ (kind c ≡ Backslash)

-- The text is a bare word before the rest. A `\` before a line's end belongs to the word, by itself.
abbrev pub IsBareWord : List ℕ → List ℕ → Type 0
IsBareWord text rest =
    (IsWord (λ k. k ≡ Plain) text × EndsWord rest)
    ⊎ ((front : List ℕ) × (text ≡ front ++ 92 ∷ []) × IsWord (λ k. k ≡ Plain) front × EndsLine rest)

-- The piece goes on as far as it can. What a bare word is depends on what ends it.
abbrev pub IsWholePiece : Piece → List ℕ → Type 0
IsWholePiece Comment rest = EndsLine rest
IsWholePiece (Text (Bare text)) rest = IsBareWord text rest
IsWholePiece _ rest = ⊤

-- The octets are the pieces, one after the other.
abbrev pub ArePieces : List Piece → List ℕ → Type 0
ArePieces [] octets = octets ≡ []
ArePieces (p ∷ ps) octets =
    (front rest : List ℕ) × (octets ≡ front ++ rest) × IsPiece p front × IsWholePiece p rest
    × ArePieces ps rest

-- The same computed, from left to right. A file that has no pieces has those before the fault.
pub data PiecesWithin : Type 0 where
  Between : PiecesWithin
  AfterReturn : PiecesWithin
  InComment : PiecesWithin
  InWord : PiecesWithin
  BehindEscape : PiecesWithin
  InQuotes : PiecesWithin
  BehindQuotedEscape : PiecesWithin

abbrev pub bare_end : Piece
bare_end = Text (Bare [])

abbrev pub quoted_end : Piece
quoted_end = Text (Quoted [])

-- the word with an octet before it
abbrev pub grown : ℕ → List Piece → List Piece
grown c (Text (Bare text) ∷ ps) = Text (Bare (c ∷ text)) ∷ ps
grown c (Text (Quoted text) ∷ ps) = Text (Quoted (c ∷ text)) ∷ ps
grown c ps = ps

abbrev pub between : ℕ → Kind → (PiecesWithin → List Piece) → List Piece
between c LineFeed next = LineEnd ∷ next Between
between c Return next = next AfterReturn
between c Control next = Fault ∷ []
between c Blank next = Gap ∷ next Between
between c Semicolon next = Comment ∷ next InComment
between c Quote next = next InQuotes
between c Opening next = Open ∷ next Between
between c Closing next = Close ∷ next Between
between c Backslash next = grown c (next BehindEscape)
between c Plain next = grown c (next InWord)

-- a fault within a word replaces the word
abbrev pub after_word : List Piece → List Piece
after_word (Fault ∷ ps) = Fault ∷ ps
after_word ps = bare_end ∷ ps

abbrev pub in_word : ℕ → Kind → (PiecesWithin → List Piece) → List Piece
in_word c Return next = after_word (next AfterReturn)
in_word c Control next = Fault ∷ []
in_word c Backslash next = grown c (next BehindEscape)
in_word c Plain next = grown c (next InWord)
in_word c k next = bare_end ∷ between c k next

abbrev pub behind_escape : ℕ → Kind → (PiecesWithin → List Piece) → List Piece
behind_escape c LineFeed next = in_word c LineFeed next
behind_escape c Return next = in_word c Return next
behind_escape c Control next = Fault ∷ []
behind_escape c k next = grown c (next InWord)

abbrev pub behind_quoted_escape : ℕ → Kind → (PiecesWithin → List Piece) → List Piece
behind_quoted_escape c LineFeed next = Fault ∷ []
behind_quoted_escape c Return next = Fault ∷ []
behind_quoted_escape c Control next = Fault ∷ []
behind_quoted_escape c k next = grown c (next InQuotes)

abbrev pub in_quotes : ℕ → Kind → (PiecesWithin → List Piece) → List Piece
in_quotes c Quote next = quoted_end ∷ next Between
in_quotes c Backslash next = grown c (next BehindQuotedEscape)
in_quotes c k next = behind_quoted_escape c k next

abbrev pub in_comment : Kind → (PiecesWithin → List Piece) → List Piece
in_comment LineFeed next = LineEnd ∷ next Between
in_comment Return next = next AfterReturn
in_comment Control next = Fault ∷ []
in_comment k next = next InComment

abbrev pub after_return : Kind → (PiecesWithin → List Piece) → List Piece
after_return LineFeed next = LineEnd ∷ next Between
after_return k next = Fault ∷ []

abbrev pub pieces_from : PiecesWithin → List ℕ → List Piece
pieces_from Between [] = []
pieces_from AfterReturn [] = Fault ∷ []
pieces_from InComment [] = []
pieces_from InWord [] = bare_end ∷ []
pieces_from BehindEscape [] = bare_end ∷ []
pieces_from InQuotes [] = Fault ∷ []
pieces_from BehindQuotedEscape [] = Fault ∷ []
pieces_from Between (c ∷ rest) = between c (kind c) (λ within. pieces_from within rest)
pieces_from AfterReturn (c ∷ rest) = after_return (kind c) (λ within. pieces_from within rest)
pieces_from InComment (c ∷ rest) = in_comment (kind c) (λ within. pieces_from within rest)
pieces_from InWord (c ∷ rest) = in_word c (kind c) (λ within. pieces_from within rest)
pieces_from BehindEscape (c ∷ rest) = behind_escape c (kind c) (λ within. pieces_from within rest)
pieces_from InQuotes (c ∷ rest) = in_quotes c (kind c) (λ within. pieces_from within rest)
pieces_from BehindQuotedEscape (c ∷ rest) =
    behind_quoted_escape c (kind c) (λ within. pieces_from within rest)

abbrev pub pieces_of : List ℕ → List Piece
pieces_of octets = pieces_from Between octets
