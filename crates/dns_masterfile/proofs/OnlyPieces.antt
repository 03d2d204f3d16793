-- Octets have no pieces but those that are computed.
use Rattle.std.proofs.Common.{◌≡◌, ℕ, ◌<◌, ◌⊎◌, inl, inr, List, [], ◌∷◌, ◌++◌, length, refl, sym, ap, ◌∙◌, arith, append_assoc}
use Rattle.std.specs.Prelude.{⊤}
use Rattle.std.specs.List.{AllByRecursion, concat}
use Rattle.std.proofs.lemmas.List.{append-nil}
use Rattle.dns_masterfile.specs.declared.kind.Kind.{Kind}
use Rattle.dns_masterfile.specs.declared.kind.Kind.TheVariants.{LineFeed, Return, Control, Quote, Backslash, Plain}
use Rattle.dns_masterfile.specs.Kinds.{kind}
use Rattle.dns_masterfile.specs.Pieces.{Bare, Quoted, Piece, Gap, Comment, LineEnd, Open, Close, Text, Fault, IsVisible, IsQuotable, IsUnit, IsPiece, EndsLine, EndsWord, IsBareWord, IsWholePiece, ArePieces, PiecesWithin, AfterReturn, InComment, InWord, BehindEscape, InQuotes, bare_end, grown, between, after_word, in_word, behind_escape, behind_quoted_escape, in_quotes, in_comment, pieces_from, pieces_of}
use Rattle.dns_masterfile.specs.Steps.{grown_by}
use Rattle.dns_masterfile.proofs.Scanning.{grown_bare, grown_quoted, grown_more}

-- No fault is among them.
abbrev pub NoFault : List Piece → Type 0
NoFault [] = ⊤
NoFault (Fault ∷ ps) = ⊥
NoFault (p ∷ ps) = NoFault ps

visible_comment : (k : Kind) (next : PiecesWithin → List Piece) → IsVisible k → in_comment k next ≡ next InComment
visible_comment LineFeed next h = absurd h
visible_comment Return next h = absurd h
visible_comment Control next h = absurd h
visible_comment _ next h = refl

line_comment : (k : Kind) (c : ℕ) (next : PiecesWithin → List Piece) → (k ≡ LineFeed) ⊎ (k ≡ Return) → in_comment k next ≡ between c k next
line_comment k c next (inl e) = rw e refl
line_comment k c next (inr e) = rw e refl

comment_ends : (rest : List ℕ) → EndsLine rest → pieces_from InComment rest ≡ pieces_of rest
comment_ends [] h = refl
comment_ends (c ∷ rest) h = line_comment (kind c) c (λ w. pieces_from w rest) h

-- a comment is read to its end
comment_read : (text rest : List ℕ) → AllByRecursion (λ c. IsVisible (kind c)) text → EndsLine rest → pieces_from InComment (text ++ rest) ≡ pieces_of rest
comment_read [] rest visible ends = comment_ends rest ends
comment_read (c ∷ cs) rest visible ends = visible_comment (kind c) (λ w. pieces_from w (cs ++ rest)) visible.0 ∙ comment_read cs rest visible.1 ends

-- what is after a `\`
visible_escape : (k : Kind) (c : ℕ) (next : PiecesWithin → List Piece) → IsVisible k → behind_escape c k next ≡ grown c (next InWord)
visible_escape LineFeed c next h = absurd h
visible_escape Return c next h = absurd h
visible_escape Control c next h = absurd h
visible_escape _ c next h = refl

quoted_escape : (k : Kind) (c : ℕ) (next : PiecesWithin → List Piece) → IsVisible k → behind_quoted_escape c k next ≡ grown c (next InQuotes)
quoted_escape LineFeed c next h = absurd h
quoted_escape Return c next h = absurd h
quoted_escape Control c next h = absurd h
quoted_escape _ c next h = refl

quotable : (k : Kind) (c : ℕ) (next : PiecesWithin → List Piece) → IsQuotable k → in_quotes c k next ≡ grown c (next InQuotes)
quotable LineFeed c next h = absurd h
quotable Return c next h = absurd h
quotable Control c next h = absurd h
quotable Quote c next h = absurd h
quotable Backslash c next h = absurd h
quotable _ c next h = refl

abbrev pub IsPlain : Kind → Type 0
IsPlain k = k ≡ Plain

plain_read : (k : Kind) (c : ℕ) (next : PiecesWithin → List Piece) → k ≡ Plain → in_word c k next ≡ grown c (next InWord)
plain_read k c next e = rw e refl

-- a unit of a word is read
unit_read : (unit rest : List ℕ) → IsUnit IsPlain unit → pieces_from InWord (unit ++ rest) ≡ grown_by unit (pieces_from InWord rest)
unit_read unit rest (c, inl h) = rw (h.0) (plain_read (kind c) c (λ w. pieces_from w rest) h.1)
unit_read unit rest (c, inr h) = rw (h.0) (ap (grown 92) (visible_escape (kind c) c (λ w. pieces_from w rest) h.1))

quoted_unit_read : (unit rest : List ℕ) → IsUnit IsQuotable unit → pieces_from InQuotes (unit ++ rest) ≡ grown_by unit (pieces_from InQuotes rest)
quoted_unit_read unit rest (c, inl h) = rw (h.0) (quotable (kind c) c (λ w. pieces_from w rest) h.1)
quoted_unit_read unit rest (c, inr h) = rw (h.0) (ap (grown 92) (quoted_escape (kind c) c (λ w. pieces_from w rest) h.1))

-- units of a word are read
units_read : (units : List (List ℕ)) (rest : List ℕ) → AllByRecursion (IsUnit IsPlain) units → pieces_from InWord (concat units ++ rest) ≡ grown_by (concat units) (pieces_from InWord rest)
units_read [] rest h = refl
units_read (u ∷ us) rest h =
    ap (pieces_from InWord) (append_assoc u (concat us) rest)
    ∙ unit_read u (concat us ++ rest) h.0
    ∙ ap (grown_by u) (units_read us rest h.1)
    ∙ sym (grown_more u (concat us) (pieces_from InWord rest))

quoted_units_read : (units : List (List ℕ)) (rest : List ℕ) → AllByRecursion (IsUnit IsQuotable) units → pieces_from InQuotes (concat units ++ rest) ≡ grown_by (concat units) (pieces_from InQuotes rest)
quoted_units_read [] rest h = refl
quoted_units_read (u ∷ us) rest h =
    ap (pieces_from InQuotes) (append_assoc u (concat us) rest)
    ∙ quoted_unit_read u (concat us ++ rest) h.0
    ∙ ap (grown_by u) (quoted_units_read us rest h.1)
    ∙ sym (grown_more u (concat us) (pieces_from InQuotes rest))

pub after_no_fault : (ps : List Piece) → NoFault ps → after_word ps ≡ bare_end ∷ ps
after_no_fault [] h = refl
after_no_fault (Fault ∷ ps) h = absurd h
after_no_fault (p ∷ ps) h = refl

-- a word ends where neither a plain octet nor a `\` follows
word_stops : (k : Kind) (c : ℕ) (next : PiecesWithin → List Piece) → ¬ (k ≡ Plain) → ¬ (k ≡ Backslash) → NoFault (between c k next) → in_word c k next ≡ bare_end ∷ between c k next
word_stops Return c next p b h = after_no_fault (next AfterReturn) h
word_stops Control c next p b h = absurd h
word_stops Plain c next p b h = absurd (p refl)
word_stops Backslash c next p b h = absurd (b refl)
word_stops _ c next p b h = refl

word_ends : (rest : List ℕ) → EndsWord rest → NoFault (pieces_of rest) → pieces_from InWord rest ≡ bare_end ∷ pieces_of rest
word_ends [] h n = refl
word_ends (c ∷ rest) h n = word_stops (kind c) c (λ w. pieces_from w rest) h.0 h.1 n

line_escape : (k : Kind) (c : ℕ) (next : PiecesWithin → List Piece) → (k ≡ LineFeed) ⊎ (k ≡ Return) → NoFault (between c k next) → behind_escape c k next ≡ bare_end ∷ between c k next
line_escape LineFeed c next h n = refl
line_escape Return c next h n = after_no_fault (next AfterReturn) n
line_escape k c next (inl e) n = absurd cc
line_escape k c next (inr e) n = absurd cc

lone_ends : (rest : List ℕ) → EndsLine rest → NoFault (pieces_of rest) → pieces_from BehindEscape rest ≡ bare_end ∷ pieces_of rest
lone_ends [] h n = refl
lone_ends (c ∷ rest) h n = line_escape (kind c) c (λ w. pieces_from w rest) h n

whole_word : (text : List ℕ) (ps : List Piece) → grown_by text (bare_end ∷ ps) ≡ Text (Bare text) ∷ ps
whole_word text ps = grown_bare text [] ps ∙ ap (λ (t : List ℕ). Text (Bare t) ∷ ps) (append-nil text)

-- a bare word is read to its end
bare_read : (text rest : List ℕ) → IsBareWord text rest → NoFault (pieces_of rest) → pieces_from InWord (text ++ rest) ≡ Text (Bare text) ∷ pieces_of rest
bare_read text rest (inl ((units, e, all), ends)) n =
    ap (λ (t : List ℕ). pieces_from InWord (t ++ rest)) e
    ∙ units_read units rest all
    ∙ ap (grown_by (concat units)) (word_ends rest ends n)
    ∙ whole_word (concat units) (pieces_of rest)
    ∙ ap (λ (t : List ℕ). Text (Bare t) ∷ pieces_of rest) (sym e)
bare_read text rest (inr (front, e, (units, f, all), ends)) n =
    let lone : pieces_from InWord (92 ∷ rest) ≡ grown 92 (bare_end ∷ pieces_of rest) = ap (grown 92) (lone_ends rest ends n) in
    let same : text ≡ concat units ++ 92 ∷ [] = e ∙ ap (λ (t : List ℕ). t ++ 92 ∷ []) f in
    ap (λ (t : List ℕ). pieces_from InWord (t ++ rest)) same
    ∙ ap (pieces_from InWord) (append_assoc (concat units) (92 ∷ []) rest)
    ∙ units_read units (92 ∷ rest) all
    ∙ ap (grown_by (concat units)) lone
    ∙ grown_bare (concat units) (92 ∷ []) (pieces_of rest)
    ∙ ap (λ (t : List ℕ). Text (Bare t) ∷ pieces_of rest) (sym same)

-- The first octet begins a word.
abbrev BeginsWord : List ℕ → Type 0
BeginsWord [] = ⊥
BeginsWord (c ∷ rest) = (kind c ≡ Plain) ⊎ (kind c ≡ Backslash)

first_same : (k : Kind) (c : ℕ) (next : PiecesWithin → List Piece) → (k ≡ Plain) ⊎ (k ≡ Backslash) → between c k next ≡ in_word c k next
first_same k c next (inl e) = rw e refl
first_same k c next (inr e) = rw e refl

begins_same : (text : List ℕ) → BeginsWord text → pieces_of text ≡ pieces_from InWord text
begins_same [] h = absurd h
begins_same (c ∷ rest) h = first_same (kind c) c (λ w. pieces_from w rest) h

unit_begins : (unit rest : List ℕ) → IsUnit IsPlain unit → BeginsWord (unit ++ rest)
unit_begins unit rest (c, inl h) = rw (h.0) (inl h.1)
unit_begins unit rest (c, inr h) = rw (h.0) (inr refl)

units_begin : (units : List (List ℕ)) (rest : List ℕ) → 0 < length (concat units) → AllByRecursion (IsUnit IsPlain) units → BeginsWord (concat units ++ rest)
units_begin [] rest some h = absurd (omega (arith, some))
units_begin (u ∷ us) rest some h = rw (append_assoc u (concat us) rest) (unit_begins u (concat us ++ rest) h.0)

lone_begins : (units : List (List ℕ)) (rest : List ℕ) → AllByRecursion (IsUnit IsPlain) units → BeginsWord ((concat units ++ 92 ∷ []) ++ rest)
lone_begins [] rest h = inr refl
lone_begins (u ∷ us) rest h = rw (append_assoc u (concat us) (92 ∷ []), append_assoc u (concat us ++ 92 ∷ []) rest) (unit_begins u ((concat us ++ 92 ∷ []) ++ rest) h.0)

bare_begins : (text rest : List ℕ) → 0 < length text → IsBareWord text rest → BeginsWord (text ++ rest)
bare_begins text rest some (inl ((units, e, all), ends)) = rw e (units_begin units rest (rw e at some) all)
bare_begins text rest some (inr (front, e, (units, f, all), ends)) = rw (e, f) (lone_begins units rest all)

-- a quoted string is read to its end
quoted_read : (text rest : List ℕ) → (units : List (List ℕ)) × (text ≡ concat units) × AllByRecursion (IsUnit IsQuotable) units → pieces_of ((34 ∷ text ++ 34 ∷ []) ++ rest) ≡ Text (Quoted text) ∷ pieces_of rest
quoted_read text rest (units, e, all) =
    ap (pieces_from InQuotes) (append_assoc text (34 ∷ []) rest)
    ∙ ap (λ (t : List ℕ). pieces_from InQuotes (t ++ 34 ∷ rest)) e
    ∙ quoted_units_read units (34 ∷ rest) all
    ∙ grown_quoted (concat units) [] (pieces_of rest)
    ∙ ap (λ (t : List ℕ). Text (Quoted t) ∷ pieces_of rest) (append-nil (concat units) ∙ sym e)

-- a piece is read, and then what is after it
piece_read : (p : Piece) (front rest : List ℕ) → IsPiece p front → IsWholePiece p rest → NoFault (pieces_of rest) → pieces_of (front ++ rest) ≡ p ∷ pieces_of rest
piece_read Gap front rest (inl e) whole n = rw e refl
piece_read Gap front rest (inr e) whole n = rw e refl
piece_read Comment front rest (text, e, visible) whole n = rw e (ap (λ (ps : List Piece). Comment ∷ ps) (comment_read text rest visible whole))
piece_read LineEnd front rest (inl e) whole n = rw e refl
piece_read LineEnd front rest (inr e) whole n = rw e refl
piece_read Open front rest e whole n = rw e refl
piece_read Close front rest e whole n = rw e refl
piece_read (Text (Quoted text)) front rest (e, word) whole n = rw e (quoted_read text rest word)
piece_read (Text (Bare text)) front rest (e, some) whole n = rw e (begins_same (text ++ rest) (bare_begins text rest some whole) ∙ bare_read text rest whole n)
piece_read Fault front rest h whole n = absurd h

piece_no_fault : (p : Piece) (front : List ℕ) (ps : List Piece) → IsPiece p front → NoFault ps → NoFault (p ∷ ps)
piece_no_fault Fault front ps h n = absurd h
piece_no_fault _ front ps h n = n

abbrev Only : List Piece → List ℕ → Type 0
Only ps octets = (pieces_of octets ≡ ps) × NoFault ps

-- the pieces of octets are those that are computed, and none of them is a fault
pub only_pieces : (ps : List Piece) (octets : List ℕ) → ArePieces ps octets → Only ps octets
only_pieces [] octets e = (ap pieces_of e, tt)
only_pieces (p ∷ ps) octets (front, rest, e, piece, whole, more) =
    let others = only_pieces ps rest more in
    let none : NoFault (pieces_of rest) = rw (others.0) others.1 in
    (ap pieces_of e ∙ piece_read p front rest piece whole none ∙ ap (λ (qs : List Piece). p ∷ qs) others.0, piece_no_fault p front ps piece others.1)
