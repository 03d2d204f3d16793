-- How an entry begins, by its first octet.
use Rattle.std.proofs.Common.{◌≡◌, ◌≢◌, ℕ, Bool, true, false, List, [], ◌∷◌, refl, ap}
use Rattle.dns_masterfile.specs.declared.kind.Kind.{Kind}
use Rattle.dns_masterfile.specs.declared.kind.Kind.TheVariants.{LineFeed, Return, Control, Blank, Semicolon, Quote, Opening, Closing, Backslash, Plain}
use Rattle.std.specs.Bool.{MatchBool}
use Rattle.dns_masterfile.specs.Kinds.{kind}
use Rattle.dns_masterfile.specs.Pieces.{Piece, Gap, Comment, LineEnd, Open, Close, Text, Fault, Bare, Quoted, PiecesWithin, Between, AfterReturn, InComment, InWord, BehindEscape, InQuotes, BehindQuotedEscape, grown, between, in_word, behind_escape, behind_quoted_escape, in_quotes, after_return, after_word, pieces_from, pieces_of}
use Rattle.dns_masterfile.specs.Entries.{FileEntry, begun}

abbrev starting : ℕ → Bool → FileEntry
starting line blank = record { line = line; blank = blank; words = []; whole = true }

abbrev IsNoGap : List Piece → Type 0
IsNoGap ps = (line : ℕ) → begun line ps ≡ starting line false

grown_no_gap : (c : ℕ) (ps : List Piece) → IsNoGap ps → IsNoGap (grown c ps)
grown_no_gap c [] h = h
grown_no_gap c (Gap ∷ ps) h = h
grown_no_gap c (Comment ∷ ps) h = h
grown_no_gap c (LineEnd ∷ ps) h = h
grown_no_gap c (Open ∷ ps) h = h
grown_no_gap c (Close ∷ ps) h = h
grown_no_gap c (Text (Bare text) ∷ ps) h = λ line. refl
grown_no_gap c (Text (Quoted text) ∷ ps) h = λ line. refl
grown_no_gap c (Fault ∷ ps) h = h

after_word_no_gap : (ps : List Piece) → IsNoGap (after_word ps)
after_word_no_gap [] = λ line. refl
after_word_no_gap (Gap ∷ ps) = λ line. refl
after_word_no_gap (Comment ∷ ps) = λ line. refl
after_word_no_gap (LineEnd ∷ ps) = λ line. refl
after_word_no_gap (Open ∷ ps) = λ line. refl
after_word_no_gap (Close ∷ ps) = λ line. refl
after_word_no_gap (Text w ∷ ps) = λ line. refl
after_word_no_gap (Fault ∷ ps) = λ line. refl

-- within a word, or after a return
abbrev IsWithin : PiecesWithin → Type 0
IsWithin Between = ⊥
IsWithin InComment = ⊥
IsWithin AfterReturn = Unit {0}
IsWithin InWord = Unit {0}
IsWithin BehindEscape = Unit {0}
IsWithin InQuotes = Unit {0}
IsWithin BehindQuotedEscape = Unit {0}

within_no_gap : (w : PiecesWithin) (octets : List ℕ) → IsWithin w → IsNoGap (pieces_from w octets)
within_no_gap Between octets h = absurd h
within_no_gap InComment octets h = absurd h
within_no_gap AfterReturn [] h = λ line. refl
within_no_gap InWord [] h = λ line. refl
within_no_gap BehindEscape [] h = λ line. refl
within_no_gap InQuotes [] h = λ line. refl
within_no_gap BehindQuotedEscape [] h = λ line. refl
within_no_gap AfterReturn (c ∷ rest) h =
    elim (kind c) as (λ k. IsNoGap (after_return k (λ w. pieces_from w rest))) [
      | LineFeed ↦ λ line. refl
      | Return ↦ λ line. refl
      | Control ↦ λ line. refl
      | Blank ↦ λ line. refl
      | Semicolon ↦ λ line. refl
      | Quote ↦ λ line. refl
      | Opening ↦ λ line. refl
      | Closing ↦ λ line. refl
      | Backslash ↦ λ line. refl
      | Plain ↦ λ line. refl
    ]
within_no_gap InWord (c ∷ rest) h =
    elim (kind c) as (λ k. IsNoGap (in_word c k (λ w. pieces_from w rest))) [
      | LineFeed ↦ λ line. refl
      | Return ↦ after_word_no_gap (pieces_from AfterReturn rest)
      | Control ↦ λ line. refl
      | Blank ↦ λ line. refl
      | Semicolon ↦ λ line. refl
      | Quote ↦ λ line. refl
      | Opening ↦ λ line. refl
      | Closing ↦ λ line. refl
      | Backslash ↦ grown_no_gap c (pieces_from BehindEscape rest) (within_no_gap BehindEscape rest tt)
      | Plain ↦ grown_no_gap c (pieces_from InWord rest) (within_no_gap InWord rest tt)
    ]
within_no_gap BehindEscape (c ∷ rest) h =
    let grows = grown_no_gap c (pieces_from InWord rest) (within_no_gap InWord rest tt) in
    elim (kind c) as (λ k. IsNoGap (behind_escape c k (λ w. pieces_from w rest))) [
      | LineFeed ↦ λ line. refl
      | Return ↦ after_word_no_gap (pieces_from AfterReturn rest)
      | Control ↦ λ line. refl
      | Blank ↦ grows
      | Semicolon ↦ grows
      | Quote ↦ grows
      | Opening ↦ grows
      | Closing ↦ grows
      | Backslash ↦ grows
      | Plain ↦ grows
    ]
within_no_gap InQuotes (c ∷ rest) h =
    let grows = grown_no_gap c (pieces_from InQuotes rest) (within_no_gap InQuotes rest tt) in
    elim (kind c) as (λ k. IsNoGap (in_quotes c k (λ w. pieces_from w rest))) [
      | LineFeed ↦ λ line. refl
      | Return ↦ λ line. refl
      | Control ↦ λ line. refl
      | Blank ↦ grows
      | Semicolon ↦ grows
      | Quote ↦ λ line. refl
      | Opening ↦ grows
      | Closing ↦ grows
      | Backslash ↦ grown_no_gap c (pieces_from BehindQuotedEscape rest) (within_no_gap BehindQuotedEscape rest tt)
      | Plain ↦ grows
    ]
within_no_gap BehindQuotedEscape (c ∷ rest) h =
    let grows = grown_no_gap c (pieces_from InQuotes rest) (within_no_gap InQuotes rest tt) in
    elim (kind c) as (λ k. IsNoGap (behind_quoted_escape c k (λ w. pieces_from w rest))) [
      | LineFeed ↦ λ line. refl
      | Return ↦ λ line. refl
      | Control ↦ λ line. refl
      | Blank ↦ grows
      | Semicolon ↦ grows
      | Quote ↦ grows
      | Opening ↦ grows
      | Closing ↦ grows
      | Backslash ↦ grows
      | Plain ↦ grows
    ]

-- an octet that is no blank
no_blank : (octets : List ℕ) (c : ℕ) (rest : List ℕ) (line : ℕ)
    → octets ≡ c ∷ rest
    → kind c ≢ Blank
    → begun line (pieces_of octets) ≡ record { line = line; blank = false; words = []; whole = true }
no_blank octets c rest line is other = rw is (at (kind c) other)
  where
    at : (k : Kind) → k ≢ Blank → begun line (between c k (λ w. pieces_from w rest)) ≡ starting line false
    at LineFeed h = refl
    at Return h = within_no_gap AfterReturn rest tt line
    at Control h = refl
    at Blank h = absurd (h refl)
    at Semicolon h = refl
    at Quote h = within_no_gap InQuotes rest tt line
    at Opening h = refl
    at Closing h = refl
    at Backslash h = grown_no_gap c (pieces_from BehindEscape rest) (within_no_gap BehindEscape rest tt) line
    at Plain h = grown_no_gap c (pieces_from InWord rest) (within_no_gap InWord rest tt) line

blank : (octets : List ℕ) (c : ℕ) (rest : List ℕ) (line : ℕ)
    → octets ≡ c ∷ rest
    → kind c ≡ Blank
    → begun line (pieces_of octets) ≡ record { line = line; blank = true; words = []; whole = true }
blank octets c rest line is same =
    rw is (ap (λ (k : Kind). begun line (between c k (λ w. pieces_from w rest))) same)

-- how an entry begins whose first octet is a blank or is none
pub starts : (octets : List ℕ) (c : ℕ) (rest : List ℕ) (line : ℕ) (b : Bool)
    → octets ≡ c ∷ rest
    → MatchBool b (kind c ≡ Blank) (kind c ≢ Blank)
    → begun line (pieces_of octets) ≡ record { line = line; blank = b; words = []; whole = true }
starts octets c rest line true is h = blank octets c rest line is h
starts octets c rest line false is h = no_blank octets c rest line is h
