-- The pieces that are computed are the octets, where no fault is among them.
use Rattle.std.proofs.Common.{◌≡◌, ℕ, ◌<◌, ◌⊎◌, inl, inr, Bool, true, false, ◌==◌, ◌||◌, List, [], ◌∷◌, ◌++◌, refl, sym, ap, subst, ◌∙◌, arith, append_assoc}
use Rattle.std.specs.Prelude.{⊤, cond, nat_lt}
use Rattle.std.specs.List.{AllByRecursion}
use Rattle.std.proofs.lemmas.Bool.Decides.{nat_tests}
use borrow.Author.Tests.{eqb-true}
use Rattle.dns_masterfile.specs.declared.kind.Kind.{Kind}
use Rattle.dns_masterfile.specs.declared.kind.Kind.TheVariants.{LineFeed, Return, Control, Blank, Semicolon, Quote, Opening, Closing, Backslash, Plain}
use Rattle.dns_masterfile.specs.Kinds.{kind}
use Rattle.dns_masterfile.specs.Pieces.{Bare, Quoted, Piece, Gap, Comment, LineEnd, Open, Close, Text, Fault, IsVisible, IsQuotable, IsUnit, IsWord, EndsLine, IsBareWord, ArePieces, PiecesWithin, Between, AfterReturn, InComment, InWord, BehindEscape, InQuotes, BehindQuotedEscape, bare_end, grown, between, after_word, in_word, behind_escape, behind_quoted_escape, in_quotes, in_comment, after_return, pieces_from, pieces_of}
use Rattle.dns_masterfile.proofs.OnlyPieces.{NoFault, IsPlain, after_no_fault}

-- What an octet of that kind is.
abbrev pub OfKind : ℕ → Kind → Type 0
OfKind c LineFeed = c ≡ 10
OfKind c Return = c ≡ 13
OfKind c Control = (c < 32) ⊎ (c ≡ 127)
OfKind c Blank = (c ≡ 9) ⊎ (c ≡ 32)
OfKind c Quote = c ≡ 34
OfKind c Opening = c ≡ 40
OfKind c Closing = c ≡ 41
OfKind c Semicolon = c ≡ 59
OfKind c Backslash = c ≡ 92
OfKind c Plain = ⊤

chosen : (c : ℕ) (b : Bool) (x y : Kind) → (b ≡ true → OfKind c x) → OfKind c y → OfKind c (cond b x y)
chosen c true x y f g = f refl
chosen c false x y f g = g

either_blank : (c : ℕ) → (c == 9 || c == 32) ≡ true → (c ≡ 9) ⊎ (c ≡ 32)
either_blank c h = go (c == 9) (c == 32) refl refl h
  where
    go : (a b : Bool) → (c == 9) ≡ a → (c == 32) ≡ b → (a || b) ≡ true → (c ≡ 9) ⊎ (c ≡ 32)
    go true b p q h = inl (eqb-true c 9 p)
    go false true p q h = inr (eqb-true c 32 q)
    go false false p q h = absurd cc

control_is : (c : ℕ) → (nat_lt c 32 || c == 127) ≡ true → (c < 32) ⊎ (c ≡ 127)
control_is c h = go (nat_lt c 32) (c == 127) refl refl h
  where
    go : (a b : Bool) → nat_lt c 32 ≡ a → (c == 127) ≡ b → (a || b) ≡ true → (c < 32) ⊎ (c ≡ 127)
    go true b p q h = inl (grind (arith, nat_tests))
    go false true p q h = inr (eqb-true c 127 q)
    go false false p q h = absurd cc

pub kind_is : (c : ℕ) → OfKind c (kind c)
kind_is c =
    chosen c (c == 10) LineFeed _ (λ e. eqb-true c 10 e)
    (chosen c (c == 13) Return _ (λ e. eqb-true c 13 e)
    (chosen c (c == 9 || c == 32) Blank _ (λ e. either_blank c e)
    (chosen c (nat_lt c 32 || c == 127) Control _ (λ e. control_is c e)
    (chosen c (c == 34) Quote _ (λ e. eqb-true c 34 e)
    (chosen c (c == 40) Opening _ (λ e. eqb-true c 40 e)
    (chosen c (c == 41) Closing _ (λ e. eqb-true c 41 e)
    (chosen c (c == 59) Semicolon _ (λ e. eqb-true c 59 e)
    (chosen c (c == 92) Backslash Plain (λ e. eqb-true c 92 e) tt))))))))

of_kind : (c : ℕ) (k : Kind) → kind c ≡ k → OfKind c k
of_kind c k e = subst (OfKind c) e (kind_is c)

-- The octets after a carriage return, from within a comment on, from within a bare word or a quoted string on.
record LineAt (ps : List Piece) (octets : List ℕ) : Type 0 where
  rest : List ℕ
  more : List Piece
  parts : octets ≡ 10 ∷ rest
  pieces : ps ≡ LineEnd ∷ more
  others : ArePieces more rest

record CommentAt (ps : List Piece) (octets : List ℕ) : Type 0 where
  text : List ℕ
  rest : List ℕ
  parts : octets ≡ text ++ rest
  visible : AllByRecursion (λ c. IsVisible (kind c)) text
  ends : EndsLine rest
  others : ArePieces ps rest

record BareAt (before : List ℕ) (ps : List Piece) (octets : List ℕ) : Type 0 where
  text : List ℕ
  rest : List ℕ
  more : List Piece
  parts : octets ≡ text ++ rest
  pieces : ps ≡ Text (Bare text) ∷ more
  word : IsBareWord (before ++ text) rest
  others : ArePieces more rest

record QuotedAt (before : List ℕ) (ps : List Piece) (octets : List ℕ) : Type 0 where
  text : List ℕ
  rest : List ℕ
  more : List Piece
  parts : octets ≡ text ++ 34 ∷ rest
  pieces : ps ≡ Text (Quoted text) ∷ more
  word : IsWord IsQuotable (before ++ text)
  others : ArePieces more rest

abbrev Covers : PiecesWithin → List Piece → List ℕ → Type 0
Covers Between ps octets = ArePieces ps octets
Covers AfterReturn ps octets = LineAt ps octets
Covers InComment ps octets = CommentAt ps octets
Covers InWord ps octets = BareAt [] ps octets
Covers BehindEscape ps octets = BareAt (92 ∷ []) ps octets
Covers InQuotes ps octets = QuotedAt [] ps octets
Covers BehindQuotedEscape ps octets = QuotedAt (92 ∷ []) ps octets

-- What is known of the octets after one.
abbrev Behind : (PiecesWithin → List Piece) → List ℕ → Type 0
Behind next rest = (w : PiecesWithin) → NoFault (next w) → Covers w (next w) rest

ungrown : (c : ℕ) (ps : List Piece) → NoFault (grown c ps) → NoFault ps
ungrown c [] h = h
ungrown c (Text (Bare t) ∷ ps) h = h
ungrown c (Text (Quoted t) ∷ ps) h = h
ungrown c (Gap ∷ ps) h = h
ungrown c (Comment ∷ ps) h = h
ungrown c (LineEnd ∷ ps) h = h
ungrown c (Open ∷ ps) h = h
ungrown c (Close ∷ ps) h = h
ungrown c (Fault ∷ ps) h = h

unafter : (ps : List Piece) → NoFault (after_word ps) → NoFault ps
unafter [] h = h
unafter (Fault ∷ ps) h = absurd h
unafter (Gap ∷ ps) h = h
unafter (Comment ∷ ps) h = h
unafter (LineEnd ∷ ps) h = h
unafter (Open ∷ ps) h = h
unafter (Close ∷ ps) h = h
unafter (Text w ∷ ps) h = h

pub empty_word : (Stands : Kind → Type 0) → IsWord Stands []
empty_word Stands = ([], refl, tt)

pub more_word : (Stands : Kind → Type 0) (unit text : List ℕ) → IsUnit Stands unit → IsWord Stands text → IsWord Stands (unit ++ text)
more_word Stands unit text u (units, e, all) = (unit ∷ units, ap (λ (t : List ℕ). unit ++ t) e, (u, all))

more_bare : (unit text rest : List ℕ) → IsUnit IsPlain unit → IsBareWord text rest → IsBareWord (unit ++ text) rest
more_bare unit text rest u (inl (word, ends)) = inl (more_word IsPlain unit text u word, ends)
more_bare unit text rest u (inr (front, e, word, ends)) =
    inr (unit ++ front, ap (λ (t : List ℕ). unit ++ t) e ∙ sym (append_assoc unit front (92 ∷ [])), more_word IsPlain unit front u word, ends)

-- a line end after a carriage return
return_pieces : (c : ℕ) (ps : List Piece) (rest : List ℕ) → c ≡ 13 → LineAt ps rest → ArePieces ps (c ∷ rest)
return_pieces c ps rest e at =
    let here : ArePieces (LineEnd ∷ at.more) (c ∷ rest) = (13 ∷ 10 ∷ [], at.rest, ap (λ (x : ℕ). x ∷ rest) e ∙ ap (λ (xs : List ℕ). 13 ∷ xs) at.parts, inr refl, tt, at.others) in
    subst (λ (qs : List Piece). ArePieces qs (c ∷ rest)) (sym at.pieces) here

comment_pieces : (c : ℕ) (ps : List Piece) (rest : List ℕ) → c ≡ 59 → CommentAt ps rest → ArePieces (Comment ∷ ps) (c ∷ rest)
comment_pieces c ps rest e at =
    (c ∷ at.text, at.rest, ap (λ (xs : List ℕ). c ∷ xs) at.parts, (at.text, ap (λ (x : ℕ). x ∷ at.text) e, at.visible), at.ends, at.others)

quoted_pieces : (c : ℕ) (ps : List Piece) (rest : List ℕ) → c ≡ 34 → QuotedAt [] ps rest → ArePieces ps (c ∷ rest)
quoted_pieces c ps rest e at =
    let parts : c ∷ rest ≡ (34 ∷ at.text ++ 34 ∷ []) ++ at.rest =
    ap (λ (x : ℕ). x ∷ rest) e ∙ ap (λ (xs : List ℕ). 34 ∷ xs) (at.parts ∙ sym (append_assoc at.text (34 ∷ []) at.rest)) in
    let here : ArePieces (Text (Quoted at.text) ∷ at.more) (c ∷ rest) = (34 ∷ at.text ++ 34 ∷ [], at.rest, parts, (refl, at.word), tt, at.others) in
    subst (λ (qs : List Piece). ArePieces qs (c ∷ rest)) (sym at.pieces) here

-- a bare word with its first octet
grown_at : (before : List ℕ) (c : ℕ) (ps : List Piece) (rest : List ℕ) (at : BareAt before ps rest) (front : List ℕ) → IsBareWord (front ++ c ∷ at.text) at.rest → BareAt front (grown c ps) (c ∷ rest)
grown_at before c ps rest at front word = record {
  text = c ∷ at.text;
  rest = at.rest;
  more = at.more;
  parts = ap (λ (xs : List ℕ). c ∷ xs) at.parts;
  pieces = ap (grown c) at.pieces;
  word = word;
  others = at.others;
}

plain_at : (c : ℕ) (ps : List Piece) (rest : List ℕ) → kind c ≡ Plain → BareAt [] ps rest → BareAt [] (grown c ps) (c ∷ rest)
plain_at c ps rest e at = grown_at [] c ps rest at [] (more_bare (c ∷ []) at.text at.rest (c, inl (refl, e)) at.word)

escape_at : (c : ℕ) (ps : List Piece) (rest : List ℕ) → c ≡ 92 → BareAt (92 ∷ []) ps rest → BareAt [] (grown c ps) (c ∷ rest)
escape_at c ps rest e at = grown_at (92 ∷ []) c ps rest at [] (subst (λ (x : ℕ). IsBareWord (x ∷ at.text) at.rest) (sym e) at.word)

escaped_at : (c : ℕ) (ps : List Piece) (rest : List ℕ) → IsVisible (kind c) → BareAt [] ps rest → BareAt (92 ∷ []) (grown c ps) (c ∷ rest)
escaped_at c ps rest v at = grown_at [] c ps rest at (92 ∷ []) (more_bare (92 ∷ c ∷ []) at.text at.rest (c, inr (refl, v)) at.word)

-- octets that begin with a bare word
word_pieces : (c : ℕ) (ps : List Piece) (rest text behind : List ℕ) (more : List Piece) → c ∷ rest ≡ (c ∷ text) ++ behind → ps ≡ Text (Bare (c ∷ text)) ∷ more → IsBareWord (c ∷ text) behind → ArePieces more behind → ArePieces ps (c ∷ rest)
word_pieces c ps rest text behind more parts pieces word others =
    let here : ArePieces (Text (Bare (c ∷ text)) ∷ more) (c ∷ rest) = (c ∷ text, behind, parts, (refl, omega arith), word, others) in
    subst (λ (qs : List Piece). ArePieces qs (c ∷ rest)) (sym pieces) here

plain_pieces : (c : ℕ) (ps : List Piece) (rest : List ℕ) → kind c ≡ Plain → BareAt [] ps rest → ArePieces (grown c ps) (c ∷ rest)
plain_pieces c ps rest e at =
    word_pieces c (grown c ps) rest at.text at.rest at.more (ap (λ (xs : List ℕ). c ∷ xs) at.parts) (ap (grown c) at.pieces) (more_bare (c ∷ []) at.text at.rest (c, inl (refl, e)) at.word) at.others

escape_pieces : (c : ℕ) (ps : List Piece) (rest : List ℕ) → c ≡ 92 → BareAt (92 ∷ []) ps rest → ArePieces (grown c ps) (c ∷ rest)
escape_pieces c ps rest e at =
    word_pieces c (grown c ps) rest at.text at.rest at.more (ap (λ (xs : List ℕ). c ∷ xs) at.parts) (ap (grown c) at.pieces) (subst (λ (x : ℕ). IsBareWord (x ∷ at.text) at.rest) (sym e) at.word) at.others

between_covered : (c : ℕ) (k : Kind) (rest : List ℕ) (next : PiecesWithin → List Piece) → kind c ≡ k → Behind next rest → NoFault (between c k next) → ArePieces (between c k next) (c ∷ rest)
between_covered c LineFeed rest next e ih h = (c ∷ [], rest, refl, inl (ap (λ (x : ℕ). x ∷ []) (of_kind c LineFeed e)), tt, ih Between h)
between_covered c Return rest next e ih h = return_pieces c (next AfterReturn) rest (of_kind c Return e) (ih AfterReturn h)
between_covered c Control rest next e ih h = absurd h
between_covered c Blank rest next e ih h = (c ∷ [], rest, refl, blank_piece (of_kind c Blank e), tt, ih Between h)
  where
    blank_piece : (c ≡ 9) ⊎ (c ≡ 32) → (c ∷ [] ≡ 9 ∷ []) ⊎ (c ∷ [] ≡ 32 ∷ [])
    blank_piece (inl p) = inl (ap (λ (x : ℕ). x ∷ []) p)
    blank_piece (inr p) = inr (ap (λ (x : ℕ). x ∷ []) p)
between_covered c Semicolon rest next e ih h = comment_pieces c (next InComment) rest (of_kind c Semicolon e) (ih InComment h)
between_covered c Quote rest next e ih h = quoted_pieces c (next InQuotes) rest (of_kind c Quote e) (ih InQuotes h)
between_covered c Opening rest next e ih h = (c ∷ [], rest, refl, ap (λ (x : ℕ). x ∷ []) (of_kind c Opening e), tt, ih Between h)
between_covered c Closing rest next e ih h = (c ∷ [], rest, refl, ap (λ (x : ℕ). x ∷ []) (of_kind c Closing e), tt, ih Between h)
between_covered c Backslash rest next e ih h = escape_pieces c (next BehindEscape) rest (of_kind c Backslash e) (ih BehindEscape (ungrown c (next BehindEscape) h))
between_covered c Plain rest next e ih h = plain_pieces c (next InWord) rest e (ih InWord (ungrown c (next InWord) h))

comment_covered : (c : ℕ) (k : Kind) (rest : List ℕ) (next : PiecesWithin → List Piece) → kind c ≡ k → Behind next rest → NoFault (in_comment k next) → CommentAt (in_comment k next) (c ∷ rest)
comment_covered c LineFeed rest next e ih h = record { text = []; rest = c ∷ rest; parts = refl; visible = tt; ends = inl e; others = between_covered c LineFeed rest next e ih h }
comment_covered c Return rest next e ih h = record { text = []; rest = c ∷ rest; parts = refl; visible = tt; ends = inr e; others = between_covered c Return rest next e ih h }
comment_covered c Control rest next e ih h = absurd h
comment_covered c k rest next e ih h =
    let at = ih InComment h in
    record {
      text = c ∷ at.text;
      rest = at.rest;
      parts = ap (λ (xs : List ℕ). c ∷ xs) at.parts;
      visible = (subst IsVisible (sym e) tt, at.visible);
      ends = at.ends;
      others = at.others;
    }

-- a word ends here
ends_at : (before : List ℕ) (c : ℕ) (k : Kind) (rest : List ℕ) (next : PiecesWithin → List Piece) → kind c ≡ k → Behind next rest → NoFault (between c k next) → IsBareWord (before ++ []) (c ∷ rest) → BareAt before (bare_end ∷ between c k next) (c ∷ rest)
ends_at before c k rest next e ih h word = record {
  text = [];
  rest = c ∷ rest;
  more = between c k next;
  parts = refl;
  pieces = refl;
  word = word;
  others = between_covered c k rest next e ih h;
}

-- the empty word before an octet of that kind
no_word : (c : ℕ) (k : Kind) (rest : List ℕ) → kind c ≡ k → ¬ (k ≡ Plain) → ¬ (k ≡ Backslash) → IsBareWord [] (c ∷ rest)
no_word c k rest e p b = inl (empty_word IsPlain, ((λ q. p (sym e ∙ q)), (λ q. b (sym e ∙ q))))

lone_word : (c : ℕ) (rest : List ℕ) → (kind c ≡ LineFeed) ⊎ (kind c ≡ Return) → IsBareWord (92 ∷ []) (c ∷ rest)
lone_word c rest e = inr ([], refl, empty_word IsPlain, e)

-- a word before a carriage return
return_at : (before : List ℕ) (c : ℕ) (rest : List ℕ) (next : PiecesWithin → List Piece) → kind c ≡ Return → Behind next rest → NoFault (after_word (next AfterReturn)) → IsBareWord (before ++ []) (c ∷ rest) → BareAt before (after_word (next AfterReturn)) (c ∷ rest)
return_at before c rest next e ih h word =
    let none = unafter (next AfterReturn) h in
    subst (λ (ps : List Piece). BareAt before ps (c ∷ rest)) (sym (after_no_fault (next AfterReturn) none)) (ends_at before c Return rest next e ih none word)

word_covered : (c : ℕ) (k : Kind) (rest : List ℕ) (next : PiecesWithin → List Piece) → kind c ≡ k → Behind next rest → NoFault (in_word c k next) → BareAt [] (in_word c k next) (c ∷ rest)
word_covered c Return rest next e ih h = return_at [] c rest next e ih h (no_word c Return rest e (λ q. absurd cc) (λ q. absurd cc))
word_covered c Control rest next e ih h = absurd h
word_covered c Backslash rest next e ih h = escape_at c (next BehindEscape) rest (of_kind c Backslash e) (ih BehindEscape (ungrown c (next BehindEscape) h))
word_covered c Plain rest next e ih h = plain_at c (next InWord) rest e (ih InWord (ungrown c (next InWord) h))
word_covered c LineFeed rest next e ih h = ends_at [] c LineFeed rest next e ih h (no_word c LineFeed rest e (λ q. absurd cc) (λ q. absurd cc))
word_covered c Blank rest next e ih h = ends_at [] c Blank rest next e ih h (no_word c Blank rest e (λ q. absurd cc) (λ q. absurd cc))
word_covered c Semicolon rest next e ih h = ends_at [] c Semicolon rest next e ih h (no_word c Semicolon rest e (λ q. absurd cc) (λ q. absurd cc))
word_covered c Quote rest next e ih h = ends_at [] c Quote rest next e ih h (no_word c Quote rest e (λ q. absurd cc) (λ q. absurd cc))
word_covered c Opening rest next e ih h = ends_at [] c Opening rest next e ih h (no_word c Opening rest e (λ q. absurd cc) (λ q. absurd cc))
word_covered c Closing rest next e ih h = ends_at [] c Closing rest next e ih h (no_word c Closing rest e (λ q. absurd cc) (λ q. absurd cc))

escape_covered : (c : ℕ) (k : Kind) (rest : List ℕ) (next : PiecesWithin → List Piece) → kind c ≡ k → Behind next rest → NoFault (behind_escape c k next) → BareAt (92 ∷ []) (behind_escape c k next) (c ∷ rest)
escape_covered c LineFeed rest next e ih h = ends_at (92 ∷ []) c LineFeed rest next e ih h (lone_word c rest (inl e))
escape_covered c Return rest next e ih h = return_at (92 ∷ []) c rest next e ih h (lone_word c rest (inr e))
escape_covered c Control rest next e ih h = absurd h
escape_covered c k rest next e ih h = escaped_at c (next InWord) rest (subst IsVisible (sym e) tt) (ih InWord (ungrown c (next InWord) h))

-- a quoted string with its first octet
quoted_at : (before : List ℕ) (c : ℕ) (ps : List Piece) (rest : List ℕ) (at : QuotedAt before ps rest) (front : List ℕ) → IsWord IsQuotable (front ++ c ∷ at.text) → QuotedAt front (grown c ps) (c ∷ rest)
quoted_at before c ps rest at front word = record {
  text = c ∷ at.text;
  rest = at.rest;
  more = at.more;
  parts = ap (λ (xs : List ℕ). c ∷ xs) at.parts;
  pieces = ap (grown c) at.pieces;
  word = word;
  others = at.others;
}

quotable_at : (c : ℕ) (ps : List Piece) (rest : List ℕ) → IsQuotable (kind c) → QuotedAt [] ps rest → QuotedAt [] (grown c ps) (c ∷ rest)
quotable_at c ps rest v at = quoted_at [] c ps rest at [] (more_word IsQuotable (c ∷ []) at.text (c, inl (refl, v)) at.word)

quoted_covered : (c : ℕ) (k : Kind) (rest : List ℕ) (next : PiecesWithin → List Piece) → kind c ≡ k → Behind next rest → NoFault (in_quotes c k next) → QuotedAt [] (in_quotes c k next) (c ∷ rest)
quoted_covered c LineFeed rest next e ih h = absurd h
quoted_covered c Return rest next e ih h = absurd h
quoted_covered c Control rest next e ih h = absurd h
quoted_covered c Quote rest next e ih h = record {
  text = [];
  rest = rest;
  more = next Between;
  parts = ap (λ (x : ℕ). x ∷ rest) (of_kind c Quote e);
  pieces = refl;
  word = empty_word IsQuotable;
  others = ih Between h;
}
quoted_covered c Backslash rest next e ih h =
    let at = ih BehindQuotedEscape (ungrown c (next BehindQuotedEscape) h) in
    quoted_at (92 ∷ []) c (next BehindQuotedEscape) rest at [] (subst (λ (x : ℕ). IsWord IsQuotable (x ∷ at.text)) (sym (of_kind c Backslash e)) at.word)
quoted_covered c k rest next e ih h = quotable_at c (next InQuotes) rest (subst IsQuotable (sym e) tt) (ih InQuotes (ungrown c (next InQuotes) h))

quoted_escape_covered : (c : ℕ) (k : Kind) (rest : List ℕ) (next : PiecesWithin → List Piece) → kind c ≡ k → Behind next rest → NoFault (behind_quoted_escape c k next) → QuotedAt (92 ∷ []) (behind_quoted_escape c k next) (c ∷ rest)
quoted_escape_covered c LineFeed rest next e ih h = absurd h
quoted_escape_covered c Return rest next e ih h = absurd h
quoted_escape_covered c Control rest next e ih h = absurd h
quoted_escape_covered c k rest next e ih h =
    let at = ih InQuotes (ungrown c (next InQuotes) h) in
    quoted_at [] c (next InQuotes) rest at (92 ∷ []) (more_word IsQuotable (92 ∷ c ∷ []) at.text (c, inr (refl, subst IsVisible (sym e) tt)) at.word)

return_covered : (c : ℕ) (k : Kind) (rest : List ℕ) (next : PiecesWithin → List Piece) → kind c ≡ k → Behind next rest → NoFault (after_return k next) → LineAt (after_return k next) (c ∷ rest)
return_covered c LineFeed rest next e ih h = record { rest = rest; more = next Between; parts = ap (λ (x : ℕ). x ∷ rest) (of_kind c LineFeed e); pieces = refl; others = ih Between h }
return_covered c _ rest next e ih h = absurd h

covered : (octets : List ℕ) (w : PiecesWithin) → NoFault (pieces_from w octets) → Covers w (pieces_from w octets) octets
covered [] Between h = refl
covered [] AfterReturn h = absurd h
covered [] InComment h = record { text = []; rest = []; parts = refl; visible = tt; ends = tt; others = refl }
covered [] InWord h = record { text = []; rest = []; more = []; parts = refl; pieces = refl; word = inl (empty_word IsPlain, tt); others = refl }
covered [] BehindEscape h = record { text = []; rest = []; more = []; parts = refl; pieces = refl; word = inr ([], refl, empty_word IsPlain, tt); others = refl }
covered [] InQuotes h = absurd h
covered [] BehindQuotedEscape h = absurd h
covered (c ∷ rest) Between h = between_covered c (kind c) rest (λ w. pieces_from w rest) refl (λ w n. covered rest w n) h
covered (c ∷ rest) AfterReturn h = return_covered c (kind c) rest (λ w. pieces_from w rest) refl (λ w n. covered rest w n) h
covered (c ∷ rest) InComment h = comment_covered c (kind c) rest (λ w. pieces_from w rest) refl (λ w n. covered rest w n) h
covered (c ∷ rest) InWord h = word_covered c (kind c) rest (λ w. pieces_from w rest) refl (λ w n. covered rest w n) h
covered (c ∷ rest) BehindEscape h = escape_covered c (kind c) rest (λ w. pieces_from w rest) refl (λ w n. covered rest w n) h
covered (c ∷ rest) InQuotes h = quoted_covered c (kind c) rest (λ w. pieces_from w rest) refl (λ w n. covered rest w n) h
covered (c ∷ rest) BehindQuotedEscape h = quoted_escape_covered c (kind c) rest (λ w. pieces_from w rest) refl (λ w n. covered rest w n) h

-- octets without a fault are their pieces
pub are_pieces : (octets : List ℕ) → NoFault (pieces_of octets) → ArePieces (pieces_of octets) octets
are_pieces octets h = covered octets Between h
