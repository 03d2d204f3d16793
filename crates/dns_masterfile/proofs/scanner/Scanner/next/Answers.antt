use Rattle.std.proofs.Common.{◌≡◌, List, ◌∷◌, sym, ap, ◌∙◌}
use Rattle.dns_masterfile.specs.Pieces.{Piece, LineEnd, pieces_of}
use Rattle.dns_masterfile.specs.Scan.{stated_piece}
use Rattle.dns_masterfile.proofs.Lefts.{next_entry}
use Rattle.dns_masterfile.proofs.scanner.Scanner.next.Goals as goal

pub returns-in-LineEnd-2 : goal.returns-in-LineEnd-2
returns-in-LineEnd-2 c =
    let behind : List Piece = pieces_of c.in-Some.behind.now in
    let first = c.in-Some.ensures.0 in
    let all : pieces_of c.pieces.rest.now ≡ LineEnd ∷ behind = first ∙ ap (λ p. stated_piece p ∷ behind) c.in-LineEnd-2.is in
    sym c.pieces.invariant.left ∙ next_entry c.pieces.inside c.pieces.line c.start_at.result.line c.start_at.result.blank (pieces_of c.pieces.rest.now) behind c.if-inside-2.false all c.start_at.ensures.line c.start_at.ensures.begun
