use Rattle.std.proofs.Common.{ℕ, Bool, List, ◌∷◌, sym, ap, ◌∙◌, false}
use Rattle.dns_masterfile.specs.Pieces.{pieces_of}
use Rattle.dns_masterfile.specs.Left.{Left, left_from, entry_at}
use Rattle.dns_masterfile.proofs.Lefts.{entries_begun}
use Rattle.dns_masterfile.proofs.scanner.Scanner.first.Goals as goal

pub returns : goal.returns
returns c =
    let octets : List ℕ = c.args.octets.now in
    let blank : Bool = c.start_at.result.blank in
    let left : Left = left_from false 1 (pieces_of octets) in
    entries_begun 1 blank (pieces_of octets) c.start_at.ensures.begun
    ∙ ap (λ (line : ℕ). entry_at line blank left ∷ left.behind) (sym c.start_at.ensures.line)
