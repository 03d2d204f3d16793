use Rattle.std.proofs.Common.{◌≡◌, ℕ, ◌<◌, List, length, drop, ap, subst, ◌∙◌, arith, drop-drop}
use Rattle.std.proofs.lemmas.List.{length-drop}
use Rattle.dns_masterfile.specs.Pieces.{InComment, pieces_from}
use Rattle.dns_masterfile.proofs.Scanning.{rest_of}
use Rattle.dns_masterfile.proofs.comments.comment_len.Goals as goal

pub octets-preserved : goal.octets-preserved
octets-preserved c =
    let octets : List ℕ = c.args.octets.now in
    let len : ℕ = c.octets.len in
    let both = subst (λ (rest : List ℕ). (0 < length rest) × (pieces_from InComment rest ≡ pieces_from InComment (drop 1 rest))) (rest_of octets len) c.octets-test.ensures in
    record {
      within = omega (arith, both.0, length-drop len octets);
      so_far = c.octets.invariant.so_far ∙ both.1 ∙ ap (pieces_from InComment) (drop-drop 1 len octets);
    }
