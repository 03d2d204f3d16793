use Rattle.std.proofs.Common.{◌<◌, List, ℕ, length, ap, ◌∙◌, arith}
use Rattle.std.proofs.lemmas.List.{length-drop}
use Rattle.dns_masterfile.proofs.Scanning.{rest_of, some_octets}
use Rattle.dns_masterfile.proofs.pieces.split_bare.Goals as goal

pub returns-in-Some-clause-within : goal.returns-in-Some-clause-within
returns-in-Some-clause-within c =
    let octets : List ℕ = c.args.octets.now in
    let len : ℕ = c.in-Some.len in
    let some : 0 < len = some_octets octets len _ (c.requires.word ∙ c.in-Some.ensures.word) in
    omega (arith, ap length (rest_of octets len), length-drop len octets)
