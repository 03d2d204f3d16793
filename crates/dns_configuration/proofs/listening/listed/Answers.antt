use Rattle.std.proofs.Common.{◌≡◌, ◌<◌, ◌≤◌, length, arith}
use Rattle.std.proofs.lemmas.Bool.Decides.{nat_tests}
use Rattle.dns_configuration.proofs.Listened.{listed_there, not_empty, not_many}
use Rattle.dns_configuration.proofs.listening.listed.Goals.{then-is_empty-via-then-is_empty, then-is_empty-via-else-is_empty+then-texts-gt-MOST_ADDRESSES}
use Rattle.dns_configuration.proofs.listening.listed.Goals as goal

pub returns-then-is_empty : goal.returns-then-is_empty
returns-then-is_empty c = λ found h.
    let texts = c.args.texts.now in
    elim c.then-is_empty.branch [
      | then-is_empty-via-then-is_empty w ↦
          let none : length texts ≡ 0 = grind (arith, nat_tests, w.if-is_empty.ensures) in
          not_empty texts found.items none h
      | then-is_empty-via-else-is_empty+then-texts-gt-MOST_ADDRESSES w ↦
          let many : 8 < length texts = omega (arith, w.if-texts-gt-MOST_ADDRESSES.true) in
          not_many texts found.items many h
    ]

pub returns : goal.returns
returns c =
    let texts = c.args.texts.now in
    let some : 0 < length texts = grind (arith, nat_tests, c.if-is_empty.ensures) in
    let few : length texts ≤ 8 = omega (arith, c.if-texts-gt-MOST_ADDRESSES.false) in
    listed_there texts c.addresses.result some few c.addresses.ensures
