use Rattle.std.proofs.Common.{◌≤◌, ◌∙◌, ◌/◌, ℕ, List, length, sym, ap, refl, arith, drop}
use Rattle.std.specs.List.{fold}
use Rattle.std.proofs.lemmas.List.{take_all}
use Rattle.dns_wire.specs.Indexed.{mixed, suffix_number, words_mixed}
use Rattle.dns_wire.proofs.Linked.{words_next, words_end}
use Rattle.dns_wire.proofs.compression_targets.number_of.Goals as goal

pub words-init : goal.words-init
unfolding suffix_number
words-init c = refl

pub words-preserved : goal.words-preserved
words-preserved c =
    let rest = c.words.rest.now in
    let word = c.mixed-sum.ensures ∙ ap (mixed c.words.sum) c.read_u64.ensures in
    ap (λ (xs : List ℕ). words_mixed (length xs / 8) c.mixed-sum.result xs) c.split_at.ensures.back
    ∙ ap (λ (n : ℕ). words_mixed (length (drop 8 rest) / 8) n (drop 8 rest)) word
    ∙ sym (words_next c.words.sum rest c.words-test.true)
    ∙ c.words.invariant

pub returns : goal.returns
returns c =
    let rest = c.words.rest.now in
    let all : length rest ≤ c.octets.octet-index = omega arith in
    c.octets.invariant ∙ ap (fold mixed c.words.sum) (take_all c.octets.octet-index rest all)
    ∙ sym (words_end c.words.sum rest c.words-test.false)
    ∙ c.words.invariant
