use Rattle.std.proofs.Common.{◌<◌, length, ◌∙◌, rules}
use Rattle.dns_replay.proofs.Words.{cut_words, one_word}
use Rattle.dns_replay.proofs.lines.first_word.Goals as goal

pub returns-then-not-is_empty : goal.returns-then-not-is_empty
returns-then-not-is_empty c =
    let word = c.cut_at_blank.result.0.now in
    let pending = c.cut_at_blank.result.1.now in
    let some : 0 < length word = search rules in
    c.blanks.invariant ∙ one_word c.blanks.rest.now word pending (cut_words c.blanks.rest.now word pending c.cut_at_blank.ensures.parts) some
