use Rattle.std.proofs.Common.{◌≡◌, length}
use Rattle.dns_replay.specs.Lines.{words}
use Rattle.dns_replay.proofs.lines.first_word.Given as goal

abbrev pub invariant-blanks : goal.invariant-blanks
invariant-blanks l = words l.fn.text ≡ words l.rest

abbrev pub decreases-blanks : goal.decreases-blanks
decreases-blanks l = length l.rest
