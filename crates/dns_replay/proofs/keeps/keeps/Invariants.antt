use Rattle.std.proofs.Common.{◌≡◌, length, map}
use Rattle.dns_replay.specs.Commands.{said_zone_keep}
use Rattle.dns_replay.specs.Keeps.{keeps_after, keeps_of}
use Rattle.dns_replay.specs.Lines.{words}
use Rattle.dns_replay.proofs.keeps.keeps.Given as goal

abbrev pub invariant-words : goal.invariant-words
invariant-words l = keeps_of l.origins (words l.fn.text) ≡ keeps_after l.origins (map said_zone_keep l.keeps.items) (words l.rest)

abbrev pub decreases-words : goal.decreases-words
decreases-words l = length (words l.rest)
