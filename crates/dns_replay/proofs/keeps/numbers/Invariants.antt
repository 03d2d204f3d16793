use Rattle.std.proofs.Common.{◌≡◌, []}
use Rattle.std.specs.List.{slice_split}
use Rattle.std.specs.Option.{option_copied}
use Rattle.dns_replay.specs.Keeps.{is_comma, numbers_after}
use Rattle.dns_replay.specs.Lines.{pieces_left, room}
use Rattle.dns_replay.proofs.keeps.numbers.Given as goal

abbrev pub invariant-pieces : goal.invariant-pieces
invariant-pieces l = numbers_after [] 0 (slice_split is_comma l.text) ≡ numbers_after l.numbers.items l.last (pieces_left is_comma (option_copied l.rest))

abbrev pub decreases-pieces : goal.decreases-pieces
decreases-pieces l = room (option_copied l.rest)
