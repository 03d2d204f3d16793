use Rattle.std.proofs.Common.{◌≡◌, ◌<◌, ◌≤◌, ◌^◌, length, drop}
use Rattle.dns_transfer.specs.Form.{advances}
use Rattle.dns_commands.proofs.commands.history.first_journalled.Given as goal

abbrev pub invariant-newest : goal.invariant-newest
invariant-newest l = record {
  inside : l.number ≤ length l.changes;
  gone : l.gone ≡ advances (drop l.number l.changes);
  near : l.gone < 2 ^ 31;
}

abbrev pub decreases-newest : goal.decreases-newest
decreases-newest l = l.number
