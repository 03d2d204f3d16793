use Rattle.std.proofs.Common.{◌≡◌, ◌<◌, ◌≤◌, ◌^◌, length, drop}
use Rattle.std.specs.Option.{option_map}
use Rattle.dns_transfer.specs.Form.{advances, since}
use Rattle.dns_transfer.proofs.form.first_since.Given as goal

abbrev pub invariant-newest : goal.invariant-newest
invariant-newest l = record {
  inside : l.number ≤ length l.changes;
  gone : l.gone ≡ advances (drop l.number l.changes);
  near : l.gone < 2 ^ 31;
  found : option_map (λ first. drop first l.changes) l.first ≡ since l.serial (drop l.number l.changes);
}

abbrev pub decreases-newest : goal.decreases-newest
decreases-newest l = l.number
