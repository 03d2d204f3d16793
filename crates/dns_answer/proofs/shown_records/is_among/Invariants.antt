use Rattle.std.proofs.Common.{◌≡◌, false, take}
use Rattle.std.specs.List.{list_any}
use Rattle.dns_zone.specs.Records.{same}
use Rattle.dns_answer.proofs.shown_records.is_among.Given as goal

abbrev pub invariant-loop-at : goal.invariant-loop-at
invariant-loop-at l = list_any (same l.stored) (take l.at l.shown) ≡ false
