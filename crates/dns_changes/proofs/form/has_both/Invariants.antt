use Rattle.std.proofs.Common.{◌≡◌, drop}
use Rattle.std.specs.List.{list_any}
use Rattle.dns_zone.specs.Records.{contains}
use Rattle.dns_changes.proofs.form.has_both.Given as goal

abbrev pub invariant-loop-record : goal.invariant-loop-record
invariant-loop-record l = list_any (contains l.removed) (drop l.record-index l.added) ≡ list_any (contains l.removed) l.added
