use Rattle.std.proofs.Common.{◌≡◌, length}
use Rattle.std.specs.Prelude.{IfSome}
use Rattle.dns_zone.specs.Records.{records_at}
use Rattle.dns_zone.specs.Node.{cut}
use Rattle.dns_zone.proofs.Cuts.{or_else, name_kept}
use Rattle.dns_zone.proofs.lookup.shortest_cut.Given as goal

abbrev pub invariant-ancestors : goal.invariant-ancestors
invariant-ancestors l = record {
  chosen : cut (record { apex = l.apex; records = l.records }) l.name ≡ or_else (cut (record { apex = l.apex; records = l.records }) l.here) (name_kept l.shortest);
  owned : IfSome l.shortest (λ p. p.1.now ≡ records_at l.records p.0);
}

abbrev pub decreases-ancestors : goal.decreases-ancestors
decreases-ancestors l = length l.here
