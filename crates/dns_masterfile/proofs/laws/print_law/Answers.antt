use Rattle.dns_masterfile.proofs.PrintedZones.{zone_means, print_keeps, print_is_zone}
use Rattle.dns_masterfile.proofs.laws.print_law.Goals as goal

pub returns : goal.returns
returns c = record { means = zone_means; keeps = print_keeps; back = print_is_zone }
