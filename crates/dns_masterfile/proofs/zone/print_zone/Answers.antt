use Rattle.std.proofs.Common.{◌≡◌, true, List, subst}
use Rattle.std.specs.List.{AllByRecursion}
use Rattle.dns_records.specs.Record.{Record, IsRecord}
use Rattle.dns_zone.specs.Records.{is_ordered}
use Rattle.dns_masterfile.proofs.PrintedZones.{records_mean, records_kept}
use Rattle.dns_masterfile.proofs.zone.print_zone.Goals as goal

pub returns-in_err-print_wanted-clause-means : goal.returns-in_err-print_wanted-clause-means
returns-in_err-print_wanted-clause-means g c = records_mean c.args.zone.now.records (subst (λ (records : List Record). ∥ AllByRecursion IsRecord records ∥₁) c.index.ensures (g.met.I.ZoneIndex.valid c.index.result.now))

pub returns-in_err-print_wanted-clause-keeps : goal.returns-in_err-print_wanted-clause-keeps
returns-in_err-print_wanted-clause-keeps g c = records_kept c.args.zone.now.records (subst (λ (records : List Record). is_ordered records ≡ true) c.index.ensures (g.met.I.ZoneIndex.ordered c.index.result.now))

pub returns-clause-means : goal.returns-clause-means
returns-clause-means g c = records_mean c.args.zone.now.records (subst (λ (records : List Record). ∥ AllByRecursion IsRecord records ∥₁) c.index.ensures (g.met.I.ZoneIndex.valid c.index.result.now))

pub returns-clause-keeps : goal.returns-clause-keeps
returns-clause-keeps g c = records_kept c.args.zone.now.records (subst (λ (records : List Record). is_ordered records ≡ true) c.index.ensures (g.met.I.ZoneIndex.ordered c.index.result.now))
