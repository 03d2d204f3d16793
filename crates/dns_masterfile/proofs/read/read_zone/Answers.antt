use Rattle.dns_masterfile.proofs.FileRead.{read_found, read_only}
use Rattle.dns_masterfile.proofs.read.read_zone.Goals as goal

pub returns-clause-found : goal.returns-clause-found
returns-clause-found c = read_found (λ v. v.items) c.args.octets.now c.args.origin.now c.read_records.result c.read_records.ensures

pub returns-clause-only : goal.returns-clause-only
returns-clause-only c records means = read_only (λ v. v.items) c.args.octets.now c.args.origin.now c.read_records.result records c.read_records.ensures means
