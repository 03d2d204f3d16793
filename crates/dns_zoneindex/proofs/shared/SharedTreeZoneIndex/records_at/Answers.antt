use Rattle.std.proofs.Common.{[], refl}
use Rattle.dns_zoneindex.proofs.Owned.{owned_from}
use Rattle.dns_zoneindex.proofs.Reaching.{owned}
use Rattle.dns_zoneindex.proofs.shared.SharedTreeZoneIndex.records_at.Goals as goal

pub returns-in-Some : goal.returns-in-Some
returns-in-Some c =
    let es = c.args.self.now.tree in
    owned c.args.name.now es c.in-Some.node.now.own c.records.result.now (owned_from es c.args.self.now.each_at_owner) c.in-Some.ensures c.records.ensures.own

pub returns-in-None : goal.returns-in-None
returns-in-None c =
    let es = c.args.self.now.tree in
    owned c.args.name.now es [] [] (owned_from es c.args.self.now.each_at_owner) c.in-None.ensures refl
