use Rattle.std.proofs.Common.{[], refl}
use Rattle.dns_zoneindex.proofs.Owned.{owned_from}
use Rattle.dns_zoneindex.proofs.Reaching.{end_wildcard, end_nowhere}
use Rattle.dns_zoneindex.proofs.descent.under_wildcard.Goals as goal

pub returns-in-Some : goal.returns-in-Some
returns-in-Some c = λ apex es name at_owner led.
    end_wildcard apex es name c.args.encloser c.args.node.now.own c.in-Some.wildcard.now.own c.records.result.now (owned_from es at_owner) led c.in-Some.ensures.found c.records.ensures.kept
    c.records.ensures.own

pub returns-in-None : goal.returns-in-None
returns-in-None c = λ apex es name at_owner led.
    end_nowhere apex es name c.args.encloser c.args.node.now.own [] (owned_from es at_owner) led c.in-None.ensures.found refl
