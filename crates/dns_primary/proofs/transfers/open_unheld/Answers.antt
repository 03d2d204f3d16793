use Rattle.std.proofs.Common.{Option, subst}
use Rattle.std.specs.Prelude.{IfOk, false}
use Rattle.dns_transfer.specs.Session.{Version, Opens}
use Rattle.dns_primary.proofs.Transferred.{opened_some}
use Rattle.dns_primary.proofs.transfers.open_unheld.Goals as goal

pub returns-clause-opens : goal.returns-clause-opens
returns-clause-opens g c =
    let q = c.args.request.now in
    subst (λ (v : Option Version). IfOk c.open.result (λ o. Opens c.args.transport q.message.octets q.message.message q.question v false o)) c.no_version.ensures c.open.ensures

pub returns-clause-some : goal.returns-clause-some
returns-clause-some g c =
    let q = c.args.request.now in
    opened_some c.args.transport q.message.octets q.message.message q.question c.no_version.result false c.open.result c.open.ensures
