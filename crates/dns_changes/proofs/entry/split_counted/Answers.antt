use Rattle.std.proofs.Common.{◌<◌, length, arith}
use Rattle.std.proofs.lemmas.Result.{err_from_is_err_and}
use Rattle.dns_changes.proofs.Entries.{one_more}
use Rattle.dns_changes.proofs.entry.split_counted.Goals as goal

pub returns-in_err-record-clause-only : goal.returns-in_err-record-clause-only
returns-in_err-record-clause-only c = λ rs x valid few e. (
    let fewer : length c.records.records.items < c.in-Some.count = omega (arith, c.records.invariant.size, c.records-test.true) in
    let more = one_more c.args.octets.now c.in-Some.rest.now c.in-Some.count c.records.records.items c.records.rest.now c.in-Some.ensures.found c.records.invariant.read fewer rs x valid few e in
    let p = err_from_is_err_and c.from_residual.result c.from_residual.ensures.1 in
    rw (p.1, p.2) (c.in_err-record.ensures.only more.next more.rest more.valid more.is))
