use Rattle.std.proofs.lemmas.Result.{err_from_is_err_and}
use Rattle.dns_records.proofs.Frames.{none_read, only_memory}
use Rattle.dns_records.proofs.record.Record.from_wire_plain.Goals as goal

pub returns-in_default-clause-only : goal.returns-in_default-clause-only
returns-in_default-clause-only c = λ r n valid fits read. absurd (none_read c.args.octets.now c.in_default.ensures.none r n valid fits read)

pub returns-in_err-rdata-clause-only : goal.returns-in_err-rdata-clause-only
returns-in_err-rdata-clause-only c = λ r n valid fits read.
    let p = err_from_is_err_and c.from_residual.result c.from_residual.ensures.1 in
    rw (p.1, p.2) (only_memory c.args.octets.now _ _ c.in-Some.ensures.found c.in_err-rdata.field-0.0 c.in_err-rdata.ensures.refused r n valid fits read)
