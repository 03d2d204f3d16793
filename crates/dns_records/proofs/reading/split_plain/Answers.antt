use Rattle.dns_records.proofs.Frames.{owner_first, type_first, ttl_first, len_first, type_none, ttl_none, len_none, data_none}
use Rattle.dns_records.proofs.reading.split_plain.Goals as goal

pub returns-in_err-rtype-clause-none : goal.returns-in_err-rtype-clause-none
returns-in_err-rtype-clause-none c =
    let named = c.in_ok-owner.ensures.found in
    rw c.from_residual-in_err-rtype.ensures (λ r rest f. type_none _ c.in_err-rtype.ensures.none r rest (owner_first _ _ _ named.0 named.1 r rest f))

pub returns-in_err-ttl-clause-none : goal.returns-in_err-ttl-clause-none
returns-in_err-ttl-clause-none c =
    let named = c.in_ok-owner.ensures.found in
    rw c.from_residual-in_err-ttl.ensures (λ r rest f. ttl_none _ c.in_err-ttl.ensures.none r rest (type_first _ _ _ c.in_ok-rtype.ensures.found.1 r rest (owner_first _ _ _ named.0 named.1 r rest f)))

pub returns-in_err-len-clause-none : goal.returns-in_err-len-clause-none
returns-in_err-len-clause-none c =
    let named = c.in_ok-owner.ensures.found in
    rw c.from_residual-in_err-len.ensures (λ r rest f. len_none _ c.in_err-len.ensures.none r rest (ttl_first _ _ _ c.in_ok-ttl.ensures.found.1 r rest (type_first _ _ _ c.in_ok-rtype.ensures.found.1 r rest (owner_first _ _ _ named.0 named.1 r rest f))))

pub returns-in_err-rdata-clause-none : goal.returns-in_err-rdata-clause-none
returns-in_err-rdata-clause-none c =
    let named = c.in_ok-owner.ensures.found in
    let len = c.in_ok-len.ensures.found in
    rw c.from_residual-in_err-rdata.ensures (λ r rest f.
    let behind = len_first _ _ _ len.0 len.1 r rest f.size (ttl_first _ _ _ c.in_ok-ttl.ensures.found.1 r rest (type_first _ _ _ c.in_ok-rtype.ensures.found.1 r rest (owner_first _ _ _ named.0 named.1 r rest f))) in
    data_none _ _ c.in_err-rdata.ensures.cases r rest behind.0 behind.1)
