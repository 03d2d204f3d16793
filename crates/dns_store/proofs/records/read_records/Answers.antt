use Rattle.std.proofs.Common.{◌<◌, inl, inr, ⊎_elim, length}
use Rattle.std.proofs.lemmas.Result.{err_from_is_err_and}
use Rattle.dns_store.proofs.Plains.{one_left, not_none}
use Rattle.dns_store.proofs.records.read_records.Goals as goal

pub returns-in_err-record-clause-refused : goal.returns-in_err-record-clause-refused
returns-in_err-record-clause-refused c =
    let some : 0 < length c.records.rest.now = not_none c.records.rest.now c.is_empty.result c.is_empty.ensures c.records-test.true in
    let p = err_from_is_err_and c.from_residual.result c.from_residual.ensures.1 in
    rw (p.1, p.2)
    (⊎_elim (λ memory. inl memory)
    (λ bad. inr (
      bad,
      λ ss stored.
          let more = one_left c.args.octets.now c.records.records.items c.records.rest.now c.records.invariant some ss stored in
          let memory = c.in_err-record.ensures.only more.next more.rest more.valid more.is in
          absurd cc,
    )) c.in_err-record.ensures.refused)
