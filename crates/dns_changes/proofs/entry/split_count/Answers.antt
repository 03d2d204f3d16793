use Rattle.std.proofs.Common.{arith}
use Rattle.dns_records.proofs.NumberBytes.{u32_split}
use Rattle.dns_changes.proofs.entry.split_count.Goals as goal

pub returns-clause-found : goal.returns-clause-found
returns-clause-found c =
    let parts = c.in_ok-number.ensures.cases in
    u32_split c.args.octets.now c.in_ok-number.number.now c.in_ok-number.rest.now c.from_be_bytes.result (λ i. omega (arith, c.type_inv.octets i)) parts.0 parts.1 parts.2 c.from_be_bytes.ensures
