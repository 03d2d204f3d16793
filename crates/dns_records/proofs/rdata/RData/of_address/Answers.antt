use Rattle.std.proofs.Common.{◌≡◌, arith}
use Rattle.std.proofs.lemmas.Result.{IfOk-at_ok}
use Rattle.dns_records.specs.Laws.{address-valid}
use Rattle.dns_records.proofs.rdata.RData.of_address.Goals as goal

pub invariant_of-result : goal.invariant_of-result
invariant_of-result c =
    let same = IfOk-at_ok (λ v. v.items ≡ c.args.octets.now) c.unwrap.ensures c.from_slice.ensures.ok in
    let f = c.requires.form in
    rw same (address-valid c.args.rtype f.0 c.args.octets.now f.1 (λ i. omega (arith, c.type_inv.octets i)) f.2)
