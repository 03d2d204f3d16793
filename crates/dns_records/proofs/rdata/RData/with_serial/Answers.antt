use Rattle.std.proofs.Common.{◌≡◌, ◌∙◌, ap, arith}
use Rattle.std.proofs.lemmas.Grind.{common_steps}
use Rattle.dns_records.specs.Record.{Data}
use Rattle.dns_records.specs.Typed.{soa_with}
use Rattle.dns_records.proofs.Readings.{soa_with-valid}
use Rattle.dns_records.proofs.rdata.RData.with_serial.Goals as goal

pub invariant_of-result : goal.invariant_of-result
invariant_of-result c =
    let d : Data = record { rtype = c.self.inside.rtype; octets = c.self.inside.octets.items } in
    let soa : d.rtype ≡ 6 = ap (λ (x : Data). x.rtype) c.self.view_is ∙ c.requires in
    let same : c.extend_from_slice-2.new.self.items ≡ (soa_with d c.args.serial).octets = grind (arith, common_steps, c.in_ok-extend_from_slice-2.ensures.ok, c.in_ok-extend_from_slice.ensures.ok, c.in_ok-octets.ensures.ok, c.to_be_bytes.ensures, c.as_slice-old.ensures) in
    rw same (soa_with-valid d c.args.serial c.self.invariant soa)
