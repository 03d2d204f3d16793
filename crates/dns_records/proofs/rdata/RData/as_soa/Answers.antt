use Rattle.std.proofs.Common.{sym, ◌∙◌, arith}
use Rattle.dns_records.specs.declared.typed.Soa.{Soa}
use Rattle.dns_records.proofs.Readings.{soa_second, soa_twenty, soa_whole}
use Rattle.dns_records.proofs.rdata.RData.as_soa.Goals as goal

pub returns-in_err-rname : goal.returns-in_err-rname
returns-in_err-rname c =
    let first = c.in_ok-mname.ensures.found in
    rw c.from_residual-in_err-rname.ensures (λ t. soa_second c.args.self.now c.in_ok-mname.mname c.in_ok-mname.behind.now c.octets.ensures.valid t first.0 (sym c.octets.ensures.octets ∙ first.1) c.in_err-rname.ensures.none)

pub five_u32-requires : goal.five_u32-requires
five_u32-requires c =
    let first = c.in_ok-mname.ensures.found in
    let second = c.in_ok-rname.ensures.found in
    soa_twenty c.args.self.now c.in_ok-mname.mname c.in_ok-rname.rname c.in_ok-mname.behind.now c.in_ok-rname.numbers.now c.octets.ensures.valid (sym c.rtype.ensures ∙ c.if-rtype-ne-SOA.false) first.0 (sym c.octets.ensures.octets ∙ first.1) second.0 second.1

pub returns : goal.returns
returns c =
    let first = c.in_ok-mname.ensures.found in
    let second = c.in_ok-rname.ensures.found in
    let soa : Soa = record { mname = c.in_ok-mname.mname; rname = c.in_ok-rname.rname; serial = c.in_ok-serial.serial; refresh = c.in_ok-serial.refresh; retry = c.in_ok-serial.retry; expire = c.in_ok-serial.expire; minimum = c.in_ok-serial.minimum } in (
      soa_whole c.args.self.now soa c.in_ok-mname.behind.now c.in_ok-rname.numbers.now _ (sym c.rtype.ensures ∙ c.if-rtype-ne-SOA.false) (sym c.octets.ensures.octets ∙ first.1) second.1 c.in_ok-serial.ensures,
      record { mname = first.0; rname = second.0; serial = omega arith; refresh = omega arith; retry = omega arith; expire = omega arith; minimum = omega arith },
    )
