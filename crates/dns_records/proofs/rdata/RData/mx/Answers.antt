use Rattle.std.proofs.Common.{◌≡◌, refl}
use Rattle.dns_records.specs.Typed.{mx_data}
use Rattle.dns_records.specs.Laws.{mx_data-valid}
use Rattle.dns_records.proofs.rdata.RData.mx.Goals as goal
use Rattle.dns_records.proofs.rdata.RData.mx.Goals.{In_ok-extend_from_slice-2}

octets : (c : In_ok-extend_from_slice-2) → c.extend_from_slice-2.new.self.items ≡ (mx_data c.args.mx.now).octets
octets c =
    rw (c.in_ok-extend_from_slice-2.ensures.ok, c.in_ok-extend_from_slice.ensures.ok, c.new-octets.ensures.items, c.as_wire.ensures.octets, c.to_be_bytes.ensures) refl

pub invariant_of-result : goal.invariant_of-result
invariant_of-result c = rw (octets c) (mx_data-valid c.args.mx.now c.as_wire.ensures.valid)

pub returns : goal.returns
returns c = rw (octets (goal.at.returns c).In_ok-extend_from_slice-2) refl
