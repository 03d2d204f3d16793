use Rattle.std.proofs.Common.{◌≡◌, refl, append_assoc}
use Rattle.dns_records.specs.Typed.{soa_data}
use Rattle.dns_records.specs.Laws.{soa_data-valid}
use Rattle.dns_records.proofs.rdata.RData.soa.Goals as goal
use Rattle.dns_records.proofs.rdata.RData.soa.Goals.{In_ok-extend_from_slice-7}

octets : (c : In_ok-extend_from_slice-7) → c.extend_from_slice-7.new.self.items ≡ (soa_data c.args.soa.now).octets
octets c =
    rw (
      c.in_ok-extend_from_slice-7.ensures.ok,
      c.in_ok-extend_from_slice-6.ensures.ok,
      c.in_ok-extend_from_slice-5.ensures.ok,
      c.in_ok-extend_from_slice-4.ensures.ok,
      c.in_ok-extend_from_slice-3.ensures.ok,
      c.in_ok-extend_from_slice-2.ensures.ok,
      c.in_ok-extend_from_slice.ensures.ok,
      c.new-octets.ensures.items,
      c.as_wire.ensures.octets,
      c.as_wire-2.ensures.octets,
      c.to_be_bytes.ensures,
      c.to_be_bytes-2.ensures,
      c.to_be_bytes-3.ensures,
      c.to_be_bytes-4.ensures,
      c.to_be_bytes-5.ensures,
    ) (simp append_assoc)

pub invariant_of-result : goal.invariant_of-result
invariant_of-result c = rw (octets c) (soa_data-valid c.args.soa.now c.as_wire.ensures.valid c.as_wire-2.ensures.valid)

pub returns : goal.returns
returns c = rw (octets (goal.at.returns c).In_ok-extend_from_slice-7) refl
