use Rattle.std.proofs.Common.{◌≡◌, refl}
use Rattle.dns_records.specs.Typed.{srv_data}
use Rattle.dns_records.specs.Laws.{srv_data-valid}
use Rattle.dns_records.proofs.rdata.RData.srv.Goals as goal
use Rattle.dns_records.proofs.rdata.RData.srv.Goals.{In_ok-extend_from_slice-4}

octets : (c : In_ok-extend_from_slice-4) → c.extend_from_slice-4.new.self.items ≡ (srv_data c.args.srv.now).octets
octets c =
    rw (
      c.in_ok-extend_from_slice-4.ensures.ok,
      c.in_ok-extend_from_slice-3.ensures.ok,
      c.in_ok-extend_from_slice-2.ensures.ok,
      c.in_ok-extend_from_slice.ensures.ok,
      c.new-octets.ensures.items,
      c.as_wire.ensures.octets,
      c.to_be_bytes.ensures,
      c.to_be_bytes-2.ensures,
      c.to_be_bytes-3.ensures,
    ) refl

pub invariant_of-result : goal.invariant_of-result
invariant_of-result c = rw (octets c) (srv_data-valid c.args.srv.now c.as_wire.ensures.valid)

pub returns : goal.returns
returns c = rw (octets (goal.at.returns c).In_ok-extend_from_slice-4) refl
