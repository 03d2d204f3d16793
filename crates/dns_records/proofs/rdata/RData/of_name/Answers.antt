use Rattle.dns_records.specs.Laws.{name_data-valid}
use Rattle.dns_records.proofs.rdata.RData.of_name.Goals as goal

pub invariant_of-result : goal.invariant_of-result
invariant_of-result c =
    rw (c.in_ok-from_slice.ensures.ok, c.as_wire.ensures.octets) (name_data-valid c.args.rtype c.args.name.now c.requires c.as_wire.ensures.valid)
