use Rattle.std.proofs.Common.{◌-◌, length}
use Rattle.dns_zoneindex.proofs.Starts.{walk_begin, walk_step, start_fits}
use Rattle.dns_zoneindex.proofs.path.starts_of.Goals as goal

pub labels-init : goal.labels-init
labels-init c = walk_begin c.args.name.now c.reborrow-rest.result c.args.starts.now c.reborrow-rest.ensures c.told-starts

pub labels-preserved : goal.labels-preserved
labels-preserved c =
    let name = c.args.name.now in
    let rest = c.labels.rest in
    walk_step name rest c.in-Some.above c.labels.starts c.labels.count (length c.as_wire-whole.result.now - length c.as_wire.result.now) c.in-Some.field-0-0.now c.labels.invariant c.as_wire.ensures.valid
    c.in-Some.ensures.found
    (λ i. length (c.as_wire-whole.ensures.octets i) - length (c.as_wire.ensures.octets i))
    (start_fits name rest c.labels.starts c.labels.count c.labels.invariant c.as_wire-whole.ensures.valid).2
