use Rattle.dns_names.specs.PlainLaws.{plain_of}
use Rattle.dns_names.proofs.lent.NameRef.labels.Goals as goal

pub invariant_of-result : goal.invariant_of-result
invariant_of-result c = (plain_of c.as_wire.result.now c.args.self.now c.as_wire.ensures.valid c.as_wire.ensures.octets).1

pub returns : goal.returns
returns c = (plain_of c.as_wire.result.now c.args.self.now c.as_wire.ensures.valid c.as_wire.ensures.octets).0
