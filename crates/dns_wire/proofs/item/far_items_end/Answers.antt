use Rattle.dns_wire.specs.Lengths.{IsMeasured}
use Rattle.dns_wire.proofs.Measures.{none_kept}
use Rattle.dns_wire.proofs.item.far_items_end.Goals as goal

pub items_over-requires-clause-known : goal.items_over-requires-clause-known
items_over-requires-clause-known c = none_kept (IsMeasured c.args.message.now) 1024

pub items_over-requires-2-clause-known : goal.items_over-requires-2-clause-known
items_over-requires-2-clause-known c = none_kept (IsMeasured c.args.message.now) 16384
