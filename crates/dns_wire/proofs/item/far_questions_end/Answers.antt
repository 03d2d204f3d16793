use Rattle.dns_wire.specs.Lengths.{IsMeasured}
use Rattle.dns_wire.proofs.Measures.{none_kept}
use Rattle.dns_wire.proofs.item.far_questions_end.Goals as goal

pub questions_over-requires-clause-known : goal.questions_over-requires-clause-known
questions_over-requires-clause-known c = none_kept (IsMeasured c.args.message.now) 1024

pub questions_over-requires-2-clause-known : goal.questions_over-requires-2-clause-known
questions_over-requires-2-clause-known c = none_kept (IsMeasured c.args.message.now) 16384
