use Rattle.std.proofs.Common.{refl}
use Rattle.dns_network.proofs.edge.Edge.close.Goals as goal

pub returns-clause-closed : goal.returns-clause-closed
returns-clause-closed g c =
    record { effects = c.step-nothing.result; told = λ m kept. c.step-nothing.ensures.step m kept; gone = c.remove.ensures; network = refl; noted = c.note.ensures }
