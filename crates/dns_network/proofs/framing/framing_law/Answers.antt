use Rattle.std.proofs.Common.{sym, ◌∙◌}
use Rattle.dns_network.proofs.Framed.{once, cut}
use Rattle.dns_network.proofs.framing.framing_law.Goals as goal

pub returns-clause-once : goal.returns-clause-once
returns-clause-once c = λ stream messages messages' rest rest' h k. once stream messages messages' rest rest' h.short k.short h.none k.none (sym h.whole ∙ k.whole)

pub returns-clause-cut : goal.returns-clause-cut
returns-clause-cut c = λ piece next messages messages' rest rest' h k. cut piece next messages messages' rest rest' h k
