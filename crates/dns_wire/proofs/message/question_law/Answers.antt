use Rattle.dns_wire.proofs.QuestionsSent.{id_fits, opcode_fits, echoed}
use Rattle.dns_wire.proofs.message.question_law.Goals as goal

pub returns-clause-header : goal.returns-clause-header
returns-clause-header c = λ octets fits. (id_fits octets fits, opcode_fits octets)

pub returns-clause-echoed : goal.returns-clause-echoed
returns-clause-echoed c = λ octets m q fits reads one. echoed octets fits m q reads one
