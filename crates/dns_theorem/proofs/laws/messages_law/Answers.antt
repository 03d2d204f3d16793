use Rattle.dns_theorem.proofs.MessagesRead.{lives_are_read, loaded_are_read, resumed_are_read}
use Rattle.dns_theorem.proofs.laws.messages_law.Goals as goal

pub returns : goal.returns
returns c = record { loaded = loaded_are_read; resumed = resumed_are_read; life = lives_are_read }
