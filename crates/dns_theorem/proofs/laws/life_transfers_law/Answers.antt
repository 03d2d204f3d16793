use Rattle.dns_theorem.proofs.FollowedThroughLife.{datagrams_are_followed, loaded_begins, resumed_begins, transfers_are_followed}
use Rattle.dns_theorem.proofs.laws.life_transfers_law.Goals as goal

pub returns : goal.returns
returns c = record { by_tcp = transfers_are_followed; by_udp = datagrams_are_followed; loaded = loaded_begins; resumed = resumed_begins }
