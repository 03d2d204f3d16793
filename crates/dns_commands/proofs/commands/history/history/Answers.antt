use Rattle.dns_commands.proofs.commands.history.history.Goals as goal

pub returns : goal.returns
returns g c = rw c.unwrap_or.ensures c.list_named.ensures
