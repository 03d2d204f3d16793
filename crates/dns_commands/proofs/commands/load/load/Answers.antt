use Rattle.dns_commands.proofs.commands.load.load.Goals as goal

pub returns : goal.returns
returns g c = rw c.unwrap_or.ensures c.load_named.ensures
