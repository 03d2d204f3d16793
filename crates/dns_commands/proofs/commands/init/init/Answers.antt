use Rattle.dns_commands.proofs.commands.init.init.Goals as goal

pub returns : goal.returns
returns g c = rw c.unwrap_or.ensures c.init_all.ensures
