use Rattle.dns_commands.proofs.commands.compare.compare.Goals as goal

pub returns : goal.returns
returns g c = rw c.unwrap_or.ensures c.compare_named.ensures
