use Rattle.dns_commands.proofs.commands.diff.diff.Goals as goal

pub returns : goal.returns
returns g c = rw c.unwrap_or.ensures c.diff_named.ensures
