use Rattle.dns_commands.proofs.commands.dump_at.dump_at.Goals as goal

pub returns : goal.returns
returns g c = rw c.unwrap_or.ensures c.dump_named_at.ensures
