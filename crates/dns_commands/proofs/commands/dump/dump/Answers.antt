use Rattle.dns_commands.proofs.commands.dump.dump.Goals as goal

pub returns : goal.returns
returns g c = rw c.unwrap_or.ensures c.dump_zone.ensures
