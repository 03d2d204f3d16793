use Rattle.dns_commands.proofs.commands.migrate.migrate.Goals as goal

pub returns : goal.returns
returns g c = rw c.unwrap_or.ensures c.migrate_all.ensures
