use Rattle.dns_commands.proofs.commands.verify.verify.Goals as goal

pub returns-in-Some : goal.returns-in-Some
returns-in-Some g c = rw (c.in-Some.is, c.unwrap_or.ensures) c.verify_named.ensures

pub returns-in-None : goal.returns-in-None
returns-in-None g c = rw (c.in-None.is, c.unwrap_or-in-None.ensures) c.verify_all.ensures
