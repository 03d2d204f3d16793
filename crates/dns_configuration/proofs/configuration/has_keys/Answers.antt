use Rattle.dns_configuration.proofs.Unread.{keys_of_table}
use Rattle.dns_configuration.proofs.configuration.has_keys.Goals as goal

pub returns-in-Some : goal.returns-in-Some
returns-in-Some c = keys_of_table _ c.in-Some.table.now.entries c.len.result c.args.count c.in-Some.ensures c.len.ensures.len
