use Rattle.dns_configuration.proofs.Unread.{prefixes_there}
use Rattle.dns_configuration.proofs.configuration.prefixes_at.Goals as goal

pub returns-in-Some : goal.returns-in-Some
returns-in-Some c = prefixes_there c.args.key.now _ c.in-Some.texts.now.items c.as_slice.result.now c.prefixes.result c.in-Some.ensures c.as_slice.ensures.value c.prefixes.ensures
