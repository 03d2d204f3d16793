use Rattle.dns_configuration.proofs.Listened.{listed_at, none_at, single_at}
use Rattle.dns_configuration.proofs.listening.addresses_at.Goals as goal

pub returns-in-Some : goal.returns-in-Some
returns-in-Some c = single_at c.args.key.now _ c.in-Some.text.now c.single.result c.in-Some.ensures c.single.ensures

pub returns-in-Some-list_at : goal.returns-in-Some-list_at
returns-in-Some-list_at c = listed_at c.args.key.now _ c.in-Some-list_at.texts.now.items c.as_slice.result.now c.listed.result c.in_default.ensures c.in-Some-list_at.ensures c.as_slice.ensures.value c.listed.ensures

pub returns-in-None : goal.returns-in-None
returns-in-None c = λ found h. none_at c.args.key.now _ found c.in_default.ensures c.in-None.ensures h
