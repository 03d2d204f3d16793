use Rattle.dns_zoneindex.proofs.Slots.{told_by_key}
use Rattle.dns_zoneindex.proofs.key.is_same.Goals as goal

pub returns-then-label-le8 : goal.returns-then-label-le8
returns-then-label-le8 c = told_by_key c.args.key c.key_of.result c.args.label.now c.args.own.now c.requires c.key_of.ensures c.if-label-own.false c.if-label-le8.true
