use Rattle.std.proofs.Common.{◌∙◌}
use Rattle.dns_wire.proofs.Numbers.{two_read}
use Rattle.dns_wire.proofs.fields.number.Goals as goal

pub returns : goal.returns
returns c = record { inside = c.requires; read = c.read_u16.ensures ∙ two_read c.args.message.now c.args.at c.requires }
