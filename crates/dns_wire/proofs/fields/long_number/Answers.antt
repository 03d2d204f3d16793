use Rattle.std.proofs.Common.{◌∙◌}
use Rattle.dns_wire.proofs.Numbers.{four_read}
use Rattle.dns_wire.proofs.fields.long_number.Goals as goal

pub returns : goal.returns
returns c = record { inside = c.requires; read = c.read_u32.ensures ∙ four_read c.args.message.now c.args.at c.requires }
