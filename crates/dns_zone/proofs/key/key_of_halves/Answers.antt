use Rattle.std.proofs.Common.{◌∙◌}
use Rattle.dns_zone.proofs.Halves.{key_of_two}
use Rattle.dns_zone.proofs.key.key_of_halves.Goals as goal

pub returns : goal.returns
returns c = λ label len front back octets.
    key_of_two label c.args.front c.args.back c.args.len c.from-2.result c.from.result c.requires.more c.requires.few len front back octets
    (c.from-2.ensures ∙ c.from_be_bytes-2.ensures) (c.from.ensures ∙ c.from_be_bytes.ensures)
