use Rattle.std.proofs.Common.{◌<◌, ◌+◌, ◌++◌, length, drop, ap, ◌∙◌, arith, ℕ, List}
use Rattle.dns_wire.specs.Reply.{stated}
use Rattle.dns_wire.proofs.Built.{built_text, built_few}
use Rattle.dns_wire.proofs.builder.finished.Goals as goal

pub unreachable-requires : goal.unreachable-requires
unreachable-requires c =
    let r = stated c.args.reply.now in
    let over : 65535 < length r.answer + length r.authority + length r.additional = c.in-Err.ensures.refused.1 in
    absurd (omega (arith, over, built_few r c.args.octets.items c.requires))

pub returns : goal.returns
returns c =
    let r = stated c.args.reply.now in
    let octets = c.args.octets.items in
    let head = c.in-Ok.header in
    c.put_header.ensures ∙ ap (λ (xs : List ℕ). xs ++ drop 12 octets) c.in-Ok.ensures.found ∙ built_text r octets c.requires
