use Rattle.std.proofs.Common.{ap, ◌∙◌, arith}
use Rattle.std.specs.Str.{bytes_eq}
use Rattle.dns_zoneindex.proofs.Slots.{called}
use Rattle.dns_zoneindex.proofs.node.Branch.is_called.Goals as goal

pub returns-then-label-le8 : goal.returns-then-label-le8
returns-then-label-le8 c =
    let i = c.self.inside in
    called c.args.key i.key c.args.label.now i.label.items c.requires c.self.invariant.3 c.if-key-own_key.false (omega (arith, c.if-label-len.false, c.len.ensures.value)) c.if-label-le8.true
    ∙ ap (λ n. bytes_eq c.args.label.now n.label) c.self.view_is
