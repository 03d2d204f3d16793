use Rattle.std.proofs.Common.{sym, ap, ◌∙◌}
use Rattle.dns_names.specs.Name.{labels_of, wire}
use Rattle.dns_wire.specs.Indexed.{Linked, suffix_number}
use Rattle.dns_wire.proofs.Linked.{other_number}
use Rattle.dns_wire.proofs.compression_targets.Linked.is.Goals as goal

pub returns-else-self-number : goal.returns-else-self-number
returns-else-self-number c =
    let suffix = c.args.suffix.now in
    other_number c.self.inside.number c.args.number c.args.self.now.place.suffix (labels_of suffix)
    (c.self.invariant ∙ ap (λ (l : Linked). suffix_number (wire l.place.suffix)) c.self.view_is)
    (c.requires.number ∙ ap suffix_number (sym c.requires.plain.whole)) c.if-self-number.false
