use Rattle.std.proofs.Common.{ap, ◌∙◌}
use Rattle.dns_names.specs.Name.{names_eq, labels_of}
use Rattle.dns_wire.specs.Compress.{Place}
use Rattle.dns_wire.proofs.Suffixes.{plain_eq}
use Rattle.dns_wire.proofs.compression_targets.Target.is.Goals as goal

pub returns : goal.returns
returns c =
    c.same_octets.ensures ∙ plain_eq c.self.inside.suffix.now c.args.suffix.now c.self.invariant.0 c.requires
    ∙ ap (λ (p : Place). names_eq p.suffix (labels_of c.args.suffix.now)) c.self.view_is
