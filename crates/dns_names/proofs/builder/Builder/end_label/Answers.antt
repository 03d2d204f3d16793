use Rattle.std.proofs.Common.{refl}
use Rattle.dns_names.proofs.Texts.{built_end}
use Rattle.dns_names.proofs.builder.Builder.end_label.Goals as goal

pub returns : goal.returns
returns c = λ done tail h.
    built_end c.args.self.now _ c.len.result c.min.result done tail c.set_octet.new.octets.items h c.len.ensures.value c.min.ensures c.set_octet.ensures c.in_ok-push.ensures.ok c.len-self.ensures.value refl refl
