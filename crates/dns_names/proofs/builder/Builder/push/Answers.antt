use Rattle.std.proofs.Common.{refl, arith}
use Rattle.dns_names.proofs.Texts.{built_more}
use Rattle.dns_names.proofs.builder.Builder.push.Goals as goal

pub returns : goal.returns
returns c = λ done tail h. built_more c.args.self.now _ c.args.octet done tail h c.requires (omega arith) c.in_ok-push.ensures.ok refl refl refl
