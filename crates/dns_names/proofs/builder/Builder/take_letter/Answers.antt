use Rattle.std.proofs.Common.{inl, inr}
use Rattle.std.proofs.lemmas.Result.{on_ok_weaker}
use Rattle.dns_names.proofs.Texts.{octet_taken}
use Rattle.dns_names.proofs.builder.Builder.take_letter.Goals as goal

pub returns : goal.returns
returns c =
    on_ok_weaker c.push.result (λ step done tail behind h.
    octet_taken c.push.new.self done tail behind c.args.octet c.to_ascii_lowercase.result c.args.escaped c.to_ascii_lowercase.ensures.value
    (λ e dot. elim c.else-not-escaped.either [ inl w ↦ w.1 dot | inr w ↦ absurd (cc) ]) (step done tail h)) c.push.ensures
