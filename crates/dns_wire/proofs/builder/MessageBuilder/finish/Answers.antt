use Rattle.std.proofs.Common.{◌≡◌, ◌∙◌, ◌≤◌, length, ap, subst, arith, ℕ}
use Rattle.dns_wire.specs.Building.{Building}
use Rattle.dns_wire.specs.Contents.{said}
use Rattle.dns_wire.specs.Text.{text}
use Rattle.dns_wire.specs.declared.builder.Contents.{Contents}
use Rattle.dns_wire.proofs.Built.{built_size}
use Rattle.dns_wire.proofs.builder.MessageBuilder.finish.Goals as goal

pub returns-clause-fits : goal.returns-clause-fits
returns-clause-fits c =
    let stands = c.self.invariant.0 in
    let size = built_size (said c.self.inside.contents.value) c.self.inside.contents.value.compressor.octets.items stands.built in
    let fits : length c.self.inside.contents.value.compressor.octets.items ≤ c.self.inside.contents.value.limit = stands.fits in
    let done : c.octets_of.result.items ≡ text (said c.self.inside.contents.value) = c.octets_of.ensures ∙ ap (λ (v : Contents). text (said v)) c.into_inner.ensures in
    subst (λ (k : ℕ). length c.octets_of.result.items ≤ k) (ap (λ (b : Building). b.limit) c.self.view_is) (omega (arith, ap length done, size, fits))
