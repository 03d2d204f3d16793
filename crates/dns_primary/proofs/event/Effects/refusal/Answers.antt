use Rattle.std.proofs.Common.{ℕ, List, subst}
use Rattle.dns_primary.specs.Flush.{Replied}
use Rattle.dns_primary.specs.Keeps.{AreEffects}
use Rattle.dns_primary.specs.Steps.{nothing, one_reply}
use Rattle.dns_primary.proofs.event.Effects.refusal.Goals as goal

pub returns : goal.returns
returns c = subst (λ (octets : List ℕ). AreEffects (one_reply (Replied c.args.to octets)) c.with_header.result) c.header_only.ensures (c.with_header.ensures.effects_are nothing c.nothing.ensures.effects_are)
