use Rattle.std.proofs.Common.{drop, sym, ap, ◌∙◌}
use Rattle.dns_transfer.proofs.unsent.Rest.next.Goals as goal

pub invariant_of-self : goal.invariant_of-self
invariant_of-self g c = λ position is.
    c.of-self-inside.ensures ∙ ap (λ n. drop n (g.I.ZoneIndex.records c.self.inside.index.now)) (sym (c.behind_opening-self-inside.ensures.start position is))
