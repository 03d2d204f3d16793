use Rattle.std.proofs.Common.{inl, refl, sym, ap, ◌∙◌}
use Rattle.std.specs.Prelude.{◌==◌}
use Rattle.std.specs.List.{position}
use Rattle.dns_primary.proofs.Transferred.{not_found}
use Rattle.dns_primary.proofs.transfers.next_on.Goals as goal

pub returns-in-None-clause-sent : goal.returns-in-None-clause-sent
returns-in-None-clause-sent g c = inl (not_found c.args.number c.args.transfers.now.items (ap (λ ts. position (λ t. t.number == c.args.number) ts) (sym c.deref.ensures.value) ∙ sym c.place_on.ensures.index ∙ c.in-None.is), refl)
