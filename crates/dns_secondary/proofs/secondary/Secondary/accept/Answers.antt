use Rattle.std.proofs.Common.{inl, refl}
use Rattle.dns_secondary.proofs.secondary.Secondary.accept.Goals as goal

pub returns-in-Err-clause-refused : goal.returns-in-Err-clause-refused
returns-in-Err-clause-refused g c = inl ((λ m h. (let read = c.in-Err.ensures.only m h in absurd cc)), refl)
