use Rattle.dns_secondary.proofs.Mores.{more_of, tells_of}
use Rattle.dns_secondary.proofs.laws.more_law.Goals as goal

pub returns : goal.returns
returns c = λ s before records at valid reaches. ((λ m. tells_of s before records at reaches m), (λ t. more_of s before records at reaches t.0 valid t.1))
