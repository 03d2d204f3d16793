use Rattle.dns_secondary.proofs.Forms.{taken_rest}
use Rattle.dns_secondary.proofs.Shapes.{rest_taken}
use Rattle.dns_secondary.proofs.laws.taken_law.Goals as goal

pub returns : goal.returns
returns c = λ apex held answer set. ((λ h. taken_rest apex held answer set h), (λ h. rest_taken apex held answer set h))
