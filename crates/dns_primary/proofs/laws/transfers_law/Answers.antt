use Rattle.std.proofs.Common.{refl}
use Rattle.dns_primary.specs.Machine.{sending_at}
use Rattle.dns_primary.proofs.Continued.{run_goes, step_opened}
use Rattle.dns_primary.proofs.laws.transfers_law.Goals as goal

pub returns : goal.returns
returns c = record {
  opened = λ number fails old event effects new s none some step. step_opened number fails old event effects new s none some step;
  continues = λ number start run h. run_goes number run start (sending_at number start.connections) refl h;
}
