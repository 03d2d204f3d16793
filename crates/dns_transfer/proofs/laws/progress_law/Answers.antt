use Rattle.dns_transfer.proofs.Progress.{progress}
use Rattle.dns_transfer.proofs.laws.progress_law.Goals as goal

pub returns : goal.returns
returns c = progress
