use Rattle.dns_masterfile.proofs.Agree.{file_is_read, means_one}
use Rattle.dns_masterfile.proofs.laws.file_law.Goals as goal

pub returns : goal.returns
returns c = record { read = file_is_read; once = means_one }
