use Rattle.dns_sectors.proofs.SectorsInFile.{sectors_blank}
use Rattle.dns_sectors.proofs.file_device.FileSectors.zeroed.Goals as goal

pub returns-in-Ok-clause-sectors : goal.returns-in-Ok-clause-sectors
returns-in-Ok-clause-sectors g c = λ honest.
    rw c.fresh.ensures.file (sectors_blank c.args.len c.in-Some.octets (g.F.File.seen c.blank.new.file) (c.in-Ok.ensures.zeros honest))
