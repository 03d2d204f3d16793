use Rattle.dns_sectors.proofs.SectorsInFile.{on_ok, blanked}
use Rattle.dns_sectors.proofs.file_device.blank.Goals as goal

pub returns-clause-zeros : goal.returns-clause-zeros
returns-clause-zeros g c = λ honest.
    let first = c.set_len.ensures.honest.1 honest in
    let second = c.set_len-2.ensures.honest.1 first in
    on_ok c.sync.result
    (blanked c.args.len (g.F.File.seen c.args.file.now) (g.F.File.seen c.set_len.new.self) (g.F.File.seen c.set_len-2.new.self) (g.F.File.seen c.sync.new.self)
    (c.in_ok-set_len.ensures.done honest) (c.in_ok-set_len-2.ensures.done first) (c.sync.ensures.same second))
