use Rattle.std.proofs.Common.{refl, ◌*◌}
use Rattle.dns_sectors.proofs.SectorsInFile.{sector_read}
use Rattle.dns_sectors.proofs.file_device.FileSectorsSectors.read.Goals as goal

pub returns-in-Ok-eq512-clause-octets : goal.returns-in-Ok-eq512-clause-octets
returns-in-Ok-eq512-clause-octets g c = λ honest.
    sector_read c.args.self.now.len c.args.at (512 * c.args.at) c.in-Ok-eq512.field-0 (g.F.File.seen c.args.self.now.file) c.read_at.new.into c.requires refl c.read_at.array_long
    c.in-Ok-eq512.field-0-test (c.in-Ok-eq512.ensures.octets honest)
