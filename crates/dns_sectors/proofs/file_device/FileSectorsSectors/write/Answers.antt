use Rattle.std.proofs.Common.{refl, ap, ◌∙◌, ◌*◌}
use Rattle.dns_sectors.specs.FileOctets.{sectors}
use Rattle.dns_sectors.proofs.SectorsInFile.{sectors_written, may_write, crash_follows}
use Rattle.dns_sectors.proofs.file_device.FileSectorsSectors.write.Goals as goal

pub returns-in-Ok-eq512-clause-written : goal.returns-in-Ok-eq512-clause-written
returns-in-Ok-eq512-clause-written g c = λ honest.
    ap (sectors c.args.self.now.len) (c.in-Ok-eq512.ensures.whole honest c.in-Ok-eq512.field-0-test)
    ∙ sectors_written c.args.self.now.len c.args.at (512 * c.args.at) c.args.octets.now (g.F.File.seen c.args.self.now.file) refl c.told-octets

pub returns-in-Ok-eq512-clause-crash : goal.returns-in-Ok-eq512-clause-crash
returns-in-Ok-eq512-clause-crash g c = λ honest.
    crash_follows c.args.self.now.len c.args.at (512 * c.args.at) c.args.octets.now refl c.told-octets _ _ (c.write_at.ensures.crash honest)

pub returns-in_default-clause-unwritten : goal.returns-in_default-clause-unwritten
returns-in_default-clause-unwritten g c = λ honest.
    may_write c.args.self.now.len c.args.at (512 * c.args.at) c.args.octets.now refl c.told-octets _ _ (c.write_at.ensures.either honest)

pub returns-in_default-clause-crash : goal.returns-in_default-clause-crash
returns-in_default-clause-crash g c = λ honest.
    crash_follows c.args.self.now.len c.args.at (512 * c.args.at) c.args.octets.now refl c.told-octets _ _ (c.write_at.ensures.crash honest)
