use Rattle.std.proofs.Common.{Err, ap, ◌∙◌}
use Rattle.dns_journal.proofs.Looking.{reads_then}
use Rattle.dns_store.proofs.Altered.{applied_altered}
use Rattle.dns_store.proofs.Entering.{not_opened, unaltered}
use Rattle.dns_devices.specs.Stores.{own_shape}
use Rattle.dns_commands.proofs.Verified.{figures_read, refused_as, tested_before, untested}
use Rattle.dns_commands.proofs.commands.verify.read_store.Goals as goal

pub returns-in-Ok-tested : goal.returns-in-Ok-tested
returns-in-Ok-tested g c =
    let own = c.args.own.now in
    let old = c.args.device.now in
    let mid = c.read_settled-read.new.device in
    let new = c.tested.new.device in
    let seen = g.D.Sectors.seen old in
    let read = c.in-Ok.read in
    let is = c.figures_of.ensures in
    record {
      read_only = reads_then old mid new c.read_settled-read.ensures.reads c.tested.ensures.reads;
      intact = record { root = c.in-Ok.ensures.root; not_own = c.in-Ok.ensures.not_own };
      opened = λ honest range o (spoilt, (before, some, (s, holds, tidy, part, times))).
          figures_read (own_shape own) o before read.root read.end read.base.records read.newest.records read.changes.items c.figures_of.result s part times
          (c.in-Ok.ensures.found honest range before (applied_altered o.altered before seen spoilt some) o s holds part) is.version is.serial is.records is.entries is.sectors_left is.openings;
      altered = λ honest range before o opens none altered.
          let (s, holds, tidy, part, times) = unaltered (own_shape own) o before opens none in
          figures_read (own_shape own) o before read.root read.end read.base.records read.newest.records read.changes.items c.figures_of.result s part times
          (c.in-Ok.ensures.found honest range before altered o s holds part) is.version is.serial is.records is.entries is.sectors_left is.openings;
      tested = tested_before {D = g.row.D.Denot} {g = g.D.Sectors} c.args.every_sector old mid c.in-Ok-tested.spoilt.items c.read_settled-read.ensures.reads c.in-Ok-tested.ensures.tested;
      quiet = c.in-Ok-tested.ensures.quiet ∙ c.in-Ok.ensures.quiet;
    }

pub returns-in-Ok : goal.returns-in-Ok
returns-in-Ok g c =
    untested g.D.Sectors c.args.own.now c.args.device.now c.read_settled-read.new.device c.tested.new.device c.in-Err-tested.error c.read_settled-read.ensures.reads c.in-Ok.ensures.quiet c.tested.ensures.reads
    (λ is. c.in-Err-tested.ensures.device (ap Err is)) c.in-Err-tested.ensures.only

pub returns : goal.returns
returns g c =
    let own = c.args.own.now in
    let seen = g.D.Sectors.seen c.args.device.now in
    let error = c.in-Err.error in
    record {
      read_only = c.read_settled-read.ensures.reads;
      failed = λ is. c.in-Err.ensures.device (ap Err is);
      stopped = λ honest range o (spoilt, (before, some, (s, holds, tidy, part, times))). not_opened (own_shape own) o before seen error some times
          (c.in-Err.ensures.found honest range before (applied_altered o.altered before seen spoilt some) o s holds part);
      refused = c.in-Err.ensures.refused;
      damaged = c.in-Err.ensures.damaged;
      not_own = c.in-Err.ensures.not_own;
      altered = λ honest range before o opens none altered.
          let (s, holds, tidy, part, times) = unaltered (own_shape own) o before opens none in
          refused_as (own_shape own) o before seen error times (c.in-Err.ensures.found honest range before altered o s holds part);
    }
