use Rattle.std.proofs.Common.{inr, Ok, Err, refl, ap}
use Rattle.dns_configuration.proofs.Called.{called_on}
use Rattle.dns_commands.proofs.Migrated.{answered_old, migrated_store, only_read, refused_old, unless_failed}
use Rattle.dns_commands.proofs.commands.migrate.migrate_one.Goals as goal

pub returns-in-Ok : goal.returns-in-Ok
returns-in-Ok g c = (
  _,
  called_on _ _ _ _ _ (rw c.deref.ensures at c.in_ok-device.ensures) (rw c.deref-2.ensures at c.close.ensures),
  record {
    device = c.in_ok-device.device;
    after = c.migrate-migrated.new.device;
    came = refl;
    honest = c.in-Ok.ensures.honest;
    takes = c.in-Ok.ensures.migrated;
    any_moment = c.in-Ok.ensures.any_moment;
    fits = λ honest o is range wide. (c.in-Ok.ensures.no_room honest o is range wide).0;
    root = λ honest other. c.in-Ok.ensures.root honest (migrated_store c.in-Ok.answer other);
    already = λ honest is. c.in-Ok.ensures.already honest (ap Ok is);
    old = λ honest some is. answered_old c.in-Ok.answer (Ok c.in-Ok.answer) refl (c.in-Ok.ensures.old honest some is);
    read_only = only_read c.in-Ok.answer (Ok c.in-Ok.answer) refl c.in-Ok.ensures.unwritten;
    quiet = c.in-Ok.ensures.quiet;
    count = c.in-Ok.ensures.count;
  },
)

pub returns-in-Err : goal.returns-in-Err
returns-in-Err g c = (
  _,
  called_on _ _ _ _ _ (rw c.deref.ensures at c.in_ok-device.ensures) (rw c.deref-2.ensures at c.close.ensures),
  inr (record {
    device = c.in_ok-device.device;
    after = c.migrate-migrated.new.device;
    came = refl;
    honest = c.in-Err.ensures.honest;
    error = c.in-Err.error;
    named = c.from.ensures;
    stopped = c.in-Err.ensures.migrated;
    refused = c.in-Err.ensures.refused;
    too_large = λ honest o opens range is. c.in-Err.ensures.too_large honest o opens range (ap Err is);
    no_room = λ honest o is range wide. (c.in-Err.ensures.no_room honest o is range wide).1;
    any_moment = c.in-Err.ensures.any_moment;
    old = λ honest some is. refused_old c.in-Err.error (Err c.in-Err.error) refl (c.in-Err.ensures.old honest some is);
    read_only = unless_failed c.in-Err.error (Err c.in-Err.error) refl c.in-Err.ensures.unwritten;
    failed = λ is. c.in-Err.ensures.device (ap Err is);
    grows = c.in-Err.ensures.grows;
    count = c.in-Err.ensures.count;
  }),
)
