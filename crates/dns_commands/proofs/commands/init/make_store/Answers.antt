use Rattle.std.proofs.Common.{Err, refl, ap}
use Rattle.dns_configuration.proofs.Called.{called_on}
use Rattle.dns_commands.proofs.Made.{not_formatted}
use Rattle.dns_commands.proofs.commands.init.make_store.Goals as goal

pub returns-in-Ok-formatted : goal.returns-in-Ok-formatted
returns-in-Ok-formatted g c =
    let made = rw (c.deref.ensures, c.sectors_of.ensures) at c.in-Ok.ensures in (
      _,
      called_on _ _ _ _ _ made (rw c.deref-2.ensures at c.close.ensures),
      record {
        blank = c.in-Ok.device;
        device = c.format-formatted.new.device;
        came = refl;
        honest = c.in-Ok-formatted.ensures.honest;
        any_moment = c.in-Ok-formatted.ensures.any_moment;
        keeps = c.in-Ok-formatted.ensures.made;
      },
    )

pub returns-in-Err : goal.returns-in-Err
returns-in-Err g c =
    let made = rw (c.deref.ensures, c.sectors_of.ensures) at c.in-Ok.ensures in
    let closed = rw c.deref-2.ensures at c.close.ensures in
    let removed = rw c.deref-in-Err.ensures at c.remove.ensures in
    let why = c.in-Err.ensures in
    rw c.from.ensures (_, called_on _ _ _ _ _ (called_on _ _ _ _ _ made closed) removed, not_formatted g.D.Sectors _ c.args.own.now c.args.zone.now c.in-Ok.device c.format-formatted.new.device c.in-Err.error refl (λ is. why.device (ap Err is)) (λ is. why.geometry.0 (ap Err is)) (λ is. (why.too_large.0 (ap Err is)).1))
