use Rattle.std.proofs.Common.{inr, refl}
use Rattle.dns_configuration.proofs.Called.{called_on}
use Rattle.dns_commands.proofs.commands.verify.look_at.Goals as goal

pub returns-in-Ok : goal.returns-in-Ok
returns-in-Ok g c = (
  _,
  called_on _ _ _ _ _ (rw c.deref.ensures at c.in_ok-device.ensures) (rw c.deref-in-Ok.ensures at c.close.ensures),
  record { device = c.in_ok-device.device; after = c.read_store.new.device; came = refl; well = c.in-Ok.ensures },
)

pub returns-in-Err : goal.returns-in-Err
returns-in-Err g c = (
  _,
  called_on _ _ _ _ _ (rw c.deref.ensures at c.in_ok-device.ensures) (rw c.deref-in-Err.ensures at c.close-in-Err.ensures),
  inr (record {
    device = c.in_ok-device.device;
    back = c.read_store.new.device;
    after = c.refusal-fault.new.device;
    came = refl;
    error = c.in-Err.error;
    why = c.in-Err.ensures;
    asked = c.refusal-fault.ensures.reads;
    named = c.refusal-fault.ensures.fault;
  }),
)
