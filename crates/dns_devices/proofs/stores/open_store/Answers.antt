use Rattle.std.proofs.Common.{inr, refl}
use Rattle.dns_configuration.proofs.Called.{called_on}
use Rattle.dns_devices.proofs.stores.open_store.Goals as goal

pub returns-in-Ok : goal.returns-in-Ok
returns-in-Ok g c = (
  _,
  rw c.deref.ensures at c.in_ok-device.ensures,
  record {
    device = c.in_ok-device.device;
    came = refl;
    apex = c.in-Ok.ensures.apex;
    intact = record { root = c.in-Ok.ensures.root; not_own = c.in-Ok.ensures.not_own };
    altered = c.in-Ok.ensures.altered;
    taken = c.in-Ok.ensures.opened;
    any_moment = c.in-Ok.ensures.any_moment;
    honest = c.in-Ok.ensures.honest;
    quiet = c.in-Ok.ensures.quiet;
  },
)

pub returns-in-Err : goal.returns-in-Err
returns-in-Err g c = (
  _,
  called_on _ _ _ _ _ (rw c.deref.ensures at c.in_ok-device.ensures) (rw c.deref-in-Err.ensures at c.close.ensures),
  inr (record {
    device = c.in_ok-device.device;
    back = c.in-Err.device;
    after = c.refusal-fault.new.device;
    came = refl;
    error = c.in-Err.error;
    read_only = c.in-Err.ensures.unwritten;
    asked = c.refusal-fault.ensures.reads;
    named = c.refusal-fault.ensures.fault;
    failed = c.in-Err.ensures.device;
    stopped = c.in-Err.ensures.opened;
    refused = c.in-Err.ensures.refused;
    damaged = c.in-Err.ensures.damaged;
    not_own = c.in-Err.ensures.not_own;
    altered = c.in-Err.ensures.altered;
    any_moment = c.in-Err.ensures.any_moment;
  }),
)
