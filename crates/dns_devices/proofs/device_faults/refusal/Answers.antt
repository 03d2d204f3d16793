use Rattle.std.proofs.Common.{inl, rules}
use Rattle.dns_layout.specs.Sector.{sector_at}
use Rattle.dns_devices.proofs.Refused.{not_old}
use Rattle.dns_devices.proofs.device_faults.refusal.Goals as goal

pub returns-in-Ok : goal.returns-in-Ok
returns-in-Ok g c = record {
  fault = inl (c.from.ensures, λ _ honest. not_old (sector_at (g.D.Sectors.seen c.args.device.now) 0) c.in-Ok.field-0 (c.in-Ok.ensures.format honest) (search rules));
  reads = c.in-Ok.ensures.reads;
}
