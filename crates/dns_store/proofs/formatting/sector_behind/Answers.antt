use Rattle.std.proofs.Common.{refl, arith}
use Rattle.dns_layout.specs.Sector.{snapshot_sectors}
use Rattle.dns_store.proofs.formatting.sector_behind.Goals as goal

pub returns-then-from-octets : goal.returns-then-from-octets
unfolding snapshot_sectors
returns-then-from-octets c = record { part = λ lt. absurd (omega (arith, lt, c.if-from-octets.true)); none = λ _. refl }

pub returns : goal.returns
unfolding snapshot_sectors
returns c = record {
  part = λ _. record { says = c.snapshot_sector.ensures.says; holds = c.snapshot_sector.ensures.holds; own = c.snapshot_sector.ensures.own };
  none = λ le. absurd (omega (arith, le, c.if-from-octets.false));
}
