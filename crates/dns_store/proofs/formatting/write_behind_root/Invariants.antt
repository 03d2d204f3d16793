use Rattle.std.proofs.Common.{◌≡◌, ◌↔◌}
use Rattle.dns_sectors.specs.Device.{Content, LeavesOnly}
use Rattle.dns_layout.specs.Sector.{sector_at}
use Rattle.dns_store.specs.Formatting.{IsLaidTo, HasBlankRoot}
use Rattle.dns_store.proofs.formatting.write_behind_root.Given as goal

abbrev pub invariant-loop-at : goal.invariant-loop-at
invariant-loop-at g l = record {
  honest : g.D.Sectors.is_honest l.device ↔ g.D.Sectors.is_honest l.fn.device;
  count : g.D.Sectors.count l.device ≡ g.D.Sectors.count l.fn.device;
  same : g.D.Sectors.failed l.device ≡ g.D.Sectors.failed l.fn.device;
  laid : g.D.Sectors.is_honest l.fn.device → IsLaidTo l.octets l.at (g.D.Sectors.seen l.device);
  root : g.D.Sectors.is_honest l.fn.device → sector_at (g.D.Sectors.seen l.device) 0 ≡ sector_at (g.D.Sectors.seen l.fn.device) 0;
  blank : g.D.Sectors.is_honest l.fn.device → ((c : Content) → g.D.Sectors.may_leave l.fn.device c → HasBlankRoot c) → (c : Content) → g.D.Sectors.may_leave l.device c → HasBlankRoot c;
  any_moment : g.D.Sectors.is_honest l.fn.device → ((c : Content) → g.D.Sectors.may_leave l.fn.device c → HasBlankRoot c) → LeavesOnly g.D.Sectors.moment g.D.Sectors.left_since l.fn.device l.device HasBlankRoot;
}
