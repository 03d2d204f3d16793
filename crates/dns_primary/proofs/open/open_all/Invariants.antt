use Rattle.std.proofs.Common.{◌≡◌, ◌≤◌, length, drop}
use Rattle.std.specs.Prelude.{vec_capacity}
use Rattle.dns_primary.specs.Open.{AreOpened}
use Rattle.dns_primary.proofs.open.open_all.Given as goal

abbrev pub invariant-loop-index : goal.invariant-loop-index
invariant-loop-index g l = record {
  opened : AreOpened l.index l.fn.apexes l.fn.settings l.fn.devices.items l.zones.items l.pending.items;
  rest : l.devices.items ≡ drop l.index l.fn.devices.items;
  room : length l.fn.settings ≤ vec_capacity l.devices;
  zones_room : length l.fn.settings ≤ vec_capacity l.zones;
  pending_room : length l.fn.settings ≤ vec_capacity l.pending;
  zones_many : length l.zones.items ≡ l.index;
  pending_many : length l.pending.items ≡ l.index;
}
