use Rattle.std.proofs.Common.{◌≡◌, length, take}
use Rattle.dns_zoneindex.specs.Children.{AreKeys}
use Rattle.dns_zoneindex.proofs.group.keys_of.Given as goal

abbrev pub invariant-keys : goal.invariant-keys
invariant-keys l = (length l.keys ≡ 16) × AreKeys l.skip (take l.position l.keys) l.slots
