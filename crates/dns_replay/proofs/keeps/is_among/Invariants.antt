use Rattle.std.proofs.Common.{◌≡◌, drop, map}
use Rattle.dns_replay.specs.Commands.{said_zone_keep}
use Rattle.dns_replay.specs.Keeps.{is_among}
use Rattle.dns_replay.proofs.keeps.is_among.Given as goal

abbrev pub invariant-loop-one : goal.invariant-loop-one
invariant-loop-one l = is_among l.zone (map said_zone_keep (drop l.one-index l.keeps)) ≡ is_among l.zone (map said_zone_keep l.keeps)
