use Rattle.std.specs.Prelude.{take}
use Rattle.std.specs.Io.KnownBytes.{Appends}
use Rattle.dns_primary.specs.Keeps.{IsKept}
use Rattle.dns_primary.specs.Machine.{Machine}
use Rattle.dns_recording.specs.Script.{zone_comments}
use Rattle.dns_recording.proofs.start.write_zones.Given as goal

abbrev pub invariant-loop-index : goal.invariant-loop-index
invariant-loop-index g l =
    (m : Machine) → IsKept l.fn.primary m
    → Appends (g.W.Write.contents l.fn.out) (g.W.Write.contents l.out) (zone_comments (take l.index l.fn.origins) m.zones)
