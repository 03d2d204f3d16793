use Rattle.std.specs.Prelude.{take}
use Rattle.std.specs.Io.KnownBytes.{Appends}
use Rattle.dns_primary.specs.Keeps.{IsKept}
use Rattle.dns_primary.specs.Machine.{Machine}
use Rattle.dns_service.specs.Log.{zone_lines}
use Rattle.dns_service.proofs.server.tell_zones.Given as goal

abbrev pub invariant-loop-index : goal.invariant-loop-index
invariant-loop-index g l =
    (m : Machine) → IsKept l.fn.primary m
    → Appends (g.E.Write.contents l.fn.err) (g.E.Write.contents l.err) (zone_lines (take l.index l.fn.origins) m.zones)
