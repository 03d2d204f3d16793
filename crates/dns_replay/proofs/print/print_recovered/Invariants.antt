use Rattle.std.specs.Io.KnownBytes.{Appends}
use Rattle.dns_primary.specs.Machine.{Machine}
use Rattle.dns_primary.specs.Keeps.{IsKept}
use Rattle.dns_replay.specs.Scripts.{recovered_zones}
use Rattle.dns_replay.proofs.print.print_recovered.Given as goal

abbrev pub invariant-loop-index : goal.invariant-loop-index
invariant-loop-index g l = (m : Machine) → IsKept l.primary m → Appends (g.W.Write.contents l.initial.out) (g.W.Write.contents l.out) (recovered_zones l.origins m.zones l.index)
