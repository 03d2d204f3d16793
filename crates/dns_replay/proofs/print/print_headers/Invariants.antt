use Rattle.std.proofs.Common.{flat_map, map, take}
use Rattle.std.specs.Io.KnownBytes.{Appends}
use Rattle.dns_primary.specs.Keeps.{header_out}
use Rattle.dns_replay.specs.Scripts.{printed_reply}
use Rattle.dns_replay.proofs.print.print_headers.Given as goal

abbrev pub invariant-loop-header : goal.invariant-loop-header
invariant-loop-header g l = Appends (g.W.Write.contents l.initial.out) (g.W.Write.contents l.out) (flat_map printed_reply (map header_out (take l.header-index l.headers)))
