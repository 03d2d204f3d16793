use Rattle.std.specs.Prelude.{take}
use Rattle.std.specs.Io.KnownBytes.{Appends}
use Rattle.dns_service.specs.Log.{listening_lines}
use Rattle.dns_service.proofs.server.tell_listening.Given as goal

abbrev pub invariant-loop-address : goal.invariant-loop-address
invariant-loop-address g l = Appends (g.E.Write.contents l.fn.err) (g.E.Write.contents l.err) (listening_lines (take l.address-index l.fn.addresses))
