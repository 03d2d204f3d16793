use Rattle.std.proofs.Common.{take}
use Rattle.dns_service.specs.Log.{IsAdded}
use Rattle.dns_service.specs.UpdateLines.{headers_said}
use Rattle.dns_service.proofs.update_lines.add_headers.Given as goal

abbrev pub invariant-loop-header : goal.invariant-loop-header
invariant-loop-header l = IsAdded (headers_said l.origins l.fn.counts (take l.header-index l.headers)) l.initial.lines.items l.lines.items l.after
