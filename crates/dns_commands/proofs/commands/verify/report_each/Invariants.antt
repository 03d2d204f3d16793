use Rattle.std.proofs.Common.{take}
use Rattle.std.specs.Prelude.{flat_map}
use Rattle.std.specs.String.{string_bytes}
use Rattle.std.specs.Io.KnownBytes.{Appends}
use Rattle.dns_commands.specs.Verify.{spoilt_text}
use Rattle.dns_commands.proofs.commands.verify.report_each.Given as goal

abbrev pub invariant-loop-position : goal.invariant-loop-position
invariant-loop-position g l =
    Appends (g.E.Write.contents l.initial.err) (g.E.Write.contents l.err) (flat_map (spoilt_text (string_bytes l.own.device) l.explain) (take l.position-index l.places))
