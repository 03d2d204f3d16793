use Rattle.std.proofs.Common.{◌≡◌, ℕ, List, take}
use Rattle.std.specs.Io.KnownBytes.{Appends}
use Rattle.dns_configuration.specs.Calls.{Calls}
use Rattle.dns_commands.specs.Verify.{AreFindings, Finding, printed_of, reported_of, zone_texts, worst_of}
use Rattle.dns_commands.proofs.commands.verify.verify_zones.Given as goal

abbrev pub invariant-loop-own : goal.invariant-loop-own
invariant-loop-own g l = record {
  made : Calls (g.F.DevicesToRead.calls l.initial.run.devices) (g.F.DevicesToRead.calls l.run.devices) (λ calls. (findings : List Finding)
      × AreFindings g.D.Sectors l.every_sector calls (take l.own-index l.settings) findings
      × Appends (g.W.Write.contents l.initial.run.out) (g.W.Write.contents l.run.out) (zone_texts printed_of (take l.own-index l.settings) findings)
      × Appends (g.E.Write.contents l.initial.run.err) (g.E.Write.contents l.run.err) (zone_texts (reported_of l.initial.run.explain) (take l.own-index l.settings) findings)
      × (l.worst ≡ worst_of findings));
  explain : l.run.explain ≡ l.initial.run.explain;
}
