use Rattle.std.proofs.Common.{◌≡◌, ℕ, List, take}
use Rattle.std.specs.Io.KnownBytes.{Appends}
use Rattle.dns_configuration.specs.Calls.{Calls}
use Rattle.dns_commands.specs.Migrate.{AreMigrated}
use Rattle.dns_commands.proofs.commands.migrate.migrate_zones.Given as goal

abbrev pub invariant-loop-own : goal.invariant-loop-own
invariant-loop-own g l = record {
  made : Calls (g.F.Devices.calls l.initial.run.devices) (g.F.Devices.calls l.run.devices) (λ calls. (printed : List ℕ)
      × AreMigrated g.D.Sectors calls (take l.own-index l.settings) printed
      × Appends (g.W.Write.contents l.initial.run.out) (g.W.Write.contents l.run.out) printed);
  told : g.E.Write.contents l.run.err ≡ g.E.Write.contents l.initial.run.err;
  explain : l.run.explain ≡ l.initial.run.explain;
}
