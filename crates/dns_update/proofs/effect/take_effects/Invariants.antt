use Rattle.std.proofs.Common.{◌≡◌, None, length}
use Rattle.std.specs.List.{AllByRecursion}
use Rattle.dns_update.specs.ResourceRecord.{HasForm, first_fault}
use Rattle.dns_update.specs.Prescan.{prescan_fault}
use Rattle.dns_update.specs.Effect.{effects}
use Rattle.dns_update.proofs.effect.take_effects.Given as goal

abbrev pub invariant-runs : goal.invariant-runs
invariant-runs g l = record {
  done : effects l.apex (g.I.ZoneIndex.records l.set) l.rest ≡ effects l.apex (g.I.ZoneIndex.records l.initial.set) l.items;
  pass : first_fault (prescan_fault l.apex) l.rest ≡ None;
  form : AllByRecursion HasForm l.rest;
}

abbrev pub decreases-runs : goal.decreases-runs
decreases-runs g l = length l.rest
