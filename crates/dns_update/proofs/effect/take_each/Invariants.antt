use Rattle.std.proofs.Common.{◌≡◌, true, drop}
use Rattle.dns_zone.specs.Records.{are_of, is_ordered}
use Rattle.dns_update.specs.Effect.{effects}
use Rattle.dns_update.proofs.effect.take_each.Given as goal

abbrev pub invariant-loop-item : goal.invariant-loop-item
invariant-loop-item g l = record {
  done : effects l.apex (g.H.Held.records l.held) (drop l.item-index l.items) ≡ effects l.apex (g.H.Held.records l.initial.held) l.items;
  order : is_ordered (g.H.Held.records l.held) ≡ true;
  owned : are_of l.name (g.H.Held.records l.held) ≡ true;
}
