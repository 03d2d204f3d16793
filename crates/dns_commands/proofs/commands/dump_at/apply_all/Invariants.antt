use Rattle.std.proofs.Common.{◌≡◌, true, take}
use Rattle.dns_names.specs.Name.{Labels}
use Rattle.dns_zone.specs.Records.{is_ordered}
use Rattle.dns_store.specs.Checkpoint.{AllZones}
use Rattle.dns_store.specs.Recovered.{AreLed}
use Rattle.dns_store.specs.Versions.{Versions, newest_after}
use Rattle.dns_commands.proofs.commands.dump_at.apply_all.Given as goal

abbrev pub invariant-loop-change : goal.invariant-loop-change
invariant-loop-change g l =
    (apex : Labels) (vs : Versions) → AreLed (g.I.ZoneIndex.records l.fn.set) vs l.changes → AllZones apex vs → is_ordered (g.I.ZoneIndex.records l.fn.set) ≡ true
    → g.I.ZoneIndex.records l.set ≡ newest_after (g.I.ZoneIndex.records l.fn.set) (take l.change-index vs)
