use Rattle.std.proofs.Common.{◌≡◌}
use Rattle.dns_journal.specs.Reads.{OnlyReads}
use Rattle.dns_commands.specs.Verify.{AreSpoilt}
use Rattle.dns_commands.proofs.commands.verify.spoilt_sectors.Given as goal

abbrev pub invariant-loop-position : goal.invariant-loop-position
invariant-loop-position g l = record {
  end : l.position-end ≡ g.D.Sectors.count l.initial.device;
  spoilt : g.D.Sectors.is_honest l.initial.device → AreSpoilt (g.D.Sectors.seen l.initial.device) l.position l.places.items;
  quiet : g.D.Sectors.failed l.device ≡ g.D.Sectors.failed l.initial.device;
  reads : OnlyReads g.D.Sectors l.initial.device l.device;
}
