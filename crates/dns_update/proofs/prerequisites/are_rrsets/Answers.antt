use Rattle.std.proofs.Common.{◌∙◌}
use Rattle.dns_update.proofs.Listing.{all_met}
use Rattle.dns_update.proofs.prerequisites.are_rrsets.Goals as goal

pub returns : goal.returns
returns g c = c.all_met.ensures ∙ all_met (g.I.ZoneIndex.records c.args.index.now) _ c.args.items.now c.in_ok-listed.ensures
