use Rattle.dns_zoneindex.proofs.Fronts.{no_begin}
use Rattle.dns_zoneindex.proofs.group.place_of.Goals as goal

pub returns-then-skip-eq0 : goal.returns-then-skip-eq0
returns-then-skip-eq0 c = c.place_by_keys.ensures.position (no_begin c.args.label.now c.args.slots.now)
