use Rattle.dns_zoneindex.proofs.Fronts.{no_begin, found_place, found_whole}
use Rattle.dns_zoneindex.proofs.group.place_to_find.Goals as goal

pub returns-then-skip-eq0 : goal.returns-then-skip-eq0
returns-then-skip-eq0 c =
    let q = c.args.label.now in
    let slots = c.args.slots.now in
    found_place q slots c.place_by_keys.result (c.place_by_keys.ensures.position (no_begin q slots))

pub returns-then-whole : goal.returns-then-whole
returns-then-whole c =
    let position = c.place_by_keys-then-whole in
    found_whole c.args.skip c.args.label.now c.args.slots.now position.result (c.requires.begin.1 c.if-whole.true) c.requires.full position.ensures.there position.ensures.position

pub returns : goal.returns
returns c = found_place c.args.label.now c.args.slots.now c.place_of.result c.place_of.ensures
