use Rattle.std.proofs.Common.{sym, ◌∙◌}
use Rattle.dns_zone.proofs.Beside.{place_tells, place_from}
use Rattle.dns_zone.proofs.lookup.find_node.Goals as goal

pub match_owner-requires : goal.match_owner-requires
match_owner-requires c =
    let records = c.args.records.now in
    let position = c.count_before-position in
    let is = place_from c.args.name.now c.reborrow.result records position.result c.reborrow.ensures position.ensures.bound position.ensures.before position.ensures.behind in
    record { order = c.requires; position = is; there = sym (place_tells records c.args.name.now position.result c.requires is) ∙ sym c.if-is_owned_at.ensures }

pub match_encloser-requires : goal.match_encloser-requires
match_encloser-requires c =
    let records = c.args.records.now in
    let position = c.count_before-position in
    let is = place_from c.args.name.now c.reborrow.result records position.result c.reborrow.ensures position.ensures.bound position.ensures.before position.ensures.behind in
    record { order = c.requires; position = is; absent = sym (place_tells records c.args.name.now position.result c.requires is) ∙ sym c.if-is_owned_at.ensures }
