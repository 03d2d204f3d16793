use Rattle.std.proofs.Common.{◌∙◌}
use Rattle.dns_zone.proofs.Beside.{place_tells, place_from}
use Rattle.dns_zone.proofs.lookup.exists.Goals as goal

pub returns : goal.returns
returns c =
    let position = c.count_before-position in
    c.is_owned_at.ensures ∙ place_tells c.args.records.now c.args.name.now position.result c.requires (place_from c.args.name.now c.reborrow.result c.args.records.now position.result c.reborrow.ensures position.ensures.bound position.ensures.before position.ensures.behind)
