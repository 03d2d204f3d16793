use Rattle.std.proofs.Common.{length, ◌∙◌}
use Rattle.std.specs.Prelude.{◌&&◌, ◌==◌}
use Rattle.std.specs.Option.{option_copied}
use Rattle.dns_zone.specs.Records.{rrset}
use Rattle.dns_update.specs.ResourceRecord.{as_record}
use Rattle.dns_update.proofs.Listing.{has_found, some_copied}
use Rattle.dns_update.proofs.prerequisites.is_counted.Goals as goal

pub returns : goal.returns
returns g c =
    let xs = g.I.ZoneIndex.records c.args.index.now in
    let ls = g.L.ZoneIndex.records c.args.listed.now in
    let item = c.args.item.now in
    let owner = c.lend-owner.ensures ∙ c.owner.ensures in
    let some = c.is_some.ensures ∙ some_copied c.find_named.result ∙ has_found (as_record item) xs (option_copied c.find_named.result) c.find_named.ensures in
    let count = c.rrset-count.ensures ∙ (λ i. rrset ls (owner i) (c.rtype.ensures i)) in
    let there = c.rrset.ensures ∙ (λ i. rrset xs (owner i) (c.rtype-2.ensures i)) in
    λ i. some i && (length (count i) == length (there i))
