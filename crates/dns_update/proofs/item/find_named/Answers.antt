use Rattle.std.proofs.Common.{◌≡◌, true, List, sym, subst, ◌∙◌}
use Rattle.std.specs.List.{find}
use Rattle.dns_records.specs.Record.{Record}
use Rattle.dns_zone.specs.Records.{alike, is_ordered, rrset}
use Rattle.dns_zone.proofs.Replaced.{rrset_ordered}
use Rattle.dns_update.specs.ResourceRecord.{as_record}
use Rattle.dns_update.proofs.ResourceRecords.{found_here}
use Rattle.dns_update.proofs.item.find_named.Goals as goal

pub find_parts-requires : goal.find_parts-requires
find_parts-requires g c =
    let xs = g.I.ZoneIndex.records c.args.set.now in
    subst (λ (rs : List Record). is_ordered rs ≡ true) (sym c.rrset-rrset.ensures) (rrset_ordered xs _ _ (g.met.I.ZoneIndex.ordered c.args.set.now))

pub returns : goal.returns
returns g c =
    let xs = g.I.ZoneIndex.records c.args.set.now in
    let owner = c.lend-owner.ensures ∙ c.owner.ensures in
    let there = c.rrset-rrset.ensures ∙ (λ i. rrset xs (owner i) (c.rtype.ensures i)) in
    c.find_parts.ensures ∙ (λ i. find (alike (record { owner = owner i; rtype = c.rtype-2.ensures i; ttl = 0; rdata = c.rdata.ensures i })) (there i)) ∙ found_here (as_record c.args.item.now) xs
