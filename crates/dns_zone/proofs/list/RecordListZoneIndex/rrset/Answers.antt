use Rattle.std.proofs.Common.{ap, ◌∙◌}
use Rattle.std.specs.Prelude.{filter}
use Rattle.std.specs.Ordering.{is_eq, nat_cmp, ordering_then}
use Rattle.dns_names.specs.Name.{name_cmp}
use Rattle.dns_zone.specs.Records.{rrset}
use Rattle.dns_zone.proofs.Listed.{typed_is}
use Rattle.dns_zone.proofs.list.RecordListZoneIndex.rrset.Goals as goal

pub returns : goal.returns
returns c = c.matching.ensures ∙ ap (λ name. filter (λ r. is_eq (ordering_then (name_cmp r.owner name) (nat_cmp r.rtype c.args.rtype))) c.deref.result.now) c.reborrow.ensures ∙ typed_is c.args.name.now c.args.rtype c.deref.result.now ∙ ap (λ xs. rrset xs c.args.name.now c.args.rtype) c.deref.ensures.value
