use Rattle.std.proofs.Common.{◌≡◌, Some, None, sym, ap, ◌∙◌}
use Rattle.std.specs.List.{find}
use Rattle.dns_zone.specs.Records.{alike}
use Rattle.dns_update.specs.ResourceRecord.{as_record}
use Rattle.dns_update.proofs.Gone.{found_goes, untied_all}
use Rattle.dns_update.proofs.owner_records.take_named.Goals as goal

pub returns-in-Some : goal.returns-in-Some
returns-in-Some c =
    let xs = c.args.records.now.items in
    let r = as_record c.args.item.now in
    let e : find (alike r) xs ≡ Some c.in-Some.gone = ap (find (alike r)) (sym c.deref.ensures.value) ∙ sym c.in_ok-gone.ensures ∙ c.in-Some.is in
    c.take_among.ensures ∙ found_goes r c.in-Some.gone xs e

pub returns-in_default : goal.returns-in_default
returns-in_default c =
    let xs = c.args.records.now.items in
    let r = as_record c.args.item.now in
    let e : find (alike r) xs ≡ None = ap (find (alike r)) (sym c.deref.ensures.value) ∙ sym c.in_ok-gone.ensures ∙ c.in_default.is in
    sym (untied_all r xs e)
