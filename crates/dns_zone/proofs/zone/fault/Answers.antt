use Rattle.std.proofs.Common.{[], length, subst, ap, ◌∙◌}
use Rattle.std.specs.Prelude.{◌==◌}
use Rattle.dns_names.specs.Name.{Labels}
use Rattle.dns_zone.specs.Records.{rrset}
use Rattle.dns_zone.specs.Sets.{sorted_from}
use Rattle.dns_zone.specs.Survey.{Surveys}
use Rattle.dns_zone.specs.Owned.{owns_no_type}
use Rattle.dns_zone.proofs.Listed.{fault_is}
use Rattle.dns_zone.proofs.zone.fault.Goals as goal

pub returns : goal.returns
returns g c =
    let xs = g.I.ZoneIndex.records c.args.index.now in
    let apex = c.args.apex.now in
    let no_soa = c.is_empty-soa.ensures ∙ ap (λ rs. length rs == 0) (c.rrset.ensures ∙ ap (λ n. rrset xs n 6) c.lend-apex.ensures) ∙ owns_no_type xs apex 6 in
    let no_ns = c.is_empty-ns.ensures ∙ ap (λ rs. length rs == 0) (c.rrset-2.ensures ∙ ap (λ n. rrset xs n 2) c.lend-apex.ensures) ∙ owns_no_type xs apex 2 in
    let told : Surveys apex xs [] c.survey_of.result = subst (λ (n : Labels). Surveys n xs [] c.survey_of.result) c.lend-apex.ensures c.survey_of.ensures in
    c.first_fault.ensures ∙ fault_is apex xs c.survey_of.result c.is_empty-soa.result c.is_empty-ns.result (sorted_from xs (g.met.I.ZoneIndex.ordered c.args.index.now)) no_soa no_ns told
