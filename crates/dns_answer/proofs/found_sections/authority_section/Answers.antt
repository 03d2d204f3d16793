use Rattle.std.proofs.Common.{sym, ap, ◌∙◌}
use Rattle.dns_records.specs.Types.{type_ns}
use Rattle.dns_zone.specs.Records.{rrset}
use Rattle.dns_lookup.specs.Lookup.{Outcome}
use Rattle.dns_lookup.specs.Lent.{records_found}
use Rattle.dns_lookup.specs.RepresentedLaws.{represented_is, outcome_of}
use Rattle.dns_answer.specs.Sections.{records_of, negative_soa}
use Rattle.dns_answer.proofs.Shown.{authority_by, negative_authority, records_back, lent_at}
use Rattle.std.proofs.lemmas.Result.{IfOk-weaker}
use Rattle.dns_answer.proofs.found_sections.authority_section.Goals as goal

pub returns-in-Referral : goal.returns-in-Referral
returns-in-Referral g c = IfOk-weaker c.as_they_are.result _ _ (λ shown e t f is holds.
    let last = c.args.last.now in
    let stored = holds f.zone is.zone ∙ ap (λ k. records_found f.zone.records k last.node t) c.in-Referral.is in
    e ∙ stored ∙ sym (records_back f.zone (rrset f.zone.records last.node type_ns))
    ∙ sym (ap (λ (o : Outcome). records_of (authority_by f.zone o)) (represented_is f.outcome f.name last.kind last.node is.kind ∙ ap (λ k. outcome_of k last.node) c.in-Referral.is))) c.as_they_are.ensures

pub returns-in_default : goal.returns-in_default
returns-in_default g c t f is holds =
    let last = c.args.last.now in
    let zone = lent_at c.args.zones.now last.zone f.zone c.index-zones-last.result c.index-zones-last.is is.zone in
    c.of_one.ensures ∙ sym c.start_of_authority.ensures ∙ ap negative_soa zone
    ∙ sym (ap (λ (o : Outcome). records_of (authority_by f.zone o)) (represented_is f.outcome f.name last.kind last.node is.kind) ∙ negative_authority f.zone last.node last.kind c.in_default.not-Referral c.in_default.not-Alias c.in_default.not-Answers)
