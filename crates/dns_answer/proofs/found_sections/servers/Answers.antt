use Rattle.std.proofs.Common.{List, length, sym, ap, ◌∙◌, arith}
use Rattle.std.specs.List.{flat_map}
use Rattle.dns_records.specs.Record.{Record}
use Rattle.dns_lookup.specs.Lookup.{Outcome}
use Rattle.dns_lookup.specs.Lent.{records_found}
use Rattle.dns_lookup.specs.RepresentedLaws.{represented_is, outcome_of}
use Rattle.dns_answer.specs.Sections.{addresses_for, from_zone, records_of}
use Rattle.dns_answer.proofs.Shown.{authority_by, no_servers, records_back}
use Rattle.dns_zone.specs.Records.{rrset}
use Rattle.dns_records.specs.Types.{type_ns}
use Rattle.dns_answer.proofs.found_sections.servers.Goals as goal

pub returns-in_default-clause-hosts : goal.returns-in_default-clause-hosts
returns-in_default-clause-hosts c zones t f is holds =
    let last = c.args.last.now in
    ap (λ (o : Outcome). flat_map addresses_for (authority_by f.zone o)) (represented_is f.outcome f.name last.kind last.node is.kind) ∙ no_servers f.zone last.node last.kind c.in_default.not-Referral

pub returns-in-Referral-clause-hosts : goal.returns-in-Referral-clause-hosts
returns-in-Referral-clause-hosts c zones t f is holds =
    let last = c.args.last.now in
    let stored = holds f.zone is.zone ∙ ap (λ k. records_found f.zone.records k last.node t) c.in-Referral.is in
    ap (λ (o : Outcome). flat_map addresses_for (authority_by f.zone o)) (represented_is f.outcome f.name last.kind last.node is.kind ∙ ap (λ k. outcome_of k last.node) c.in-Referral.is) ∙ ap (λ (rs : List Record). flat_map addresses_for (from_zone f.zone rs)) (sym stored)

pub returns-in-Referral-clause-few : goal.returns-in-Referral-clause-few
returns-in-Referral-clause-few c zones t f is holds =
    let last = c.args.last.now in
    let stored = holds f.zone is.zone ∙ ap (λ k. records_found f.zone.records k last.node t) c.in-Referral.is in
    let there = ap (λ (o : Outcome). records_of (authority_by f.zone o)) (represented_is f.outcome f.name last.kind last.node is.kind ∙ ap (λ k. outcome_of k last.node) c.in-Referral.is) ∙ records_back f.zone (rrset f.zone.records last.node type_ns) ∙ sym stored in
    omega (arith, ap length there)
