use Rattle.std.proofs.Common.{List, sym, ap, subst, ◌∙◌}
use Rattle.std.specs.List.{flat_map}
use Rattle.std.proofs.lemmas.Option.{slice_get_within}
use Rattle.dns_records.specs.Record.{Record}
use Rattle.dns_zone.specs.Zone.{Zone}
use Rattle.dns_lookup.specs.Lookup.{Found as Stated}
use Rattle.dns_answer.specs.Sections.{addresses_for, authority_of, from_zone}
use Rattle.dns_answer.specs.Added.{AddsUpTo}
use Rattle.dns_answer.proofs.UpTo.{up_to_none}
use Rattle.dns_answer.proofs.Shown.{last_represented, lent_last, none_represented}
use Rattle.std.proofs.lemmas.Result.{IfOk-weaker}
use Rattle.dns_answer.proofs.sections.Sections.push_for_authority.Goals as goal

pub searched-requires : goal.searched-requires
searched-requires g c =
    let zones = c.args.zones.now in
    let last = c.in-Some.last.now in
    let l = last_represented zones c.requires.0 c.args.found.now last c.requires.1 c.in-Some.ensures.value in
    slice_get_within zones last.zone l.0.zone l.1.zone

pub returns-in-Some : goal.returns-in-Some
returns-in-Some g c = IfOk-weaker c.push_addresses.result _ _ (λ done e t fs are holds.
    let zones = c.args.zones.now in
    let last = c.in-Some.last.now in
    let l = last_represented zones fs c.args.found.now last are c.in-Some.ensures.value in
    let zone = c.searched.ensures l.0 l.1 in
    let hosts = ap (λ (z : Zone). flat_map addresses_for (from_zone z c.servers.result.now)) zone ∙ sym (c.servers.ensures.hosts zones t l.0 l.1 (lent_last zones t c.args.found.now last holds c.in-Some.ensures.value)) ∙ ap (flat_map addresses_for) (sym l.2) in
    subst (λ (rs : List Record). AddsUpTo c.args.most c.args.self.now c.push_addresses.new.self rs) hosts e) c.push_addresses.ensures

pub returns-in-None : goal.returns-in-None
returns-in-None g c t fs are holds =
    let none = none_represented c.args.zones.now fs c.args.found.now are c.in-None.ensures.value in
    subst (λ (xs : List Stated). AddsUpTo c.args.most c.args.self.now c.args.self.now (flat_map addresses_for (authority_of xs))) (sym none) (up_to_none c.args.most c.args.self.now)
