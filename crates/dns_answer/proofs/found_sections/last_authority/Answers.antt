use Rattle.std.proofs.Common.{List, sym, ap, ◌∙◌}
use Rattle.std.proofs.lemmas.Option.{slice_get_within}
use Rattle.dns_lookup.specs.Lookup.{Found as Stated}
use Rattle.dns_answer.specs.Sections.{records_of, authority_of}
use Rattle.dns_answer.proofs.Shown.{last_represented, lent_last, none_represented}
use Rattle.std.proofs.lemmas.Result.{IfOk-weaker}
use Rattle.dns_answer.proofs.found_sections.last_authority.Goals as goal

pub authority_section-requires : goal.authority_section-requires
authority_section-requires g c =
    let zones = c.args.zones.now in
    let last = c.in-Some.last.now in
    let l = last_represented zones c.requires.0 c.args.found.now last c.requires.1 c.in-Some.ensures.value in
    slice_get_within zones last.zone l.0.zone l.1.zone

pub returns-in-Some : goal.returns-in-Some
returns-in-Some g c = IfOk-weaker c.authority_section.result _ _ (λ shown e t fs are holds.
    let l = last_represented c.args.zones.now fs c.args.found.now c.in-Some.last.now are c.in-Some.ensures.value in
    e t l.0 l.1 (lent_last c.args.zones.now t c.args.found.now c.in-Some.last.now holds c.in-Some.ensures.value) ∙ ap records_of (sym l.2)) c.authority_section.ensures

pub returns-in-None : goal.returns-in-None
returns-in-None g c t fs are holds =
    let none = none_represented c.args.zones.now fs c.args.found.now are c.in-None.ensures.value in
    c.new.ensures ∙ ap (λ (xs : List Stated). records_of (authority_of xs)) (sym none)
