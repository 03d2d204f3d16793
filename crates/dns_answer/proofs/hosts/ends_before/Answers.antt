use Rattle.std.proofs.Common.{sym, ap, ◌∙◌}
use Rattle.std.specs.Ordering.{is_lt, nat_cmp}
use Rattle.std.specs.Cmp.Lexicographic.{slice_cmp}
use Rattle.std.proofs.lemmas.List.{nil_from_length}
use Rattle.dns_zone.specs.Sets.{less_is}
use Rattle.dns_answer.specs.Hosts.{IsAfter}
use Rattle.dns_answer.proofs.Rising.{first_rising, next_rising}
use Rattle.dns_answer.proofs.hosts.ends_before.Goals as goal

pub returns-in-Some : goal.returns-in-Some
returns-in-Some c lt =
    let after : IsAfter c.args.next.now c.in-Some.last.now =
    (λ i. slice_cmp nat_cmp (sym c.as_wire.ensures.octets i) (sym c.as_wire-in-Some.ensures.octets i))
    ∙ less_is _ (ap is_lt (sym c.cmp.ensures) ∙ sym c.is_lt.ensures ∙ lt) in
    next_rising c.args.names.now c.in-Some.field-0-1.now c.in-Some.last.now c.args.next.now c.in-Some.ensures.cases.0 c.requires after

pub returns-in-None : goal.returns-in-None
returns-in-None c is = first_rising c.args.names.now c.args.next.now (nil_from_length c.args.names.now c.in-None.ensures.cases)
