use Rattle.std.proofs.Common.{◌≡◌, refl, sym, subst, ◌∙◌, arith, List, ◌∷◌, []}
use Rattle.std.specs.Prelude.{None}
use Rattle.dns_lookup.specs.Lookup.{resolve, next_name}
use Rattle.dns_lookup.specs.Lookup as lookup
use Rattle.dns_lookup.specs.Represented.{RepresentAll}
use Rattle.dns_lookup.proofs.Chained.{begins, ends_here, goes_behind, found_in}
use Rattle.dns_lookup.proofs.chain.resolve.Goals as goal

pub returns-in_default-clause-represents : goal.returns-in_default-clause-represents
returns-in_default-clause-represents g c =
    let zones = c.args.zones.now in
    let t = c.args.qtype in
    let first = c.args.first in
    let h = c.requires in
    let none : None ≡ next_name (found_in h.zone first.name t) (first.name ∷ []) =
    sym c.in_default.is ∙ c.next_name.ensures zones (found_in h.zone first.name t) t h.represents h.lends refl in
    ends_here zones t (resolve zones first.name t) 8 [] first.name h.zone first (omega arith) (begins zones t [] first.name refl) h.closest h.represents none

pub returns-in_default-clause-lent : goal.returns-in_default-clause-lent
returns-in_default-clause-lent g c = (c.requires.lends, tt)

pub returns-clause-represents : goal.returns-clause-represents
returns-clause-represents g c =
    let zones = c.args.zones.now in
    let t = c.args.qtype in
    let first = c.args.first in
    let h = c.requires in
    let next = c.in-Some.ensures zones (found_in h.zone first.name t) t h.represents h.lends refl in
    let whole = goes_behind zones t first.name h.zone first c.in-Some.target h.closest h.represents next in
    subst (λ (fs : List lookup.Found). RepresentAll zones fs c.in_ok-found.found.items) (sym whole) (c.in_ok-found.ensures.represents (found_in h.zone first.name t) h.represents)
