use Rattle.std.proofs.Common.{◌∷◌, [], List, length, get_or, sym, ap, ◌∙◌, arith}
use Rattle.dns_records.specs.Record.{Record}
use Rattle.dns_records.specs.Types.{type_soa}
use Rattle.dns_zone.proofs.Kept.{numbers_same}
use Rattle.dns_zone.proofs.OneSoa.{is_one, soa_here}
use Rattle.dns_zone.proofs.soa.soa_of.Goals as goal

pub bounds-rrset-0 : goal.bounds-rrset-0
bounds-rrset-0 g c = omega (arith, ap length (c.rrset.ensures ∙ soa_here c.args.apex.now (g.I.ZoneIndex.records c.args.set.now) c.requires))

pub returns-clause-one : goal.returns-clause-one
returns-clause-one g c =
    let h = c.requires in
    let here = c.rrset.ensures ∙ soa_here c.args.apex.now (g.I.ZoneIndex.records c.args.set.now) h in
    h.one ∙ ap (λ (r : Record). r ∷ []) (sym (c.index-rrset-0.is ∙ ap (λ (rs : List Record). get_or rs 0 c.index-rrset-0.result) here))

pub returns-clause-soa : goal.returns-clause-soa
returns-clause-soa g c =
    let xs = g.I.ZoneIndex.records c.args.set.now in
    let h = c.requires in
    let here = c.rrset.ensures ∙ soa_here c.args.apex.now xs h in
    ap (λ (r : Record). r.rtype) (c.index-rrset-0.is ∙ ap (λ (rs : List Record). get_or rs 0 c.index-rrset-0.result) here) ∙ numbers_same (h.soa).rtype type_soa (is_one c.args.apex.now xs h)
