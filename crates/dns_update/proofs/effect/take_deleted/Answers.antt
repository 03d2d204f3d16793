use Rattle.std.proofs.Common.{◌≡◌, true, ◌&&◌, ◌||◌, sym, ap, subst, ◌∙◌}
use Rattle.std.specs.Prelude.{Bool, ◌==◌}
use Rattle.dns_names.specs.Name.{Labels}
use Rattle.dns_records.specs.Types.{type_ns, type_soa}
use Rattle.dns_zone.specs.Order.{names_same}
use Rattle.dns_zone.specs.Records.{are_of}
use Rattle.dns_update.specs.Effect.{deleted_set}
use Rattle.dns_update.proofs.Ranges.{all_go, is_number, other_number, type_goes, vital_stays}
use Rattle.dns_update.proofs.effect.take_deleted.Goals as goal

pub take_but_vital-requires-clause-owned : goal.take_but_vital-requires-clause-owned
take_but_vital-requires-clause-owned g c =
    let same = names_same c.args.name.now c.args.apex.now (sym c.is_same-is_apex.ensures ∙ c.if-is_apex.true) in
    subst (λ (n : Labels). are_of n (g.H.Held.records c.args.held.now) ≡ true) same c.requires.owned

pub returns-then-is_apex : goal.returns-then-is_apex
returns-then-is_apex g c =
    let apex = c.args.apex.now in
    let xs = g.H.Held.records c.args.held.now in
    let same = names_same c.args.name.now apex (sym c.is_same-is_apex.ensures ∙ c.if-is_apex.true) in
    let any = c.if-rtype-eq-ANY.true in
    c.take_but_vital.ensures ∙ (λ i. deleted_set apex xs (sym same i) (sym any i))

pub returns-then-rtype-eq-ANY : goal.returns-then-rtype-eq-ANY
returns-then-rtype-eq-ANY g c =
    c.take_all.ensures ∙ all_go c.args.apex.now c.args.name.now c.args.rtype (g.H.Held.records c.args.held.now) (is_number c.args.rtype 255 (sym c.if-rtype-eq-ANY.true)) (sym c.is_same-is_apex.ensures ∙ c.if-is_apex.false) c.requires.owned

pub returns-then-is_apex-rtype : goal.returns-then-is_apex-rtype
returns-then-is_apex-rtype g c =
    let t = c.args.rtype in
    vital_stays c.args.apex.now c.args.name.now t (g.H.Held.records c.args.held.now) (other_number t 255 (λ e. c.if-rtype-eq-ANY.false (sym e)))
    (ap (λ (b : Bool). b && (t == type_soa || t == type_ns)) (sym c.is_same-is_apex.ensures) ∙ c.if-is_apex-rtype.true) c.requires.owned

pub returns : goal.returns
returns g c =
    let t = c.args.rtype in
    let apex = c.args.apex.now in
    let name = c.args.name.now in
    let xs = g.H.Held.records c.args.held.now in
    c.take_types.ensures
    ∙ type_goes apex name t xs (other_number t 255 (λ e. c.if-rtype-eq-ANY.false (sym e)))
    (ap (λ (b : Bool). b && (t == type_soa || t == type_ns)) (sym c.is_same-is_apex.ensures) ∙ c.if-is_apex-rtype.false) c.requires.owned
