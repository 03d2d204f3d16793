use Rattle.std.proofs.Common.{◌≡◌, true, List, sym, ap, subst, ◌∙◌}
use Rattle.std.specs.Prelude.{filter}
use Rattle.dns_records.specs.Record.{Record}
use Rattle.dns_zone.specs.Records.{is_ordered, put}
use Rattle.dns_update.specs.Effect.{replaced}
use Rattle.dns_update.specs.Ranges.{is_outside}
use Rattle.dns_update.proofs.Found.{done_at}
use Rattle.dns_update.proofs.Ranges.{left_ordered, one_type_goes}
use Rattle.dns_update.proofs.effect.replace.Goals as goal

pub put-requires : goal.put-requires
put-requires g c =
    let xs = g.H.Held.records c.args.held.now in
    subst (λ (ys : List Record). is_ordered ys ≡ true) (sym c.take_types.ensures) (left_ordered (is_outside c.rtype.result c.rtype-2.result) xs c.requires.order)

pub returns : goal.returns
returns g c =
    let xs = g.H.Held.records c.args.held.now in
    let r = c.args.come in
    done_at c.put.result (g.H.Held.records c.put.new.self) (put r (g.H.Held.records c.take_types.new.self)) (replaced xs r) c.put.ensures
    (ap (put r) (c.take_types.ensures ∙ (λ i. filter (is_outside (c.rtype.ensures i) (c.rtype-2.ensures i)) xs) ∙ one_type_goes r.owner r.rtype xs c.requires.rtype c.requires.owned))
