use Rattle.std.proofs.Common.{◌≡◌, true, not, List, sym, ap, subst, ◌∙◌}
use Rattle.std.specs.Prelude.{Bool, nat_lt, filter}
use Rattle.dns_records.specs.Record.{Record}
use Rattle.dns_zone.specs.Order.{names_itself}
use Rattle.dns_zone.specs.Records.{are_of, is_ordered}
use Rattle.dns_update.specs.Ranges.{is_outside}
use Rattle.dns_update.proofs.Ranges.{but_vital, left_ordered, left_owned}
use Rattle.dns_update.proofs.effect.take_but_vital.Goals as goal

-- up to the type of the SOA
abbrev up_to_soa : Record → Bool
up_to_soa r = not (nat_lt 6 r.rtype)

pub take_types-requires-clause-order : goal.take_types-requires-clause-order
take_types-requires-clause-order g c =
    subst (λ (xs : List Record). is_ordered xs ≡ true) (sym c.take_types_behind.ensures) (left_ordered up_to_soa (g.H.Held.records c.args.held.now) c.requires.order)

pub take_types-requires-clause-owned : goal.take_types-requires-clause-owned
take_types-requires-clause-owned g c =
    subst (λ (xs : List Record). are_of c.args.apex.now xs ≡ true) (sym c.take_types_behind.ensures) (left_owned up_to_soa c.args.apex.now (g.H.Held.records c.args.held.now) c.requires.owned)

pub take_types-requires-2-clause-order : goal.take_types-requires-2-clause-order
take_types-requires-2-clause-order g c =
    let xs = g.H.Held.records c.args.held.now in
    let is = c.take_types.ensures ∙ ap (filter (is_outside 3 5)) c.take_types_behind.ensures in
    subst (λ (ys : List Record). is_ordered ys ≡ true) (sym is) (left_ordered (is_outside 3 5) (filter up_to_soa xs) (left_ordered up_to_soa xs c.requires.order))

pub take_types-requires-2-clause-owned : goal.take_types-requires-2-clause-owned
take_types-requires-2-clause-owned g c =
    let xs = g.H.Held.records c.args.held.now in
    let apex = c.args.apex.now in
    let is = c.take_types.ensures ∙ ap (filter (is_outside 3 5)) c.take_types_behind.ensures in
    subst (λ (ys : List Record). are_of apex ys ≡ true) (sym is) (left_owned (is_outside 3 5) apex (filter up_to_soa xs) (left_owned up_to_soa apex xs c.requires.owned))

pub returns : goal.returns
returns g c =
    let xs = g.H.Held.records c.args.held.now in
    let apex = c.args.apex.now in
    let is = c.take_types.ensures ∙ ap (filter (is_outside 3 5)) c.take_types_behind.ensures in
    c.take_types-2.ensures ∙ ap (filter (is_outside 0 1)) is ∙ but_vital apex xs c.requires.owned (names_itself apex)
