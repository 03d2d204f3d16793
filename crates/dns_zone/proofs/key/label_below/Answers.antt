use Rattle.std.proofs.Common.{◌≡◌, ◌<◌, ◌≤◌, [], ◌∷◌, ◌++◌, inl, inr, length, refl, sym, ap, subst, ◌∙◌, append_assoc, arith}
use Rattle.dns_names.specs.Name.{Labels, IsUnder, under, wire}
use Rattle.dns_zone.specs.Ancestry.{under_from, under_with}
use Rattle.dns_zone.specs.Sets.{true_or_false}
use Rattle.dns_zone.proofs.SortKeys.{under_rest, under_shorter, first_in_front, label_is}
use Rattle.dns_zone.proofs.key.label_below.Goals as goal

pub labels-init : goal.labels-init
labels-init c =
    let start = sym c.reborrow-rest.ensures in (
      λ u. subst (λ (x : Labels). IsUnder x c.args.apex.now) start (under_from c.args.name.now c.args.apex.now u),
      [],
      start,
      refl,
    )

pub labels-preserved : goal.labels-preserved
labels-preserved c =
    let apex = c.args.apex.now in
    let parts = c.in-Some.ensures.found in
    let first = c.in-Some.first.now in
    let above = c.in-Some.above in
    let longer : length (wire apex) < length (wire (first ∷ above)) =
    omega (arith, c.labels-test.true, ap length c.as_wire.ensures.octets, ap length c.as_wire-in-labels.ensures.octets, ap (λ (x : Labels). length (wire x)) parts) in
    let front = c.labels.invariant.1 in (
      λ u. under_rest first above apex longer (subst (λ (x : Labels). IsUnder x apex) parts (c.labels.invariant.0 u)),
      front ++ first ∷ [],
      c.labels.invariant.2 ∙ ap (λ (x : Labels). front ++ x) parts ∙ sym (append_assoc front (first ∷ []) above),
      first_in_front front first,
    )

pub returns-then-is-clause-found : goal.returns-then-is-clause-found
returns-then-is-clause-found c =
    let front = c.labels.invariant.1 in
    let same : c.labels.rest ≡ c.args.apex.now = c.is.ensures.0 c.if-is.true in
    label_is c.args.name.now front c.args.apex.now c.labels.label.now (c.labels.invariant.2 ∙ ap (λ (x : Labels). front ++ x) same) c.labels.invariant.3

pub returns-then-is-clause-under : goal.returns-then-is-clause-under
returns-then-is-clause-under c =
    let front = c.labels.invariant.1 in
    let same : c.labels.rest ≡ c.args.apex.now = c.is.ensures.0 c.if-is.true in
    under_with c.args.name.now c.args.apex.now (front, c.labels.invariant.2 ∙ ap (λ (x : Labels). front ++ x) same)

pub returns-else-is-clause-none : goal.returns-else-is-clause-none
returns-else-is-clause-none c = elim (true_or_false (under c.args.name.now c.args.apex.now)) [
  | inl yes' ↦
      (let short : length (wire c.labels.rest) ≤ length (wire c.args.apex.now) =
      omega (arith, c.labels-test.false, ap length c.as_wire.ensures.octets, ap length c.as_wire-in-labels.ensures.octets) in
      let same = under_shorter c.labels.rest c.args.apex.now short (c.labels.invariant.0 yes') in
      let other = c.if-is.false in
      let there = c.is.ensures.1 same in
      absurd cc)
  | inr no' ↦ no'
]
