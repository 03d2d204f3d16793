use Rattle.std.proofs.Common.{◌≤◌, ◌-◌, ◌++◌, length, map, take, drop, refl, sym, ap, subst, ◌∙◌, arith}
use Rattle.dns_zoneindex.specs.Children.{items}
use Rattle.dns_zoneindex.specs.Entries.{here, flat}
use Rattle.dns_zoneindex.specs.Falls.{sizes_flat, weight-append}
use Rattle.dns_zoneindex.specs.Held.{held}
use Rattle.dns_zoneindex.specs.Lent.{IsLent}
use Rattle.dns_zoneindex.specs.Owned.{path_records}
use Rattle.dns_zoneindex.specs.Size.{children_size, weight}
use Rattle.dns_zoneindex.proofs.Lent.{lent_past, lent_slice, records_own}
use Rattle.dns_zoneindex.proofs.node.Branch.step.Goals as goal

pub returns-then-position-own : goal.returns-then-position-own
returns-then-position-own c =
    let i = c.self.inside in
    let more = path_records (flat (items i.children)) in
    let rs = c.as_slice-own.result.now in
    let position = c.args.position in
    let is = ap (λ x. path_records x.own) (sym c.self.view_is) ∙ records_own (held i.records) (flat (items i.children)) ∙ ap (λ z. z ++ more) (sym c.as_slice-own.ensures) in
    subst (λ x. IsLent x position (take (length rs - position) (drop position rs))) (sym is) (lent_slice rs more position c.if-position-own.true)

pub returns : goal.returns
returns c =
    let i = c.self.inside in
    let more = path_records (flat (items i.children)) in
    let rs = c.as_slice-own.result.now in
    let position = c.args.position in
    let is = ap (λ x. path_records x.own) (sym c.self.view_is) ∙ records_own (held i.records) (flat (items i.children)) ∙ ap (λ z. z ++ more) (sym c.as_slice-own.ensures) in
    let smaller : children_size (items i.children) ≤ weight c.args.self.now.own = omega (
      arith,
      sizes_flat (items i.children) c.self.invariant.1,
      weight-append (map here (held i.records)) (flat (items i.children)),
      ap (λ x. weight x.own) c.self.view_is,
    ) in
    (smaller, λ run h. subst (λ x. IsLent x position run) (sym is) (lent_past rs more position (length rs) run refl c.if-position-own.false h))
