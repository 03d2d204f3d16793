use Rattle.std.proofs.Common.{◌≡◌, ◌<◌, ◌+◌, ◌-◌, [], ◌∷◌, length, drop, reverse, ap, subst, ◌∙◌, arith}
use Rattle.std.specs.Prelude.{IfSome, IfNone}
use Rattle.std.specs.List.{slice_get}
use Rattle.dns_names.specs.Name.{Labels}
use Rattle.dns_zoneindex.proofs.Growth.{label_found, label_none}
use Rattle.dns_zoneindex.proofs.grow.label_at.Goals as goal

pub returns-clause-found : goal.returns-clause-found
returns-clause-found c =
    let n = c.args.depth in
    let owner = c.lend-owner.result in
    let fits : n < length owner = omega (arith, c.if-depth-count.false, c.label_count-count.ensures) in
    let at = c.label_behind.ensures ∙ ap (λ k. slice_get owner (k - 1 - n)) c.label_count-count.ensures in
    subst (λ (o : Labels). IfSome c.label_behind.result (λ l. drop n (reverse o) ≡ l.now ∷ drop (n + 1) (reverse o))) (c.lend-owner.ensures ∙ c.owner.ensures) (label_found owner n c.label_behind.result fits at)

pub returns-clause-none : goal.returns-clause-none
returns-clause-none c =
    let n = c.args.depth in
    let owner = c.lend-owner.result in
    let fits : n < length owner = omega (arith, c.if-depth-count.false, c.label_count-count.ensures) in
    let at = c.label_behind.ensures ∙ ap (λ k. slice_get owner (k - 1 - n)) c.label_count-count.ensures in
    subst (λ (o : Labels). IfNone c.label_behind.result (drop n (reverse o) ≡ [])) (c.lend-owner.ensures ∙ c.owner.ensures) (label_none owner n c.label_behind.result fits at)
