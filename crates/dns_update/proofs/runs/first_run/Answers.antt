use Rattle.std.proofs.Common.{◌≡◌, suc, ◌+◌, true, subst, ◌∙◌, arith}
use Rattle.std.specs.List.{AllWithin}
use Rattle.dns_names.specs.Name.{Labels, names_eq}
use Rattle.dns_wire.specs.Message.{ResourceRecord}
use Rattle.dns_changes.proofs.Fronts.{group_is}
use Rattle.dns_update.proofs.runs.first_run.Goals as goal

pub returns : goal.returns
returns c =
    let n = c.count_named-count.result in
    let first = c.in_ok-first.first.now in
    let others = c.in_ok-first.others.now in
    let one : 1 + n ≡ suc n = omega arith in
    group_is (λ (i : ResourceRecord). i.owner) first others c.args.items.now c.split_at.result.0.now c.split_at.result.1.now n (1 + n) c.in_ok-first.ensures.cases.0 one c.count_named-count.ensures.bound
    (subst (λ (m : Labels). AllWithin (λ s. names_eq s.owner m ≡ true) others 0 n) (c.lend.ensures ∙ c.owner.ensures) c.count_named-count.ensures.named) c.split_at.ensures.front c.split_at.ensures.back
