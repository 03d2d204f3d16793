use Rattle.std.proofs.Common.{◌+◌, ◌∷◌, ◌++◌, take, sym, ap, ◌∙◌}
use Rattle.std.proofs.lemmas.List.{take_rest}
use Rattle.dns_changes.proofs.Groups.{set_parts}
use Rattle.dns_changes.proofs.group.parted.Goals as goal

pub returns-in-Ok : goal.returns-in-Ok
returns-in-Ok c =
    let xs = c.args.records.now in
    let at = c.in-Ok.at in
    let r = c.args.r.now in
    let stands = c.in-Ok.ensures.found in
    record { parts = stands.put_is ∙ set_parts xs at r stands.inside ∙ ap (λ ys. take at xs ++ (r ∷ ys)) (sym (take_rest xs (at + 1))) }
