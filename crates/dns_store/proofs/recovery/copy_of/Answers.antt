use Rattle.std.proofs.Common.{◌≡◌, rules, ◌∙◌}
use Rattle.dns_zone.specs.Zone.{zone_fault}
use Rattle.dns_store.proofs.recovery.copy_of.Goals as goal

pub of_valid-requires : goal.of_valid-requires
of_valid-requires g c =
    let name : c.in_ok-apex.apex ≡ c.args.zone.now.apex = search rules in
    let set = c.in_ok-set.ensures ∙ c.index.ensures in
    (λ i. zone_fault (name i) (set i)) ∙ c.apex.ensures.valid.valid
