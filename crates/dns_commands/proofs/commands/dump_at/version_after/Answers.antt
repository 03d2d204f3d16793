use Rattle.std.proofs.Common.{◌≡◌, rules, true, Some, None, sym, ◌∙◌, ap, subst}
use Rattle.dns_zone.specs.Records.{is_ordered}
use Rattle.dns_zone.specs.Zone.{zone_fault}
use Rattle.dns_store.specs.Recovered.{AreLed}
use Rattle.dns_store.specs.Versions.{newest_after}
use Rattle.dns_store.proofs.Keeping.{zones_newest}
use Rattle.dns_commands.proofs.commands.dump_at.version_after.Goals as goal

pub returns : goal.returns
returns g c vs led zones =
    let records = c.in_ok-set.ensures ∙ c.index.ensures in
    let led_here = subst (λ rs. AreLed rs vs c.args.changes.now) (sym records) led in
    let ordered_here = subst (λ rs. is_ordered rs ≡ true) (sym records) c.apex.ensures.valid.ordered in
    let done = c.in_ok-apply_all.ensures c.args.base.now.apex vs led_here zones ordered_here in
    let set = done ∙ ap (λ rs. newest_after rs vs) records in
    let valid = zones_newest c.args.base.now.apex c.args.base.now.records vs c.apex.ensures.valid zones in
    let name : c.in_ok-apex.apex ≡ c.args.base.now.apex = search rules in
    let none : Some c.in-Err.field-0.1 ≡ None = sym c.in-Err.ensures.refused.0 ∙ (λ i. zone_fault (name i) (set i)) ∙ valid.valid in
    absurd cc
