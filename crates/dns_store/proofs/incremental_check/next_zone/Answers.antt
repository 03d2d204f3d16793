use Rattle.std.proofs.Common.{◌≡◌, true, List, None, sym, subst, ◌∙◌}
use Rattle.dns_records.specs.Record.{Record}
use Rattle.dns_zone.specs.Zone.{zone_fault}
use Rattle.dns_changes.specs.Change.{applied}
use Rattle.dns_store.specs.Staying.{stays_zone}
use Rattle.dns_store.proofs.Standing.{zone_stays}
use Rattle.dns_store.proofs.incremental_check.next_zone.Goals as goal

pub of_valid-requires : goal.of_valid-requires
of_valid-requires g c =
    let before = c.requires.0 in
    let change = c.args.change.now in
    let same = c.requires.3 in
    let is : stays_zone c.args.apex (applied change before) change ≡ true = subst (λ (xs : List Record). stays_zone c.args.apex xs change ≡ true) same (sym c.stays_zone.ensures ∙ c.if-stays_zone.true) in
    subst (λ (xs : List Record). zone_fault c.args.apex xs ≡ None) (sym same) (zone_stays c.args.apex before change c.requires.1 c.removed-formed.ensures.formed c.requires.2 is)
