use Rattle.std.proofs.Common.{◌≡◌, true, List, length, refl, sym, ap, subst, ◌∙◌, arith}
use Rattle.std.specs.List.{list_any}
use Rattle.dns_names.specs.Name.{Labels, names_eq}
use Rattle.dns_update.specs.Effect.{effects}
use Rattle.dns_update.specs.ResourceRecord.{first_fault}
use Rattle.dns_update.specs.Prescan.{prescan_fault}
use Rattle.dns_zone.proofs.OneSoa.{zone_soa, zone_few, has_soa_at}
use Rattle.dns_changes.specs.Touched.{records_aside, DifferAt}
use Rattle.dns_update.specs.Touched.{AreTouched}
use Rattle.dns_update.proofs.Aside.{effects_aside}
use Rattle.dns_update.proofs.OneSoa.{soa_stays}
use Rattle.dns_update.proofs.Sizes.{effects_more}
use Rattle.dns_update.proofs.Sound.{IsSound}
use Rattle.dns_update.proofs.Versions.{sound_after, next_told}
use Rattle.dns_update.proofs.verdict.judge_passed.Goals as goal

pub versioned-requires-clause-one : goal.versioned-requires-clause-one
versioned-requires-clause-one g c =
    let zone = c.args.zone.now in
    let items = c.args.items.now in
    let left = c.in_ok-take_effects.ensures ∙ (λ i. effects ((c.lend.ensures ∙ c.apex.ensures.name) i) ((c.in_ok-after.ensures ∙ c.index.ensures) i) items) in
    has_soa_at zone.apex zone.apex _ _ refl (sym left) (soa_stays zone.apex zone.records (zone_soa zone c.apex.ensures.valid) items)

pub versioned-requires-clause-few : goal.versioned-requires-clause-few
versioned-requires-clause-few g c =
    let zone = c.args.zone.now in
    let items = c.args.items.now in
    let left = c.in_ok-take_effects.ensures ∙ (λ i. effects ((c.lend.ensures ∙ c.apex.ensures.name) i) ((c.in_ok-after.ensures ∙ c.index.ensures) i) items) in
    omega (arith, ap length left, effects_more zone.apex zone.records items, zone_few zone c.apex.ensures.valid, c.requires.few)

pub take_effects-requires-clause-pass : goal.take_effects-requires-clause-pass
take_effects-requires-clause-pass g c = ap (λ n. first_fault (prescan_fault n) c.args.items.now) (c.lend.ensures ∙ c.apex.ensures.name) ∙ c.requires.pass

pub returns-clause-next : goal.returns-clause-next
returns-clause-next g c =
    let zone = c.args.zone.now in
    let items = c.args.items.now in
    let valid = c.apex.ensures.valid in
    let set = g.I.ZoneIndex.records c.take_effects.new.set in
    let left = c.in_ok-take_effects.ensures ∙ (λ i. effects ((c.lend.ensures ∙ c.apex.ensures.name) i) ((c.in_ok-after.ensures ∙ c.index.ensures) i) items) in
    let sound = subst (IsSound zone.apex) (sym left) (sound_after zone valid items c.requires.pass c.requires.form) in
    next_told g.I.ZoneIndex.records zone valid set sound (g.met.I.ZoneIndex.valid c.take_effects.new.set) c.versioned.result c.versioned.ensures

pub versioned-requires-clause-touched : goal.versioned-requires-clause-touched
versioned-requires-clause-touched g c =
    let zone = c.args.zone.now in
    let items = c.args.items.now in
    let names = c.in_ok-names.names.items in
    let touched : AreTouched zone.apex items names = subst (λ (n : Labels). AreTouched n items names) c.apex-2.ensures.name c.in_ok-names.ensures in
    let left = c.in_ok-take_effects.ensures ∙ (λ i. effects ((c.lend.ensures ∙ c.apex.ensures.name) i) ((c.in_ok-after.ensures ∙ c.index.ensures) i) items) in
    let others = ap (records_aside names) left ∙ effects_aside zone.apex names zone.records items touched.owners in
    subst (λ (ns : List Labels). DifferAt ns zone.records (g.I.ZoneIndex.records c.take_effects.new.set)) (sym c.deref.ensures.value) (record { rise = touched.rise; others = sym others })

pub versioned-requires-clause-apex : goal.versioned-requires-clause-apex
versioned-requires-clause-apex g c =
    let zone = c.args.zone.now in
    let items = c.args.items.now in
    let names = c.in_ok-names.names.items in
    let touched : AreTouched zone.apex items names = subst (λ (n : Labels). AreTouched n items names) c.apex-2.ensures.name c.in_ok-names.ensures in
    subst (λ (ns : List Labels). list_any (names_eq zone.apex) ns ≡ true) (sym c.deref.ensures.value) touched.top
