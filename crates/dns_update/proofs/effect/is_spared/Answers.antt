use Rattle.std.proofs.Common.{◌≡◌, Bool, true, false, ◌||◌, ◌&&◌, length, refl, ap, ◌∙◌}
use Rattle.std.specs.Prelude.{◌==◌}
use Rattle.dns_names.specs.Name.{Labels, names_eq}
use Rattle.dns_records.specs.Types.{type_ns, type_soa}
use Rattle.dns_zone.specs.Order.{names_same}
use Rattle.dns_zone.specs.Records.{rrset}
use Rattle.dns_update.proofs.effect.is_spared.Goals as goal

-- how many there are tells only where the owner is the apex
spared : (a b c m n : Bool) → (c ≡ true → m ≡ n) → (a || b && c && m) ≡ (a || b && c && n)
spared a b true m n h = ap (λ (k : Bool). a || b && true && k) (h refl)
spared a true false m n h = refl
spared a false false m n h = refl

pub returns : goal.returns
returns g c =
    let xs = g.H.Held.records c.args.held.now in
    let apex = c.args.apex.now in
    let item = c.args.item.now in
    let one = c.has_one-last.ensures ∙ ap (λ (n : Labels). length (rrset xs n type_ns) == 1) (c.lend.ensures ∙ c.owner.ensures) in
    (λ i. c.rtype.ensures i == type_soa || c.rtype-2.ensures i == type_ns && c.is_owned_by.ensures i && one i)
    ∙ spared (item.rtype == type_soa) (item.rtype == type_ns) (names_eq item.owner apex) (length (rrset xs item.owner type_ns) == 1) (length (rrset xs apex type_ns) == 1)
    (λ e. ap (λ (n : Labels). length (rrset xs n type_ns) == 1) (names_same item.owner apex e))
