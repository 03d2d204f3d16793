-- What is shown of a zone.
use Rattle.std.proofs.Common.{◌≡◌, ◌<◌, ℕ, List, length, map, sym, ap, subst, ◌∙◌}
use Rattle.std.specs.Prelude.{Option, slice_get, slice_index_or}
use Rattle.std.proofs.lemmas.List.{length-map}
use Rattle.dns_zone.specs.Zone.{Zone}
use Rattle.dns_store.specs.Versions.{Kept}
use Rattle.dns_versions.specs.declared.zone_versions.ZoneVersions.{ZoneVersions}
use Rattle.dns_versions.specs.Held.{HasVersions}
use Rattle.dns_primary.specs.Machine.{Made, ZoneState, kept_of}
use Rattle.dns_primary.specs.Keeps.{HaveVersions}
use Rattle.dns_primary.specs.Fresh.{IsShown}
use Rattle.dns_primary.proofs.Places.{at3, map_get, some_at}

-- what is shown at a position
pub shown_at : {I S : Type 0} (keeps : S → Kept → Type 0) (zones : List Zone) (pending : List (ZoneVersions I S)) (states : List ZoneState) (index : ℕ) (zone : Zone) (b : ZoneVersions I S) → HaveVersions keeps zones pending states
    → index < length states → zone ≡ slice_index_or zones index zone → b ≡ slice_index_or pending index b → IsShown b.number zone (slice_get states index)
shown_at {I} {S} keeps zones pending states index zone b held lt zone_is b_is =
    let z = some_at states index lt in
    let h = at3 (λ (z : Zone) (b : ZoneVersions I S) (k : Kept). HasVersions keeps z b k) zones pending (map kept_of states) index zone b (kept_of z.0) held (map_get kept_of states index z.0 z.1) in
    let number : b.number ≡ length z.0.shown = ap (λ (x : ZoneVersions I S). x.number) b_is ∙ h.number_is ∙ length-map z.0.shown (λ (m : Made). m.records) in
    subst (λ (o : Option ZoneState). IsShown b.number zone o) (sym z.1) (number, zone_is ∙ h.zone_is)
