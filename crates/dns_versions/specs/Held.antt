-- A zone as it is shown, and what backs it.
use Rattle.std.specs.Prelude.{◌≡◌, List, [], ◌∷◌, length, Option, Some, None}
use Rattle.dns_zone.specs.Zone.{Zone}
use Rattle.dns_store.specs.Versions.{Kept, shown_of, newest_of}
use Rattle.dns_store.specs.Plain.{octets_of}
use Rattle.dns_versions.specs.declared.zone_versions.ZoneVersions.{ZoneVersions}
use Rattle.dns_versions.specs.Each.{Each3}

abbrev pub shown_zone : Kept → Zone
shown_zone k = record { apex = k.shape.apex; records = shown_of k }

abbrev pub newest_zone : Kept → Zone
newest_zone k = record { apex = k.shape.apex; records = newest_of k }

-- The tip where there is one, else the zone that is shown.
abbrev pub newer : Zone → Option Zone → Zone
newer zone None = zone
newer zone (Some tip) = tip

-- That of each zone.
abbrev pub newest_each : {I S : Type 0} → List Zone → List (ZoneVersions I S) → List Zone
newest_each [] pending = []
newest_each (z ∷ zones) [] = []
newest_each (z ∷ zones) (b ∷ pending) = newer z b.tip ∷ newest_each zones pending

-- The newest version is one of its own, or it is the one that is shown.
abbrev pub IsTip : Option Zone → Kept → Type 0
IsTip None k = k.staged ≡ []
IsTip (Some tip) k = tip ≡ newest_zone k

-- These are the versions of the zone, and of what backs it. `keeps` says what its store keeps.
pub record HasVersions {I S : Type 0} (keeps : S → Kept → Type 0) (zone : Zone) (b : ZoneVersions I S)
    (k : Kept) : Type 0 where
  pub zone_is : zone ≡ shown_zone k
  pub tip_is : IsTip b.tip k
  pub number_is : b.number ≡ length k.shown
  pub octets_are : b.octets ≡ octets_of (newest_of k)
  pub snapshot_is : b.snapshot ≡ k.shape.snapshot
  pub journal_is : b.journal ≡ k.shape.journal
  pub kept : keeps b.store k

-- These are the versions of all zones, in order.
abbrev pub AllHave : {I S : Type 0} → (S → Kept → Type 0) → List Zone → List (ZoneVersions I S) → List Kept
    → Type 0
AllHave keeps zones pending ks = Each3 (λ z b k. HasVersions keeps z b k) zones pending ks
