-- Devices that stay honest: when they are opened or a machine on them takes a step, and after a crash.
use Rattle.std.proofs.Common.{ℕ, suc, List, [], ◌∷◌, map}
use Rattle.std.specs.Prelude.{◌↔◌}
use Rattle.dns_zone.specs.Zone.{Zone}
use Rattle.dns_sectors.specs.Device.{Content}
use Rattle.dns_sectors.specs.declared.device.Sectors.{Ghosts}
use Rattle.dns_sectors.specs.declared.memory.Keep as told
use Rattle.dns_store.specs.declared.kept_store.KeptStore.{KeptStore}
use Rattle.dns_versions.specs.declared.zone_versions.ZoneVersions.{ZoneVersions}
use Rattle.dns_versions.specs.Each.{Each2, Each3}
use Rattle.dns_primary.specs.declared.primary.ZoneSpec.{ZoneSpec}
use Rattle.dns_primary.specs.Open.{AreAsHonest, AreHonest, device_of_pending}
use Rattle.dns_replay.specs.Keeps.{ZoneKeep}
use Rattle.dns_replay.specs.Crashes.{AreLeftBy}
use Rattle.dns_replay.specs.Made.{IsMadeOf}

module _ {D : Type 0} (g : Ghosts D) where
  pub as_honest : (olds news : List D) → AreAsHonest g olds news → AreHonest g olds → AreHonest g news
  as_honest [] [] same honest = tt
  as_honest (d ∷ olds) (e ∷ news) same honest = (same.0.1 honest.0, as_honest olds news same.1 honest.1)
  as_honest [] (e ∷ news) same honest = absurd same
  as_honest (d ∷ olds) [] same honest = absurd same

  pub stay_honest : {I : Type 0} (olds news : List (ZoneVersions I (KeptStore D I g))) → Each2 (λ a b. g.is_honest (device_of_pending b) ↔ g.is_honest (device_of_pending a)) olds news
      → AreHonest g (map (λ b. device_of_pending b) olds) → AreHonest g (map (λ b. device_of_pending b) news)
  stay_honest [] [] same honest = tt
  stay_honest (a ∷ olds) (b ∷ news) same honest = (same.0.1 honest.0, stay_honest olds news same.1 honest.1)
  stay_honest [] (b ∷ news) same honest = absurd same
  stay_honest (a ∷ olds) [] same honest = absurd same

  pub crashed_honest : (kept : D → told.Keep → Content) (keeps : List ZoneKeep) (at : ℕ) (olds news : List D) → AreLeftBy g kept keeps at olds news → AreHonest g olds → AreHonest g news
  crashed_honest kept keeps at [] [] each honest = tt
  crashed_honest kept keeps at (d ∷ olds) (e ∷ news) each honest = (each.0.honest honest.0, crashed_honest kept keeps (suc at) olds news each.1 honest.1)
  crashed_honest kept keeps at [] (e ∷ news) each honest = absurd each
  crashed_honest kept keeps at (d ∷ olds) [] each honest = absurd each

  pub made_honest : (zones : List Zone) (settings : List ZoneSpec) (devices : List D) → Each3 (IsMadeOf g) zones settings devices → AreHonest g devices
  made_honest [] [] [] made = tt
  made_honest (y ∷ zones) (s ∷ settings) (d ∷ devices) made = (made.0.honest, made_honest zones settings devices made.1)
  made_honest _ _ _ made = absurd made
