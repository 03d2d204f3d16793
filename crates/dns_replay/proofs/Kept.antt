-- What is said of a zone, as the code reads it.
use Rattle.std.proofs.Common.{◌≡◌, ℕ, Bool, true, false, cond, List, [], ◌∷◌, map, Option, Some, None, refl, sym, ap, ◌∙◌}
use Rattle.std.specs.Prelude.{◌==◌, find, option_map}
use Rattle.dns_replay.specs.declared.keeps.ZoneKeep.{ZoneKeep as CodeZoneKeep}
use Rattle.dns_replay.specs.Commands.{said_keep, said_zone_keep}
use Rattle.dns_replay.specs.Keeps.{These, ZoneKeep}
use Rattle.dns_replay.specs.Crashes.{keep_at, keep_or_none}

found_said : (keeps : List CodeZoneKeep) (index : ℕ) → find (λ (k : ZoneKeep). k.zone == index) (map said_zone_keep keeps) ≡ option_map said_zone_keep (find (λ (k : CodeZoneKeep). k.zone == index) keeps)
found_said [] index = refl
found_said (k ∷ keeps) index = go _ _ (k.zone == index) (found_said keeps index)
  where
    go : (x : Option ZoneKeep) (y : Option CodeZoneKeep) (b : Bool) → x ≡ option_map said_zone_keep y → cond b (Some (said_zone_keep k)) x ≡ option_map said_zone_keep (cond b (Some k) y)
    go x y true e = refl
    go x y false e = e

pub keep_found : (keeps : List CodeZoneKeep) (index : ℕ) (one : CodeZoneKeep) → Some one ≡ find (λ (k : CodeZoneKeep). k.zone == index) keeps → keep_at (map said_zone_keep keeps) index ≡ said_keep one.keep
keep_found keeps index one e = ap keep_or_none (found_said keeps index ∙ ap (λ (o : Option CodeZoneKeep). option_map said_zone_keep o) (sym e))

pub keep_none : (keeps : List CodeZoneKeep) (index : ℕ) → None ≡ find (λ (k : CodeZoneKeep). k.zone == index) keeps → keep_at (map said_zone_keep keeps) index ≡ These []
keep_none keeps index e = ap keep_or_none (found_said keeps index ∙ ap (λ (o : Option CodeZoneKeep). option_map said_zone_keep o) (sym e))
