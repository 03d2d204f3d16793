-- What is said of zones, one by one.
use Rattle.std.proofs.Common.{◌≡◌, ℕ, ◌<◌, ◌+◌, ◌==◌, Bool, true, false, ◌||◌, List, drop, get_or, map, length, ap, ◌∙◌}
use Rattle.std.proofs.lemmas.List.{drop_more}
use Rattle.dns_replay.specs.declared.keeps.ZoneKeep.{ZoneKeep}
use Rattle.dns_replay.specs.Commands.{said_zone_keep}
use Rattle.dns_replay.specs.Keeps.{is_among}

pub keep_here : (keeps : List ZoneKeep) (zone i : ℕ) (k : ZoneKeep) → i < length keeps → ((get_or keeps i k).zone == zone) ≡ true → is_among zone (map said_zone_keep (drop i keeps)) ≡ true
keep_here keeps zone i k inside e = ap (λ (ks : List ZoneKeep). is_among zone (map said_zone_keep ks)) (drop_more keeps i k inside) ∙ ap (λ (b : Bool). b || is_among zone (map said_zone_keep (drop (i + 1) keeps))) e

pub keep_after : (keeps : List ZoneKeep) (zone i : ℕ) (k : ZoneKeep) → i < length keeps → ((get_or keeps i k).zone == zone) ≡ false → is_among zone (map said_zone_keep (drop i keeps)) ≡ is_among zone (map said_zone_keep (drop (i + 1) keeps))
keep_after keeps zone i k inside e = ap (λ (ks : List ZoneKeep). is_among zone (map said_zone_keep ks)) (drop_more keeps i k inside) ∙ ap (λ (b : Bool). b || is_among zone (map said_zone_keep (drop (i + 1) keeps))) e
