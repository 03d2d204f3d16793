-- What a crash keeps of the writes that are pending on the devices of zones, as words say it.
use Rattle.std.specs.Prelude.{ℕ, ◌^◌, ◌==◌, Bool, false, ◌||◌, nat_lt, List, [], ◌∷◌, ◌++◌, position, Option}
use Rattle.std.specs.Prelude.{Some, None, Result, Ok, Err, option_map, bytes_eq, codes, if◌then◌else◌}
use Rattle.std.specs.List.{after_first, before_first, slice_split}
use Rattle.dns_names.specs.Name.{Labels, names_eq}
use Rattle.dns_names.specs.Text.{name_of_text}
use Rattle.dns_names.specs.declared.NameError.{NameError}
use Rattle.dns_masterfile.specs.Text.{number_of_text}

-- All of the writes that are pending on a device, or those with these numbers, the oldest having 1.
pub data Keep : Type 0 where
  All : Keep
  These : List ℕ → Keep

-- What is kept of those on the device of the zone at an index.
pub record ZoneKeep : Type 0 where
  pub zone : ℕ
  pub keep : Keep

abbrev pub is_comma : ℕ → Bool
is_comma c = c == 44

abbrev pub is_equals : ℕ → Bool
is_equals c = c == 61

abbrev pub if_greater : ℕ → Option ℕ → Option ℕ
if_greater last None = None
if_greater last (Some n) = if nat_lt last n then Some n else None

-- Numbers after others, in decimal digits, each greater than the one before it.
abbrev pub numbers_after : List ℕ → ℕ → List (List ℕ) → Option (List ℕ)
numbers_after before last [] = Some before
numbers_after before last (text ∷ rest) = elim (if_greater last (number_of_text (2 ^ 32) text)) [
  | None ↦ None
  | Some n ↦ numbers_after (before ++ n ∷ []) n rest
]

-- `all`, or numbers from 1, rising, with commas between.
abbrev pub keep_of : List ℕ → Option Keep
keep_of text =
    if bytes_eq text (codes "all") then Some All
    else option_map These (numbers_after [] 0 (slice_split is_comma text))

-- The index of the first zone of that name.
abbrev pub place_under : List Labels → Result Labels NameError → Option ℕ
place_under origins (Err e) = None
place_under origins (Ok name) = position (λ origin. names_eq origin name) origins

-- The index of the zone that a text names, under the root.
abbrev pub place_named : List Labels → List ℕ → Option ℕ
place_named origins text = place_under origins (name_of_text [] text)

abbrev pub kept_at : Option ℕ → Option Keep → Option ZoneKeep
kept_at None keep = None
kept_at (Some zone) None = None
kept_at (Some zone) (Some keep) = Some (record { zone = zone; keep = keep })

-- A zone's name and what is kept, with `=` between.
abbrev pub zone_keep_of : List Labels → List ℕ → Option ZoneKeep
zone_keep_of origins word = elim (position is_equals word) [
  | None ↦ None
  | Some at ↦
      kept_at (place_named origins (before_first is_equals word)) (keep_of (after_first is_equals word))
]

abbrev pub is_among : ℕ → List ZoneKeep → Bool
is_among zone [] = false
is_among zone (k ∷ rest) = k.zone == zone || is_among zone rest

abbrev pub unless_among : List ZoneKeep → Option ZoneKeep → Option ZoneKeep
unless_among before None = None
unless_among before (Some k) = if is_among k.zone before then None else Some k

-- What words say of one zone each, after others; no zone twice.
abbrev pub keeps_after : List Labels → List ZoneKeep → List (List ℕ) → Option (List ZoneKeep)
keeps_after origins before [] = Some before
keeps_after origins before (word ∷ rest) = elim (unless_among before (zone_keep_of origins word)) [
  | None ↦ None
  | Some k ↦ keeps_after origins (before ++ k ∷ []) rest
]

abbrev pub keeps_of : List Labels → List (List ℕ) → Option (List ZoneKeep)
keeps_of origins words = keeps_after origins [] words
