-- The files of a configuration that is read.
use Rattle.std.proofs.Common.{◌≡◌, ◌<◌, ◌∙◌, ap, inl, inr, refl, subst, ℕ, suc, List, [], ◌∷◌, ◌++◌, length, take, get_or, map, Option, Result, Ok, Err}
use Rattle.std.specs.Prelude.{MatchResult, String, Vec}
use Rattle.std.specs.Global.{Global}
use Rattle.std.specs.String.{string_bytes}
use Rattle.std.proofs.lemmas.List.{map-append}
use Rattle.dns_configuration.specs.declared.configuration.Configuration.{Configuration}
use Rattle.dns_configuration.specs.declared.configuration.ZoneSettings.{ZoneSettings}
use Rattle.dns_configuration.specs.Files.{HoldsConfiguration}
use Rattle.dns_commands.specs.Inputs.{AreFilesOf, AreFirstFiles, AreFirstOf, Input, file_paths, inputs_of}
use Rattle.dns_commands.proofs.Made.{map_more}

-- what is said of the files of zones is said of those of a configuration with these zones
pub of_configuration : {A E : Type 0} (config : Option (List ℕ)) (c : Configuration) (paths : A → List (List ℕ)) (inputs : A → List Input) (r : Result A E) (zones : List ZoneSettings) (reads : List Input)
    → HoldsConfiguration config (Ok c) → zones ≡ c.zones.items → MatchResult r (λ files. (reads ≡ inputs files) × (paths files ≡ file_paths zones)) (λ _. AreFirstFiles zones reads)
    → MatchResult r (λ files. (reads ≡ inputs files) × AreFilesOf config (paths files)) (λ _. AreFirstOf config reads)
of_configuration config c paths inputs (Ok files) zones reads held same is = (is.0, inl (c, held, is.1 ∙ ap file_paths same))
of_configuration config c paths inputs (Err e) zones reads held same is = inr (c, held, subst (λ (zs : List ZoneSettings). AreFirstFiles zs reads) same is)

-- the paths of files that were read
paths_in : (files : List (String Global × Option (Vec ℕ Global))) → map (λ (r : Input). r.0) (inputs_of files) ≡ map (λ (f : String Global × Option (Vec ℕ Global)). string_bytes f.0) files
paths_in [] = refl
paths_in (f ∷ files) = ap (λ (paths : List (List ℕ)). string_bytes f.0 ∷ paths) (paths_in files)

-- one file more was read
pub one_more_read : (zones : List ZoneSettings) (n : ℕ) (own : ZoneSettings) (files : List (String Global × Option (Vec ℕ Global))) (path : List ℕ) (octets : Option (List ℕ)) → n < length zones
    → map (λ (f : String Global × Option (Vec ℕ Global)). string_bytes f.0) files ≡ file_paths (take n zones) → path ≡ string_bytes (get_or zones n own).file
    → AreFirstFiles zones (inputs_of files ++ (path, octets) ∷ [])
one_more_read zones n own files path octets small are named = (
  suc n,
  map-append (λ (r : Input). r.0) (inputs_of files) ((path, octets) ∷ []) ∙ (λ i. (paths_in files ∙ are) i ++ named i ∷ []) ∙ map_more (λ (z : ZoneSettings). string_bytes z.file) zones n own small,
)
