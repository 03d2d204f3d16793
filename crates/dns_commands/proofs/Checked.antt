-- How the check of a configuration ends.
use Rattle.std.proofs.Common.{◌≡◌, ℕ, zero, suc, ◌<◌, Bool, true, false, inl, inr, List, [], ◌∷◌, length, take, get_or, Option, Ok, refl, sym, ◌∙◌, arith}
use Rattle.std.specs.Prelude.{◌⊎◌, flat_map}
use Rattle.std.specs.List.{AllZip}
use Rattle.std.specs.Option.{option_copied}
use Rattle.std.specs.String.{string_bytes}
use Rattle.std.specs.Io.KnownBytes.{Appends}
use Rattle.std.proofs.KnownBytes.{Keeps-refl}
use Rattle.dns_zone.specs.Zone.{Zone}
use Rattle.dns_configuration.specs.declared.configuration.ZoneSettings.{ZoneSettings}
use Rattle.dns_configuration.specs.declared.configuration.Configuration.{Configuration}
use Rattle.dns_configuration.specs.declared.files.File.{File}
use Rattle.dns_configuration.specs.declared.files.Fault.{Fault}
use Rattle.dns_configuration.specs.Faults.{fault_text, is_memory, line}
use Rattle.dns_configuration.specs.Files.{HoldsConfiguration, IsFirstFault, IsLoadedFrom}
use Rattle.dns_commands.specs.CheckConfiguration.{ConfigurationCheckEnds, HasSectors, IsConfigurationFault, IsFirstTooLarge, good_line, sectors_taken}

-- The first zone that has no room.
pub too_large_at : (settings : List ZoneSettings) (zones : List Zone) (n : ℕ) (d : ZoneSettings) (e : Zone) (path : List ℕ) → n < length settings → n < length zones → AllZip HasSectors (take n settings) (take n zones) → path ≡ string_bytes (get_or settings n d).device → (get_or settings n d).snapshot_sectors < sectors_taken (get_or zones n e) → IsFirstTooLarge settings zones path
too_large_at [] zones n d e path inside within h p k = absurd (omega (arith, inside))
too_large_at (x ∷ xs) [] n d e path inside within h p k = absurd (omega (arith, within))
too_large_at (x ∷ xs) (y ∷ ys) zero d e path inside within h p k = inl (p, k)
too_large_at (x ∷ xs) (y ∷ ys) (suc n) d e path inside within h p k =
    inr (h.0, too_large_at xs ys n d e path (omega (arith, inside)) (omega (arith, within)) h.1 p k)

-- A writer failed or memory was refused.
pub check_failed : (config : File) (files : List File) (explain : Bool) (out out_after err err_after : Option (List ℕ)) → ConfigurationCheckEnds config files explain out out_after err err_after 3
check_failed config files explain out out_after err err_after = record {
  done = λ e. absurd (omega (arith, e));
  refused = λ e. absurd (omega (arith, e));
  others = inr refl;
}

-- Nothing was printed, for that fault.
pub check_refused : (config : File) (files : List File) (explain : Bool) (out err err_after : Option (List ℕ)) (text : List ℕ) → IsConfigurationFault config files explain text → Appends err err_after (line text) → ConfigurationCheckEnds config files explain out out err err_after 1
check_refused config files explain out err err_after text why said = record {
  done = λ e. absurd (omega (arith, e));
  refused = λ _. (text, why, said, Keeps-refl out);
  others = inl (omega arith);
}

-- All is well.
pub check_done : (config : File) (files : List File) (c : Configuration) (zones : List Zone) (explain : Bool) (out out_after err : Option (List ℕ)) → HoldsConfiguration (option_copied config.octets) (Ok c) → AllZip (IsLoadedFrom files) c.zones.items zones → AllZip HasSectors c.zones.items zones → Appends out out_after (flat_map good_line zones) → ConfigurationCheckEnds config files explain out out_after err err 0
check_done config files c zones explain out out_after err holds loaded fit said = record {
  done = λ _. (c, holds, zones, loaded, fit, said, Keeps-refl err);
  refused = λ e. absurd (omega (arith, e));
  others = inl (omega arith);
}

-- A master file that holds no zone.
pub file_at_fault : (config : File) (files : List File) (c : Configuration) (path : List ℕ) (fault : Fault) (explain : Bool) → HoldsConfiguration (option_copied config.octets) (Ok c) → ((is_memory fault ≡ true) ⊎ IsFirstFault files c.zones.items path fault) → is_memory fault ≡ false → IsConfigurationFault config files explain (fault_text path fault)
file_at_fault config files c path fault explain holds (inl memory) is = absurd (let none : true ≡ false = sym memory ∙ is in cc)
file_at_fault config files c path fault explain holds (inr first) is = inr (c, holds, inl (path, fault, first, refl))
