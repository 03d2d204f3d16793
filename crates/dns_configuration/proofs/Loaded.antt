-- The files that a run is given, and the zones that they hold.
use Rattle.std.proofs.Common.{◌≡◌, ℕ, zero, suc, ◌<◌, ◌+◌, Bool, true, false, inl, inr, List, [], ◌∷◌, ◌++◌, length, take, drop, get_or, Err, ap, ◌∙◌, arith}
use Rattle.std.specs.Prelude.{◌⊎◌, bytes_eq, if◌then◌else◌}
use Rattle.std.specs.List.{AllZip}
use Rattle.std.specs.Option.{option_copied}
use Rattle.std.specs.String.{string_bytes}
use Rattle.std.proofs.lemmas.List.{drop_more}
use Rattle.dns_zone.specs.Zone.{Zone}
use Rattle.dns_configuration.specs.declared.configuration.ZoneSettings.{ZoneSettings}
use Rattle.dns_configuration.specs.declared.files.File.{File}
use Rattle.dns_configuration.specs.declared.files.Fault.{Fault}
use Rattle.dns_configuration.specs.Faults.{is_memory}
use Rattle.dns_configuration.specs.Files.{IsFirstFault, IsLoadedFrom, loaded_by, octets_at}

-- The first file with a path, from a position on.
pub file_here : (files : List File) (path : List ℕ) (i : ℕ) (f : File) → i < length files → bytes_eq (get_or files i f).path.now path ≡ true → octets_at (drop i files) path ≡ option_copied (get_or files i f).octets
file_here files path i f inside e = ap (λ (fs : List File). octets_at fs path) (drop_more files i f inside) ∙ ap (λ (b : Bool). if b then option_copied (get_or files i f).octets else octets_at (drop (i + 1) files) path) e

pub file_behind : (files : List File) (path : List ℕ) (i : ℕ) (f : File) → i < length files → bytes_eq (get_or files i f).path.now path ≡ false → octets_at (drop i files) path ≡ octets_at (drop (i + 1) files) path
file_behind files path i f inside e = ap (λ (fs : List File). octets_at fs path) (drop_more files i f inside) ∙ ap (λ (b : Bool). if b then option_copied (get_or files i f).octets else octets_at (drop (i + 1) files) path) e

-- One more of each.
pub zip_more : {A B : Type 0} (R : A → B → Type 0) (xs : List A) (n : ℕ) (d : A) (ys : List B) (y : B) → n < length xs → AllZip R (take n xs) ys → R (get_or xs n d) y → AllZip R (take (suc n) xs) (ys ++ y ∷ [])
zip_more R [] n d ys y inside h r = absurd (omega (arith, inside))
zip_more R (x ∷ xs) zero d [] y inside h r = (r, tt)
zip_more R (x ∷ xs) zero d (w ∷ ws) y inside h r = absurd h
zip_more R (x ∷ xs) (suc n) d [] y inside h r = absurd h
zip_more R (x ∷ xs) (suc n) d (w ∷ ws) y inside h r = (h.0, zip_more R xs n d ws y (omega (arith, inside)) h.1 r)

-- The first zone whose file holds none.
pub first_fault : (files : List File) (all : List ZoneSettings) (n : ℕ) (z : ZoneSettings) (zones : List Zone) (path : List ℕ) (fault : Fault) → n < length all → AllZip (IsLoadedFrom files) (take n all) zones → path ≡ string_bytes (get_or all n z).file → loaded_by files (get_or all n z) ≡ Err fault → IsFirstFault files all path fault
first_fault files [] n z zones path fault inside h p k = absurd (omega (arith, inside))
first_fault files (x ∷ xs) zero z zones path fault inside h p k = inl (p, k)
first_fault files (x ∷ xs) (suc n) z [] path fault inside h p k = absurd h
first_fault files (x ∷ xs) (suc n) z (w ∷ ws) path fault inside h p k = inr (h.0.records, h.0.read, first_fault files xs n z ws path fault (omega (arith, inside)) h.1 p k)

pub fault_or_memory : (files : List File) (all : List ZoneSettings) (n : ℕ) (z : ZoneSettings) (zones : List Zone) (path : List ℕ) (fault : Fault) → n < length all → AllZip (IsLoadedFrom files) (take n all) zones → path ≡ string_bytes (get_or all n z).file → ((is_memory fault ≡ true) ⊎ (loaded_by files (get_or all n z) ≡ Err fault)) → (is_memory fault ≡ true) ⊎ IsFirstFault files all path fault
fault_or_memory files all n z zones path fault inside h p (inl memory) = inl memory
fault_or_memory files all n z zones path fault inside h p (inr k) = inr (first_fault files all n z zones path fault inside h p k)
