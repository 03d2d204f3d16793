-- Files that were read, and what is said of a run over them.
use Rattle.std.proofs.Common.{◌≡◌, ◌<◌, ◌∙◌, zero, inl, inr, ap, sym, refl, subst, ℕ, List, [], ◌∷◌, ◌++◌, length, suc, take, get_or, map, Option, Result, Ok, Err, arith, take_all}
use Rattle.std.specs.Prelude.{◌⊎◌, MatchResult, String, Vec}
use Rattle.std.specs.Global.{Global}
use Rattle.std.specs.Option.{option_copied}
use Rattle.std.specs.String.{string_bytes}
use Rattle.std.specs.List.{AllZip}
use Rattle.dns_configuration.specs.declared.configuration.ZoneSettings.{ZoneSettings}
use Rattle.dns_configuration.specs.declared.files.File.{File}
use Rattle.dns_commands.specs.Inputs.{AreFilesOf, AreFirstOf, Input, IsInput, file_paths, inputs_of, octets_held}
use Rattle.dnsprim.specs.Tasks.{AreFirstRead, AreAllRead, IsReadAlone, paths_of}

-- one file
pub read_alone : (path : List ℕ) (octets : Option (List ℕ)) (file : File) → IsInput file (path, octets) → IsReadAlone ((path, octets) ∷ []) path file
read_alone path octets file is = record { path_is = is.path; reads_are = ap (λ (o : Option (List ℕ)). (path, o) ∷ []) (sym is.octets) }

abbrev pub Read : Type 0
Read = String Global × Option (Vec ℕ Global)

pub paths_in : (files : List Read) → paths_of (inputs_of files) ≡ map (λ (f : Read). string_bytes f.0) files
paths_in [] = refl
paths_in (f ∷ files) = ap (λ (paths : List (List ℕ)). string_bytes f.0 ∷ paths) (paths_in files)

-- a configuration, and its master files
pub all_read : (path : List ℕ) (octets : Option (List ℕ)) (config : File) (files given : List File) (reads : List Input) (texts slice : List Read) → IsInput config (path, octets)
    → AllZip IsInput files (inputs_of slice) → given ≡ files → slice ≡ texts → (reads ≡ inputs_of texts) × AreFilesOf (option_copied config.octets) (map (λ (f : Read). string_bytes f.0) texts)
    → AreAllRead ((path, octets) ∷ [] ++ reads) path config given
all_read path octets config files given reads texts slice is each handed borrowed (same, named) = record {
  texts = reads;
  path_is = is.path;
  reads_are = ap (λ (o : Option (List ℕ)). (path, o) ∷ reads) (sym is.octets);
  files_are = subst (λ (fs : List File). AllZip IsInput fs reads) (sym handed) (subst (λ (rs : List Input). AllZip IsInput files rs) (ap inputs_of borrowed ∙ sym same) each);
  named = subst (λ (paths : List (List ℕ)). AreFilesOf (option_copied config.octets) paths) (sym (ap paths_of same ∙ paths_in texts)) named;
}

-- the configuration alone, or some of its files
pub none_read : (path : List ℕ) (octets : Option (List ℕ)) → AreFirstRead ((path, octets) ∷ []) path
none_read path octets = (octets, [], refl, inl refl)

pub some_read : (path : List ℕ) (octets : Option (List ℕ)) (config : File) (reads : List Input) → IsInput config (path, octets) → AreFirstOf (option_copied config.octets) reads
    → AreFirstRead ((path, octets) ∷ [] ++ reads) path
some_read path octets config reads is first = (octets, reads, refl, subst (λ (o : Option (List ℕ)). AreFirstOf o reads) is.octets first)

no_reads : (reads : List Input) → paths_of reads ≡ [] → reads ≡ []
no_reads [] none = refl
no_reads (r ∷ reads) none = absurd (cc none)

first_of_all : (config : Option (List ℕ)) (reads : List Input) → AreFilesOf config (paths_of reads) → AreFirstOf config reads
first_of_all config reads (inl (c, held, named)) = inr (c, held, (length c.zones.items, named ∙ ap file_paths (sym (take_all (length c.zones.items) c.zones.items (omega arith)))))
first_of_all config reads (inr (fault, held, other, none)) = inl (no_reads reads none)

pub all_but_kept : (path : List ℕ) (octets : Option (List ℕ)) (config : File) (reads : List Input) (texts : List Read) → IsInput config (path, octets)
    → (reads ≡ inputs_of texts) × AreFilesOf (option_copied config.octets) (map (λ (f : Read). string_bytes f.0) texts)
    → AreFirstRead ((path, octets) ∷ [] ++ reads) path
all_but_kept path octets config reads texts is (same, named) =
    some_read path octets config reads is (first_of_all (option_copied config.octets) reads (subst (λ (paths : List (List ℕ)). AreFilesOf (option_copied config.octets) paths) (sym (ap paths_of same ∙ paths_in texts)) named))

-- one file more of those that were read
pub one_more_file : (files : List File) (texts : List Read) (n : ℕ) (text : Read) (file : File) → n < length texts → AllZip IsInput files (inputs_of (take n texts))
    → IsInput file (string_bytes (get_or texts n text).0, octets_held (get_or texts n text).1) → AllZip IsInput (files ++ file ∷ []) (inputs_of (take (suc n) texts))
one_more_file files [] n text file inside are is = absurd (omega (arith, inside))
one_more_file [] (t ∷ texts) zero text file inside are is = (is, tt)
one_more_file (f ∷ files) (t ∷ texts) zero text file inside are is = absurd are
one_more_file [] (t ∷ texts) (suc n) text file inside are is = absurd are
one_more_file (f ∷ files) (t ∷ texts) (suc n) text file inside are is = (are.0, one_more_file files texts n text file (omega (arith, inside)) are.1 is)

-- a script, and a configuration with its files
pub script_alone : (script path : List ℕ) (octets : Option (List ℕ)) (reads : List Input) → AreFirstRead reads path
    → (o : Option (List ℕ)) × (rest : List Input) × ((script, octets) ∷ [] ++ reads ≡ (script, o) ∷ rest) × ((rest ≡ []) ⊎ AreFirstRead rest path)
script_alone script path octets reads first = (octets, reads, refl, inr first)

pub nothing_but_script : (script path : List ℕ) (octets : Option (List ℕ))
    → (o : Option (List ℕ)) × (rest : List Input) × ((script, octets) ∷ [] ≡ (script, o) ∷ rest) × ((rest ≡ []) ⊎ AreFirstRead rest path)
nothing_but_script script path octets = (octets, [], refl, inl refl)

pub scripted : (script path : List ℕ) (octets : Option (List ℕ)) (first config : File) (files : List File) (reads : List Input) → IsInput first (script, octets) → AreAllRead reads path config files
    → (rest : List Input) × (first.path.now ≡ script) × ((script, octets) ∷ [] ++ reads ≡ (script, option_copied first.octets) ∷ rest) × AreAllRead rest path config files
scripted script path octets first config files reads is read = (reads, is.path, ap (λ (o : Option (List ℕ)). (script, o) ∷ reads) (sym is.octets), read)
