-- The commands over the files that their words name.
use Rattle.std.specs.Prelude.{◌≡◌, ◌⊎◌, ℕ, Bool, true, false, List, [], ◌∷◌, map, Option, Some, None, Result}
use Rattle.std.specs.Prelude.{IfOk, MatchResult, is_some}
use Rattle.std.specs.Option.{option_copied}
use Rattle.std.specs.List.{AllZip}
use Rattle.dns_sectors.specs.declared.device.Sectors.{Ghosts}
use Rattle.dns_configuration.specs.Calls.{Calls}
use Rattle.dns_configuration.specs.declared.files.File.{File}
use Rattle.dns_devices.specs.DeviceCalls.{DeviceCall}
use Rattle.dns_service.specs.declared.server.ServeOptions.{ServeOptions}
use Rattle.dns_service.specs.Serve.{ServerEnds}
use Rattle.dns_fetch.specs.Connecting.{ConnectCall}
use Rattle.dns_fetch.specs.Fetch.{FetchingEnds, StreamGhosts}
use Rattle.dns_commands.specs.Compare.{ComparisonEnds}
use Rattle.dns_commands.specs.Dump.{DumpEnds}
use Rattle.dns_commands.specs.Diff.{DiffEnds}
use Rattle.dns_commands.specs.DumpAt.{DumpAtEnds}
use Rattle.dns_commands.specs.Frame.{Ended}
use Rattle.dns_commands.specs.History.{HistoryEnds}
use Rattle.dns_commands.specs.Init.{InitEnds}
use Rattle.dns_commands.specs.Inputs.{AreFilesOf, AreFirstOf, Input, IsInput}
use Rattle.dns_commands.specs.LoadRun.{LoadEnds}
use Rattle.dns_commands.specs.Verify.{VerifyEnds}
use Rattle.dnsprim.specs.declared.command.Diffing.{Diffing}
use Rattle.dnsprim.specs.declared.command.Dumping.{Dumping}
use Rattle.dnsprim.specs.declared.command.Fetching.{Fetching}
use Rattle.dnsprim.specs.declared.command.Listing.{Listing}
use Rattle.dnsprim.specs.declared.command.Loading.{Loading}
use Rattle.dnsprim.specs.declared.command.Making.{Making}
use Rattle.dnsprim.specs.declared.command.Replaying.{Replaying}
use Rattle.dnsprim.specs.declared.command.Serving.{Serving}
use Rattle.dnsprim.specs.declared.command.Verifying.{Verifying}
use Rattle.dnsprim.specs.declared.tasks.FetchRun.{FetchRun}
use Rattle.dnsprim.specs.declared.tasks.ServeRun.{ServeRun}

-- The paths of files that were read, in order.
abbrev pub paths_of : List Input → List (List ℕ)
paths_of reads = map (λ (r : Input). r.0) reads

-- The file at this path was read, and no other.
pub record IsReadAlone (reads : List Input) (path : List ℕ) (file : File) : Type 0 where
  pub path_is : file.path.now ≡ path
  pub reads_are : reads ≡ (path, option_copied file.octets) ∷ []

-- The file at this path was read, and of what it holds and the status this is said; or memory for it was
-- refused.
abbrev pub ReadsAlone : {E : Type 0} → List Input → List ℕ → Result ℕ E → (File → ℕ → Type 0) → Type 0
ReadsAlone reads path ended P =
    MatchResult ended (λ status. (file : File) × IsReadAlone reads path file × P file status)
    (λ _. paths_of reads ≡ path ∷ [])

-- The file of a configuration at this path was read, and then the master files that it names, in their order.
pub record AreAllRead (reads : List Input) (path : List ℕ) (config : File) (files : List File) : Type 0 where
  pub texts : List Input
  pub path_is : config.path.now ≡ path
  pub reads_are : reads ≡ (path, option_copied config.octets) ∷ texts
  pub files_are : AllZip IsInput files texts
  pub named : AreFilesOf (option_copied config.octets) (paths_of texts)

-- The configuration was read, and some of the first of its master files.
abbrev pub AreFirstRead : List Input → List ℕ → Type 0
AreFirstRead reads path =
    (octets : Option (List ℕ)) × (texts : List Input) × (reads ≡ (path, octets) ∷ texts)
    × AreFirstOf octets texts

-- They were read, and of them and the status this is said; or memory was refused, after the configuration and
-- some of the first of them.
abbrev pub ReadsAll : {E : Type 0} → List Input → List ℕ → Result ℕ E → (File → List File → ℕ → Type 0)
    → Type 0
ReadsAll reads path ended P =
    MatchResult ended
    (λ status. (config : File) × (files : List File) × AreAllRead reads path config files
    × P config files status)
    (λ _. AreFirstRead reads path)

-- First the file of a script was read, and then these; or memory was refused.
abbrev pub ReadsScript : {E : Type 0} → List Input → List ℕ → List ℕ → Result ℕ E
    → (File → File → List File → ℕ → Type 0) → Type 0
ReadsScript reads script path ended P =
    MatchResult ended
    (λ status. (first : File) × (config : File) × (files : List File) × (rest : List Input)
    × (first.path.now ≡ script) × (reads ≡ (script, option_copied first.octets) ∷ rest)
    × AreAllRead rest path config files × P first config files status)
    (λ _. (octets : Option (List ℕ)) × (rest : List Input) × (reads ≡ (script, octets) ∷ rest)
    × ((rest ≡ []) ⊎ AreFirstRead rest path))

-- The file at this path was read, if a path is given, and of it and the status this is said; or memory for it
-- was refused.
abbrev pub ReadsSince : {E : Type 0} → List Input → Option (List ℕ) → Result ℕ E
    → (Option File → ℕ → Type 0) → Type 0
ReadsSince reads None ended P = (reads ≡ []) × IfOk ended (P None)
ReadsSince reads (Some path) ended P = ReadsAlone reads path ended (λ file status. P (Some file) status)

-- `dump` ends so, with a serial or without one.
abbrev pub Dumps : {D : Type 0} → Ghosts D → File → List ℕ → Option ℕ → Ended (DeviceCall D) → Type 0
Dumps g config origin None = DumpEnds g config origin
Dumps g config origin (Some serial) = DumpAtEnds g config origin serial

-- `load` ends so, if only the difference is printed or not.
abbrev pub Loads : {D : Type 0} → Ghosts D → File → List File → List ℕ → Bool → Ended (DeviceCall D) → Type 0
Loads g config files origin true = ComparisonEnds g config files origin
Loads g config files origin false = LoadEnds g config files origin

module _ {D : Type 0} (g : Ghosts D) where
  -- The commands end so by their words.
  abbrev pub MakesBy : Making → File → List File → Ended (DeviceCall D) → Type 0
  MakesBy words config files = InitEnds g config (option_copied words.origin) files

  abbrev pub DumpsBy : Dumping → File → Ended (DeviceCall D) → Type 0
  DumpsBy words config = Dumps g config words.origin.now words.serial

  abbrev pub DiffsBy : Diffing → File → Ended (DeviceCall D) → Type 0
  DiffsBy words config = DiffEnds g config words.origin.now words.from words.to words.as_update

  abbrev pub ListsBy : Listing → File → Ended (DeviceCall D) → Type 0
  ListsBy words config = HistoryEnds g config words.origin.now words.records

  abbrev pub LoadsFileBy : Loading → File → List File → Ended (DeviceCall D) → Type 0
  LoadsFileBy words config files = Loads g config files words.origin.now words.dry_run

  abbrev pub VerifiesBy : Verifying → File → Ended (DeviceCall D) → Type 0
  VerifiesBy words config = VerifyEnds g config (option_copied words.origin) words.every_sector

-- The options of `serve`, by its words.
abbrev pub options_of : Serving → Bool → ServeOptions
options_of words explain = record {
  turns = words.turns;
  is_quiet = words.quiet;
  count_every = words.count_every;
  log_level = words.log_level;
  is_recorded = is_some words.record;
  explain = explain;
}

-- A run of `serve` by its words and a configuration ended with that status, by the calls that it made and
-- what its streams held before and after it.
abbrev pub ServesBy : {D F R O E W : Type 0} → Ghosts D → (F → Option (List (DeviceCall D)))
    → (O → Option (List ℕ)) → (E → Option (List ℕ)) → (W → Option (List ℕ)) → ServeRun R F O E W
    → ServeRun R F O E W → Serving → File → ℕ → Type 0
ServesBy g called output log script before after words config status =
    ServerEnds g called output log script before.devices after.devices before.streams after.streams config
    (options_of words before.explain) status

-- So did a run of `fetch`, of whose zone this file holds an older version.
abbrev pub FetchesBy : {S V P W E : Type 0} → StreamGhosts S → (V → Option (List (ConnectCall S)))
    → (W → Option (List ℕ)) → (E → Option (List ℕ)) → FetchRun V P W E → FetchRun V P W E → Fetching
    → Option File → ℕ → Type 0
FetchesBy g called printed reported before after words since status =
    FetchingEnds g (called before.servers) (called after.servers) words.server.now words.origin.now since
    before.explain (printed before.out) (printed after.out) (reported before.err) (reported after.err) status

-- What the run of a command read: the file at this path, and of it and the status P holds.
abbrev pub OverFile : {N X : Type 0} → (N → Option (List Input)) → N → N → List ℕ → Result ℕ X
    → (File → ℕ → Type 0) → Type 0
OverFile read before after path ended P =
    Calls (read before) (read after) (λ reads. ReadsAlone reads path ended P)

-- ... the file of a configuration at this path, and its master files.
abbrev pub OverFiles : {N X : Type 0} → (N → Option (List Input)) → N → N → List ℕ → Result ℕ X
    → (File → List File → ℕ → Type 0) → Type 0
OverFiles read before after path ended P =
    Calls (read before) (read after) (λ reads. ReadsAll reads path ended P)

-- ... the file of a script before those.
abbrev pub OverScript : {N X : Type 0} → (N → Option (List Input)) → N → N → Replaying → Result ℕ X
    → (File → File → List File → ℕ → Type 0) → Type 0
OverScript read before after words ended P =
    Calls (read before) (read after) (λ reads. ReadsScript reads words.script.now words.config.now ended P)
