-- What a server tells of its turns: its log, and a script and counts if they are wanted.
use Rattle.std.specs.Prelude.{◌≡◌, ◌⊎◌, ℕ, Bool, true, false, List, [], ◌∷◌, ◌++◌, Option}
use Rattle.std.specs.Io.KnownBytes.{Appends}
use Rattle.std.specs.declared.net.socket_addr.SocketAddr.{SocketAddr}
use Rattle.dns_names.specs.Name.{Labels}
use Rattle.dns_zone.specs.declared.index.ZoneIndex as zone_index
use Rattle.dns_store.specs.declared.zone_store.ZoneStore as store
use Rattle.dns_primary.specs.declared.primary.Primary.{Primary}
use Rattle.dns_primary.specs.Machine.{Machine}
use Rattle.dns_network.specs.declared.network.Note.TheVariants.{Unrecorded}
use Rattle.dns_network.specs.declared.network.Observer.{Ghosts}
use Rattle.dns_network.specs.Notes.{AreReported, Report, OfNote}
use Rattle.dns_network.specs.Reports.{AreReportsOfTurns}
use Rattle.dns_network.specs.Turn.{TurnMoment}
use Rattle.dns_counters.specs.declared.counting.Counting.{Counting}
use Rattle.dns_counters.specs.declared.telling.CountLines.{CountLines}
use Rattle.dns_recording.specs.Recorder.{unstirred}
use Rattle.dns_recording.specs.Script.{script_of, zone_comments}
use Rattle.dns_service.specs.Counting.{AreCountsOf}
use Rattle.dns_service.specs.Log.{IsLogOf, zone_lines}
use Rattle.dns_service.specs.ServedTurns.{BeginsCounting, HasTurnedFrom}
use Rattle.dns_service.specs.declared.server.Service.{Service}
use Rattle.dns_service.specs.declared.server.Streams.{Streams}

-- The recording ended at some moment, and that was told once, there.
pub record IsRecordingOver (reports told : List Report) : Type 0 where
  pub before : List Report
  pub after : List Report
  pub reported : reports ≡ before ++ after
  pub and_told : told ≡ before ++ OfNote Unrecorded ∷ after

-- A script of reports comes after all that its file held: comments, and then the lines of all of them, in
-- order. Or the recording ended. Where none is wanted the file stays as it is. These reports are told.
abbrev pub IsScriptOf : Bool → List ℕ → Option (List ℕ) → Option (List ℕ) → List Report → List Report → Type 0
IsScriptOf false comments script script_after reports told = (script_after ≡ script) × (told ≡ reports)
IsScriptOf true comments script script_after reports told =
    (Appends script script_after (comments ++ script_of unstirred reports) × (told ≡ reports))
    ⊎ IsRecordingOver reports told

-- A script of turns was written, if it is wanted, and what is to be told of them was told to an observer.
pub record AreScripted {L : Type 0} (l : Ghosts L) (is_recorded : Bool) (comments : List ℕ)
    (script script_after : Option (List ℕ)) (turns : List (List TurnMoment)) (old new : L) : Type 0 where
  pub reports : List Report
  pub of_turns : AreReportsOfTurns turns reports
  pub told : List Report
  pub written : IsScriptOf is_recorded comments script script_after reports told
  pub handed : AreReported l told old new

-- What a server is to tell of: whether lines of connections, updates and transfers are left out of its log,
-- whether a script is written, each how many seconds counts are told, the names of the zones, the addresses.
pub record Telling : Type 0 where
  pub is_quiet : Bool
  pub is_recorded : Bool
  pub count_every : ℕ
  pub origins : List Labels
  pub addresses : List SocketAddr

abbrev pub telling_of : {R : Type 0} → Service R → Telling
telling_of service = record {
  is_quiet = service.is_quiet;
  is_recorded = service.is_recorded;
  count_every = service.count_every;
  origins = service.origins.now;
  addresses = service.addresses.now;
}

-- What the output, the log and the script of a server hold.
pub record Texts : Type 0 where
  pub output : Option (List ℕ)
  pub log : Option (List ℕ)
  pub script : Option (List ℕ)

abbrev pub texts_of : {O E W : Type 0} → (O → Option (List ℕ)) → (E → Option (List ℕ))
    → (W → Option (List ℕ)) → Streams O E W → Texts
texts_of output log script streams =
    record { output = output streams.out; log = log streams.err; script = script streams.record }

-- The log of these turns of a machine was written after all that it held: first these lines, then those of
-- the addresses, and then what is said of the reports, in order. So was their script, which begins with the
-- versions of the zones; and so were counts.
pub record AreTurnsTold (t : Telling) (first : List ℕ) (m : Machine) (turns : List (List TurnMoment))
    (before after : Texts) : Type 0 where
  pub reports : List Report
  pub of_turns : AreReportsOfTurns turns reports
  pub told : List Report
  pub script : IsScriptOf t.is_recorded (zone_comments t.origins m.zones) before.script after.script reports
      told
  pub log : IsLogOf first t.is_quiet t.origins t.addresses before.log after.log told
  pub counts : AreCountsOf t.count_every t.origins m turns before.output after.output

module _ {R I D : Type 0} {i : zone_index.Ghosts I} {d : store.Ghosts D} (service : Service R)
    (before after : Primary I D i d) where
  -- All turns of a service were made of a primary: their script was written, if it is wanted, and their
  -- counts were told, where the observer had counted none before.
  abbrev pub TurnsAreRecorded : {L W O : Type 0} → Ghosts L → (L → Counting) → (W → Option (List ℕ))
      → (O → Option (List ℕ)) → W → W → CountLines O → CountLines O → L → L → Type 0
  TurnsAreRecorded l counting recorded output script script' counts counts' log log' =
      BeginsCounting counts.every (counting log)
      → HasTurnedFrom service.turns before after
      (λ turns m. AreScripted l service.is_recorded (zone_comments service.origins.now m.zones)
      (recorded script) (recorded script') turns log log'
      × AreCountsOf counts.every counts.origins.now m turns (output counts.out.now) (output counts'.out.now))

  -- They were made, and all was told that is to be told of them; the log begins with the lines that `first`
  -- gives of a machine.
  abbrev pub TurnsAreTold : (Machine → List ℕ) → Texts → Texts → Type 0
  TurnsAreTold first texts texts' =
      HasTurnedFrom service.turns before after
      (λ turns m. AreTurnsTold (telling_of service) (first m) m turns texts texts')

  module _ {O E W : Type 0} (output : O → Option (List ℕ)) (log : E → Option (List ℕ))
      (script : W → Option (List ℕ)) where
    -- It begins with the versions that are shown;
    abbrev pub TurnsAreServed : Streams O E W → Streams O E W → Type 0
    TurnsAreServed streams streams' =
        TurnsAreTold (λ m. zone_lines service.origins.now m.zones)
        (texts_of output log script streams) (texts_of output log script streams')

    -- or they were told of before, and it begins with the addresses.
    abbrev pub TurnsAreListened : O → E → W → O → E → W → Type 0
    TurnsAreListened out err file out' err' file' =
        TurnsAreTold (λ m. [])
        (record { output = output out; log = log err; script = script file })
        (record { output = output out'; log = log err'; script = script file' })
