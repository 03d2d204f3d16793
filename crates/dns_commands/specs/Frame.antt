-- How a command ended, and one that ran for a zone that a text names.
use Rattle.std.specs.Prelude.{◌≡◌, ◌⊎◌, ℕ, Bool, List, [], Option}
use Rattle.std.specs.Io.KnownBytes.{Appends, Keeps}
use Rattle.dns_configuration.specs.declared.configuration.ZoneSettings.{ZoneSettings}
use Rattle.dns_configuration.specs.declared.files.File.{File}
use Rattle.dns_configuration.specs.Calls.{Calls}
use Rattle.dns_configuration.specs.Faults.{line}
use Rattle.dns_configuration.specs.Named.{IsNamed, IsNoZoneName}
use Rattle.dns_commands.specs.declared.frame.Run.{Run}

-- The calls that a command made, in order; whether a second line of an error was wanted; what stood before
-- and after where it prints and where it reports, if that is known; and its exit status.
pub record Ended (C : Type 0) : Type 0 where
  pub calls : List C
  pub explain : Bool
  pub out : Option (List ℕ)
  pub out_after : Option (List ℕ)
  pub err : Option (List ℕ)
  pub err_after : Option (List ℕ)
  pub status : ℕ

abbrev pub run_end : {C : Type 0} → List C → Bool → Option (List ℕ) → Option (List ℕ) → Option (List ℕ)
    → Option (List ℕ) → ℕ → Ended C
run_end calls explain out out_after err err_after status = record {
  calls = calls;
  explain = explain;
  out = out;
  out_after = out_after;
  err = err;
  err_after = err_after;
  status = status;
}

-- A run that made these calls and ended with that status, by what its writers held before and after it.
abbrev pub ended_run : {C F W E : Type 0} → (W → Option (List ℕ)) → (E → Option (List ℕ)) → Run F W E
    → Run F W E → List C → ℕ → Ended C
ended_run printed reported before after calls status =
    run_end calls before.explain (printed before.out) (printed after.out) (reported before.err)
    (reported after.err) status

-- A run that ended with that status ended as P says of what its writers held before and after it.
abbrev pub WritesEnd : {F W E : Type 0} → (W → Option (List ℕ)) → (E → Option (List ℕ)) → Run F W E
    → Run F W E
    → (Option (List ℕ) → Option (List ℕ) → Option (List ℕ) → Option (List ℕ) → ℕ → Type 0) → ℕ → Type 0
WritesEnd printed reported before after P status =
    P (printed before.out) (printed after.out) (reported before.err) (reported after.err) status

-- A run that ended with that status ended as P says.
abbrev pub RunEnds : {C F W E : Type 0} → (F → Option (List C)) → (W → Option (List ℕ))
    → (E → Option (List ℕ)) → Run F W E → Run F W E → ℕ → (Ended C → Type 0) → Type 0
RunEnds called printed reported before after status P =
    Calls (called before.devices) (called after.devices)
    (λ calls. P (ended_run printed reported before after calls status))

-- No zone is named, since the configuration is refused, or the text: that is reported with status 1, unless
-- the writer failed or memory was refused. Nothing was called or printed.
abbrev pub EndsUnnamed : {C : Type 0} → File → List ℕ → Ended C → Type 0
EndsUnnamed config origin e =
    (e.calls ≡ []) × Keeps e.out e.out_after
    × ((e.status ≡ 3)
    ⊎ ((e.status ≡ 1) × (text : List ℕ) × IsNoZoneName config origin text
    × Appends e.err e.err_after (line text)))

-- The command ended as P says of the zone that is named, or there is none.
abbrev pub EndsForNamed : {C : Type 0} → File → List ℕ → (ZoneSettings → Ended C → Type 0) → Ended C → Type 0
EndsForNamed config origin P e =
    ((own : ZoneSettings) × IsNamed config origin own × P own e) ⊎ EndsUnnamed config origin e
