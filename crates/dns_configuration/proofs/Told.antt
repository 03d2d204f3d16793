-- What a status tells of the fault of a file or a word that was told.
use Rattle.std.proofs.Common.{◌≡◌, ℕ, Bool, true, false, List, Option, Result, Ok, Err, IfOk, refl, sym, subst}
use Rattle.std.specs.Bool.{MatchBool}
use Rattle.std.specs.Result.{result_unwrap_or}
use Rattle.std.specs.Io.KnownBytes.{Appends}
use Rattle.dns_configuration.specs.declared.files.Fault.{Fault}
use Rattle.dns_configuration.specs.Faults as files
use Rattle.dns_configuration.specs.Faults.{IsTold, fault_text, line}

-- What holds of the status of a run that went on, and of 3, holds of the status.
pub unwrapped : {E : Type 0} (P : ℕ → Type 0) (r : Result ℕ E) (status : ℕ) → status ≡ result_unwrap_or r 3 → IfOk r P → P 3 → P status
unwrapped P (Ok x) status e h f = subst P (sym e) h
unwrapped P (Err x) status e h f = subst P (sym e) f

-- The fault of a file or a word was told.
pub fault_told : {E : Type 0} (P : ℕ → Type 0) (what : List ℕ) (fault : Fault) (err err_after : Option (List ℕ)) (r : Result ℕ E) → IfOk r (λ status. IsTold what fault err err_after status) → P 3 → (files.is_memory fault ≡ false → Appends err err_after (line (fault_text what fault)) → P 1) → IfOk r P
fault_told P what fault err err_after (Err e) told failed refused = tt
fault_told P what fault err err_after (Ok status) told failed refused = go (files.is_memory fault) refl told
  where
    go : (b : Bool) → files.is_memory fault ≡ b → MatchBool b (status ≡ 3) ((status ≡ 1) × Appends err err_after (line (fault_text what fault))) → P status
    go true is e = subst P (sym e) failed
    go false is e = subst P (sym e.0) (refused is e.1)
