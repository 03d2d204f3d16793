-- What a status tells of the fault of a device that was told.
use Rattle.std.proofs.Common.{◌≡◌, ℕ, Bool, true, false, inl, inr, List, Option, Result, Ok, Err, IfOk, refl, sym, subst, ◌∙◌}
use Rattle.std.specs.Prelude.{◌⊎◌}
use Rattle.std.specs.Bool.{MatchBool}
use Rattle.std.specs.Result.{IsErr, result_unwrap_or}
use Rattle.std.specs.Io.KnownBytes.{Appends}
use Rattle.dns_configuration.specs.Faults.{line}
use Rattle.dns_devices.specs.declared.device_faults.DeviceFault.{DeviceFault}
use Rattle.dns_devices.specs.declared.device_faults.DeviceFault.TheVariants.{Exists, Device, Blank, Damaged, OldFormat, Geometry, ZoneTooLarge, SerialNotRaised, NoRoom, OutOfMemory}
use Rattle.dns_devices.specs.DeviceFaults.{IsDeviceTold, device_text, is_memory_fault, status_of}

status_known : (fault : DeviceFault) → (status_of fault ≡ 1) ⊎ (status_of fault ≡ 3)
status_known Exists = inl refl
status_known Device = inr refl
status_known Blank = inl refl
status_known (Damaged sector) = inl refl
status_known OldFormat = inl refl
status_known Geometry = inl refl
status_known ZoneTooLarge = inl refl
status_known SerialNotRaised = inl refl
status_known NoRoom = inl refl
status_known OutOfMemory = inr refl

-- The fault of a device was told: the status is 3, or it is 1 and the fault is one of those that are refusals.
pub device_told : {E : Type 0} (P : ℕ → Type 0) (path : List ℕ) (fault : DeviceFault) (explain : Bool) (err err_after : Option (List ℕ)) (r : Result ℕ E) → IfOk r (λ status. IsDeviceTold path fault explain err err_after status) → P 3 → (status_of fault ≡ 1 → Appends err err_after (line (device_text path fault explain)) → P 1) → IfOk r P
device_told P path fault explain err err_after (Err e) told failed refused = tt
device_told P path fault explain err err_after (Ok status) told failed refused = go (is_memory_fault fault) told
  where
    known : status ≡ status_of fault → Appends err err_after (line (device_text path fault explain)) → ((status_of fault ≡ 1) ⊎ (status_of fault ≡ 3)) → P status
    known e said (inl one) = subst P (sym (e ∙ one)) (refused one said)
    known e said (inr three) = subst P (sym (e ∙ three)) failed

    go : (b : Bool) → MatchBool b (status ≡ 3) ((status ≡ status_of fault) × Appends err err_after (line (device_text path fault explain))) → P status
    go true e = subst P (sym e) failed
    go false e = known e.0 e.1 (status_known fault)

-- What holds with status 3 holds of a run that failed.
pub failed_as : {E : Type 0} (P : ℕ → Type 0) (r : Result ℕ E) → IsErr r → P 3 → P (result_unwrap_or r 3)
failed_as P (Ok status) is failed = absurd (let both : false ≡ true = is in cc)
failed_as P (Err e) is failed = failed
