-- How a run that shows a device ends.
use Rattle.std.proofs.Common.{◌≡◌, ℕ, Bool, inl, inr, List, Option, refl, subst, arith}
use Rattle.std.specs.String.{string_bytes}
use Rattle.std.specs.Io.KnownBytes.{Appends}
use Rattle.std.proofs.KnownBytes.{Keeps-refl}
use Rattle.dns_sectors.specs.declared.device.Sectors.{Ghosts}
use Rattle.dns_configuration.specs.declared.configuration.ZoneSettings.{ZoneSettings}
use Rattle.dns_configuration.specs.Faults.{line}
use Rattle.dns_devices.specs.declared.device_faults.DeviceFault.{DeviceFault}
use Rattle.dns_devices.specs.DeviceFaults.{device_text, status_of}
use Rattle.dns_commands.specs.Frame.{run_end}
use Rattle.dns_commands.specs.Dump.{ShowingEnds}
use Rattle.dns_devices.specs.DeviceCalls.{DeviceCall}
use Rattle.dns_devices.specs.Stores.{IsLookedInto, IsNotShown}

-- A writer failed or memory was refused.
pub showing_failed : {D : Type 0} (g : Ghosts D) (calls : List (DeviceCall D)) (own : ZoneSettings) (explain : Bool) (out out_after err err_after : Option (List ℕ)) → IsLookedInto g calls own → ShowingEnds g own (run_end calls explain out out_after err err_after 3)
showing_failed g calls own explain out out_after err err_after called = record {
  done = λ e. absurd (omega (arith, e));
  refused = λ e. absurd (omega (arith, e));
  others = inr refl;
  called = called;
}

-- The device shows no zone.
pub not_shown : {D : Type 0} (g : Ghosts D) (calls : List (DeviceCall D)) (own : ZoneSettings) (explain : Bool) (out err err_after : Option (List ℕ)) (path : List ℕ) (fault : DeviceFault) → path ≡ string_bytes own.device → IsNotShown g calls own fault → status_of fault ≡ 1 → Appends err err_after (line (device_text path fault explain)) → ShowingEnds g own (run_end calls explain out out err err_after 1)
not_shown g calls own explain out err err_after path fault p why status said = record {
  done = λ e. absurd (omega (arith, e));
  refused = λ _. (fault, why, status, subst (λ (t : List ℕ). Appends err err_after (line (device_text t fault explain))) p said, Keeps-refl out);
  others = inl (omega arith);
  called = inr (fault, why);
}
