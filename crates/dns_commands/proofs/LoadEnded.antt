-- How a run that loads a zone's master file ends.
use Rattle.std.proofs.Common.{◌≡◌, ℕ, Bool, true, false, inl, inr, List, [], Option, Ok, Err, refl, sym, ap, ◌∙◌, arith}
use Rattle.std.specs.Prelude.{◌⊎◌}
use Rattle.std.specs.String.{string_bytes}
use Rattle.std.specs.Io.KnownBytes.{Appends}
use Rattle.std.proofs.KnownBytes.{Keeps-refl}
use Rattle.dns_records.specs.Record.{Record}
use Rattle.dns_zone.specs.Zone.{Zone}
use Rattle.dns_sectors.specs.declared.device.Sectors.{Ghosts}
use Rattle.dns_configuration.specs.declared.configuration.ZoneSettings.{ZoneSettings}
use Rattle.dns_configuration.specs.declared.files.File.{File}
use Rattle.dns_configuration.specs.declared.files.Fault.{Fault}
use Rattle.dns_configuration.specs.Faults.{fault_text, is_memory, line}
use Rattle.dns_configuration.specs.Files.{IsLoadedFrom, loaded_by}
use Rattle.dns_devices.specs.declared.device_faults.DeviceFault.{DeviceFault}
use Rattle.dns_commands.specs.Frame.{run_end}
use Rattle.dns_commands.specs.declared.next_version.Loaded.{Loaded}
use Rattle.dns_devices.specs.DeviceFaults.{device_text, status_of}
use Rattle.dns_devices.specs.DeviceCalls.{DeviceCall}
use Rattle.dns_commands.specs.Load.{IsLoadTried, IsLoadedAs, IsNotLoaded}
use Rattle.dns_commands.specs.LoadRun.{IsFileLoadTried, LoadingEnds, loaded_line, path_blamed}

-- A writer failed or memory was refused.
pub loading_failed : {D : Type 0} (g : Ghosts D) (calls : List (DeviceCall D)) (own : ZoneSettings) (files : List File) (explain : Bool) (out out_after err err_after : Option (List ℕ)) → IsFileLoadTried g calls files own → LoadingEnds g files own (run_end calls explain out out_after err err_after 3)
loading_failed g calls own files explain out out_after err err_after called = record {
  done = λ e. absurd (omega (arith, e));
  refused = λ e. absurd (omega (arith, e));
  others = inr refl;
  called = called;
}

-- The file holds no zone.
pub file_refused : {D : Type 0} (g : Ghosts D) (own : ZoneSettings) (files : List File) (explain : Bool) (out err err_after : Option (List ℕ)) (path : List ℕ) (fault : Fault) → path ≡ string_bytes own.file → ((is_memory fault ≡ true) ⊎ (loaded_by files own ≡ Err fault)) → is_memory fault ≡ false → Appends err err_after (line (fault_text path fault)) → LoadingEnds g files own (run_end [] explain out out err err_after 1)
file_refused g own files explain out err err_after path fault p (inl memory) not_memory said = absurd (let both : true ≡ false = sym memory ∙ not_memory in cc)
file_refused g own files explain out err err_after path fault p (inr why) not_memory said = record {
  done = λ e. absurd (omega (arith, e));
  refused = λ _. (fault_text path fault, inl (fault, why, ap (λ (t : List ℕ). fault_text t fault) p), said, Keeps-refl out);
  others = inl (omega arith);
  called = inl refl;
}

-- They were loaded, or there was nothing to load them into.
pub tried_in_vain : {D : Type 0} (g : Ghosts D) (calls : List (DeviceCall D)) (own : ZoneSettings) (records : List Record) (fault : DeviceFault) → IsNotLoaded g calls own records fault → IsLoadTried g calls own records
tried_in_vain g calls own records fault (inl why) = inr (fault, why)
tried_in_vain g calls own records fault (inr is) = inl (Err fault, is)

-- The records were not loaded.
pub records_refused : {D : Type 0} (g : Ghosts D) (calls : List (DeviceCall D)) (own : ZoneSettings) (files : List File) (explain : Bool) (out err err_after : Option (List ℕ)) (path : List ℕ) (zone : Zone) (fault : DeviceFault) → path ≡ path_blamed own fault → IsLoadedFrom files own zone → IsNotLoaded g calls own zone.records fault → status_of fault ≡ 1 → Appends err err_after (line (device_text path fault explain)) → LoadingEnds g files own (run_end calls explain out out err err_after 1)
records_refused g calls own files explain out err err_after path zone fault p read why status said = record {
  done = λ e. absurd (omega (arith, e));
  refused = λ _. (device_text path fault explain, inr (zone, fault, read, why, status, ap (λ (t : List ℕ). device_text t fault explain) p), said, Keeps-refl out);
  others = inl (omega arith);
  called = inr (zone, read, tried_in_vain g calls own zone.records fault why);
}

-- They were.
pub records_loaded : {D : Type 0} (g : Ghosts D) (calls : List (DeviceCall D)) (own : ZoneSettings) (files : List File) (explain : Bool) (out out_after err : Option (List ℕ)) (zone : Zone) (answer : Loaded) → IsLoadedFrom files own zone → IsLoadedAs g calls own zone.records answer → Appends out out_after (loaded_line own answer) → LoadingEnds g files own (run_end calls explain out out_after err err 0)
records_loaded g calls own files explain out out_after err zone answer read is said = record {
  done = λ _. (answer, record { zone = zone; read = read; loaded = is }, said, Keeps-refl err);
  refused = λ e. absurd (omega (arith, e));
  others = inl (omega arith);
  called = inr (zone, read, inl (Ok answer, is));
}
