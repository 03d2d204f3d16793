-- How a run ends that compares a zone's master file with its device.
use Rattle.std.proofs.Common.{◌≡◌, ℕ, Bool, true, false, inl, inr, List, [], ◌++◌, Option, Result, Ok, Err, OnOk, refl, sym, ap, ◌∙◌, arith}
use Rattle.std.specs.Prelude.{◌⊎◌, MatchResult}
use Rattle.std.specs.String.{string_bytes}
use Rattle.std.specs.Io.KnownBytes.{Appends}
use Rattle.std.proofs.KnownBytes.{Keeps-refl}
use Rattle.dns_records.specs.Record.{Record}
use Rattle.dns_zone.specs.Zone.{Zone}
use Rattle.dns_masterfile.proofs.PrintedZone.{appends_two}
use Rattle.dns_sectors.specs.declared.device.Sectors.{Ghosts}
use Rattle.dns_configuration.specs.declared.configuration.ZoneSettings.{ZoneSettings}
use Rattle.dns_configuration.specs.declared.files.File.{File}
use Rattle.dns_configuration.specs.declared.files.Fault.{Fault}
use Rattle.dns_configuration.specs.Faults.{fault_text, is_memory, line}
use Rattle.dns_configuration.specs.Files.{IsLoadedFrom, loaded_by}
use Rattle.dns_devices.specs.declared.device_faults.DeviceFault.{DeviceFault}
use Rattle.dns_changes.specs.Change.{Change}
use Rattle.dns_devices.specs.DeviceFaults.{device_text, status_of}
use Rattle.dns_devices.specs.DeviceCalls.{DeviceCall}
use Rattle.dns_commands.specs.Frame.{run_end}
use Rattle.dns_commands.specs.LoadRun.{path_blamed}
use Rattle.dns_commands.specs.Compare.{ComparingEnds, HasNoDifference, IsCompared, IsComparisonTried, IsDifference, IsFileTried, difference_text}

-- The records were compared, with a change or with a refusal.
pub comparing_ends : {D : Type 0} (g : Ghosts D) (calls : List (DeviceCall D)) (own : ZoneSettings) (records : List Record) (r : Result (Option Change) DeviceFault) → IsCompared g calls own records r → MatchResult r (IsDifference g calls own records) (HasNoDifference g calls own records)
comparing_ends g calls own records (Ok change) is = is
comparing_ends g calls own records (Err fault) is = inr is

-- A writer failed or memory was refused.
pub comparing_failed : {D : Type 0} (g : Ghosts D) (calls : List (DeviceCall D)) (own : ZoneSettings) (files : List File) (explain : Bool) (out out_after err err_after : Option (List ℕ)) → IsFileTried g calls files own → ComparingEnds g files own (run_end calls explain out out_after err err_after 3)
comparing_failed g calls own files explain out out_after err err_after called = record {
  done = λ e. absurd (omega (arith, e));
  refused = λ e. absurd (omega (arith, e));
  others = inr refl;
  called = called;
}

-- The file holds no zone.
pub file_not_compared : {D : Type 0} (g : Ghosts D) (own : ZoneSettings) (files : List File) (explain : Bool) (out err err_after : Option (List ℕ)) (path : List ℕ) (fault : Fault) → path ≡ string_bytes own.file → ((is_memory fault ≡ true) ⊎ (loaded_by files own ≡ Err fault)) → is_memory fault ≡ false → Appends err err_after (line (fault_text path fault)) → ComparingEnds g files own (run_end [] explain out out err err_after 1)
file_not_compared g own files explain out err err_after path fault p (inl memory) not_memory said = absurd (let both : true ≡ false = sym memory ∙ not_memory in cc)
file_not_compared g own files explain out err err_after path fault p (inr why) not_memory said = record {
  done = λ e. absurd (omega (arith, e));
  refused = λ _. (fault_text path fault, inl (fault, why, ap (λ (t : List ℕ). fault_text t fault) p), said, Keeps-refl out);
  others = inl (omega arith);
  called = inl refl;
}

-- They were compared, or there was nothing to compare them with.
pub tried_in_vain : {D : Type 0} (g : Ghosts D) (calls : List (DeviceCall D)) (own : ZoneSettings) (records : List Record) (fault : DeviceFault) → HasNoDifference g calls own records fault → IsComparisonTried g calls own records
tried_in_vain g calls own records fault (inl why) = inr (fault, why)
tried_in_vain g calls own records fault (inr is) = inl (Err fault, is)

-- The records were not compared.
pub records_not_compared : {D : Type 0} (g : Ghosts D) (calls : List (DeviceCall D)) (own : ZoneSettings) (files : List File) (explain : Bool) (out err err_after : Option (List ℕ)) (path : List ℕ) (zone : Zone) (fault : DeviceFault) → path ≡ path_blamed own fault → IsLoadedFrom files own zone → HasNoDifference g calls own zone.records fault → status_of fault ≡ 1 → Appends err err_after (line (device_text path fault explain)) → ComparingEnds g files own (run_end calls explain out out err err_after 1)
records_not_compared g calls own files explain out err err_after path zone fault p read why status said = record {
  done = λ e. absurd (omega (arith, e));
  refused = λ _. (device_text path fault explain, inr (zone, fault, read, why, status, ap (λ (t : List ℕ). device_text t fault explain) p), said, Keeps-refl out);
  others = inl (omega arith);
  called = inr (zone, read, tried_in_vain g calls own zone.records fault why);
}

-- They were.
pub records_compared : {D : Type 0} (g : Ghosts D) (calls : List (DeviceCall D)) (own : ZoneSettings) (files : List File) (explain : Bool) (out out_after err : Option (List ℕ)) (zone : Zone) (change : Option Change) → IsLoadedFrom files own zone → IsDifference g calls own zone.records change → Appends out out_after (difference_text own change) → ComparingEnds g files own (run_end calls explain out out_after err err 0)
records_compared g calls own files explain out out_after err zone change read is said = record {
  done = λ _. (change, record { zone = zone; read = read; differs = is }, said, Keeps-refl err);
  refused = λ e. absurd (omega (arith, e));
  others = inl (omega arith);
  called = inr (zone, read, inl (Ok change, is));
}

-- One text was written, and then another, if it was.
pub appends_on : {E : Type 0} (a b c : Option (List ℕ)) (x y : List ℕ) (r : Result (Unit {0}) E) → Appends a b x → OnOk r (Appends b c y) → OnOk r (Appends a c (x ++ y))
appends_on a b c x y (Ok u) h k = appends_two a b c x y h k
appends_on a b c x y (Err e) h k = tt
