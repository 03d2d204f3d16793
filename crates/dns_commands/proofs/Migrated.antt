-- How a run that migrates devices ends.
use Rattle.std.proofs.Common.{◌≡◌, ℕ, zero, suc, ◌<◌, Bool, inl, inr, List, [], ◌∷◌, ◌++◌, length, ◌≤◌, take, get_or, Option, Result, Ok, Err, refl, sym, ap, subst, ◌∙◌, arith, append-nil, append_assoc, take_all}
use Rattle.std.specs.Prelude.{◌⊎◌}
use Rattle.std.specs.Option.{option_copied}
use Rattle.std.specs.String.{string_bytes}
use Rattle.std.specs.Io.KnownBytes.{Appends}
use Rattle.std.proofs.KnownBytes.{Appends-nil, Keeps-refl}
use Rattle.dns_sectors.specs.declared.device.Sectors.{Ghosts}
use Rattle.dns_store.specs.declared.migrating.MigrateError.{MigrateError}
use Rattle.dns_store.specs.declared.migrating.MigrateError.TheVariants as told
use Rattle.dns_store.specs.declared.migrating.Migration.{Migration}
use Rattle.dns_store.specs.declared.migrating.Migration.TheVariants.{Already, Migrated}
use Rattle.dns_store.specs.Migrating.{IsMigratedStore}
use Rattle.dns_configuration.specs.declared.configuration.ZoneSettings.{ZoneSettings}
use Rattle.dns_configuration.specs.declared.configuration.Configuration.{Configuration}
use Rattle.dns_configuration.specs.declared.files.File.{File}
use Rattle.dns_configuration.specs.declared.files.Fault.{Fault}
use Rattle.dns_configuration.specs.Faults.{fault_text, line}
use Rattle.dns_configuration.specs.Files.{HoldsConfiguration}
use Rattle.dns_devices.specs.declared.device_faults.DeviceFault.{DeviceFault}
use Rattle.dns_devices.specs.DeviceFaults.{device_text, status_of}
use Rattle.dns_commands.specs.Frame.{run_end}
use Rattle.dns_commands.specs.Migrate.{AreMigrated, IsMigratedAs, IsMigrationTried, IsNotMigrated, MigrateEnds, MigratingEnds, MigratingStopsAt, migrated}
use Rattle.dns_devices.specs.DeviceCalls.{DeviceCall}

-- One that is answered as of format 2 already was only read.
pub only_read : {P : Type 0} (answer : Migration) (r : Result Migration MigrateError) → r ≡ Ok answer → (r ≡ Err told.Device) ⊎ IsMigratedStore r ⊎ P → answer ≡ Already → P
only_read answer r e (inl f) is = absurd (cc)
only_read answer r e (inr (inl s)) is = absurd (subst (λ (x : Result Migration MigrateError). IsMigratedStore x) (e ∙ ap Ok is) s)
only_read answer r e (inr (inr p)) is = p

-- What is answered otherwise was migrated.
pub migrated_store : (answer : Migration) → (answer ≡ Already → ⊥) → IsMigratedStore {E = MigrateError} (Ok answer)
migrated_store Already other = other refl
migrated_store (Migrated version serial) other = tt

-- What is answered of a root of format 2.
pub answered_old : (answer : Migration) (r : Result Migration MigrateError) → r ≡ Ok answer → (r ≡ Ok Already) ⊎ (r ≡ Err told.Device) → answer ≡ Already
answered_old answer r e (inl is) = cc
answered_old answer r e (inr is) = absurd (cc)

pub refused_old : (error : MigrateError) (r : Result Migration MigrateError) → r ≡ Err error → (r ≡ Ok Already) ⊎ (r ≡ Err told.Device) → error ≡ told.Device
refused_old error r e (inl is) = absurd (cc)
refused_old error r e (inr is) = cc

-- One that is refused was only read, unless it failed.
pub unless_failed : {P : Type 0} (error : MigrateError) (r : Result Migration MigrateError) → r ≡ Err error → (r ≡ Err told.Device) ⊎ IsMigratedStore r ⊎ P → (error ≡ told.Device) ⊎ P
unless_failed error r e (inl f) = inl (cc)
unless_failed error r e (inr (inl s)) = absurd (subst (λ (x : Result Migration MigrateError). IsMigratedStore x) e s)
unless_failed error r e (inr (inr p)) = inr p

-- One more device was migrated.
pub migrated_more : {D : Type 0} (g : Ghosts D) (calls next : List (DeviceCall D)) (all : List ZoneSettings) (n : ℕ) (z : ZoneSettings) (answer : Migration) (printed : List ℕ) → n < length all → AreMigrated g calls (take n all) printed → IsMigratedAs g next (get_or all n z) answer → AreMigrated g (calls ++ next) (take (suc n) all) (printed ++ migrated (get_or all n z) answer)
migrated_more g calls next [] n z answer printed inside h k = absurd (omega (arith, inside))
migrated_more {D = D} g calls next (x ∷ xs) zero z answer printed inside h k =
    (answer, [], ap (λ (t : List ℕ). t ++ migrated x answer) h.0 ∙ sym (append-nil (migrated x answer)), next, [], ap (λ (t : List (DeviceCall D)). t ++ next) h.1 ∙ sym (append-nil next), k, (refl, refl))
migrated_more {D = D} g calls next (x ∷ xs) (suc n) z answer printed inside h k =
    (h.0, h.1 ++ migrated (get_or xs n z) answer, ap (λ (t : List ℕ). t ++ migrated (get_or xs n z) answer) h.2 ∙ append_assoc (migrated x h.0) h.1 (migrated (get_or xs n z) answer), h.3, h.4 ++ next, ap (λ (t : List (DeviceCall D)). t ++ next) h.5 ∙ append_assoc h.3 h.4 next, h.6, migrated_more g h.4 next xs n z answer h.1 (omega (arith, inside)) h.7 k)

-- The devices of the first zones were migrated, and that of the next one was not.
pub stops_at : {D : Type 0} (g : Ghosts D) (calls next : List (DeviceCall D)) (all : List ZoneSettings) (n : ℕ) (z : ZoneSettings) (path : List ℕ) (fault : DeviceFault) (printed : List ℕ) → n < length all → AreMigrated g calls (take n all) printed → path ≡ string_bytes (get_or all n z).device → IsNotMigrated g next (get_or all n z) fault → MigratingStopsAt g (calls ++ next) all path fault printed
stops_at g calls next [] n z path fault printed inside h p k = absurd (omega (arith, inside))
stops_at {D = D} g calls next (x ∷ xs) zero z path fault printed inside h p k = inl (p, subst (λ (t : List (DeviceCall D)). IsNotMigrated g (t ++ next) x fault) (sym h.1) k, h.0)
stops_at {D = D} g calls next (x ∷ xs) (suc n) z path fault printed inside h p k =
    inr (h.0, h.1, h.2, h.3, h.4 ++ next, ap (λ (t : List (DeviceCall D)). t ++ next) h.5 ∙ append_assoc h.3 h.4 next, h.6, stops_at g h.4 next xs n z path fault h.1 (omega (arith, inside)) h.7 p k)

-- A writer failed or memory was refused.
pub migrating_failed : {D : Type 0} (g : Ghosts D) (calls : List (DeviceCall D)) (settings : List ZoneSettings) (explain : Bool) (out out_after err err_after : Option (List ℕ)) → IsMigrationTried g calls settings → MigratingEnds g settings (run_end calls explain out out_after err err_after 3)
migrating_failed g calls settings explain out out_after err err_after tried = record {
  done = λ e. absurd (omega (arith, e));
  refused = λ e. absurd (omega (arith, e));
  others = inr refl;
  called = tried;
}

pub migrate_failed : {D : Type 0} (g : Ghosts D) (config : File) (explain : Bool) (out out_after err err_after : Option (List ℕ)) → MigrateEnds g config (run_end [] explain out out_after err err_after 3)
migrate_failed g config explain out out_after err err_after = record {
  done = λ e. absurd (omega (arith, e));
  refused = λ e. absurd (omega (arith, e));
  others = inr refl;
  called = inl refl;
}

-- All devices were migrated.
pub migrating_done : {D : Type 0} (g : Ghosts D) (calls : List (DeviceCall D)) (settings : List ZoneSettings) (explain : Bool) (out out_after err : Option (List ℕ)) (n : ℕ) (printed : List ℕ) → length settings ≤ n → AreMigrated g calls (take n settings) printed → Appends out out_after printed → MigratingEnds g settings (run_end calls explain out out_after err err 0)
migrating_done g calls settings explain out out_after err n printed all h k = record {
  done = λ _. (printed, subst (λ (ss : List ZoneSettings). AreMigrated g calls ss printed) (take_all n settings all) h, k, Keeps-refl err);
  refused = λ e. absurd (omega (arith, e));
  others = inl (omega arith);
  called = inl (n, printed, h);
}

-- A device was not migrated.
pub migrating_refused : {D : Type 0} (g : Ghosts D) (calls : List (DeviceCall D)) (settings : List ZoneSettings) (explain : Bool) (out out_after err err_after : Option (List ℕ)) (path : List ℕ) (fault : DeviceFault) (printed : List ℕ) → MigratingStopsAt g calls settings path fault printed → Appends out out_after printed → status_of fault ≡ 1 → Appends err err_after (line (device_text path fault explain)) → MigratingEnds g settings (run_end calls explain out out_after err err_after 1)
migrating_refused g calls settings explain out out_after err err_after path fault printed stops shown status said = record {
  done = λ e. absurd (omega (arith, e));
  refused = λ _. (path, fault, printed, stops, status, shown, said);
  others = inl (omega arith);
  called = inr (path, fault, printed, stops);
}

-- The configuration is refused.
pub configuration_refused : {D : Type 0} (g : Ghosts D) (config : File) (fault : Fault) (explain : Bool) (out err err_after : Option (List ℕ)) → HoldsConfiguration (option_copied config.octets) (Err fault) → Appends err err_after (line (fault_text config.path.now fault)) → MigrateEnds g config (run_end [] explain out out err err_after 1)
configuration_refused g config fault explain out err err_after holds said = record {
  done = λ e. absurd (omega (arith, e));
  refused = λ _. ([], fault_text config.path.now fault, inl (fault, holds, refl, refl), Appends-nil out, said);
  others = inl (omega arith);
  called = inl refl;
}

-- All devices were migrated, or up to one that was not.
pub migrate_ran : {D : Type 0} (g : Ghosts D) (calls : List (DeviceCall D)) (config : File) (c : Configuration) (explain : Bool) (out out_after err err_after : Option (List ℕ)) (status : ℕ) → HoldsConfiguration (option_copied config.octets) (Ok c) → MigratingEnds g c.zones.items (run_end calls explain out out_after err err_after status) → MigrateEnds g config (run_end calls explain out out_after err err_after status)
migrate_ran g calls config c explain out out_after err err_after status holds h = record {
  done = λ e. (c, holds, h.done e);
  refused = λ e. let d = h.refused e in
      (d.2, device_text d.0 d.1 explain, inr (c, holds, d.0, d.1, refl, d.4, d.3), d.5, d.6);
  others = h.others;
  called = inr (c, holds, h.called);
}
