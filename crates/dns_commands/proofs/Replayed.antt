-- How a run of a script over the zones of a configuration ends.
use Rattle.std.proofs.Common.{◌≡◌, ℕ, suc, Bool, true, false, inl, inr, List, [], ◌∷◌, length, map, Option, Result, Ok, Err, IfOk, refl, sym, ap, subst, ◌∙◌, arith}
use Rattle.std.specs.Prelude.{◌⊎◌, ◌↔◌, IsTrue}
use Rattle.std.specs.Bool.{MatchBool}
use Rattle.std.specs.List.{AllZip}
use Rattle.std.specs.Option.{option_copied}
use Rattle.std.specs.Io.KnownBytes.{Appends}
use Rattle.std.proofs.KnownBytes.{Keeps-refl}
use Rattle.std.specs.declared.net.ip_addr.IpAddr.{IpAddr}
use Rattle.dns_names.specs.Name.{Labels}
use Rattle.dns_policy.specs.Prefix.{IsAllowed}
use Rattle.dns_zone.specs.Zone.{Zone}
use Rattle.dns_versions.specs.Each.{Each3}
use Rattle.dns_primary.specs.declared.primary.ZoneSpec as primary
use Rattle.dns_primary.specs.Machine.{Machine, ZoneState}
use Rattle.dns_primary.specs.Fresh as fresh
use Rattle.dns_configuration.specs.declared.configuration.Configuration.{Configuration}
use Rattle.dns_configuration.specs.declared.configuration.ZoneSettings.{ZoneSettings}
use Rattle.dns_configuration.specs.declared.files.File.{File}
use Rattle.dns_configuration.specs.declared.files.Fault.{Fault}
use Rattle.dns_configuration.specs.declared.files.Fault.TheVariants.{Syntax}
use Rattle.dns_configuration.specs.Faults.{is_memory, line, fault_text}
use Rattle.dns_configuration.specs.Files.{HoldsConfiguration, IsFirstFault, IsLoadedFrom}
use Rattle.dns_configuration.specs.Known.{IsSettingOf, origins_of}
use Rattle.dns_sectors.specs.Device.{Content}
use Rattle.dns_sectors.specs.declared.device.Sectors.{Ghosts}
use Rattle.dns_sectors.specs.declared.memory.Keep as told
use Rattle.dns_primary.proofs.Begun.{fresh_machine}
use Rattle.dns_replay.specs.Crashes.{IsCrash}
use Rattle.dns_replay.specs.Scripts.{Crash}
use Rattle.dns_replay.specs.declared.run.Ending.TheVariants as ending
use Rattle.dns_commands.specs.CheckConfiguration.{HasSectors}
use Rattle.dns_commands.specs.Replay.{Begins, IsFreshZone, Ran, ReplayEnds, ScriptEnds}

-- A script with a line that is no command.
pub syntax_over : {E : Type 0} (origins : List Labels) (crash : Crash) (settings : List ZoneSettings) (zones : List Zone) (known : List primary.ZoneSpec) (script : File) (number : ℕ) (out out_after err err_after : Option (List ℕ)) (r : Result ℕ E) → AllZip HasSectors settings zones
    → ((m : Machine) → fresh.IsFresh zones known m → Ran origins crash m (ending.Syntax number) (option_copied script.octets) out out_after)
    → IfOk r (λ status. MatchBool (is_memory (Syntax number)) (status ≡ 3) ((status ≡ 1) × Appends err err_after (line (fault_text script.path.now (Syntax number)))))
    → IfOk r (λ status. (m : Machine) → fresh.IsFresh zones known m → ScriptEnds origins crash settings zones m script out out_after err err_after status)
syntax_over origins crash settings zones known script number out out_after err err_after (Err e) fit ran h = tt
syntax_over origins crash settings zones known script number out out_after err err_after (Ok status) fit ran h = λ m f. record {
  done = λ e. absurd (omega (arith, e, h.0));
  refused = λ _. inr (inr (fit, inl (number, ran m f, h.1)));
  others = inl (omega (arith, h.0));
}

-- The names of zones that were loaded.
pub loaded_names : (files : List File) (settings : List ZoneSettings) (zones : List Zone) → AllZip (IsLoadedFrom files) settings zones → map (λ (z : Zone). z.apex) zones ≡ origins_of settings
loaded_names files [] [] h = refl
loaded_names files (s ∷ settings) (z ∷ zones) h = (let rest = loaded_names files settings zones h.1 in λ i. h.0.apex i ∷ rest i)
loaded_names files [] (z ∷ zones) h = absurd h
loaded_names files (s ∷ settings) [] h = absurd h

-- The zones that were loaded are those of a machine to which nothing has happened.
pub fresh_zones : (files : List File) (settings : List ZoneSettings) (known : List primary.ZoneSpec) (zones : List Zone) (states : List ZoneState) → AllZip (IsLoadedFrom files) settings zones → AllZip IsSettingOf settings known → Each3 IsFreshZone settings zones states → Each3 fresh.IsLoaded zones known states
fresh_zones files [] [] [] [] h k e = tt
fresh_zones files (s ∷ ss) (p ∷ ps) (z ∷ zs) (m ∷ ms) h k e = (
  record {
    shape = e.0.shape ∙ (λ i. record { apex = z.apex; snapshot = sym k.0.snapshot i; journal = sym k.0.journal i });
    set = record { keep = k.0.keep ∙ sym e.0.keep; update = λ a. subst (λ (ps : List (IpAddr × ℕ)). IsTrue (m.setting.may_update a) ↔ IsAllowed ps a) (sym k.0.update) (e.0.update a); transfer = λ a. subst (λ (ps : List (IpAddr × ℕ)). IsTrue (m.setting.may_transfer a) ↔ IsAllowed ps a) (sym k.0.transfer) (e.0.transfer a) };
    loaded = e.0.loaded;
    shown = e.0.shown;
    staged = e.0.staged;
    base = e.0.base;
    second = e.0.second;
    openings = e.0.openings;
    altered = e.0.altered;
    opened = e.0.opened;
  },
  fresh_zones files ss ps zs ms h.1 k.1 e.1,
)
fresh_zones files [] [] (z ∷ zs) states h k e = absurd h
fresh_zones files [] (p ∷ ps) zones states h k e = absurd k
fresh_zones files (s ∷ ss) [] zones states h k e = absurd k
fresh_zones files (s ∷ ss) (p ∷ ps) [] states h k e = absurd h
fresh_zones files [] [] [] (m ∷ ms) h k e = absurd e
fresh_zones files (s ∷ ss) (p ∷ ps) (z ∷ zs) [] h k e = absurd e

-- ... and the other way round.
begun_zones : (files : List File) (settings : List ZoneSettings) (known : List primary.ZoneSpec) (zones : List Zone) (states : List ZoneState) → AllZip (IsLoadedFrom files) settings zones → AllZip IsSettingOf settings known → Each3 fresh.IsLoaded zones known states → Each3 IsFreshZone settings zones states
begun_zones files [] [] [] [] h k e = tt
begun_zones files (s ∷ ss) (p ∷ ps) (z ∷ zs) (m ∷ ms) h k e = (
  record {
    shape = e.0.shape ∙ (λ i. record { apex = z.apex; snapshot = k.0.snapshot i; journal = k.0.journal i });
    keep = sym e.0.set.keep ∙ k.0.keep;
    update = λ a. subst (λ (ps : List (IpAddr × ℕ)). IsTrue (m.setting.may_update a) ↔ IsAllowed ps a) k.0.update (e.0.set.update a);
    transfer = λ a. subst (λ (ps : List (IpAddr × ℕ)). IsTrue (m.setting.may_transfer a) ↔ IsAllowed ps a) k.0.transfer (e.0.set.transfer a);
    loaded = e.0.loaded;
    shown = e.0.shown;
    staged = e.0.staged;
    base = e.0.base;
    second = e.0.second;
    openings = e.0.openings;
    altered = e.0.altered;
    opened = e.0.opened;
  },
  begun_zones files ss ps zs ms h.1 k.1 e.1,
)
begun_zones files [] [] (z ∷ zs) states h k e = absurd h
begun_zones files [] (p ∷ ps) zones states h k e = absurd k
begun_zones files (s ∷ ss) [] zones states h k e = absurd k
begun_zones files (s ∷ ss) (p ∷ ps) [] states h k e = absurd h
begun_zones files [] [] [] (m ∷ ms) h k e = absurd e
begun_zones files (s ∷ ss) (p ∷ ps) (z ∷ zs) [] h k e = absurd e

pub is_fresh : (files : List File) (settings : List ZoneSettings) (known : List primary.ZoneSpec) (zones : List Zone) (m : Machine) → AllZip (IsLoadedFrom files) settings zones → AllZip IsSettingOf settings known → Begins settings zones m → fresh.IsFresh zones known m
is_fresh files settings known zones m h k b = record { zones_are = fresh_zones files settings known zones m.zones h k b.zones_are; waiting = b.waiting; connections = b.connections }

pub as_many : {A B C : Type 0} (R : A → B → Type 0) (Q : A → C → Type 0) (xs : List A) (ys : List B) (zs : List C) → AllZip R xs ys → AllZip Q xs zs → length ys ≡ length zs
as_many R Q [] [] [] h k = refl
as_many R Q (x ∷ xs) (y ∷ ys) (z ∷ zs) h k = ap suc (as_many R Q xs ys zs h.1 k.1)
as_many R Q [] (y ∷ ys) zs h k = absurd h
as_many R Q [] [] (z ∷ zs) h k = absurd k
as_many R Q (x ∷ xs) [] zs h k = absurd h
as_many R Q (x ∷ xs) (y ∷ ys) [] h k = absurd k

-- There is one.
begun : (files : List File) (settings : List ZoneSettings) (known : List primary.ZoneSpec) (zones : List Zone) → AllZip (IsLoadedFrom files) settings zones → AllZip IsSettingOf settings known → (m : Machine) × Begins settings zones m
begun files settings known zones h k =
    let m = fresh_machine zones known (as_many (IsLoadedFrom files) IsSettingOf settings zones known h k) in
    (m.0, record { zones_are = begun_zones files settings known zones m.0.zones h k m.1.zones_are; waiting = m.1.waiting; connections = m.1.connections })

pub script_ran : {D E : Type 0} (g : Ghosts D) (kept : D → told.Keep → Content) (config : File) (files : List File) (script : File) (c : Configuration) (zones : List Zone) (known : List primary.ZoneSpec) (settings : List ZoneSettings) (out out_after err err_after : Option (List ℕ)) (r : Result ℕ E)
    → HoldsConfiguration (option_copied config.octets) (Ok c) → AllZip (IsLoadedFrom files) c.zones.items zones → AllZip IsSettingOf c.zones.items known → settings ≡ c.zones.items
    → IfOk r (λ status. (m : Machine) → fresh.IsFresh zones known m → ScriptEnds (map (λ (z : Zone). z.apex) zones) (IsCrash g kept (map (λ (z : Zone). z.apex) zones) known) settings zones m script out out_after err err_after status) → IfOk r (ReplayEnds g kept config files script out out_after err err_after)
script_ran g kept config files script c zones known own out out_after err err_after (Err e) holds loaded settings same h = tt
script_ran g kept config files script c zones known own out out_after err err_after (Ok status) holds loaded settings same h = inr (inl (record {
  configuration = c;
  zones = zones;
  described = holds;
  loaded = loaded;
  known = known;
  settings = settings;
  begins = begun files c.zones.items known zones loaded settings;
  ends = λ m b.
      subst (λ (ns : List Labels). ScriptEnds ns (IsCrash g kept ns known) c.zones.items zones m script out out_after err err_after status) (loaded_names files c.zones.items zones loaded) (
      subst (λ (ss : List ZoneSettings). ScriptEnds (map (λ (z : Zone). z.apex) zones) (IsCrash g kept (map (λ (z : Zone). z.apex) zones) known) ss zones m script out out_after err err_after status) same (h m (is_fresh files c.zones.items known zones m loaded settings b)));
}))

-- A master file that holds no zone is told.
pub file_told : {D E : Type 0} (g : Ghosts D) (kept : D → told.Keep → Content) (config : File) (files : List File) (script : File) (c : Configuration) (path : List ℕ) (fault : Fault) (out err err_after : Option (List ℕ)) (r : Result ℕ E) → HoldsConfiguration (option_copied config.octets) (Ok c) → ((is_memory fault ≡ true) ⊎ IsFirstFault files c.zones.items path fault) → IfOk r (λ status. MatchBool (is_memory fault) (status ≡ 3) ((status ≡ 1) × Appends err err_after (line (fault_text path fault)))) → IfOk r (ReplayEnds g kept config files script out out err err_after)
file_told g kept config files script c path fault out err err_after (Err e) holds why k = tt
file_told g kept config files script c path fault out err err_after (Ok status) holds why k = go (is_memory fault) refl why k
  where
    go : (b : Bool) → is_memory fault ≡ b → ((is_memory fault ≡ true) ⊎ IsFirstFault files c.zones.items path fault) → MatchBool b (status ≡ 3) ((status ≡ 1) × Appends err err_after (line (fault_text path fault))) → ReplayEnds g kept config files script out out err err_after status
    go true is h e = inr (inr e)
    go false is (inl memory) said = absurd cc
    go false is (inr first) said = inl (said.0, Keeps-refl out, (path, fault, inr (c, holds, first), said.1))
