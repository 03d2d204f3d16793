-- The difference of two versions of a zone, and how a run ends that prints it.
use Rattle.std.proofs.Common.{◌≡◌, ℕ, Bool, inl, inr, List, [], ◌++◌, drop, Option, Some, None, Result, Ok, Err, IfErr, refl, ap, subst, arith, append-nil}
use Rattle.std.specs.Prelude.{MatchResult, ◌+◌, ◌<◌, ◌∷◌, length, take, get_or, filter, cond, if◌then◌else◌}
use Rattle.std.proofs.Common.{◌∙◌, sym}
use Rattle.std.proofs.lemmas.List.{take_more}
use Rattle.std.proofs.lemmas.List.Concat.{flat_map-append}
use Rattle.std.proofs.lemmas.List.Elements.{filter-append}
use Rattle.dns_records.specs.Record.{Record}
use Rattle.dns_masterfile.specs.Printed.{printed_record}
use Rattle.dns_commands.specs.Frame.{run_end}
use Rattle.dns_commands.specs.Compare.{signed_lines}
use Rattle.std.specs.String.{string_bytes}
use Rattle.std.specs.Io.KnownBytes.{Appends}
use Rattle.std.proofs.KnownBytes.{Keeps-refl}
use Rattle.dns_zone.specs.Zone.{Zone}
use Rattle.dns_changes.specs.Change.{Change}
use Rattle.dns_sectors.specs.Device.{Content}
use Rattle.dns_sectors.specs.declared.device.Sectors.{Ghosts}
use Rattle.dns_layout.specs.declared.format.Format.TheVariants.{Two}
use Rattle.dns_store.specs.Checkpoint.{AllZones}
use Rattle.dns_store.specs.Opens.{base_of, fresh, opens}
use Rattle.dns_store.specs.Recovered.{AreLed}
use Rattle.dns_store.specs.Versions.{Opened, Versions, newest_after, opened_again, version_at}
use Rattle.dns_store.proofs.Lent.{zones_of}
use Rattle.dns_configuration.specs.declared.configuration.ZoneSettings.{ZoneSettings}
use Rattle.dns_configuration.specs.Faults.{line}
use Rattle.dns_devices.specs.declared.device_faults.DeviceFault.{DeviceFault}
use Rattle.dns_devices.specs.DeviceFaults.{device_text, status_of}
use Rattle.dns_devices.specs.DeviceCalls.{DeviceCall}
use Rattle.dns_devices.specs.Stores.{own_shape}
use Rattle.dns_commands.specs.Diff.{Answer, DiffingEnds, HasNoDiff, IsDiffTried, IsDiffed, IsDiffAnswer, IsDifferenceFrom, IsDifferenceIn, IsEnd, HasDiff, diff_text}
use Rattle.dns_commands.specs.DumpAt.{IsAnswerFor, IsChosenFrom, unfound_text}
use Rattle.dns_commands.proofs.DumpedAt.{answered}

-- ---- what was found
-- The same difference, if what is found for a serial is the same.
same_end : (A B : ℕ → Result (Option Zone) DeviceFault → Type 0) (newest zone : Zone) (to : Option ℕ) → ((serial : ℕ) (r : Result (Option Zone) DeviceFault) → A serial r → B serial r) → IsEnd A newest to zone → IsEnd B newest to zone
same_end A B newest zone None f is = is
same_end A B newest zone (Some serial) f is = f serial (Ok (Some zone)) is

same_difference : (A B : ℕ → Result (Option Zone) DeviceFault → Type 0) (newest : Zone) (from : ℕ) (to : Option ℕ) (r : Answer) → ((serial : ℕ) (r : Result (Option Zone) DeviceFault) → A serial r → B serial r) → IsDiffAnswer A newest from to r → IsDiffAnswer B newest from to r
same_difference A B newest from to (Ok (Ok change)) f is = record {
  before = is.before;
  after = is.after;
  begins = f from (Ok (Some is.before)) is.begins;
  ends = same_end A B newest is.after to f is.ends;
  change_is = is.change_is;
}
same_difference A B newest from to (Ok (Err serial)) f (inl is) = inl (is.0, f from (Ok None) is.1)
same_difference A B newest from to (Ok (Err serial)) f (inr is) = inr (is.0, f from (Ok (Some is.0)) is.1, is.2, f serial (Ok None) is.3)
same_difference A B newest from to (Err fault) f is = is

-- A store that keeps what opens as these versions lends the two versions.
pub difference_kept : (own : ZoneSettings) (from : ℕ) (to : Option ℕ) (o : Opened) (content : Content) (base newest : Zone) (changes : List Change) (r : Answer) → opens (own_shape own) o content
    → let k = fresh (own_shape own) (opened_again o) in base ≡ record { apex = k.shape.apex; records = version_at k k.base } → AreLed (version_at k k.base) (drop k.base (k.shown ++ k.staged)) changes
    → newest ≡ record { apex = own.origin; records = newest_after o.loaded o.versions }
    → ((vs : Versions) → AreLed base.records vs changes → AllZones base.apex vs → IsDifferenceFrom base changes newest vs from to r)
    → IsDifferenceIn own from to r o
difference_kept own from to o content base newest changes r opening base_is led newest_is found =
    let vs = drop o.base o.versions in
    let first : Zone = record { apex = own.origin; records = base_of o } in
    let last : Zone = record { apex = own.origin; records = newest_after o.loaded o.versions } in
    let led : AreLed (base_of o) vs changes = subst (λ (ws : Versions). AreLed (base_of o) (drop o.base ws) changes) (append-nil o.versions) led in
    let zones : AllZones own.origin vs = zones_of Two own.origin own.snapshot_sectors (base_of o) vs (opening.1.2.0).entries (opening.1.2.3).changes in
    let of : Zone → Zone → Type 0 = λ b n. AreLed b.records vs changes → AllZones b.apex vs → IsDifferenceFrom b changes n vs from to r in
    let at : of first last = subst (λ (b : Zone). of b last) base_is (subst (λ (n : Zone). of base n) newest_is (found vs)) in
    same_difference (λ serial s. IsChosenFrom first changes last vs serial s) (λ serial s. IsAnswerFor own serial s o) last from to r
    (λ serial s is. answered own serial o changes s (opening.1.2.3).so_far led is) (at led zones)

-- The device was looked into, with this answer or without one.
pub diffing_ends : {D : Type 0} (g : Ghosts D) (calls : List (DeviceCall D)) (own : ZoneSettings) (from : ℕ) (to : Option ℕ) (r : Answer) → IfErr r (λ e. status_of e ≡ 3) → IsDiffed g calls own from to r → MatchResult r (HasDiff g calls own from to) (HasNoDiff g calls own from to)
diffing_ends g calls own from to (Ok found) failed is = is
diffing_ends g calls own from to (Err fault) failed is = inr (failed, is)

-- ---- how a run ends
-- A writer failed or memory was refused.
pub diffing_failed : {D : Type 0} (g : Ghosts D) (calls : List (DeviceCall D)) (own : ZoneSettings) (from : ℕ) (to : Option ℕ) (as_update explain : Bool) (out out_after err err_after : Option (List ℕ)) → IsDiffTried g calls from to own → DiffingEnds g from to as_update own (run_end calls explain out out_after err err_after 3)
diffing_failed g calls own from to as_update explain out out_after err err_after called = record {
  done = λ e. absurd (omega (arith, e));
  refused = λ e. absurd (omega (arith, e));
  others = inr refl;
  called = called;
}

-- Without an answer the device was looked into all the same.
pub tried_in_vain : {D : Type 0} (g : Ghosts D) (calls : List (DeviceCall D)) (own : ZoneSettings) (from : ℕ) (to : Option ℕ) (fault : DeviceFault) → HasNoDiff g calls own from to fault → IsDiffTried g calls from to own
tried_in_vain g calls own from to fault (inl why) = inr (fault, why)
tried_in_vain g calls own from to fault (inr is) = inl (Err fault, is.1)

-- The device shows no version.
pub not_diffed : {D : Type 0} (g : Ghosts D) (calls : List (DeviceCall D)) (own : ZoneSettings) (from : ℕ) (to : Option ℕ) (as_update explain : Bool) (out err err_after : Option (List ℕ)) (path : List ℕ) (fault : DeviceFault) → path ≡ string_bytes own.device → HasNoDiff g calls own from to fault → status_of fault ≡ 1 → Appends err err_after (line (device_text path fault explain)) → DiffingEnds g from to as_update own (run_end calls explain out out err err_after 1)
not_diffed g calls own from to as_update explain out err err_after path fault p (inr is) status said = absurd (omega (arith, is.0, status))
not_diffed g calls own from to as_update explain out err err_after path fault p (inl why) status said = record {
  done = λ e. absurd (omega (arith, e));
  refused = λ _. (device_text path fault explain, inl (fault, why, status, ap (λ (t : List ℕ). device_text t fault explain) p), said, Keeps-refl out);
  others = inl (omega arith);
  called = inr (fault, why);
}

-- No version has the serial.
pub missing : {D : Type 0} (g : Ghosts D) (calls : List (DeviceCall D)) (own : ZoneSettings) (from : ℕ) (to : Option ℕ) (as_update explain : Bool) (out err err_after : Option (List ℕ)) (serial : ℕ) → HasDiff g calls own from to (Err serial) → Appends err err_after (line (unfound_text serial explain)) → DiffingEnds g from to as_update own (run_end calls explain out out err err_after 1)
missing g calls own from to as_update explain out err err_after serial is said = record {
  done = λ e. absurd (omega (arith, e));
  refused = λ _. (unfound_text serial explain, inr (serial, is, refl), said, Keeps-refl out);
  others = inl (omega arith);
  called = inl (Ok (Err serial), is);
}

-- The change was printed.
pub diffed : {D : Type 0} (g : Ghosts D) (calls : List (DeviceCall D)) (own : ZoneSettings) (from : ℕ) (to : Option ℕ) (as_update explain : Bool) (out out_after err : Option (List ℕ)) (change : Option Change) → HasDiff g calls own from to (Ok change) → Appends out out_after (diff_text as_update own change) → DiffingEnds g from to as_update own (run_end calls explain out out_after err err 0)
diffed g calls own from to as_update explain out out_after err change is said = record {
  done = λ _. (change, is, said, Keeps-refl err);
  refused = λ e. absurd (omega (arith, e));
  others = inl (omega arith);
  called = inl (Ok (Ok change), is);
}

-- ---- what is printed
-- One more record, which is printed if it passes a test.
pub lines_on : (test : Record → Bool) (sign : List ℕ) (xs : List Record) (i : ℕ) (x : Record) (b : Bool) → i < length xs → x ≡ get_or xs i x → b ≡ test x → signed_lines sign (filter test (take (i + 1) xs)) ≡ signed_lines sign (filter test (take i xs)) ++ signed_lines sign (if b then x ∷ [] else [])
lines_on test sign xs i x b lt is tested =
    let more : take (i + 1) xs ≡ take i xs ++ x ∷ [] = take_more xs i x lt ∙ ap (λ (r : Record). take i xs ++ r ∷ []) (sym is) in
    let last : filter test (x ∷ []) ≡ (if b then x ∷ [] else []) = ap (λ (d : Bool). cond d (x ∷ []) []) (sym tested) in
    ap (λ (rs : List Record). signed_lines sign (filter test rs)) more
    ∙ ap (λ (rs : List Record). signed_lines sign rs) (filter-append test (take i xs) (x ∷ []) ∙ ap (λ (rs : List Record). filter test (take i xs) ++ rs) last)
    ∙ flat_map-append (λ (r : Record). sign ++ 32 ∷ printed_record r) (filter test (take i xs)) (if b then x ∷ [] else [])
