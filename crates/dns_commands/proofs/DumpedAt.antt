-- The version of a zone with a serial, and how a run ends that prints it.
use Rattle.std.proofs.Common.{◌≡◌, ◌+◌, ◌-◌, ◌≤◌, ◌<◌, ℕ, Bool, true, false, not, inl, inr, List, [], ◌∷◌, ◌++◌, length, take, drop, Option, Some, None, Result, Ok, Err, IfOk, IfErr, refl, sym, ap, subst, ◌∙◌, arith, append-nil}
use Rattle.std.specs.Prelude.{◌==◌, ◌&&◌, MatchResult, if◌then◌else◌}
use Rattle.std.specs.String.{string_bytes}
use Rattle.std.specs.Io.KnownBytes.{Appends}
use Rattle.std.proofs.KnownBytes.{Keeps-refl}
use Rattle.std.proofs.Math.Seq.{take-length}
use Rattle.std.proofs.lemmas.Bool.Decides.{nat_tests}
use Rattle.std.proofs.lemmas.List.{length-drop}
use Rattle.dns_records.specs.Record.{Record, serial_of}
use Rattle.dns_zone.specs.Zone.{Zone, soas}
use Rattle.dns_changes.specs.Change.{Change}
use Rattle.dns_changes.specs.Version.{serial_in}
use Rattle.dns_masterfile.specs.Printed.{printed_zone}
use Rattle.dns_sectors.specs.Device.{Content}
use Rattle.dns_sectors.specs.declared.device.Sectors.{Ghosts}
use Rattle.dns_layout.specs.declared.format.Format.TheVariants.{Two}
use Rattle.dns_store.specs.Checkpoint.{AllZones}
use Rattle.dns_store.specs.Opens.{base_of, fresh, opens}
use Rattle.dns_store.specs.Recovered.{AreLed}
use Rattle.dns_store.specs.Versions.{Opened, Versions, newest_after, opened_again, version_at}
use Rattle.dns_store.proofs.Lent.{zones_of}
use Rattle.dns_serial.specs.Serial.{greater}
use Rattle.dns_transfer.specs.Form.{Current, Full, Incremental, form_of, form_since, is_journalled, since}
use Rattle.dns_primary.proofs.Transferred.{along_is}
use Rattle.dns_configuration.specs.declared.configuration.ZoneSettings.{ZoneSettings}
use Rattle.dns_configuration.specs.Faults.{line}
use Rattle.dns_devices.specs.declared.device_faults.DeviceFault.{DeviceFault}
use Rattle.dns_devices.specs.declared.device_faults.DeviceFault.TheVariants.{OutOfMemory}
use Rattle.dns_devices.specs.DeviceFaults.{device_text, status_of}
use Rattle.dns_devices.specs.DeviceCalls.{DeviceCall}
use Rattle.dns_devices.specs.Stores.{own_shape}
use Rattle.dns_commands.specs.Frame.{run_end}
use Rattle.dns_commands.specs.DumpAt.{HasNoAnswer, HasNoVersion, IsAnswerFor, HasAnswer, IsChosenFrom, IsIncremental, IsPickTried, IsPicked, PickingEnds, unfound_text}
use Rattle.dns_commands.specs.History.{version_in}
use Rattle.dns_commands.proofs.Historied.{between, led_after, led_length, left_after}

-- ---- an IXFR that is incremental
-- The first of the changes is one of the version with the serial.
pub record BeginsAt (serial : ℕ) (left : List Change) : Type 0 where
  pub first : Change
  pub rest : List Change
  pub left_is : left ≡ first ∷ rest
  pub serial_is : serial_of first.old_soa ≡ serial

since_begins : (serial : ℕ) (changes left : List Change) → since serial changes ≡ Some left → BeginsAt serial left
since_begins serial [] left e = absurd cc
since_begins serial (c ∷ cs) left e = at (is_journalled (c ∷ cs)) (serial_of c.old_soa == serial) refl e (since_begins serial cs left)
  where
    at : (b d : Bool) → (serial_of c.old_soa == serial) ≡ d → (if b && d then Some (c ∷ cs) else since serial cs) ≡ Some left → (since serial cs ≡ Some left → BeginsAt serial left) → BeginsAt serial left
    at true true is e more = record { first = c; rest = cs; left_is = cc; serial_is = grind (arith, nat_tests, is) }
    at true false is e more = more e
    at false d is e more = more e

form_begins : (serial : ℕ) (a b : Bool) (o : Option (List Change)) (left : List Change) → (if a then Current else if not b then Full else form_since o) ≡ Incremental left → o ≡ Some left
form_begins serial true b o left e = absurd cc
form_begins serial false false o left e = absurd cc
form_begins serial false true None left e = absurd cc
form_begins serial false true (Some xs) left e = cc

pub incremental_begins : (current serial : ℕ) (changes left : List Change) → form_of current changes (Some serial) ≡ Incremental left → BeginsAt serial left
incremental_begins current serial changes left e = since_begins serial changes left (form_begins serial _ (greater current serial) (since serial changes) left e)

pub inside : (n : ℕ) (changes : List Change) (serial : ℕ) → BeginsAt serial (drop n changes) → n < length changes
inside n changes serial h =
    let some : length (drop n changes) ≡ length (h.first ∷ h.rest) = ap length h.left_is in
    omega (arith, length-drop n changes, some)

led_first : (v : List Record) (ws : Versions) (c : Change) (rest : List Change) → AreLed v ws (c ∷ rest) → soas v ≡ c.old_soa ∷ []
led_first v [] c rest led = absurd led
led_first v (w ∷ ws) c rest led = (led.0).old_soa

pub led_serial : (v : List Record) (ws : Versions) (serial : ℕ) (left : List Change) → BeginsAt serial left → AreLed v ws left → serial_in (soas v) ≡ serial
led_serial v ws serial left h led =
    let led : AreLed v ws (h.first ∷ h.rest) = subst (λ (cs : List Change). AreLed v ws cs) h.left_is led in
    ap serial_in (led_first v ws h.first h.rest led) ∙ h.serial_is

-- ---- what was chosen
pub chosen_made : (base newest : Zone) (changes : List Change) (vs : Versions) (serial n : ℕ) (r : Result (Option Zone) DeviceFault) → n < length changes → IsIncremental newest.records changes serial (drop n changes)
    → MatchResult r (λ z. z ≡ Some (record { apex = base.apex; records = newest_after base.records (take n vs) })) (λ e. e ≡ OutOfMemory) → IsChosenFrom base changes newest vs serial r
chosen_made base newest changes vs serial n (Ok (Some z)) lt is made = inr (n, lt, is, cc)
chosen_made base newest changes vs serial n (Ok None) lt is made = absurd cc
chosen_made base newest changes vs serial n (Err e) lt is made = made

-- The newest version has another serial, and the form is that of these changes.
pub incremental : (newest : List Record) (soa : Record) (changes left : List Change) (current serial : ℕ) → soas newest ≡ soa ∷ [] → current ≡ serial_of soa → (current ≡ serial → ⊥) → Incremental left ≡ form_of current changes (Some serial) → IsIncremental newest changes serial left
incremental newest soa changes left current serial one is other form =
    let same : current ≡ serial_in (soas newest) = is ∙ sym (ap serial_in one) in
    record {
      other = λ e. other (same ∙ e);
      form = ap (λ (n : ℕ). form_of n changes (Some serial)) (sym same) ∙ sym form;
    }

-- Of what opens as these versions the changes are those after the base.
pub answered : (own : ZoneSettings) (serial : ℕ) (o : Opened) (changes : List Change) (r : Result (Option Zone) DeviceFault) → o.base ≤ length o.versions → AreLed (base_of o) (drop o.base o.versions) changes
    → IsChosenFrom (record { apex = own.origin; records = base_of o }) changes (record { apex = own.origin; records = newest_after o.loaded o.versions }) (drop o.base o.versions) serial r
    → IsAnswerFor own serial r o
answered own serial o changes (Err fault) so_far led is = is
answered own serial o changes (Ok None) so_far led is =
    subst (λ (cs : List Change). HasNoVersion (newest_after o.loaded o.versions) cs serial) (along_is (base_of o) (drop o.base o.versions) changes led) is
answered own serial o changes (Ok (Some zone)) so_far led (inl is) =
    let whole : newest_after o.loaded o.versions ≡ newest_after o.loaded (take (length o.versions) o.versions) = ap (newest_after o.loaded) (sym (take-length o.versions)) in (
      length o.versions,
      record {
        since_base = so_far;
        so_far = omega arith;
        zone_is = is.0 ∙ ap (λ (rs : List Record). record { apex = own.origin; records = rs }) whole;
        serial_is = ap (λ (z : Zone). serial_in (soas z.records)) is.0 ∙ is.1;
        sent = inl refl;
      },
    )
answered own serial o changes (Ok (Some zone)) so_far led (inr is) =
    let m = is.0 in
    let newest = serial_in (soas (newest_after o.loaded o.versions)) in
    let sent = along_is (base_of o) (drop o.base o.versions) changes led in
    let begins : BeginsAt serial (drop m changes) = incremental_begins newest serial changes (drop m changes) (is.2).form in
    let len : length changes ≡ length o.versions - o.base = led_length (base_of o) (drop o.base o.versions) changes led ∙ length-drop o.base o.versions in
    let at : zone ≡ record { apex = own.origin; records = version_in o (o.base + m) } = is.3 ∙ ap (λ (rs : List Record). record { apex = own.origin; records = rs }) (between o m) in
    let serial_is : serial_in (soas (version_in o (o.base + m))) ≡ serial = led_serial (version_in o (o.base + m)) (drop (o.base + m) o.versions) serial (drop m changes) begins (led_after o changes m led) in (
      o.base + m,
      record {
        since_base = omega arith;
        so_far = omega (arith, is.1, len, so_far);
        zone_is = at;
        serial_is = ap (λ (z : Zone). serial_in (soas z.records)) at ∙ serial_is;
        sent = inr (record {
          other = (is.2).other;
          form = ap (λ (cs : List Change). form_of newest cs (Some serial)) (sym sent) ∙ (is.2).form ∙ ap (λ (cs : List Change). Incremental cs) (left_after o changes m led);
        });
      },
    )

-- A store that keeps what opens as these versions lends the version with a serial.
pub answer_kept : (own : ZoneSettings) (serial : ℕ) (o : Opened) (content : Content) (base newest : Zone) (changes : List Change) (r : Result (Option Zone) DeviceFault) → opens (own_shape own) o content
    → let k = fresh (own_shape own) (opened_again o) in base ≡ record { apex = k.shape.apex; records = version_at k k.base } → AreLed (version_at k k.base) (drop k.base (k.shown ++ k.staged)) changes
    → newest ≡ record { apex = own.origin; records = newest_after o.loaded o.versions }
    → ((vs : Versions) → AreLed base.records vs changes → AllZones base.apex vs → IsChosenFrom base changes newest vs serial r)
    → IsAnswerFor own serial r o
answer_kept own serial o content base newest changes r opening base_is led newest_is chosen =
    let vs = drop o.base o.versions in
    let led : AreLed (base_of o) vs changes = subst (λ (ws : Versions). AreLed (base_of o) (drop o.base ws) changes) (append-nil o.versions) led in
    let zones : AllZones own.origin vs = zones_of Two own.origin own.snapshot_sectors (base_of o) vs (opening.1.2.0).entries (opening.1.2.3).changes in
    let of : Zone → Zone → Type 0 = λ b n. AreLed b.records vs changes → AllZones b.apex vs → IsChosenFrom b changes n vs serial r in
    let at : of (record { apex = own.origin; records = base_of o }) (record { apex = own.origin; records = newest_after o.loaded o.versions }) =
    subst (λ (b : Zone). of b (record { apex = own.origin; records = newest_after o.loaded o.versions })) base_is (subst (λ (n : Zone). of base n) newest_is (chosen vs)) in
    answered own serial o changes r (opening.1.2.3).so_far led (at led zones)

-- The device was looked into, with this answer or without one.
pub picking_ends : {D : Type 0} (g : Ghosts D) (calls : List (DeviceCall D)) (own : ZoneSettings) (serial : ℕ) (r : Result (Option Zone) DeviceFault) → IfErr r (λ e. status_of e ≡ 3) → IsPicked g calls own serial r → MatchResult r (HasAnswer g calls own serial) (HasNoAnswer g calls own serial)
picking_ends g calls own serial (Ok found) failed is = is
picking_ends g calls own serial (Err fault) failed is = inr (failed, is)

-- ---- how a run ends
-- A writer failed or memory was refused.
pub picking_failed : {D : Type 0} (g : Ghosts D) (calls : List (DeviceCall D)) (own : ZoneSettings) (serial : ℕ) (explain : Bool) (out out_after err err_after : Option (List ℕ)) → IsPickTried g calls serial own → PickingEnds g serial own (run_end calls explain out out_after err err_after 3)
picking_failed g calls own serial explain out out_after err err_after called = record {
  done = λ e. absurd (omega (arith, e));
  refused = λ e. absurd (omega (arith, e));
  others = inr refl;
  called = called;
}

-- Without an answer the device was looked into all the same.
pub tried_in_vain : {D : Type 0} (g : Ghosts D) (calls : List (DeviceCall D)) (own : ZoneSettings) (serial : ℕ) (fault : DeviceFault) → HasNoAnswer g calls own serial fault → IsPickTried g calls serial own
tried_in_vain g calls own serial fault (inl why) = inr (fault, why)
tried_in_vain g calls own serial fault (inr is) = inl (Err fault, is.1)

-- The device shows no version.
pub not_picked : {D : Type 0} (g : Ghosts D) (calls : List (DeviceCall D)) (own : ZoneSettings) (serial : ℕ) (explain : Bool) (out err err_after : Option (List ℕ)) (path : List ℕ) (fault : DeviceFault) → path ≡ string_bytes own.device → HasNoAnswer g calls own serial fault → status_of fault ≡ 1 → Appends err err_after (line (device_text path fault explain)) → PickingEnds g serial own (run_end calls explain out out err err_after 1)
not_picked g calls own serial explain out err err_after path fault p (inr is) status said = absurd (omega (arith, is.0, status))
not_picked g calls own serial explain out err err_after path fault p (inl why) status said = record {
  done = λ e. absurd (omega (arith, e));
  refused = λ _. (device_text path fault explain, inl (fault, why, status, ap (λ (t : List ℕ). device_text t fault explain) p), said, Keeps-refl out);
  others = inl (omega arith);
  called = inr (fault, why);
}

-- No version has the serial.
pub unfound : {D : Type 0} (g : Ghosts D) (calls : List (DeviceCall D)) (own : ZoneSettings) (serial : ℕ) (explain : Bool) (out err err_after : Option (List ℕ)) → HasAnswer g calls own serial None → Appends err err_after (line (unfound_text serial explain)) → PickingEnds g serial own (run_end calls explain out out err err_after 1)
unfound g calls own serial explain out err err_after is said = record {
  done = λ e. absurd (omega (arith, e));
  refused = λ _. (unfound_text serial explain, inr (is, refl), said, Keeps-refl out);
  others = inl (omega arith);
  called = inl (Ok None, is);
}

pub unfound_told : {E : Type 0} (P : ℕ → Type 0) (r : Result ℕ E) (A : Type 0) → IfOk r (λ status. (status ≡ 1) × A) → (A → P 1) → IfOk r P
unfound_told P (Ok status) A told refused = subst P (sym told.0) (refused told.1)
unfound_told P (Err e) A told refused = tt

-- The version was printed.
pub picked : {D : Type 0} (g : Ghosts D) (calls : List (DeviceCall D)) (own : ZoneSettings) (serial : ℕ) (explain : Bool) (out out_after err : Option (List ℕ)) (zone : Zone) → HasAnswer g calls own serial (Some zone) → Appends out out_after (printed_zone zone.records) → PickingEnds g serial own (run_end calls explain out out_after err err 0)
picked g calls own serial explain out out_after err zone is said = record {
  done = λ _. (zone, is, said, Keeps-refl err);
  refused = λ e. absurd (omega (arith, e));
  others = inl (omega arith);
  called = inl (Ok (Some zone), is);
}
