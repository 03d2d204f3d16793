-- How a run ends that prints the versions of a zone's device.
use Rattle.std.proofs.Common.{◌≡◌, ◌+◌, ◌-◌, ◌^◌, ◌≤◌, ◌<◌, ⊎_elim, ℕ, zero, suc, Bool, true, false, inl, inr, List, [], ◌∷◌, ◌++◌, length, take, drop, get_or, Option, Result, Ok, Err, refl, sym, ap, subst, ◌∙◌, arith, append-nil, append_assoc, drop-drop}
use Rattle.std.specs.Prelude.{◌⊎◌, ◌↔◌, if◌then◌else◌}
use Rattle.std.specs.Result.{IsErr, result_unwrap_or}
use Rattle.std.specs.String.{string_bytes}
use Rattle.std.specs.Io.KnownBytes.{Appends}
use Rattle.std.proofs.KnownBytes.{Keeps-refl}
use Rattle.std.proofs.Math.Seq.{take-add}
use Rattle.std.proofs.lemmas.Bool.{cases_lt}
use Rattle.std.proofs.lemmas.Bool.Decides.{nat_tests}
use Rattle.std.proofs.lemmas.List.{drop_more, length-drop, length-take-le, take-append-drop, take_all, take_more}
use Rattle.dns_serial.specs.Serial.{advance}
use Rattle.dns_records.specs.Record.{Record, serial_of}
use Rattle.dns_zone.specs.Zone.{Zone, soas}
use Rattle.dns_changes.specs.Change.{Change}
use Rattle.dns_changes.specs.Version.{serial_in}
use Rattle.dns_sectors.specs.Device.{Content, LeavesOnly}
use Rattle.dns_sectors.specs.declared.device.Sectors.{Ghosts}
use Rattle.dns_store.specs.Opening.{IsTaken, OpensAsPossible, store_device}
use Rattle.dns_store.specs.Opens.{base_of, fresh, opens}
use Rattle.dns_store.specs.Recovered.{AreLed}
use Rattle.dns_store.specs.Versions.{Opened, Shape, Versions, newest_after, opened_again, version_at}
use Rattle.dns_store.specs.declared.kept_store.KeptStore.{KeptStore}
use Rattle.dns_store.proofs.Leaves.{newest_append}
use Rattle.dns_store.proofs.Lent.{led_drop}
use Rattle.dns_transfer.specs.Form.{advances, is_journalled}
use Rattle.dns_primary.proofs.Transferred.{along_is}
use Rattle.dns_configuration.specs.declared.configuration.ZoneSettings.{ZoneSettings}
use Rattle.dns_configuration.specs.Faults.{line}
use Rattle.dns_devices.specs.declared.device_faults.DeviceFault.{DeviceFault}
use Rattle.dns_devices.specs.DeviceFaults.{device_text, status_of}
use Rattle.dns_devices.specs.DeviceCalls as call
use Rattle.dns_devices.specs.DeviceCalls.{DeviceCall}
use Rattle.dns_devices.specs.Stores.{IsNotShown, IsStoreOpened, own_shape}
use Rattle.dns_devices.proofs.Closed.{leaves_kept}
use Rattle.dns_commands.specs.Frame.{run_end}
use Rattle.dns_commands.specs.Compare.{change_lines}
use Rattle.dns_commands.specs.History.{History, IsHistoryOf, IsListTried, ShowsHistory, IsSeenAs, ListingEnds, changes_after, history_of, history_text, step_line, step_text, steps_text, version_in}

-- The records of a change are printed after its line, or they are not.
pub step_with : (with_records : Bool) (number : ℕ) (change : Change) → with_records ≡ true → step_line number change ++ change_lines change ≡ step_text with_records number change
step_with with_records number change e = ap (λ (b : Bool). step_line number change ++ (if b then change_lines change else [])) (sym e)

pub step_alone : (with_records : Bool) (number : ℕ) (change : Change) → with_records ≡ false → step_line number change ≡ step_text with_records number change
step_alone with_records number change e = sym (append-nil (step_line number change)) ∙ ap (λ (b : Bool). step_line number change ++ (if b then change_lines change else [])) (sym e)

-- One more version.
steps_on : (with_records : Bool) (base : ℕ) (changes : List Change) (change : Change) → steps_text with_records base (changes ++ change ∷ []) ≡ steps_text with_records base changes ++ step_text with_records (base + length changes + 1) change
steps_on with_records base [] change =
    let number : base + 1 ≡ base + 0 + 1 = omega arith in
    append-nil (step_text with_records (base + 1) change) ∙ ap (λ (n : ℕ). step_text with_records n change) number
steps_on with_records base (c ∷ rest) change =
    let first = step_text with_records (base + 1) c in
    let number : base + 1 + length rest + 1 ≡ base + length (c ∷ rest) + 1 = omega arith in
    ap (λ (t : List ℕ). first ++ t) (steps_on with_records (base + 1) rest change)
    ∙ sym (append_assoc first (steps_text with_records (base + 1) rest) (step_text with_records (base + 1 + length rest + 1) change))
    ∙ ap (λ (n : ℕ). (first ++ steps_text with_records (base + 1) rest) ++ step_text with_records n change) number

pub steps_more : (with_records : Bool) (base : ℕ) (changes : List Change) (i version : ℕ) (change : Change) → i < length changes → change ≡ get_or changes i change → version ≡ base + i → steps_text with_records base (take (i + 1) changes) ≡ steps_text with_records base (take i changes) ++ step_text with_records (version + 1) change
steps_more with_records base changes i version change lt is number =
    let more : take (i + 1) changes ≡ take i changes ++ change ∷ [] = take_more changes i change lt ∙ ap (λ (c : Change). take i changes ++ c ∷ []) (sym is) in
    let len : length (take i changes) ≡ i = length-take-le i changes (omega (arith, lt)) in
    let at : base + length (take i changes) + 1 ≡ version + 1 = omega (arith, len, number) in
    ap (λ (cs : List Change). steps_text with_records base cs) more ∙ steps_on with_records base (take i changes) change
    ∙ ap (λ (n : ℕ). steps_text with_records base (take i changes) ++ step_text with_records n change) at

-- There is a change to each version.
pub led_length : (before : List Record) (vs : Versions) (cs : List Change) → AreLed before vs cs → length cs ≡ length vs
led_length before [] [] led = refl
led_length before [] (c ∷ cs) led = absurd led
led_length before (v ∷ vs) [] led = absurd led
led_length before (v ∷ vs) (c ∷ cs) led = let rest = led_length v vs cs led.1 in omega (arith, rest)

-- The first version, if no change leads on from it, and if one does.
pub led_none : (first : List Record) (vs : Versions) (cs : List Change) → AreLed first vs cs → length cs ≡ 0 → newest_after first vs ≡ first
led_none first [] [] led e = refl
led_none first [] (c ∷ cs) led e = absurd led
led_none first (v ∷ vs) [] led e = absurd led
led_none first (v ∷ vs) (c ∷ cs) led e = absurd (omega (arith, e))

pub led_begins : (first : List Record) (vs : Versions) (cs : List Change) (c : Change) → AreLed first vs cs → 0 < length cs → c ≡ get_or cs 0 c → soas first ≡ c.old_soa ∷ []
led_begins first [] [] c led some is = absurd (omega (arith, some))
led_begins first [] (d ∷ cs) c led some is = absurd led
led_begins first (v ∷ vs) [] c led some is = absurd led
led_begins first (v ∷ vs) (d ∷ cs) c led some is = (led.0).old_soa ∙ ap (λ (e : Change). e.old_soa ∷ []) (sym is)

pub rest_of : {X : Type 0} (n : ℕ) (xs : List X) → take (length xs - n) (drop n xs) ≡ drop n xs
rest_of n xs = take_all (length xs - n) (drop n xs) (omega (arith, length-drop n xs))

-- ---- the versions from one on
-- A version between the base and the newest one.
pub between : (o : Opened) (m : ℕ) → newest_after (base_of o) (take m (drop o.base o.versions)) ≡ version_in o (o.base + m)
between o m = sym (ap (newest_after o.loaded) (take-add o.base m o.versions) ∙ newest_append o.loaded (take o.base o.versions) (take m (drop o.base o.versions)))

pub led_after : (o : Opened) (changes : List Change) (m : ℕ) → AreLed (base_of o) (drop o.base o.versions) changes → AreLed (version_in o (o.base + m)) (drop (o.base + m) o.versions) (drop m changes)
led_after o changes m led =
    subst (λ (vs : Versions). AreLed (version_in o (o.base + m)) vs (drop m changes)) (drop-drop m o.base o.versions)
    (subst (λ (v : List Record). AreLed v (drop m (drop o.base o.versions)) (drop m changes)) (between o m) (led_drop m (base_of o) (drop o.base o.versions) changes led))

pub left_after : (o : Opened) (changes : List Change) (m : ℕ) → AreLed (base_of o) (drop o.base o.versions) changes → drop m changes ≡ changes_after o (o.base + m)
left_after o changes m led = along_is (version_in o (o.base + m)) (drop (o.base + m) o.versions) (drop m changes) (led_after o changes m led)

newest_from : (o : Opened) (n : ℕ) → newest_after o.loaded o.versions ≡ newest_after (version_in o n) (drop n o.versions)
newest_from o n = sym (ap (newest_after o.loaded) (take-append-drop n o.versions)) ∙ newest_append o.loaded (take n o.versions) (drop n o.versions)

-- A store that keeps what opens as these versions lends their changes, of which those from the first that is
-- journalled on are the history.
pub history_kept : (shape : Shape) (o : Opened) (content : Content) (number base serial first : ℕ) (newest : Zone) (kept changes : List Change) → opens shape o content
    → let k = fresh shape (opened_again o) in number ≡ length k.shown + length k.staged → AreLed (version_at k k.base) (drop k.base (k.shown ++ k.staged)) kept
    → newest ≡ record { apex = shape.apex; records = newest_after o.loaded o.versions }
    → first ≤ length kept → ((n : ℕ) → n ≤ length kept → first ≤ n ↔ is_journalled (drop n kept) ≡ true)
    → changes ≡ drop first kept → ((v : List Record) (vs : Versions) → AreLed v vs changes → newest.records ≡ newest_after v vs → serial ≡ serial_in (soas v))
    → base ≡ number - length changes → IsHistoryOf (history_of base serial changes) o
history_kept shape o content number base serial first newest kept changes opening number_is led newest_is first_in is_first changes_are serial_is base_is =
    let led : AreLed (base_of o) (drop o.base o.versions) kept = subst (λ (vs : Versions). AreLed (base_of o) (drop o.base vs) kept) (append-nil o.versions) led in
    let so_far = (opening.1.2.3).so_far in
    let len : length kept ≡ length o.versions - o.base = led_length (base_of o) (drop o.base o.versions) kept led ∙ length-drop o.base o.versions in
    let left : length changes ≡ length kept - first = ap length changes_are ∙ length-drop first kept in
    let at : base ≡ o.base + first = omega (arith, base_is, number_is, len, left, so_far, first_in) in
    let led_here : AreLed (version_in o base) (drop base o.versions) changes =
    subst (λ (n : ℕ). AreLed (version_in o n) (drop n o.versions) changes) (sym at) (subst (λ (cs : List Change). AreLed (version_in o (o.base + first)) (drop (o.base + first) o.versions) cs) (sym changes_are) (led_after o kept first led)) in
    record {
      journalled = λ n since far.
          (let m = n - o.base in
          let number_of : o.base + m ≡ n = omega (arith, since) in
          let in_kept : m ≤ length kept = omega (arith, len, far) in
          let same : is_journalled (drop m kept) ≡ is_journalled (changes_after o n) = ap is_journalled (left_after o kept m led) ∙ ap (λ (i : ℕ). is_journalled (changes_after o i)) number_of in
          (λ below. sym same ∙ (is_first m in_kept).0 (omega (arith, at, below, number_of)), λ is. (let below : first ≤ m = (is_first m in_kept).1 (same ∙ is) in omega (arith, at, below, number_of))));
      since_base = omega (arith, at);
      so_far = omega (arith, at, first_in, len, so_far);
      serial_is = serial_is (version_in o base) (drop base o.versions) led_here (ap (λ (z : Zone). z.records) newest_is ∙ newest_from o base);
      led = led_here;
    }

-- ---- how far the serial goes
falls : (changes : List Change) (n : ℕ) → advances (drop n changes) ≤ advances changes
falls [] zero = omega arith
falls [] (suc n) = omega arith
falls (c ∷ rest) zero = omega arith
falls (c ∷ rest) (suc n) = omega (arith, falls rest n)

-- Over later changes alone the serial goes no further.
falls_on : (changes : List Change) (m n : ℕ) → m ≤ n → advances (drop n changes) ≤ advances (drop m changes)
falls_on changes m n le =
    let there : m + (n - m) ≡ n = omega (arith, le) in
    let less = falls (drop m changes) (n - m) in
    let same : advances (drop (n - m) (drop m changes)) ≡ advances (drop n changes) = ap advances (drop-drop (n - m) m changes) ∙ ap (λ (i : ℕ). advances (drop i changes)) there in
    omega (arith, less, same)

near_is : (changes : List Change) → advances changes < 2 ^ 31 → is_journalled changes ≡ true
near_is changes near = grind (arith, nat_tests, near)

is_near : (changes : List Change) → is_journalled changes ≡ true → advances changes < 2 ^ 31
is_near changes e = grind (arith, nat_tests, e)

-- The first from which on it goes less than 2^31.
pub first_here : (changes : List Change) (number : ℕ) → advances (drop number changes) < 2 ^ 31 → ((number ≡ 0) ⊎ (2 ^ 31 ≤ advances (drop (number - 1) changes))) → (n : ℕ) → number ≤ n ↔ is_journalled (drop n changes) ≡ true
first_here changes number near before n = (
  λ le. near_is (drop n changes) (omega (arith, falls_on changes number n le, near)),
  λ is. back before (is_near (drop n changes) is),
)
  where
    back : ((number ≡ 0) ⊎ (2 ^ 31 ≤ advances (drop (number - 1) changes))) → advances (drop n changes) < 2 ^ 31 → number ≤ n
    back (inl none) here = omega (arith, none)
    back (inr far) here = ⊎_elim (λ (less : n < number). absurd (let more = falls_on changes n (number - 1) (omega (arith, less)) in omega (arith, more, far, here))) (λ le. le) (cases_lt n number)

pub advances_more : (changes : List Change) (number : ℕ) (c : Change) → 0 < number → number ≤ length changes → c ≡ get_or changes (number - 1) c → advances (drop (number - 1) changes) ≡ advance (serial_of c.old_soa) (serial_of c.new_soa) + advances (drop number changes)
advances_more changes number c up inside is =
    let back : number - 1 + 1 ≡ number = omega (arith, up) in
    ap advances (drop_more changes (number - 1) c (omega (arith, up, inside)))
    ∙ (λ i. advance (serial_of ((sym is) i).old_soa) (serial_of ((sym is) i).new_soa) + advances (drop (back i) changes))

-- The store of a device was opened, and closed again.
pub seen_as : {D I : Type 0} (g : Ghosts D) (opened : List (DeviceCall D)) (own : ZoneSettings) (store : KeptStore D I g) (newest : Zone) (after : D) (path : List ℕ) (P : Opened → Type 0) → IsStoreOpened opened own store newest
    → after ≡ store_device store → path ≡ string_bytes own.device
    → ((o : Opened) (c : Content) → opens (own_shape own) o c → IsTaken (own_shape own) (opened_again o) store newest → P o)
    → IsSeenAs g (opened ++ call.Closed path after ∷ []) own P
seen_as {D} g opened own store newest after path P is after_is path_is holds = record {
  device = is.device;
  after = after;
  came = λ i. is.came i ++ call.Closed (path_is i) after ∷ [];
  seen = λ honest range may.
      (let t = is.taken honest range may in (
        t.0,
        t.1,
        λ o h.
            (let taken = t.2 o h in
            let kept = leaves_kept g store (fresh (own_shape own) (opened_again o)) taken.keeps_them (is.honest.1 honest) in
            (holds o t.0 h taken, λ c left. kept c (subst (λ (d : D). g.may_leave d c) after_is left))),
      ));
  any_moment = λ honest range. subst (λ (d : D). LeavesOnly g.moment g.left_since is.device d (OpensAsPossible g (own_shape own) is.device)) (sym after_is) (is.any_moment honest range);
}

-- A writer failed or memory was refused.
pub listing_failed : {D : Type 0} (g : Ghosts D) (calls : List (DeviceCall D)) (own : ZoneSettings) (with_records explain : Bool) (out out_after err err_after : Option (List ℕ)) → IsListTried g calls own → ListingEnds g with_records own (run_end calls explain out out_after err err_after 3)
listing_failed g calls own with_records explain out out_after err err_after called = record {
  done = λ e. absurd (omega (arith, e));
  refused = λ e. absurd (omega (arith, e));
  others = inr refl;
  called = called;
}

pub written_in_vain : {E : Type 0} (P : ℕ → Type 0) (r : Result ℕ E) → IsErr r → P 3 → P (result_unwrap_or r 3)
written_in_vain P (Ok status) is failed = absurd (cc is)
written_in_vain P (Err e) is failed = failed

-- The device shows no version.
pub not_listed : {D : Type 0} (g : Ghosts D) (calls : List (DeviceCall D)) (own : ZoneSettings) (with_records explain : Bool) (out err err_after : Option (List ℕ)) (path : List ℕ) (fault : DeviceFault) → path ≡ string_bytes own.device → IsNotShown g calls own fault → status_of fault ≡ 1 → Appends err err_after (line (device_text path fault explain)) → ListingEnds g with_records own (run_end calls explain out out err err_after 1)
not_listed g calls own with_records explain out err err_after path fault p why status said = record {
  done = λ e. absurd (omega (arith, e));
  refused = λ _. (fault, why, status, subst (λ (t : List ℕ). Appends err err_after (line (device_text t fault explain))) p said, Keeps-refl out);
  others = inl (omega arith);
  called = inr (fault, why);
}

-- Its versions were printed.
pub listed : {D : Type 0} (g : Ghosts D) (calls : List (DeviceCall D)) (own : ZoneSettings) (with_records explain : Bool) (out out_after err : Option (List ℕ)) (h : History) → ShowsHistory g calls own h → Appends out out_after (history_text with_records h) → ListingEnds g with_records own (run_end calls explain out out_after err err 0)
listed g calls own with_records explain out out_after err h is said = record {
  done = λ _. (h, is, said, Keeps-refl err);
  refused = λ e. absurd (omega (arith, e));
  others = inl (omega arith);
  called = inl (h, is);
}
