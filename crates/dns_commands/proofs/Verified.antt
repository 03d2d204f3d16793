-- What is found of a device that is only read, and how a run that looks at devices ends.
use Rattle.std.proofs.Common.{◌≡◌, ℕ, zero, suc, ◌+◌, ◌-◌, ◌≤◌, ◌<◌, max, Bool, true, false, IsTrue, ◌↔◌, inl, inr, List, [], ◌∷◌, ◌++◌, length, take, drop, get_or, Option, Some, None, Result, Ok, Err, IfOk, OnOk, refl, sym, ap, subst, ◌∙◌, arith, append-nil, append_assoc, take_all}
use Rattle.std.specs.Prelude.{◌⊎◌, sum_by}
use Rattle.std.specs.Io.KnownBytes.{Appends}
use Rattle.std.proofs.KnownBytes.{Appends-nil, Appends-trans}
use Rattle.std.proofs.Math.Seq.{take-suc}
use Rattle.std.proofs.lemmas.List.{length-drop}
use Rattle.std.proofs.lemmas.List.Sums.{sum_by-cons}
use Rattle.dns_names.specs.Name.{Labels}
use Rattle.dns_records.specs.Record.{Record}
use Rattle.dns_zone.specs.Zone.{soas}
use Rattle.dns_changes.specs.Change.{Change}
use Rattle.dns_changes.specs.Version.{serial_in}
use Rattle.dns_sectors.specs.Device.{Content}
use Rattle.dns_layout.specs.Own.{IsIntactIn}
use Rattle.dns_journal.specs.Reads.{HasRisen, OnlyReads}
use Rattle.dns_journal.specs.State.{IsOpenedTimes}
use Rattle.dns_journal.proofs.Looking.{reads_then}
use Rattle.dns_sectors.specs.declared.device.Sectors.{Ghosts}
use Rattle.dns_layout.specs.Sector.{number, sector_at}
use Rattle.dns_layout.specs.Journal.{Entry, entry_size, place_behind}
use Rattle.dns_layout.specs.Store.{Stored, journal_place}
use Rattle.dns_layout.specs.declared.root.Root.{Root}
use Rattle.dns_journal.specs.declared.read.Cursor.{Cursor}
use Rattle.dns_layout.specs.declared.format.Format.TheVariants.{Two}
use Rattle.dns_store.specs.declared.root.OpenError.{OpenError}
use Rattle.dns_store.specs.declared.root.OpenError.TheVariants.{Device, OutOfMemory}
use Rattle.dns_store.specs.Damage.{NamesAltered, NamesWrong}
use Rattle.dns_store.specs.Root.{OpenRefusal}
use Rattle.dns_store.specs.Opening.{IsNotReopened, IsRead, RefusesAltered}
use Rattle.dns_store.specs.Opens.{AreChanges, IsPartOf, base_of, fresh, sizes_of}
use Rattle.dns_store.specs.Room.{entries_along, entry_between, sectors_left}
use Rattle.dns_store.specs.Staged.{entry_is}
use Rattle.dns_store.specs.Versions.{Opened, Shape, Versions, newest_after}
use Rattle.dns_store.proofs.Entering.{newest_number}
use Rattle.dns_store.proofs.Moving.{led_count}
use Rattle.dns_store.proofs.Places.{along_drop}
use Rattle.dns_configuration.specs.declared.configuration.ZoneSettings.{ZoneSettings}
use Rattle.dns_devices.specs.declared.device_faults.DeviceFault.{DeviceFault}
use Rattle.dns_devices.specs.DeviceCalls.{DeviceCall}
use Rattle.dns_devices.specs.DeviceFaults.{status_of}
use Rattle.dns_devices.specs.Stores.{own_shape}
use Rattle.dns_commands.specs.declared.commands.verify.Found.{Found}
use Rattle.dns_commands.specs.Frame.{run_end}
use Rattle.dns_commands.specs.declared.commands.verify.Figures.{Figures}
use Rattle.dns_commands.specs.Verify.{AreFindings, AreSpoilt, Finding, IsFinding, IsTested, IsFindingTold, IsUnwell, VerifyingEnds, figures_of, finding_status, printed_of, reported_of, spoilt_status, zone_texts, worst_of}

-- ---- the figures of a store that was read

-- where the journal's entries end
places : (apex : Labels) (room : ℕ) (before : List Record) (vs : Versions) (es : List Entry) (at : ℕ) → AreChanges apex room before vs es → place_behind at es ≡ at + sum_by (λ n. n) (entries_along before vs)
places apex room before [] [] at are = omega arith
places apex room before [] (e ∷ es) at are = absurd are
places apex room before (v ∷ vs) [] at are = absurd are
places apex room before (v ∷ vs) (e ∷ es) at are =
    let size : entry_size e ≡ entry_between before v = are.0.size_is ∙ sym (entry_is before v are.0.change are.0.leads) in
    let rest = places apex room v vs es (at + entry_size e) are.1 in
    let sum : place_behind (at + entry_size e) es ≡ at + (entry_between before v + sum_by (λ n. n) (entries_along v vs)) = omega (arith, rest, size) in
    sum ∙ ap (λ n. at + n) (sym (sum_by-cons (λ n. n) (entry_between before v) (entries_along v vs)))

-- how many sectors of the journal are left
left_read : (shape : Shape) (o : Opened) (c : Content) (s : Stored) (root : Root) (end : Cursor) (base newest : List Record) (changes : List Change) → AreChanges shape.apex shape.snapshot (base_of o) (drop o.base o.versions) s.entries → IsRead (sizes_of shape) c o s root end base changes newest → end.until - end.at ≡ sectors_left (fresh shape o)
left_read shape o c s root end base newest changes are read =
    let first = journal_place (sizes_of shape) (number (sector_at c 0)) in
    let all = o.versions ++ [] in
    let whole : all ≡ o.versions = append-nil o.versions in
    let sum = places shape.apex shape.snapshot (base_of o) (drop o.base o.versions) s.entries first are in
    let along : sum_by (λ n. n) (drop o.base (entries_along o.loaded all)) ≡ sum_by (λ n. n) (entries_along (base_of o) (drop o.base o.versions)) =
    ap (λ (vs : Versions). sum_by (λ n. n) (drop o.base (entries_along o.loaded vs))) whole ∙ ap (λ (l : List ℕ). sum_by (λ n. n) l) (along_drop o.base o.loaded o.versions) in
    omega (arith, read.until_is, read.at_is, sum, along)

-- The figures of what was read are those of what the content opens as.
pub figures_read : (shape : Shape) (o : Opened) (c : Content) (root : Root) (end : Cursor) (base newest : List Record) (changes : List Change) (figures : Figures) (s : Stored) → IsPartOf shape o s → IsOpenedTimes o.openings c → IsRead (sizes_of shape) c o s root end base changes newest → figures.version ≡ end.version → figures.serial ≡ serial_in (soas newest) → figures.records ≡ length newest → figures.entries ≡ length changes → figures.sectors_left ≡ end.until - end.at → figures.openings ≡ root.open_count → figures ≡ figures_of shape o
figures_read shape o c root end base newest changes figures s part times read version serial records entries left openings =
    let v : figures.version ≡ length o.versions = version ∙ read.version_is ∙ newest_number shape o s part in
    let m : figures.serial ≡ serial_in (soas (newest_after o.loaded o.versions)) = serial ∙ ap (λ (rs : List Record). serial_in (soas rs)) read.newest_is in
    let n : figures.records ≡ length (newest_after o.loaded o.versions) = records ∙ ap (λ (rs : List Record). length rs) read.newest_is in
    let e : figures.entries ≡ length o.versions - o.base = entries ∙ led_count (base_of o) (drop o.base o.versions) changes read.led ∙ length-drop o.base o.versions in
    let l : figures.sectors_left ≡ sectors_left (fresh shape o) = left ∙ left_read shape o c s root end base newest changes part.changes read in
    let p : figures.openings ≡ o.openings = openings ∙ sym read.says.opened_is ∙ times in
    λ i. record { version = v i; serial = m i; records = n i; entries = e i; sectors_left = l i; openings = p i }

-- ---- zones one after another

-- The device of one more was looked at.
pub findings_more : {D : Type 0} (g : Ghosts D) (every : Bool) (calls next : List (DeviceCall D)) (settings : List ZoneSettings) (own : ZoneSettings) (findings : List Finding) (finding : Finding) → AreFindings g every calls settings findings → IsFinding g every next own finding → AreFindings g every (calls ++ next) (settings ++ own ∷ []) (findings ++ finding ∷ [])
findings_more {D = D} g every calls next [] own [] finding h k = (next, [], ap (λ (t : List (DeviceCall D)). t ++ next) h ∙ sym (append-nil next), k, refl)
findings_more g every calls next [] own (f ∷ findings) finding h k = absurd h
findings_more g every calls next (s ∷ settings) own [] finding h k = absurd h
findings_more {D = D} g every calls next (s ∷ settings) own (f ∷ findings) finding h k =
    (h.0, h.1 ++ next, ap (λ (t : List (DeviceCall D)). t ++ next) h.2 ∙ append_assoc h.0 h.1 next, h.3, findings_more g every h.1 next settings own findings finding h.4 k)

-- so many findings as zones
pub told_more : {D : Type 0} (g : Ghosts D) (every : Bool) (calls : List (DeviceCall D)) (text : ZoneSettings → Finding → List ℕ) (settings : List ZoneSettings) (own : ZoneSettings) (findings : List Finding) (finding : Finding) → AreFindings g every calls settings findings → zone_texts text (settings ++ own ∷ []) (findings ++ finding ∷ []) ≡ zone_texts text settings findings ++ text own finding
told_more g every calls text [] own [] finding h = append-nil (text own finding)
told_more g every calls text [] own (f ∷ findings) finding h = absurd h
told_more g every calls text (s ∷ settings) own [] finding h = absurd h
told_more g every calls text (s ∷ settings) own (f ∷ findings) finding h =
    ap (λ (t : List ℕ). text s f ++ t) (told_more g every h.1 text settings own findings finding h.4) ∙ sym (append_assoc (text s f) (zone_texts text settings findings) (text own finding))

pub worst_more : (findings : List Finding) (finding : Finding) → worst_of (findings ++ finding ∷ []) ≡ max (worst_of findings) (finding_status finding)
worst_more [] finding = omega arith
worst_more (f ∷ findings) finding = omega (arith, worst_more findings finding)

-- ---- why a store is refused

-- How often the store was opened is what its root says.
pub refused_as : (shape : Shape) (o : Opened) (before now : Content) (error : OpenError) → IsOpenedTimes o.openings before → RefusesAltered Two shape before now error → IsNotReopened o.openings error ⊎ NamesAltered before now error
refused_as shape o before now error times (inl stopped) = inl (subst (λ n. IsNotReopened n error) times stopped)
refused_as shape o before now error times (inr (named, used)) = inr named

-- ---- which sectors are spoilt

-- What was told of a sector after some others were read.
pub tested_behind : {D : Type 0} {g : Ghosts D} (old mid : D) (n : ℕ) (b : Bool) → OnlyReads g old mid → g.is_honest old → (g.is_honest mid → IsTrue b ↔ IsIntactIn Two n (sector_at (g.seen mid) n)) → IsTrue b ↔ IsIntactIn Two n (sector_at (g.seen old) n)
tested_behind {D} {g} old mid n b reads honest told =
    subst (λ (c : Content). IsTrue b ↔ IsIntactIn Two n (sector_at c n)) (reads.seen honest) (told (reads.honest.1 honest))

-- One that is well, and one that is not.
pub spoilt_no_more : (c : Content) (n : ℕ) (b : Bool) (before after : List ℕ) → (IsTrue b ↔ IsIntactIn Two n (sector_at c n)) → b ≡ true → AreSpoilt c n before → after ≡ before → AreSpoilt c (suc n) after
spoilt_no_more c n b before after told is are same = inl (told.0 is, subst (λ (ps : List ℕ). AreSpoilt c n ps) (sym same) are)

pub spoilt_more : (c : Content) (n : ℕ) (b : Bool) (before after : List ℕ) → (IsTrue b ↔ IsIntactIn Two n (sector_at c n)) → b ≡ false → AreSpoilt c n before → after ≡ before ++ n ∷ [] → AreSpoilt c (suc n) after
spoilt_more c n b before after told is are same = inr ((λ own. let both : true ≡ false = sym (told.1 own) ∙ is in absurd (cc)), (before, same, are))

-- What is known of the sectors was known before some were read.
pub tested_before : {D : Type 0} {g : Ghosts D} (every : Bool) (old mid : D) (ps : List ℕ) → OnlyReads g old mid → IsTested g mid every ps → IsTested g old every ps
tested_before {D} {g} true old mid ps reads tested = λ honest.
    subst (λ (n : ℕ). AreSpoilt (g.seen old) n ps) reads.count (subst (λ (c : Content). AreSpoilt c (g.count mid) ps) (reads.seen honest) (tested (reads.honest.1 honest)))
tested_before {D} {g} false old mid ps reads tested = tested

-- Of a store that was read sectors could not be tested.
pub untested : {D : Type 0} (g : Ghosts D) (own : ZoneSettings) (old mid new : D) (error : OpenError) → OnlyReads g old mid → g.failed mid ≡ g.failed old → OnlyReads g mid new → (error ≡ Device → HasRisen (g.failed mid) (g.failed new)) → (error ≡ Device) ⊎ (error ≡ OutOfMemory) → IsUnwell g own old new error
untested g own old mid new error first quiet then failed (inl is) = record {
  read_only = reads_then old mid new first then;
  failed = λ e. subst (λ n. HasRisen n (g.failed new)) quiet (failed e);
  stopped = λ honest range o opens. inl (inl is);
  refused = λ honest. subst (λ e. OpenRefusal (sizes_of (own_shape own)) (g.count old) (sector_at (g.seen old) 0) e) (sym is) tt;
  damaged = λ honest. subst (λ e. NamesWrong (own_shape own) (g.seen old) e) (sym is) tt;
  not_own = λ honest range position read spoilt. inl is;
  altered = λ honest range c o opens none altered. inl (inl is);
}
untested g own old mid new error first quiet then failed (inr is) = record {
  read_only = reads_then old mid new first then;
  failed = λ e. absurd (let both : Device ≡ OutOfMemory = sym e ∙ is in cc);
  stopped = λ honest range o opens. inl (inr (inl is));
  refused = λ honest. subst (λ e. OpenRefusal (sizes_of (own_shape own)) (g.count old) (sector_at (g.seen old) 0) e) (sym is) tt;
  damaged = λ honest. subst (λ e. NamesWrong (own_shape own) (g.seen old) e) (sym is) tt;
  not_own = λ honest range position read spoilt. inr (inl is);
  altered = λ honest range c o opens none altered. inl (inr (inl is));
}

-- ---- what is told

-- What is wrong with a device is reported.
pub reported_as : {C E : Type 0} (calls : List C) (own : ZoneSettings) (fault : DeviceFault) (explain : Bool) (out err err_after : Option (List ℕ)) (r : Result ℕ E) → IfOk r (λ status. status ≡ status_of fault) → OnOk r (Appends err err_after (reported_of explain own (Err fault))) → IfOk r (λ status. IsFindingTold own (Err fault) (run_end calls explain out out err err_after status))
reported_as calls own fault explain out err err_after (Err e) is said = tt
reported_as calls own fault explain out err err_after (Ok status) is said = record { printed = Appends-nil out; reported = said; status_is = is }

-- What was found of a store that is well is told.
pub told_as : {C E : Type 0} (calls : List C) (own : ZoneSettings) (found : Found) (explain : Bool) (out out_after err err_after : Option (List ℕ)) (r : Result ℕ E) → IfOk r (λ status. status ≡ spoilt_status found.spoilt.items) → OnOk r (Appends out out_after (printed_of own (Ok found))) → OnOk r (Appends err err_after (reported_of explain own (Ok found))) → IfOk r (λ status. IsFindingTold own (Ok found) (run_end calls explain out out_after err err_after status))
told_as calls own found explain out out_after err err_after (Err e) is printed said = tt
told_as calls own found explain out out_after err err_after (Ok status) is printed said = record { printed = printed; reported = said; status_is = is }

-- All zones were looked at.
pub all_told : {D : Type 0} (g : Ghosts D) (every : Bool) (calls : List (DeviceCall D)) (settings : List ZoneSettings) (findings : List Finding) (explain : Bool) (out out_after err err_after : Option (List ℕ)) (status n : ℕ) → length settings ≤ n → AreFindings g every calls (take n settings) findings → Appends out out_after (zone_texts printed_of (take n settings) findings) → Appends err err_after (zone_texts (reported_of explain) (take n settings) findings) → status ≡ worst_of findings → VerifyingEnds g every settings (run_end calls explain out out_after err err_after status)
all_told g every calls settings findings explain out out_after err err_after status n all found printed reported status_is =
    let whole = take_all n settings all in
    inl (record {
      findings = findings;
      found = subst (λ (ss : List ZoneSettings). AreFindings g every calls ss findings) whole found;
      printed = subst (λ (ss : List ZoneSettings). Appends out out_after (zone_texts printed_of ss findings)) whole printed;
      reported = subst (λ (ss : List ZoneSettings). Appends err err_after (zone_texts (reported_of explain) ss findings)) whole reported;
      status_is = status_is;
    })

-- A writer failed at the next one.
pub stopped_at : {D : Type 0} (g : Ghosts D) (every : Bool) (calls next : List (DeviceCall D)) (settings : List ZoneSettings) (n : ℕ) (own : ZoneSettings) (findings : List Finding) (finding : Finding) (explain : Bool) (out out_after err err_after : Option (List ℕ)) → n < length settings → AreFindings g every calls (take n settings) findings → IsFinding g every next (get_or settings n own) finding → VerifyingEnds g every settings (run_end (calls ++ next) explain out out_after err err_after 3)
stopped_at g every calls next settings n own findings finding explain out out_after err err_after inside found is = inr (record {
  count = suc n;
  findings = findings ++ finding ∷ [];
  found = subst (λ (ss : List ZoneSettings). AreFindings g every (calls ++ next) ss (findings ++ finding ∷ [])) (sym (take-suc settings n own inside)) (findings_more g every calls next (take n settings) (get_or settings n own) findings finding found is);
  status_is = refl;
})

-- One more is told.
pub one_more : {D : Type 0} (g : Ghosts D) (every : Bool) (calls next : List (DeviceCall D)) (settings : List ZoneSettings) (n : ℕ) (own : ZoneSettings) (findings : List Finding) (finding : Finding) (explain : Bool) (out mid out_after err err_mid err_after : Option (List ℕ)) (worst status : ℕ) → n < length settings → AreFindings g every calls (take n settings) findings → Appends out mid (zone_texts printed_of (take n settings) findings) → Appends err err_mid (zone_texts (reported_of explain) (take n settings) findings) → worst ≡ worst_of findings → IsFinding g every next (get_or settings n own) finding → IsFindingTold (get_or settings n own) finding (run_end next explain mid out_after err_mid err_after status) → (all : List Finding) × AreFindings g every (calls ++ next) (take (suc n) settings) all × Appends out out_after (zone_texts printed_of (take (suc n) settings) all) × Appends err err_after (zone_texts (reported_of explain) (take (suc n) settings) all) × (max worst status ≡ worst_of all)
one_more g every calls next settings n own findings finding explain out mid out_after err err_mid err_after worst status inside found printed reported worst_is is told =
    let z = get_or settings n own in
    let before = take n settings in
    let more = sym (take-suc settings n own inside) in
    let all = findings ++ finding ∷ [] in (
      all,
      subst (λ (ss : List ZoneSettings). AreFindings g every (calls ++ next) ss all) more (findings_more g every calls next before z findings finding found is),
      subst (λ (ss : List ZoneSettings). Appends out out_after (zone_texts printed_of ss all)) more
          (subst (λ (t : List ℕ). Appends out out_after t) (sym (told_more g every calls printed_of before z findings finding found)) (Appends-trans out mid out_after (zone_texts printed_of before findings) (printed_of z finding) printed told.printed)),
      subst (λ (ss : List ZoneSettings). Appends err err_after (zone_texts (reported_of explain) ss all)) more
          (subst (λ (t : List ℕ). Appends err err_after t) (sym (told_more g every calls (reported_of explain) before z findings finding found)) (Appends-trans err err_mid err_after (zone_texts (reported_of explain) before findings) (reported_of explain z finding) reported told.reported)),
      (λ i. max (worst_is i) (told.status_is i)) ∙ sym (worst_more findings finding),
    )
