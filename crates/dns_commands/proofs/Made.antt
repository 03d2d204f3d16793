-- How a run that makes devices ends.
use Rattle.std.proofs.Common.{◌≡◌, ℕ, zero, suc, ◌<◌, ◌≤◌, Bool, true, false, inl, inr, List, [], ◌∷◌, ◌++◌, length, take, get_or, Option, Ok, refl, sym, ap, subst, ◌∙◌, arith, append-nil, append_assoc, take_all}
use Rattle.std.specs.Prelude.{◌⊎◌, flat_map, map}
use Rattle.std.specs.List.{AllZip}
use Rattle.std.specs.Option.{option_copied}
use Rattle.std.specs.String.{string_bytes}
use Rattle.std.specs.Io.KnownBytes.{Appends}
use Rattle.std.proofs.KnownBytes.{Appends-trans, Keeps-refl}
use Rattle.dns_zone.specs.Zone.{Zone}
use Rattle.dns_sectors.specs.declared.device.Sectors.{Ghosts}
use Rattle.dns_configuration.specs.declared.configuration.ZoneSettings.{ZoneSettings}
use Rattle.dns_configuration.specs.declared.configuration.Configuration.{Configuration}
use Rattle.dns_configuration.specs.declared.files.File.{File}
use Rattle.dns_configuration.specs.declared.files.Fault.{Fault}
use Rattle.dns_configuration.specs.declared.files.Fault.TheVariants.{BadOrigin}
use Rattle.dns_configuration.specs.Faults.{fault_text, is_memory, line}
use Rattle.dns_configuration.specs.Files.{HoldsConfiguration, IsFirstFault}
use Rattle.dns_devices.specs.declared.device_faults.DeviceFault.{DeviceFault}
use Rattle.dns_layout.specs.Sector.{snapshot_sectors}
use Rattle.dns_records.specs.Record.{plain}
use Rattle.dns_journal.specs.Reads.{HasRisen}
use Rattle.dns_store.specs.Formatting.{IsGeometry}
use Rattle.dns_store.specs.declared.formatting.FormatError.{FormatError}
use Rattle.dns_store.specs.declared.formatting.FormatError.TheVariants as unmade
use Rattle.dns_devices.specs.DeviceFaults.{device_text, fault_of_format, status_of}
use Rattle.dns_devices.specs.DeviceCalls.{Closed, DeviceCall, Made, Removed}
use Rattle.dns_commands.specs.Frame.{run_end}
use Rattle.dns_commands.specs.Init.{AreChosen, AreMade, InitEnds, IsDeviceMade, IsFirstFound, IsFound, IsGiven, IsInitRefused, IsInitTried, IsMakingUndone, IsNotChosen, IsNotMade, MakingEnds, MakingStopsAt, NoneStays, absent, formatted, sectors_of}

-- The first device where there is something already.
pub found_at : {D : Type 0} (calls next : List (DeviceCall D)) (all : List ZoneSettings) (n : ℕ) (z : ZoneSettings) (path : List ℕ) (fault : DeviceFault) → n < length all → calls ≡ map absent (take n all) → path ≡ string_bytes (get_or all n z).device → IsFound next (get_or all n z) fault → IsFirstFound (calls ++ next) all path fault
found_at calls next [] n z path fault inside h p k = absurd (omega (arith, inside))
found_at {D = D} calls next (x ∷ xs) zero z path fault inside h p k = inl (p, subst (λ (t : List (DeviceCall D)). IsFound (t ++ next) x fault) (sym h) k)
found_at {D = D} calls next (x ∷ xs) (suc n) z path fault inside h p k =
    inr (map absent (take n xs) ++ next, ap (λ (t : List (DeviceCall D)). t ++ next) h, found_at (map absent (take n xs)) next xs n z path fault (omega (arith, inside)) refl p k)

-- One call more for each zone.
pub map_more : {A B : Type 0} (f : A → B) (xs : List A) (n : ℕ) (d : A) → n < length xs → map f (take n xs) ++ f (get_or xs n d) ∷ [] ≡ map f (take (suc n) xs)
map_more f [] n d inside = absurd (omega (arith, inside))
map_more f (x ∷ xs) zero d inside = refl
map_more {B = B} f (x ∷ xs) (suc n) d inside = ap (λ (t : List B). f x ∷ t) (map_more f xs n d (omega (arith, inside)))

-- One more of two lists.
pub pairs_more : {A B : Type 0} (R : A → B → Type 0) (xs : List A) (ys : List B) (n : ℕ) (d : A) (e : B) → n < length xs → n < length ys → AllZip R (take n xs) (take n ys) → R (get_or xs n d) (get_or ys n e) → AllZip R (take (suc n) xs) (take (suc n) ys)
pairs_more R [] ys n d e inside within h r = absurd (omega (arith, inside))
pairs_more R (x ∷ xs) [] n d e inside within h r = absurd (omega (arith, within))
pairs_more R (x ∷ xs) (y ∷ ys) zero d e inside within h r = (r, tt)
pairs_more R (x ∷ xs) (y ∷ ys) (suc n) d e inside within h r = (h.0, pairs_more R xs ys n d e (omega (arith, inside)) (omega (arith, within)) h.1 r)

-- All of two lists.
pub pairs_all : {A B : Type 0} (R : A → B → Type 0) (xs : List A) (ys : List B) (n : ℕ) → length xs ≤ n → length ys ≤ n → AllZip R (take n xs) (take n ys) → AllZip R xs ys
pairs_all {A = A} {B = B} R xs ys n all whole h =
    subst (λ (some : List A). AllZip R some ys) (take_all n xs all) (subst (λ (others : List B). AllZip R (take n xs) others) (take_all n ys whole) h)

pub zip_length : {A B : Type 0} (R : A → B → Type 0) (xs : List A) (ys : List B) → AllZip R xs ys → length xs ≡ length ys
zip_length R [] [] h = refl
zip_length R [] (y ∷ ys) h = absurd h
zip_length R (x ∷ xs) [] h = absurd h
zip_length R (x ∷ xs) (y ∷ ys) h = ap suc (zip_length R xs ys h.1)

printed_more : {A : Type 0} (f : A → List ℕ) (xs : List A) (n : ℕ) (d : A) → n < length xs → flat_map f (take (suc n) xs) ≡ flat_map f (take n xs) ++ f (get_or xs n d)
printed_more f [] n d inside = absurd (omega (arith, inside))
printed_more f (x ∷ xs) zero d inside = append-nil (f x)
printed_more f (x ∷ xs) (suc n) d inside = ap (λ (t : List ℕ). f x ++ t) (printed_more f xs n d (omega (arith, inside))) ∙ sym (append_assoc (f x) (flat_map f (take n xs)) (f (get_or xs n d)))

-- What is printed of one more.
pub lines_more : {A : Type 0} (f : A → List ℕ) (xs : List A) (n : ℕ) (x : A) (a b c : Option (List ℕ)) → n < length xs → Appends a b (flat_map f (take n xs)) → Appends b c (f (get_or xs n x)) → Appends a c (flat_map f (take (suc n) xs))
lines_more f xs n x a b c inside h k =
    subst (Appends a c) (sym (printed_more f xs n x inside)) (Appends-trans a b c (flat_map f (take n xs)) (f (get_or xs n x)) h k)

-- One more device was made.
pub made_more : {D : Type 0} (g : Ghosts D) (calls next : List (DeviceCall D)) (settings : List ZoneSettings) (zones : List Zone) (n : ℕ) (d : ZoneSettings) (e : Zone) → n < length settings → n < length zones → AreMade g calls (take n settings) (take n zones) → IsDeviceMade g next (get_or settings n d) (get_or zones n e) → AreMade g (calls ++ next) (take (suc n) settings) (take (suc n) zones)
made_more g calls next [] zones n d e inside within h k = absurd (omega (arith, inside))
made_more g calls next (x ∷ xs) [] n d e inside within h k = absurd (omega (arith, within))
made_more {D = D} g calls next (x ∷ xs) (y ∷ ys) zero d e inside within h k =
    (next, [], ap (λ (t : List (DeviceCall D)). t ++ next) h ∙ sym (append-nil next), k, refl)
made_more {D = D} g calls next (x ∷ xs) (y ∷ ys) (suc n) d e inside within h k =
    (h.0, h.1 ++ next, ap (λ (t : List (DeviceCall D)). t ++ next) h.2 ∙ append_assoc h.0 h.1 next, h.3, made_more g h.1 next xs ys n d e (omega (arith, inside)) (omega (arith, within)) h.4 k)

-- All were.
pub made_all : {D : Type 0} (g : Ghosts D) (calls : List (DeviceCall D)) (settings : List ZoneSettings) (zones : List Zone) (n : ℕ) → length settings ≤ n → length zones ≤ n → AreMade g calls (take n settings) (take n zones) → AreMade g calls settings zones
made_all g calls settings zones n all whole h =
    subst (λ (some : List ZoneSettings). AreMade g calls some zones) (take_all n settings all) (subst (λ (others : List Zone). AreMade g calls (take n settings) others) (take_all n zones whole) h)

-- The devices of the first zones were made, and that of the next one was not.
pub stops_at : {D : Type 0} (g : Ghosts D) (calls next : List (DeviceCall D)) (settings : List ZoneSettings) (zones : List Zone) (n : ℕ) (d : ZoneSettings) (e : Zone) (path : List ℕ) (fault : DeviceFault) → n < length settings → n < length zones → AreMade g calls (take n settings) (take n zones) → path ≡ string_bytes (get_or settings n d).device → IsNotMade g next (get_or settings n d) (get_or zones n e) fault → MakingStopsAt g (calls ++ next) n settings zones path fault
stops_at g calls next [] zones n d e path fault inside within h p k = absurd (omega (arith, inside))
stops_at g calls next (x ∷ xs) [] n d e path fault inside within h p k = absurd (omega (arith, within))
stops_at {D = D} g calls next (x ∷ xs) (y ∷ ys) zero d e path fault inside within h p k = (p, subst (λ (t : List (DeviceCall D)). IsNotMade g (t ++ next) x y fault) (sym h) k)
stops_at {D = D} g calls next (x ∷ xs) (y ∷ ys) (suc n) d e path fault inside within h p k =
    (h.0, h.1 ++ next, ap (λ (t : List (DeviceCall D)). t ++ next) h.2 ∙ append_assoc h.0 h.1 next, h.3, stops_at g h.1 next xs ys n d e path fault (omega (arith, inside)) (omega (arith, within)) h.4 p k)

-- Why a device that was made was not formatted.
pub not_formatted : {D : Type 0} (g : Ghosts D) (calls : List (DeviceCall D)) (own : ZoneSettings) (zone : Zone) (blank after : D) (e : FormatError)
    → calls ≡ Made (string_bytes own.device) (sectors_of own) (Ok blank) ∷ Closed (string_bytes own.device) after ∷ Removed (string_bytes own.device) ∷ []
    → (e ≡ unmade.Device → HasRisen (g.failed blank) (g.failed after))
    → (e ≡ unmade.Geometry → IsGeometry own.snapshot_sectors own.journal_sectors (g.count blank) → ⊥)
    → (e ≡ unmade.ZoneTooLarge → own.snapshot_sectors < snapshot_sectors (length (flat_map plain zone.records)))
    → IsNotMade g calls own zone (fault_of_format e)
not_formatted g calls own zone blank after unmade.Device came failed geometry large = inr (record { blank = blank; after = after; came = came; why = failed refl })
not_formatted g calls own zone blank after unmade.Geometry came failed geometry large = record { blank = blank; after = after; came = came; why = geometry refl }
not_formatted g calls own zone blank after unmade.ZoneTooLarge came failed geometry large = record { blank = blank; after = after; came = came; why = large refl }
not_formatted g calls own zone blank after unmade.OutOfMemory came failed geometry large = record { blank = blank; after = after; came = came; why = tt }

-- A writer failed or memory was refused.
pub making_failed : {D : Type 0} (g : Ghosts D) (calls : List (DeviceCall D)) (settings : List ZoneSettings) (zones : List Zone) (explain : Bool) (out out_after err err_after : Option (List ℕ)) → NoneStays g calls settings zones → MakingEnds g settings zones (run_end calls explain out out_after err err_after 3)
making_failed g calls settings zones explain out out_after err err_after none = record {
  done = λ e. absurd (omega (arith, e));
  refused = λ e. absurd (omega (arith, e));
  others = inr refl;
  called = inr none;
}

pub init_failed : {D : Type 0} (g : Ghosts D) (calls : List (DeviceCall D)) (config : File) (origin : Option (List ℕ)) (files : List File) (explain : Bool) (out out_after err err_after : Option (List ℕ)) → IsInitTried g calls config origin files → InitEnds g config origin files (run_end calls explain out out_after err err_after 3)
init_failed g calls config origin files explain out out_after err err_after tried = record {
  done = λ e. absurd (omega (arith, e));
  refused = λ e. absurd (omega (arith, e));
  others = inr refl;
  called = inr tried;
}

-- All devices were made.
pub making_done : {D : Type 0} (g : Ghosts D) (calls : List (DeviceCall D)) (settings : List ZoneSettings) (zones : List Zone) (explain : Bool) (out out_after err : Option (List ℕ)) → AreMade g calls settings zones → Appends out out_after (flat_map formatted zones) → MakingEnds g settings zones (run_end calls explain out out_after err err 0)
making_done g calls settings zones explain out out_after err h k = record {
  done = λ _. (h, k, Keeps-refl err);
  refused = λ e. absurd (omega (arith, e));
  others = inl (omega arith);
  called = inl refl;
}

-- A device was not made.
pub making_refused : {D : Type 0} (g : Ghosts D) (calls : List (DeviceCall D)) (settings : List ZoneSettings) (zones : List Zone) (explain : Bool) (out err err_after : Option (List ℕ)) (path : List ℕ) (fault : DeviceFault) → IsMakingUndone g calls settings zones path fault → status_of fault ≡ 1 → Appends err err_after (line (device_text path fault explain)) → MakingEnds g settings zones (run_end calls explain out out err err_after 1)
making_refused g calls settings zones explain out err err_after path fault stops status said = record {
  done = λ e. absurd (omega (arith, e));
  refused = λ _. (path, fault, stops, status, Keeps-refl out, said);
  others = inl (omega arith);
  called = inr (inl (path, fault, stops));
}

-- Nothing was made or printed, for that fault.
pub init_refused : {D : Type 0} (g : Ghosts D) (calls : List (DeviceCall D)) (config : File) (origin : Option (List ℕ)) (files : List File) (explain : Bool) (out err err_after : Option (List ℕ)) (text : List ℕ) → IsInitRefused g calls config origin files text explain → IsInitTried g calls config origin files → Appends err err_after (line text) → InitEnds g config origin files (run_end calls explain out out err err_after 1)
init_refused g calls config origin files explain out err err_after text why tried said = record {
  done = λ e. absurd (omega (arith, e));
  refused = λ _. (text, why, Keeps-refl out, said);
  others = inl (omega arith);
  called = inr tried;
}

-- All devices were made, or up to one that was not.
pub init_made : {D : Type 0} (g : Ghosts D) (making : List (DeviceCall D)) (config : File) (origin : Option (List ℕ)) (files : List File) (settings : List ZoneSettings) (zones : List Zone) (explain : Bool) (out out_after err err_after : Option (List ℕ)) (status : ℕ) → IsGiven config origin files settings zones → MakingEnds g settings zones (run_end making explain out out_after err err_after status) → InitEnds g config origin files (run_end (map absent settings ++ making) explain out out_after err err_after status)
init_made {D = D} g making config origin files settings zones explain out out_after err err_after status given h = record {
  done = λ e. let d = h.done e in (settings, zones, given, making, refl, d.0, d.1, d.2);
  refused = λ e. let d = h.refused e in
      (device_text d.0 d.1 explain, inr (settings, zones, given, d.0, d.1, refl, inr (making, refl, d.2)), d.4, d.5);
  others = h.others;
  called = elim h.called [
    | inl done ↦ inl done
    | inr none ↦ inr (inr (settings, zones, given, inr (making, refl, none)))
  ];
}

-- A word that is the name of no zone.
pub word_refused : {D : Type 0} (g : Ghosts D) (config : File) (origin : Option (List ℕ)) (files : List File) (c : Configuration) (word : List ℕ) (fault : Fault) (explain : Bool) → HoldsConfiguration (option_copied config.octets) (Ok c) → ((is_memory fault ≡ true) ⊎ ((fault ≡ BadOrigin) × IsNotChosen origin c.zones.items word)) → is_memory fault ≡ false → IsInitRefused g [] config origin files (fault_text word fault) explain
word_refused g config origin files c word fault explain holds (inl memory) is = absurd (let none : true ≡ false = sym memory ∙ is in cc)
word_refused g config origin files c word fault explain holds (inr why) is = inl (word, fault, inr (c, holds, inl why), refl, refl)

-- A master file that holds no zone.
pub files_refused : {D : Type 0} (g : Ghosts D) (config : File) (origin : Option (List ℕ)) (files : List File) (c : Configuration) (settings : List ZoneSettings) (path : List ℕ) (fault : Fault) (explain : Bool) → HoldsConfiguration (option_copied config.octets) (Ok c) → AreChosen origin c.zones.items settings → ((is_memory fault ≡ true) ⊎ IsFirstFault files settings path fault) → is_memory fault ≡ false → IsInitRefused g [] config origin files (fault_text path fault) explain
files_refused g config origin files c settings path fault explain holds chosen (inl memory) is = absurd (let none : true ≡ false = sym memory ∙ is in cc)
files_refused g config origin files c settings path fault explain holds chosen (inr first) is = inl (path, fault, inr (c, holds, inr (settings, chosen, first)), refl, refl)
