-- What a primary is given, one more of it.
use Rattle.std.proofs.Common.{◌≡◌, ℕ, zero, suc, ◌<◌, ◌≤◌, List, [], ◌∷◌, ◌++◌, Bool, true, false, length, map, take, drop, take_all, get_or, Ok, refl, sym, ap, subst, ◌∙◌, arith, append-nil, append_assoc}
use Rattle.std.specs.Bool.{◌==◌}
use Rattle.std.proofs.lemmas.Bool.Decides.{nat_tests}
use Rattle.std.proofs.Math.Seq.{drop-cons}
use Rattle.std.proofs.Math.ListN.{drop_of_length-le}
use Rattle.std.proofs.Math.ListN.{set}
use Rattle.std.specs.List.{AllZip}
use Rattle.std.specs.String.{string_bytes}
use Rattle.dns_sectors.specs.declared.device.Sectors.{Ghosts}
use Rattle.dns_store.specs.declared.root.OpenError.{OpenError}
use Rattle.dns_configuration.specs.declared.configuration.ZoneSettings.{ZoneSettings}
use Rattle.dns_configuration.specs.Known.{origins_of}
use Rattle.dns_devices.specs.declared.device_faults.DeviceFault.{DeviceFault}
use Rattle.dns_devices.specs.DeviceFaults.{IsFaultOf, fault_of_open}
use Rattle.dns_devices.specs.DeviceCalls.{Closed, DeviceCall, Opened}
use Rattle.dns_devices.specs.Stores.{IsDeviceNotGiven}
use Rattle.dns_service.specs.Opening.{CannotBeHad, IsFaultAt, closings, openings}
use Rattle.dns_service.specs.Serve.{IsPathAt}

-- The device of the zone there was not opened, for this.
pub cannot_be_had : {D : Type 0} (calls : List (DeviceCall D)) (zones : List ZoneSettings) (n : ℕ) (z : ZoneSettings) (fault : DeviceFault) → n < length zones → IsDeviceNotGiven calls (get_or zones n z) fault → CannotBeHad calls zones n fault
cannot_be_had calls [] n z fault inside h = absurd (omega (arith, inside))
cannot_be_had calls (x ∷ xs) zero z fault inside h = h
cannot_be_had calls (x ∷ xs) (suc n) z fault inside h = cannot_be_had calls xs n z fault (omega (arith, inside)) h

-- One more device was opened.
pub openings_more : {D : Type 0} (given : List D) (d : D) (zones : List ZoneSettings) (z : ZoneSettings) → length given < length zones → openings (given ++ d ∷ []) zones ≡ openings given zones ++ Opened (string_bytes (get_or zones (length given) z).device) (Ok d) ∷ []
openings_more [] d [] z inside = absurd (omega (arith, inside))
openings_more [] d (x ∷ xs) z inside = refl
openings_more (e ∷ given) d [] z inside = absurd (omega (arith, inside))
openings_more {D = D} (e ∷ given) d (x ∷ xs) z inside =
    ap (λ (calls : List (DeviceCall D)). Opened (string_bytes x.device) (Ok e) ∷ calls) (openings_more given d xs z (omega (arith, inside)))

-- Without a zone none is closed.
pub closings_none : {D : Type 0} (still : List D) → closings still [] ≡ []
closings_none [] = refl
closings_none (d ∷ still) = refl

-- All devices were closed that there are zones for.
pub all_closed : {D : Type 0} (done all : List (DeviceCall D)) (still : List D) (zones : List ZoneSettings) (n : ℕ) → length zones ≤ n → done ++ closings still (drop n zones) ≡ all → done ≡ all
all_closed {D = D} done all still zones n whole is =
    let none : drop n zones ≡ [] = drop_of_length-le zones whole in
    sym (append-nil done) ∙ sym (ap (λ (calls : List (DeviceCall D)). done ++ calls) (ap (closings still) none ∙ closings_none still)) ∙ is

-- A vector, some of which was lent and came back.
pub back_whole : {A : Type 0} (new old : List A) (n : ℕ) → length new ≡ length old → n ≡ length old → take n (new ++ drop (length new) old) ≡ new
back_whole {A = A} new old n same count =
    ap (λ (rest : List A). take n (new ++ rest)) (drop_of_length-le old (omega (arith, same))) ∙ ap (λ (all : List A). take n all) (append-nil new) ∙ take_all n new (omega (arith, same, count))

pub is_some : (n : ℕ) (b : Bool) → b ≡ (n == 0) → b ≡ false → 0 < n
is_some n b e f = grind (arith, nat_tests, e, f)

pub is_none : (n : ℕ) (b : Bool) → b ≡ (n == 0) → b ≡ true → n ≡ 0
is_none n b e f = grind (arith, nat_tests, e, f)

-- One more device was closed.
pub closings_more : {D : Type 0} (done all : List (DeviceCall D)) (still : List D) (d : D) (zones : List ZoneSettings) (n : ℕ) (z : ZoneSettings) → n < length zones → 0 < length still → done ++ closings still (drop n zones) ≡ all → (done ++ Closed (string_bytes (get_or zones n z).device) (get_or still 0 d) ∷ []) ++ closings (drop 1 still) (drop (suc n) zones) ≡ all
closings_more done all [] d zones n z inside some is = absurd (omega (arith, some))
closings_more {D = D} done all (x ∷ still) d zones n z inside some is =
    append_assoc done (Closed (string_bytes (get_or zones n z).device) x ∷ []) (closings still (drop (suc n) zones))
    ∙ sym (ap (λ (zs : List ZoneSettings). done ++ closings (x ∷ still) zs) (drop-cons zones n z inside)) ∙ is

-- The same of what has devices.
pub closings_more_of : {P D : Type 0} (f : P → D) (done all : List (DeviceCall D)) (still : List P) (p : P) (zones : List ZoneSettings) (n : ℕ) (z : ZoneSettings) → n < length zones → 0 < length still → done ++ closings (map f still) (drop n zones) ≡ all → (done ++ Closed (string_bytes (get_or zones n z).device) (f (get_or still 0 p)) ∷ []) ++ closings (map f (drop 1 still)) (drop (suc n) zones) ≡ all
closings_more_of f done all [] p zones n z inside some is = absurd (omega (arith, some))
closings_more_of f done all (x ∷ still) p zones n z inside some is = closings_more done all (f x ∷ map f still) (f x) zones n z inside (omega arith) is

pub closings_over_of : {P D : Type 0} (f : P → D) (done all : List (DeviceCall D)) (still : List P) (zones others : List ZoneSettings) → length still ≡ 0 → done ++ closings (map f still) zones ≡ all → done ++ closings (map f still) others ≡ all
closings_over_of f done all [] zones others none is = is
closings_over_of f done all (x ∷ still) zones others none is = absurd (omega (arith, none))

-- There was none to close.
pub closings_over : {D : Type 0} (done all : List (DeviceCall D)) (still : List D) (zones others : List ZoneSettings) → length still ≡ 0 → done ++ closings still zones ≡ all → done ++ closings still others ≡ all
closings_over done all [] zones others none is = is
closings_over done all (d ∷ still) zones others none is = absurd (omega (arith, none))

-- The path of the device of the zone there.
pub path_at : (zones : List ZoneSettings) (n : ℕ) (z : ZoneSettings) → n < length zones → IsPathAt zones n (string_bytes (get_or zones n z).device)
path_at [] n z inside = absurd (omega (arith, inside))
path_at (x ∷ xs) zero z inside = refl
path_at (x ∷ xs) (suc n) z inside = path_at xs n z (omega (arith, inside))

pub as_many : {A B : Type 0} (R : A → B → Type 0) (xs : List A) (ys : List B) → AllZip R xs ys → length xs ≡ length ys
as_many R [] [] h = refl
as_many R (x ∷ xs) (y ∷ ys) h = ap suc (as_many R xs ys h.1)
as_many R [] (y ∷ ys) h = absurd h
as_many R (x ∷ xs) [] h = absurd h

pub named : (zones : List ZoneSettings) → length (origins_of zones) ≡ length zones
named [] = refl
named (z ∷ zones) = ap suc (named zones)

-- The fault of the device there.
pub fault_there : {D : Type 0} (g : Ghosts D) (error : OpenError) (devices afters : List D) (index : ℕ) (d e : D) (fault : DeviceFault) → index < length devices → d ≡ get_or devices index d → afters ≡ set devices index e → IsFaultOf g error d e fault → IsFaultAt g error devices afters index fault
fault_there g error [] afters index d e fault inside is same h = absurd (omega (arith, inside))
fault_there g error (x ∷ xs) afters zero d e fault inside is same h =
    subst (λ (l : List _). IsFaultAt g error (x ∷ xs) l zero fault) (sym same) (e, refl, subst (λ y. IsFaultOf g error y e fault) is h)
fault_there g error (x ∷ xs) afters (suc index) d e fault inside is same h =
    subst (λ (l : List _). IsFaultAt g error (x ∷ xs) l (suc index) fault) (sym same) (fault_there g error xs (set xs index e) index d e fault (omega (arith, inside)) is refl h)

-- Where there is none.
pub fault_none : {D : Type 0} (g : Ghosts D) (error : OpenError) (devices afters : List D) (index : ℕ) (fault : DeviceFault) → length devices ≤ index → fault ≡ fault_of_open error → IsFaultAt g error devices afters index fault
fault_none g error [] afters index fault beyond h = h
fault_none g error (x ∷ xs) afters zero fault beyond h = absurd (omega (arith, beyond))
fault_none g error (x ∷ xs) [] (suc index) fault beyond h = fault_none g error xs [] index fault (omega (arith, beyond)) h
fault_none g error (x ∷ xs) (y ∷ afters) (suc index) fault beyond h = fault_none g error xs afters index fault (omega (arith, beyond)) h
