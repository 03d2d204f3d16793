-- What loading records makes of the versions of a store.
use Rattle.std.proofs.Common.{◌≡◌, ◌≤◌, ◌<◌, ◌^◌, ◌-◌, ◌+◌, ℕ, Bool, true, false, inl, inr, List, [], ◌∷◌, ◌++◌, length, Option, Some, None, Result, Ok, Err, refl, sym, ap, subst, ◌∙◌, arith, length-append}
use Rattle.std.specs.Prelude.{◌⊎◌, ◌&&◌, ◌||◌, nat_lt, if◌then◌else◌}
use Rattle.std.proofs.lemmas.Bool.Decides.{nat_tests}
use Rattle.dns_records.specs.Record.{Record}
use Rattle.dns_zone.specs.Zone.{Zone}
use Rattle.dns_changes.specs.Change.{Change, IsChange}
use Rattle.dns_sectors.specs.Device.{Content, LeavesOnly}
use Rattle.dns_store.specs.Versions.{Kept, Opened, OpensAsLeft, Shape, StandsStill, Versions, made_durable, moved_to, newest_of, staged_with}
use Rattle.dns_store.specs.Room.{entry_between, sectors_left}
use Rattle.dns_versions.specs.Flush.{is_none_staged, kept_after_flush}
use Rattle.dns_versions.specs.Held.{HasVersions, IsTip, newer, newest_zone}
use Rattle.dns_versions.specs.Staging.{has_room, lacks_room, sectors_lacked}
use Rattle.dns_versions.specs.declared.zone_versions.ZoneVersions.{ZoneVersions}
use Rattle.dns_versions.proofs.Room.{newer_is}
use Rattle.dns_devices.specs.declared.device_faults.DeviceFault.{DeviceFault}
use Rattle.dns_devices.specs.declared.device_faults.DeviceFault.TheVariants.{Exists, Device, Blank, Damaged, OldFormat, Geometry, ZoneTooLarge, SerialNotRaised, NoRoom, OutOfMemory}
use Rattle.dns_commands.specs.declared.next_version.Loaded.{Loaded}
use Rattle.dns_commands.specs.declared.next_version.Loaded.TheVariants.{Already, Next}
use Rattle.dns_commands.specs.Load.{IsBaseFor, IsChangeTo, IsLoadedInto, IsBaseForRecords, IsRoomMade, IsSerialNotRaised, IsSerialRaised, IsStored, OpensAsLoading, OpensAsMoved}

none_before : (xs ys : Versions) → [] ≡ xs ++ ys → xs ≡ []
none_before [] ys is = refl
none_before (x ∷ xs) ys is = absurd cc

-- What a crash leaves of the versions it leaves as well where one more is staged.
left_staged : (opens : Shape → Opened → Content → Type 0) (k : Kept) (records : List Record) (c : Content) → k.staged ≡ [] → OpensAsLeft opens k c → OpensAsLeft opens (staged_with records k) c
left_staged opens k records c none (o, left, is) = (
  o,
  record {
    loaded = left.loaded;
    kept = [];
    lost = records ∷ [];
    front = ap (λ (vs : Versions). vs ++ records ∷ []) none;
    versions = left.versions ∙ ap (λ (vs : Versions). k.shown ++ vs) (none_before left.kept left.lost (sym none ∙ left.front));
    base = left.base;
    openings = left.openings;
    altered = left.altered;
  },
  is,
)

-- Without a call of the device a crash leaves what it would have left.
stood_still : {S : Type 0} (moment : S → ℕ) (left_since : S → ℕ → Content → Type 0) (old new : S) (P : Content → Type 0) → StandsStill moment left_since old new → ((c : Content) → left_since old (moment old) c → P c) → LeavesOnly moment left_since old new P
stood_still moment left_since old new P still rest = record {
  later = omega (arith, still.no_later);
  each = λ c left. rest c (still.same (moment old) c left);
  before = λ t c le left. inl (still.same t c left);
}

-- So it is where one more is staged, since that makes no call.
pub staging_still : {S : Type 0} (moment : S → ℕ) (left_since : S → ℕ → Content → Type 0) (opens : Shape → Opened → Content → Type 0) (old new : S) (k : Kept) (records : List Record) → k.staged ≡ [] → StandsStill moment left_since old new → ((c : Content) → left_since old (moment old) c → OpensAsLeft opens k c)
    → LeavesOnly moment left_since old new (OpensAsLeft opens (staged_with records k))
staging_still moment left_since opens old new k records none still rest =
    stood_still moment left_since old new (OpensAsLeft opens (staged_with records k)) still (λ c left. left_staged opens k records c none (rest c left))

-- The number of one version more.
pub one_more : (k : Kept) (records : List Record) → k.staged ≡ [] → length (k.shown ++ (k.staged ++ records ∷ [])) ≡ length k.shown + 1
one_more k records none =
    let same : length (k.shown ++ (k.staged ++ records ∷ [])) ≡ length (k.shown ++ records ∷ []) = ap (λ (vs : Versions). length (k.shown ++ (vs ++ records ∷ []))) none in
    omega (arith, same, length-append k.shown (records ∷ []))

-- A base that was moved for the entry of the next version.
pub moved_loading : (opens : Shape → Opened → Content → Type 0) (keep room : ℕ) (records : List Record) (k : Kept) (c : Content) → k.staged ≡ [] → room ≡ entry_between (newest_of k) records → IsSerialRaised (newest_of k) records → has_room k records ≡ true → OpensAsMoved opens keep room k c
    → OpensAsLoading opens keep records k c
moved_loading opens keep room records k c none is raised has (inl left) = inl left
moved_loading opens keep room records k c none is raised has (inr (base, for, left)) =
    inr (base, subst (λ n. IsBaseFor keep n k base) is for, raised, has, left_staged opens (moved_to base k) records c none left)

-- What is said of what a store keeps, as it is said of its device.
pub loaded_on : (P Q : Kept → Type 0) (before first after : ℕ) (keep : ℕ) (records : List Record) (k : Kept) (r : Result Loaded DeviceFault) → ((j : Kept) → P j → Q j) → before ≡ first → IsLoadedInto P before after keep records k r → IsLoadedInto Q first after keep records k r
loaded_on P Q before first after keep records k (Ok Already) h e (is, kept) = (is, h k kept)
loaded_on P Q before first after keep records k (Ok (Next version serial added removed)) h e is = record {
  base = is.base;
  base_is = is.base_is;
  kept = h _ is.kept;
  other = is.other;
  raised = is.raised;
  room = is.room;
  version_is = is.version_is;
  serial_is = is.serial_is;
  added_is = is.added_is;
  removed_is = is.removed_is;
}
loaded_on P Q before first after keep records k (Err SerialNotRaised) h e (other, serial, kept) = (other, serial, h k kept)
loaded_on P Q before first after keep records k (Err NoRoom) h e (other, raised, room, kept) = (other, raised, room, h k kept)
loaded_on P Q before first after keep records k (Err OutOfMemory) h e (inl kept) = inl (h k kept)
loaded_on P Q before first after keep records k (Err OutOfMemory) h e (inr (base, is, kept)) = inr (base, is, h _ kept)
loaded_on P Q before first after keep records k (Err Device) h e risen = subst (λ n. (n < after) ⊎ (n ≡ 2 ^ 64 - 1)) e risen
loaded_on P Q before first after keep records k (Err Exists) h e is = absurd is
loaded_on P Q before first after keep records k (Err Blank) h e is = absurd is
loaded_on P Q before first after keep records k (Err (Damaged sector)) h e is = absurd is
loaded_on P Q before first after keep records k (Err OldFormat) h e is = absurd is
loaded_on P Q before first after keep records k (Err Geometry) h e is = absurd is
loaded_on P Q before first after keep records k (Err ZoneTooLarge) h e is = absurd is

-- What is known of the change, of the versions.
pub change_there : (before records : List Record) (change : Change) (k : Kept) → before ≡ newest_of k → IsChangeTo before records (Ok (Some change)) → (records ≡ newest_of k → ⊥) × IsSerialRaised (newest_of k) records × IsChange (newest_of k) records change
change_there before records change k is there = subst (λ (rs : List Record). IsChangeTo rs records (Ok (Some change))) is there

-- There is no change, or none that may be made.
pub change_refused : (P : Kept → Type 0) (first after keep : ℕ) (before records : List Record) (k : Kept) (fault : DeviceFault) → before ≡ newest_of k → P k → IsChangeTo before records (Err fault) → IsLoadedInto P first after keep records k (Err fault)
change_refused P first after keep before records k OutOfMemory is kept why = inl kept
change_refused P first after keep before records k SerialNotRaised is kept why =
    let there : (records ≡ newest_of k → ⊥) × IsSerialNotRaised (newest_of k) records = subst (λ (rs : List Record). IsChangeTo rs records (Err SerialNotRaised)) is why in
    (there.0, there.1, kept)
change_refused P first after keep before records k Device is kept why = absurd why
change_refused P first after keep before records k Exists is kept why = absurd why
change_refused P first after keep before records k Blank is kept why = absurd why
change_refused P first after keep before records k (Damaged sector) is kept why = absurd why
change_refused P first after keep before records k OldFormat is kept why = absurd why
change_refused P first after keep before records k Geometry is kept why = absurd why
change_refused P first after keep before records k ZoneTooLarge is kept why = absurd why
change_refused P first after keep before records k NoRoom is kept why = absurd why

-- What the version that is shown is, of the versions, where none is staged.
pub shown_newest : {I S : Type 0} (keeps : S → Kept → Type 0) (zone : Zone) (b : ZoneVersions I S) (k : Kept) → b.tip ≡ None → HasVersions keeps zone b k → zone ≡ newest_zone k
shown_newest keeps zone b k none held = ap (newer zone) (sym none) ∙ newer_is keeps zone b k held

-- They are those of a store whose base was moved.
pub held_moved : {I S : Type 0} (keeps : S → Kept → Type 0) (zone : Zone) (b : ZoneVersions I S) (store : S) (base : ℕ) (k : Kept) → HasVersions keeps zone b k → keeps store (moved_to base k) → HasVersions keeps zone (record b { store = store }) (moved_to base k)
held_moved keeps zone b store base k held kept = record {
  zone_is = held.zone_is;
  tip_is = tip_moved b.tip base k held.tip_is;
  number_is = held.number_is;
  octets_are = held.octets_are;
  snapshot_is = held.snapshot_is;
  journal_is = held.journal_is;
  kept = kept;
}
  where
    tip_moved : (tip : Option Zone) (base : ℕ) (k : Kept) → IsTip tip k → IsTip tip (moved_to base k)
    tip_moved None base k is = is
    tip_moved (Some tip) base k is = is

-- How many sectors are lacked.
some_lacked : (b : Bool) (n m : ℕ) → Some m ≡ (if b then Some n else None) → (b ≡ true) × (m ≡ n)
some_lacked true n m e = (refl, cc e)
some_lacked false n m e = absurd (cc e)

pub too_few_left : (k : Kept) (records : List Record) (room : ℕ) → has_room k records ≡ true → Some room ≡ sectors_lacked k records → (room ≡ entry_between (newest_of k) records) × (sectors_left k < entry_between (newest_of k) records)
too_few_left k records room has e =
    let lacks = some_lacked (lacks_room k records) (entry_between (newest_of k) records) room e in
    let test : nat_lt (sectors_left k) (entry_between (newest_of k) records) ≡ true = ap (λ b. b && nat_lt (sectors_left k) (entry_between (newest_of k) records)) (sym has) ∙ lacks.0 in
    (lacks.1, grind (arith, nat_tests, test))

-- With one version staged, a flush shows it.
some_staged : (vs : Versions) (v : List Record) → (elim (vs ++ v ∷ []) [ [] ↦ true | w ∷ rest ↦ false ]) ≡ false
some_staged [] v = refl
some_staged (w ∷ vs) v = refl

pub flushed_is : (k : Kept) (records : List Record) → k.closed ≡ false → kept_after_flush false (staged_with records k) ≡ made_durable (staged_with records k)
flushed_is k records opened =
    ap (λ b. if b || is_none_staged (staged_with records k) then staged_with records k else made_durable (staged_with records k)) opened
    ∙ ap (λ b. if b then staged_with records k else made_durable (staged_with records k)) (some_staged k.staged records)

pub room_within : (k : Kept) (records : List Record) → has_room k records ≡ true → entry_between (newest_of k) records ≤ k.shape.journal
room_within k records e = grind (arith, nat_tests, e)

-- Room was not made.
pub room_refused : (P : Kept → Type 0) (before after keep room : ℕ) (records : List Record) (k : Kept) (fault : DeviceFault) → IsRoomMade P before after keep room k (Err fault) → IsLoadedInto P before after keep records k (Err fault)
room_refused P before after keep room records k OutOfMemory is = inl is
room_refused P before after keep room records k Device is = is
room_refused P before after keep room records k Exists is = absurd is
room_refused P before after keep room records k Blank is = absurd is
room_refused P before after keep room records k (Damaged sector) is = absurd is
room_refused P before after keep room records k OldFormat is = absurd is
room_refused P before after keep room records k Geometry is = absurd is
room_refused P before after keep room records k ZoneTooLarge is = absurd is
room_refused P before after keep room records k SerialNotRaised is = absurd is
room_refused P before after keep room records k NoRoom is = absurd is

-- The version was not stored.
pub store_refused : (P : Kept → Type 0) (before after keep base : ℕ) (records : List Record) (k : Kept) (fault : DeviceFault) → IsBaseForRecords keep records k base → IsStored P before after records (moved_to base k) (Err fault) → IsLoadedInto P before after keep records k (Err fault)
store_refused P before after keep base records k OutOfMemory for is = inr (base, for, is)
store_refused P before after keep base records k Device for is = is
store_refused P before after keep base records k Exists for is = absurd is
store_refused P before after keep base records k Blank for is = absurd is
store_refused P before after keep base records k (Damaged sector) for is = absurd is
store_refused P before after keep base records k OldFormat for is = absurd is
store_refused P before after keep base records k Geometry for is = absurd is
store_refused P before after keep base records k ZoneTooLarge for is = absurd is
store_refused P before after keep base records k SerialNotRaised for is = absurd is
store_refused P before after keep base records k NoRoom for is = absurd is
