-- A checkpoint leaves the room that it is made for, so that what was judged before it can be staged.
use Rattle.std.proofs.Common.{◌≡◌, ◌⊎◌, ◌<◌, ◌≤◌, ◌+◌, ◌-◌, ◌^◌, ℕ, zero, suc, Bool, true, false, inl, inr, ⊎_elim, List, [], ◌∷◌, ◌++◌, length, drop, sum_by, Option, Some, None, refl, sym, ap, subst, ◌∙◌, arith, append-nil}
use Rattle.std.specs.Prelude.{slice_get, slice_set, ◌&&◌, ◌||◌, nat_le, nat_lt, option_map, if◌then◌else◌}
use Rattle.std.proofs.lemmas.List.{length-append}
use Rattle.std.proofs.lemmas.Bool.{cases_Bool}
use Rattle.std.proofs.lemmas.Bool.Decides.{nat_tests}
use Rattle.dns_records.specs.Record.{Record}
use Rattle.dns_wire.proofs.Binds.{true_le}
use Rattle.dns_zone.specs.Zone.{Zone}
use Rattle.dns_zone.specs.Order.{both_true}
use Rattle.dns_wire.specs.declared.codes.Rcode.{Rcode}
use Rattle.dns_update.specs.Verdict.{Verdict, Refuses, Keeps, Leaves, verdict}
use Rattle.dns_layout.specs.Sector.{snapshot_sectors}
use Rattle.dns_store.specs.Versions.{Shape, Kept, newest_of, moved_to}
use Rattle.dns_store.specs.Plain.{octets_of}
use Rattle.dns_store.specs.Room.{entry_between, entries_along, sectors_left}
use Rattle.dns_store.specs.Checkpoint.{IsKeptNumber}
use Rattle.dns_store.proofs.Sizes.{room_left}
use Rattle.dns_versions.specs.Each.{Each2}
use Rattle.dns_versions.specs.Held.{newest_zone}
use Rattle.dns_versions.specs.Staging.{has_room, sectors_lacked}
use Rattle.dns_primary.specs.Machine.{Setting, Made, ZoneState, Machine, kept_of, versions_of}
use Rattle.dns_primary.specs.Flush.{Sent, is_none_made, flushed, flushed_zone, flushed_zones, flush_sends}
use Rattle.dns_primary.specs.Update.{Asked, Admission, Admits, admission, is_full, made_place, lacked_at, lacked_by, room_lacked}
use Rattle.dns_primary.specs.declared.update.Planned.{Planned}
use Rattle.dns_primary.specs.declared.update.Planned.TheVariants.{Unchanged, Accepted}
use Rattle.dns_primary.specs.Outcome.{ChangesNothing, HasLeft, IsPlannedBy}
use Rattle.dns_primary.specs.Queue.{HoldsStill, IsUpdatePlanned}
use Rattle.dns_primary.specs.Checkpoint.{rebased, IsMovedUnlessClosed, IsCheckpoint, IsSettled}
use Rattle.dns_primary.specs.Step.{Effects, IsUpdateBegun}
use Rattle.dns_primary.proofs.Zonewise.{tested, pair_same, pair_on, pair_set, pair_found, versions_joined, zone_flushed}
use Rattle.dns_primary.proofs.Preserved.{StandsIn, admission_stands}
use Rattle.dns_primary.proofs.Moved.{settled_flushed, open_staged, zone_settled}
use Rattle.dns_primary.proofs.Follows.{Follows, StandsStill, Goes, begun_follows, admission_goes}
use Rattle.dns_primary.proofs.Sound.{set_stands}

-- ---- what is left after a flush is what was left
abbrev number_of : ZoneState → ℕ
number_of z = length (versions_of z.shown) + length (versions_of z.staged)

abbrev Counted : ZoneState → ZoneState → Type 0
Counted z w = number_of w ≡ number_of z

record Alike (z w : ZoneState) : Type 0 where
  number : Counted z w
  left : sectors_left (kept_of w) ≡ sectors_left (kept_of z)

versions_whole : (shown staged : List Made) → versions_of (shown ++ staged) ++ [] ≡ versions_of shown ++ versions_of staged
versions_whole [] staged = append-nil (versions_of staged)
versions_whole (m ∷ shown) staged = ap (λ (vs : List (List Record)). m.records ∷ vs) (versions_whole shown staged)

whole_number : (shown staged : List Made) → length (versions_of (shown ++ staged)) + 0 ≡ length (versions_of shown) + length (versions_of staged)
whole_number shown staged =
    let joined = length-append (versions_of shown) (versions_of staged) in
    let whole : length (versions_of (shown ++ staged)) ≡ length (versions_of shown ++ versions_of staged) = ap (λ (vs : List (List Record)). length vs) (versions_joined shown staged) in
    omega (arith, joined, whole)

-- what is left by the versions
abbrev sectors_by_versions : ZoneState → List (List Record) → ℕ
sectors_by_versions z vs = z.setting.shape.journal - sum_by (λ n. n) (drop z.base (entries_along z.loaded vs))

flushed_alike : (f : Bool) (z : ZoneState) → Alike z (flushed_zone f z)
flushed_alike f z =
    tested (Alike z) (z.closed || is_none_made z.staged) z (if f then record z { closed = true } else record z { shown = z.shown ++ z.staged; staged = [] })
    (λ _. record { number = refl; left = refl })
    (λ _. tested (Alike z) f (record z { closed = true }) (record z { shown = z.shown ++ z.staged; staged = [] })
    (λ _. record { number = refl; left = refl })
    (λ _. record {
      number = whole_number z.shown z.staged;
      left = ap (λ (vs : List (List Record)). sectors_by_versions z vs) (versions_whole z.shown z.staged);
    }))

-- the zone at a position after a flush
record FlushedAt (zones : List ZoneState) (index : ℕ) (w : ZoneState) : Type 0 where
  fails : Bool
  zone : ZoneState
  there : slice_get zones index ≡ Some zone
  is : (w ≡ flushed_zone fails zone) ⊎ (w ≡ zone)

flushed_at : (fails : List Bool) (zones : List ZoneState) (index : ℕ) (w : ZoneState) → slice_get (flushed_zones fails zones) index ≡ Some w → FlushedAt zones index w
flushed_at [] zones index w e = record { fails = false; zone = w; there = e; is = inr refl }
flushed_at (f ∷ fails) [] index w e = absurd cc
flushed_at (f ∷ fails) (z ∷ zones) zero w e = (let same : flushed_zone f z ≡ w = cc in record { fails = f; zone = z; there = refl; is = inl (sym same) })
flushed_at (f ∷ fails) (z ∷ zones) (suc index) w e = (let rest = flushed_at fails zones index w e in record { fails = rest.fails; zone = rest.zone; there = rest.there; is = rest.is })

same_some : (a b : ZoneState) → ◌≡◌ {A = Option ZoneState} (Some a) (Some b) → a ≡ b
same_some a b e = cc

alike_at : (fails : List Bool) (zones : List ZoneState) (index : ℕ) (z w : ZoneState) → slice_get zones index ≡ Some z → slice_get (flushed_zones fails zones) index ≡ Some w → Alike z w
alike_at fails zones index z w there e =
    let at = flushed_at fails zones index w e in
    let same : z ≡ at.zone = same_some z at.zone (sym there ∙ at.there) in
    subst (λ (x : ZoneState). Alike x w) (sym same)
    (⊎_elim (λ is. subst (Alike at.zone) (sym is) (flushed_alike at.fails at.zone)) (λ is. subst (Alike at.zone) (sym is) (record { number = refl; left = refl })) at.is)

-- ---- the number of versions stays
counted_on : (a b c : ZoneState) → Counted a b → Counted b c → Counted a c
counted_on a b c p q = q ∙ p

rebased_counted : (fails : Bool) (base : ℕ) (z : ZoneState) → Counted z (rebased fails base z)
rebased_counted true base z = refl
rebased_counted false base z = refl

moved_counted : (fails : Bool) (room : ℕ) (z new : ZoneState) → IsMovedUnlessClosed fails room z new → Counted z new
moved_counted fails room z new (inl same) = ap number_of same.2
moved_counted fails room z new (inr (opened, (base, next, is))) = ap number_of is ∙ rebased_counted fails base z

all_counted : (fails : List Bool) (zones : List ZoneState) → Each2 Counted zones (flushed_zones fails zones)
all_counted [] zones = pair_same Counted (λ z. refl) zones
all_counted (f ∷ fails) [] = tt
all_counted (f ∷ fails) (z ∷ zones) = ((flushed_alike f z).number, all_counted fails zones)

begun_counted : (fails : List Bool) (old : Machine) (lacked : Option (ℕ × ℕ)) (first : Effects) (mid : Machine) → IsUpdateBegun fails old lacked first mid → Each2 Counted old.zones mid.zones
begun_counted fails old None first mid h =
    subst (λ (m : Machine). Each2 Counted old.zones m.zones) (sym (h.1).state)
    (tested (λ (p : Machine × List Sent). Each2 Counted old.zones (p.0).zones) (is_full old) (flushed fails old, flush_sends fails old) (old, [])
    (λ _. all_counted fails old.zones) (λ _. pair_same Counted (λ z. refl) old.zones))
begun_counted fails old (Some lacked) first mid h =
    let made = h.3 in
    let zones = flushed_zones h.0 old.zones in
    subst (λ (m : Machine). Each2 Counted old.zones m.zones) (sym made.is)
    (pair_on Counted counted_on old.zones zones (slice_set zones lacked.0 made.next) (all_counted h.0 old.zones)
    (pair_set Counted (λ z. refl) zones lacked.0 made.zone made.next made.stands (moved_counted h.1 lacked.1 made.zone made.next made.moved)))

-- ---- room by the rules
abbrev room_by : Shape → List Record → ℕ → List Record → Bool
room_by s newest number after =
    nat_le (length after) 65536 && nat_le (snapshot_sectors (octets_of after)) s.snapshot && nat_le (entry_between newest after) s.journal && nat_lt number (2 ^ 64 - 1)

newest_same : (z w : ZoneState) → Follows z w → newest_of (kept_of w) ≡ newest_of (kept_of z)
newest_same z w f = ap (λ (x : Zone). x.records) f.newest

room_same : (z w : ZoneState) (records : List Record) → Follows z w → Counted z w → has_room (kept_of w) records ≡ has_room (kept_of z) records
room_same z w records f number =
    let shape : w.setting.shape ≡ z.setting.shape = ap (λ (s : Setting). s.shape) f.setting in
    let newest = newest_same z w f in
    λ i. room_by (shape i) (newest i) (number i) records

-- What an update comes to depends on the room that there is for versions alone.
nothing_on : (k l : Kept) → ((after : List Record) → has_room l after ≡ has_room k after) → (v : Verdict) (rcode : Rcode) → ChangesNothing k v rcode → ChangesNothing l v rcode
nothing_on k l same (Refuses code) rcode h = h
nothing_on k l same Keeps rcode h = h
nothing_on k l same (Leaves after) rcode h = (same after ∙ h.0, h.1)

planned_on : {X : Type 0} (k l : Kept) → ((after : List Record) → has_room l after ≡ has_room k after) → (v : Verdict) (p : Planned X) → IsPlannedBy k v p → IsPlannedBy l v p
planned_on k l same v (Unchanged rcode) h = nothing_on k l same v rcode h
planned_on k l same v (Accepted plan lacked) h = (h.0, record { room = same plan.version.records ∙ (h.1).room; octets = (h.1).octets })

entry_same : (z w : ZoneState) (records : List Record) → Follows z w → entry_between (newest_of (kept_of w)) records ≡ entry_between (newest_of (kept_of z)) records
entry_same z w records f = ap (λ (rs : List Record). entry_between rs records) (newest_same z w f)

entry_within : (k : Kept) (records : List Record) → has_room k records ≡ true → entry_between (newest_of k) records ≤ k.shape.journal
entry_within k records room =
    let few = nat_le (length records) 65536 in
    let snapshot = nat_le (snapshot_sectors (octets_of records)) k.shape.snapshot in
    let entry = nat_le (entry_between (newest_of k) records) k.shape.journal in
    let last = both_true (few && snapshot && entry) (nat_lt (length k.shown + length k.staged) (2 ^ 64 - 1)) room in
    let third = both_true (few && snapshot) entry last.0 in
    true_le (entry_between (newest_of k) records) k.shape.journal third.1

-- ---- a zone whose base was moved has the room that it was moved for
settled_at : (fails : List Bool) (zones : List ZoneState) (index : ℕ) (w : ZoneState) → length fails ≡ length zones → slice_get (flushed_zones fails zones) index ≡ Some w → IsSettled w
settled_at [] [] index w long e = absurd cc
settled_at [] (z ∷ zones) index w long e = absurd (omega (arith, long))
settled_at (f ∷ fails) [] index w long e = absurd (omega (arith, long))
settled_at (f ∷ fails) (z ∷ zones) zero w long e = (let same : flushed_zone f z ≡ w = cc in subst IsSettled same (zone_settled f z))
settled_at (f ∷ fails) (z ∷ zones) (suc index) w long e = settled_at fails zones index w (omega (arith, long)) e

clash : {X : Type 0} (b : Bool) → b ≡ true → b ≡ false → X
clash true e f = absurd (cc f)
clash false e f = absurd (cc e)

moved_room : (moving : Bool) (room : ℕ) (z new : ZoneState) → IsSettled z → room ≤ z.setting.shape.journal → new.closed ≡ false → IsMovedUnlessClosed moving room z new → room ≤ sectors_left (kept_of new)
moved_room moving room z new rest le opened (inl shut) = clash new.closed (ap (λ (x : ZoneState). x.closed) shut.2 ∙ shut.0) opened
moved_room true room z new rest le opened (inr (before, (base, next, is))) = clash new.closed (ap (λ (x : ZoneState). x.closed) is) opened
moved_room false room z new rest le opened (inr (before, (base, next, is))) =
    let k = kept_of z in
    let same = settled_flushed z rest in
    let kept : IsKeptNumber k z.setting.keep room next.0 = subst (λ (x : Kept). IsKeptNumber x z.setting.keep room next.0) same next.1 in
    let base_is : base ≡ length k.shown - next.0 = subst (λ (x : Kept). base ≡ length x.shown - next.0) same next.2 in
    let left = room_left k z.setting.keep room next.0 (open_staged z rest before) le kept in
    subst (λ (x : ZoneState). room ≤ sectors_left (kept_of x)) (sym is)
    (subst (λ (b : ℕ). room ≤ sectors_left (moved_to b k)) (sym base_is) left)

-- ---- an update that has room by the rules isn't refused for want of it
checkpoint_room : (old : Machine) (index room : ℕ) (fails : List Bool) (moving : Bool) (mid : Machine) (z w : ZoneState) → IsCheckpoint index room old fails moving mid
    → slice_get old.zones index ≡ Some z → slice_get mid.zones index ≡ Some w → room ≤ z.setting.shape.journal → w.closed ≡ false → room ≤ sectors_left (kept_of w)
checkpoint_room old index room fails moving mid z w made there here le opened =
    let zones = flushed_zones fails old.zones in
    let next_here : slice_get mid.zones index ≡ Some made.next = ap (λ (m : Machine). slice_get m.zones index) made.is ∙ set_stands zones index made.zone made.next made.stands in
    let same : made.next ≡ w = same_some made.next w (sym next_here ∙ here) in
    let at = flushed_at fails old.zones index made.zone made.stands in
    let first : z ≡ at.zone = same_some z at.zone (sym there ∙ at.there) in
    let setting : (made.zone).setting ≡ z.setting =
    ⊎_elim (λ is. ap (λ (x : ZoneState). x.setting) is ∙ (zone_flushed at.fails at.zone).same.setting ∙ ap (λ (x : ZoneState). x.setting) (sym first))
    (λ is. ap (λ (x : ZoneState). x.setting) (is ∙ sym first)) at.is in
    let le_here : room ≤ (made.zone).setting.shape.journal = subst (λ (s : Setting). room ≤ s.shape.journal) (sym setting) le in
    subst (λ (x : ZoneState). room ≤ sectors_left (kept_of x)) same
    (moved_room moving room made.zone made.next (settled_at fails old.zones index made.zone made.all made.stands) le_here (ap (λ (x : ZoneState). x.closed) same ∙ opened) made.moved)

-- what is left where nothing lacks
place_left : (old : Machine) (fails : List Bool) (mid : Machine) (index : ℕ) (z w : ZoneState) → mid ≡ (made_place fails old).0 → slice_get old.zones index ≡ Some z → slice_get mid.zones index ≡ Some w
    → sectors_left (kept_of w) ≡ sectors_left (kept_of z)
place_left old fails mid index z w is there here =
    tested (λ (p : Machine × List Sent). slice_get (p.0).zones index ≡ Some w → sectors_left (kept_of w) ≡ sectors_left (kept_of z)) (is_full old) (flushed fails old, flush_sends fails old) (old, [])
    (λ _ e. (alike_at fails old.zones index z w there e).left)
    (λ _ e. ap (λ (x : ZoneState). sectors_left (kept_of x)) (same_some w z (sym e ∙ there)))
    (sym (ap (λ (m : Machine). slice_get m.zones index) is) ∙ here)

lacks_then : (room less : Bool) (entry : ℕ) → room ≡ true → less ≡ true → ◌≡◌ {A = Option ℕ} (if room && less then Some entry else None) (Some entry)
lacks_then true true entry r l = refl
lacks_then true false entry r l = absurd (cc l)
lacks_then false less entry r l = absurd (cc r)

lacks_not : (room less : Bool) (entry : ℕ) → less ≡ false → ◌≡◌ {A = Option ℕ} (if room && less then Some entry else None) None
lacks_not true true entry l = absurd (cc l)
lacks_not true false entry l = refl
lacks_not false less entry l = refl

not_less : (a b : ℕ) → nat_lt a b ≡ false → b ≤ a
not_less a b e = grind (arith, nat_tests, e)

not_within : (a b : ℕ) → nat_le a b ≡ false → b < a
not_within a b e = grind (arith, nat_tests, e)

abbrev lacking : ℕ → Option ℕ → Option (ℕ × ℕ)
lacking index lacked = option_map (λ (sectors : ℕ). (index, sectors)) lacked

left_pending : (fails : List Bool) (old : Machine) (first : Effects) (mid : Machine) (index : ℕ) (z w : ZoneState) (records : List Record)
    → IsUpdateBegun fails old (lacking index (sectors_lacked (kept_of z) records)) first mid
    → slice_get old.zones index ≡ Some z → slice_get mid.zones index ≡ Some w → w.closed ≡ false → has_room (kept_of z) records ≡ true
    → entry_between (newest_of (kept_of z)) records ≤ sectors_left (kept_of w)
left_pending fails old first mid index z w records begun there here opened room =
    let k = kept_of z in
    let entry = entry_between (newest_of k) records in
    let less = nat_lt (sectors_left k) entry in
    ⊎_elim
    (λ is. (let b : IsUpdateBegun fails old (Some (index, entry)) first mid = subst (λ (o : Option ℕ). IsUpdateBegun fails old (lacking index o) first mid) (lacks_then (has_room k records) less entry room is) begun in
    checkpoint_room old index entry b.0 b.1 mid z w b.3 there here (entry_within k records room) opened))
    (λ is. (let b : IsUpdateBegun fails old None first mid = subst (λ (o : Option ℕ). IsUpdateBegun fails old (lacking index o) first mid) (lacks_not (has_room k records) less entry is) begun in
    let same = place_left old fails mid index z w (b.1).state there here in
    let le : entry ≤ sectors_left k = not_less (sectors_left k) entry is in
    omega (arith, le, same)))
    (cases_Bool less)

module _ (fails : List Bool) (old : Machine) (a : Asked) (first : Effects) (mid : Machine) (begun : IsUpdateBegun fails old (room_lacked old a) first mid) where
  abbrev judged : ZoneState → Verdict
  judged z = verdict (newest_zone (kept_of z)) a.message.answers a.message.authorities

  counted_at : (index : ℕ) (z : ZoneState) → admission old.zones a ≡ Admits index z → (s : StandsStill mid.zones index z (admission mid.zones a)) → Counted z s.zone
  counted_at index z admits s =
      let there : slice_get old.zones index ≡ Some z = subst (StandsIn old.zones) admits (admission_stands old.zones a) in
      let found = pair_found Counted old.zones mid.zones index z (begun_counted fails old (room_lacked old a) first mid begun) there in
      subst (Counted z) (same_some found.zone s.zone (sym found.stands ∙ s.stands)) found.holds

  -- What came first left room for the entry.
  has_left : (index : ℕ) (z : ZoneState) → admission old.zones a ≡ Admits index z → (s : StandsStill mid.zones index z (admission mid.zones a)) → (s.zone).closed ≡ false → HasLeft (kept_of s.zone) (judged s.zone)
  has_left index z admits s is_open records leaves room =
      let there : slice_get old.zones index ≡ Some z = subst (StandsIn old.zones) admits (admission_stands old.zones a) in
      let counted = counted_at index z admits s in
      let room_before : has_room (kept_of z) records ≡ true = sym (room_same z s.zone records s.follows counted) ∙ room in
      let verdict_before : judged z ≡ Leaves records = ap (λ (x : Zone). verdict x a.message.answers a.message.authorities) (sym s.follows.newest) ∙ leaves in
      let lacked : room_lacked old a ≡ lacking index (sectors_lacked (kept_of z) records) =
      ap (lacked_at a) admits ∙ ap (λ (v : Verdict). lacking index (lacked_by (kept_of z) v)) verdict_before in
      let left = left_pending fails old first mid index z s.zone records (subst (λ (o : Option (ℕ × ℕ)). IsUpdateBegun fails old o first mid) lacked begun) there s.stands is_open room_before in
      let entry = entry_same z s.zone records s.follows in
      omega (arith, left, entry)

  -- What was planned before it still holds.
  pub still_planned : {X : Type 0} (index : ℕ) (p : Planned X) → IsUpdatePlanned old a index p → HoldsStill mid a index p
  still_planned index p is =
      let g : StandsStill mid.zones index is.zone (admission mid.zones a) = subst (λ (d : Admission). Goes mid.zones d (admission mid.zones a)) is.admits (admission_goes old.zones mid.zones a (begun_follows fails old (room_lacked old a) first mid begun)) in
      let counted = counted_at index is.zone is.admits g in
      record {
        zone = g.zone;
        stands = g.stands;
        shut = g.shut;
        admits = g.admits;
        is = planned_on (kept_of is.zone) (kept_of g.zone) (λ after. room_same is.zone g.zone after g.follows counted) (judged g.zone) p
            (subst (λ (z : Zone). IsPlannedBy (kept_of is.zone) (verdict z a.message.answers a.message.authorities) p) (sym (g.follows).newest) is.is);
        left = has_left index is.zone is.admits g;
      }
