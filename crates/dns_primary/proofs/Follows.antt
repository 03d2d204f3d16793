-- Zones after what comes first: an update is admitted there as before, unless its zone is closed then.
use Rattle.std.proofs.Common.{◌≡◌, inl, inr, ℕ, zero, suc, Bool, true, false, not, List, [], ◌∷◌, ◌++◌, Option, Some, None, refl, sym, ap, subst, ◌∙◌, append-nil}
use Rattle.std.specs.Prelude.{slice_get, slice_set, option_map, ◌==◌, if◌then◌else◌}
use Rattle.std.specs.declared.net.ip_addr.IpAddr.{IpAddr}
use Rattle.dns_names.specs.Name.{Labels, names_eq}
use Rattle.dns_records.specs.Record.{Record}
use Rattle.dns_records.specs.Types.{type_soa, class_in}
use Rattle.dns_request.specs.Codes.{rcode_formerr, rcode_notauth, rcode_refused, rcode_servfail}
use Rattle.dns_sectors.specs.Crash.{Write}
use Rattle.dns_store.specs.Versions.{newest_after}
use Rattle.dns_versions.specs.Each.{Each2}
use Rattle.dns_versions.specs.Held.{newest_zone}
use Rattle.dns_primary.specs.declared.update.Planned.{Planned}
use Rattle.dns_primary.specs.Machine.{Setting, Made, ZoneState, Machine, kept_of, versions_of}
use Rattle.dns_primary.specs.Flush.{Sent, flushed, flush_sends, flushed_zone, flushed_zones}
use Rattle.dns_primary.specs.Update.{Asked, Admission, Rejects, Admits, admission, admission_at, admission_in, zone_position, is_full, lacked_at, room_lacked}
use Rattle.dns_primary.specs.Checkpoint.{rebased, IsMovedUnlessClosed, IsCheckpoint}
use Rattle.dns_primary.specs.Step.{Effects, IsUpdateBegun}
use Rattle.dns_primary.specs.Outcome.{lacked_of}
use Rattle.dns_primary.specs.Queue.{IsUpdatePlanned}
use Rattle.dns_primary.proofs.Zonewise.{tested, pair_same, pair_on, pair_set, versions_joined}

-- The same settings and the same newest version, and what was closed is closed.
pub record Follows (z w : ZoneState) : Type 0 where
  pub setting : w.setting ≡ z.setting
  pub newest : newest_zone (kept_of w) ≡ newest_zone (kept_of z)
  pub shut : z.closed ≡ true → w.closed ≡ true

follows_itself : (z : ZoneState) → Follows z z
follows_itself z = record { setting = refl; newest = refl; shut = λ e. e }

follows_on : (a b c : ZoneState) → Follows a b → Follows b c → Follows a c
follows_on a b c p q = record { setting = q.setting ∙ p.setting; newest = q.newest ∙ p.newest; shut = λ e. q.shut (p.shut e) }

flushed_by : (f : Bool) (s : Setting) (l : List Record) (shown staged : List Made) (base : ℕ) (second : Option ℕ) (openings : ℕ) (altered : List Write) (closed : Bool)
    → Follows (record { setting = s; loaded = l; shown = shown; staged = staged; base = base; second = second; openings = openings; altered = altered; closed = closed })
    (flushed_zone f (record { setting = s; loaded = l; shown = shown; staged = staged; base = base; second = second; openings = openings; altered = altered; closed = closed }))
flushed_by f s l shown staged base second openings altered true = record { setting = refl; newest = refl; shut = λ e. e }
flushed_by f s l shown [] base second openings altered false = record { setting = refl; newest = refl; shut = λ e. e }
flushed_by true s l shown (m ∷ staged) base second openings altered false = record { setting = refl; newest = refl; shut = λ e. refl }
flushed_by false s l shown (m ∷ staged) base second openings altered false = record {
  setting = refl;
  newest =
      let whole : versions_of (shown ++ m ∷ staged) ++ [] ≡ versions_of shown ++ versions_of (m ∷ staged) = append-nil (versions_of (shown ++ m ∷ staged)) ∙ versions_joined shown (m ∷ staged) in
      λ i. record { apex = s.shape.apex; records = newest_after l (whole i) };
  shut = λ e. e;
}

zone_follows : (f : Bool) (z : ZoneState) → Follows z (flushed_zone f z)
zone_follows f z = flushed_by f z.setting z.loaded z.shown z.staged z.base z.second z.openings z.altered z.closed

flushed_all : (fails : List Bool) (zones : List ZoneState) → Each2 Follows zones (flushed_zones fails zones)
flushed_all [] zones = pair_same Follows follows_itself zones
flushed_all (f ∷ fails) [] = tt
flushed_all (f ∷ fails) (z ∷ zones) = (zone_follows f z, flushed_all fails zones)

rebased_follows : (fails : Bool) (base : ℕ) (z : ZoneState) → Follows z (rebased fails base z)
rebased_follows true base z = record { setting = refl; newest = refl; shut = λ e. refl }
rebased_follows false base z = record { setting = refl; newest = refl; shut = λ e. e }

same_follows : (z w : ZoneState) → w ≡ z → Follows z w
same_follows z w e = subst (λ (x : ZoneState). Follows z x) (sym e) (follows_itself z)

moved_follows : (fails : Bool) (room : ℕ) (z w : ZoneState) → IsMovedUnlessClosed fails room z w → Follows z w
moved_follows fails room z w (inl h) = same_follows z w h.2
moved_follows fails room z w (inr h) = subst (λ (x : ZoneState). Follows z x) (sym (h.1).2) (rebased_follows fails (h.1).0 z)

checkpoint_follows : (index room : ℕ) (old : Machine) (fails : List Bool) (moving : Bool) (new : Machine) → IsCheckpoint index room old fails moving new → Each2 Follows old.zones new.zones
checkpoint_follows index room old fails moving new made =
    let zones = (flushed fails old).zones in
    subst (λ (m : Machine). Each2 Follows old.zones m.zones) (sym made.is)
    (pair_on Follows follows_on old.zones zones (slice_set zones index made.next) (flushed_all fails old.zones)
    (pair_set Follows follows_itself zones index made.zone made.next made.stands (moved_follows moving room made.zone made.next made.moved)))

pub begun_follows : (fails : List Bool) (old : Machine) (lacked : Option (ℕ × ℕ)) (effects : Effects) (mid : Machine) → IsUpdateBegun fails old lacked effects mid → Each2 Follows old.zones mid.zones
begun_follows fails old None effects mid h =
    subst (λ (m : Machine). Each2 Follows old.zones m.zones) (sym (h.1).state)
    (tested (λ (p : Machine × List Sent). Each2 Follows old.zones (p.0).zones) (is_full old) (flushed fails old, flush_sends fails old) (old, [])
    (λ _. flushed_all fails old.zones) (λ _. pair_same Follows follows_itself old.zones))
begun_follows fails old (Some lacked) effects mid h = checkpoint_follows lacked.0 lacked.1 old h.0 h.1 mid h.3

abbrev SameAt : Option ZoneState → Option ZoneState → Type 0
SameAt None None = Unit {0}
SameAt (Some z) (Some w) = Follows z w
SameAt None (Some w) = ⊥
SameAt (Some z) None = ⊥

at_follows : (zones news : List ZoneState) → Each2 Follows zones news → (index : ℕ) → SameAt (slice_get zones index) (slice_get news index)
at_follows [] [] h index = tt
at_follows [] (w ∷ news) h index = absurd h
at_follows (z ∷ zones) [] h index = absurd h
at_follows (z ∷ zones) (w ∷ news) h zero = h.0
at_follows (z ∷ zones) (w ∷ news) h (suc index) = at_follows zones news h.1 index

place_follows : (apex : Labels) (zones news : List ZoneState) → Each2 Follows zones news → zone_position apex zones ≡ zone_position apex news
place_follows apex [] [] h = refl
place_follows apex [] (w ∷ news) h = absurd h
place_follows apex (z ∷ zones) [] h = absurd h
place_follows apex (z ∷ zones) (w ∷ news) h =
    let same : z.setting ≡ w.setting = sym (h.0).setting in
    let rest = place_follows apex zones news h.1 in
    λ i. if names_eq (same i).shape.apex apex then Some 0 else option_map suc (rest i)

-- The zone that was admitted, as it is now.
pub record StandsStill (news : List ZoneState) (index : ℕ) (z : ZoneState) (new : Admission) : Type 0 where
  pub zone : ZoneState
  pub stands : slice_get news index ≡ Some zone
  pub follows : Follows z zone
  pub shut : zone.closed ≡ true → new ≡ Rejects rcode_servfail
  pub admits : zone.closed ≡ false → new ≡ Admits index zone

abbrev pub Goes : List ZoneState → Admission → Admission → Type 0
Goes news (Rejects code) new = new ≡ Rejects code
Goes news (Admits index z) new = StandsStill news index z new

one_goes : (news : List ZoneState) (index : ℕ) (z w : ZoneState) → slice_get news index ≡ Some w → Follows z w → (b d c e : Bool) → d ≡ b → w.closed ≡ e → (c ≡ true → e ≡ true)
    → Goes news (if not b then Rejects rcode_refused else if c then Rejects rcode_servfail else Admits index z) (if not d then Rejects rcode_refused else if e then Rejects rcode_servfail else Admits index w)
one_goes news index z w there f false false c e same is on = refl
one_goes news index z w there f false true c e same is on = absurd (cc same)
one_goes news index z w there f true false c e same is on = absurd (cc same)
one_goes news index z w there f true true true true same is on = refl
one_goes news index z w there f true true true false same is on = (let clash : false ≡ true = on refl in absurd (cc clash))
one_goes news index z w there f true true false true same is on = record { zone = w; stands = there; follows = f; shut = λ _. refl; admits = λ o. (let clash : true ≡ false = sym is ∙ o in absurd (cc clash)) }
one_goes news index z w there f true true false false same is on = record { zone = w; stands = there; follows = f; shut = λ o. (let clash : false ≡ true = sym is ∙ o in absurd (cc clash)); admits = λ _. refl }

in_goes : (news : List ZoneState) (address : IpAddr) (index : ℕ) (o p : Option ZoneState) → slice_get news index ≡ p → SameAt o p → Goes news (admission_in address index o) (admission_in address index p)
in_goes news address index None None e f = refl
in_goes news address index None (Some w) e f = absurd f
in_goes news address index (Some z) None e f = absurd f
in_goes news address index (Some z) (Some w) e f = one_goes news index z w e f (z.setting.may_update address) (w.setting.may_update address) z.closed w.closed (ap (λ (t : Setting). t.may_update address) f.setting) refl f.shut

at_goes : (zones news : List ZoneState) → Each2 Follows zones news → (address : IpAddr) (o : Option ℕ) → Goes news (admission_at zones address o) (admission_at news address o)
at_goes zones news h address None = refl
at_goes zones news h address (Some index) = in_goes news address index (slice_get zones index) (slice_get news index) refl (at_follows zones news h index)

both_if : (P : Admission → Admission → Type 0) (b : Bool) (x y v w : Admission) → P x v → P y w → P (if b then x else y) (if b then v else w)
both_if P true x y v w p q = p
both_if P false x y v w p q = q

pub admission_goes : (zones news : List ZoneState) (a : Asked) → Each2 Follows zones news → Goes news (admission zones a) (admission news a)
admission_goes zones news a h =
    both_if (Goes news) (not (a.zone.qtype == type_soa)) (Rejects rcode_formerr) _ (Rejects rcode_formerr) _ refl
    (both_if (Goes news) (not (a.zone.qclass == class_in)) (Rejects rcode_notauth) _ (Rejects rcode_notauth) _ refl
    (subst (λ (o : Option ℕ). Goes news (admission_at zones a.address (zone_position a.zone.name zones)) (admission_at news a.address o)) (place_follows a.zone.name zones news h)
    (at_goes zones news h a.address (zone_position a.zone.name zones))))

module _ (old mid : Machine) (a : Asked) (h : Each2 Follows old.zones mid.zones) where
  pub still_rejected : (code : ℕ) → admission old.zones a ≡ Rejects code → admission mid.zones a ≡ Rejects code
  still_rejected code e = subst (λ (d : Admission). Goes mid.zones d (admission mid.zones a)) e (admission_goes old.zones mid.zones a h)

pub rejected_lacks : (old : Machine) (a : Asked) (code : ℕ) → admission old.zones a ≡ Rejects code → room_lacked old a ≡ None
rejected_lacks old a code e = ap (lacked_at a) e

pub planned_lacks : {X : Type 0} (old : Machine) (a : Asked) (index : ℕ) (p : Planned X) → IsUpdatePlanned old a index p
    → option_map (λ (sectors : ℕ). (index, sectors)) (lacked_of p) ≡ room_lacked old a
planned_lacks old a index p is = ap (λ (o : Option ℕ). option_map (λ (sectors : ℕ). (index, sectors)) o) is.lacks ∙ sym (ap (lacked_at a) is.admits)
