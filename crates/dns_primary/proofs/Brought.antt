-- Each update of a zone came in the run.
use Rattle.std.proofs.Common.{◌≡◌, ◌+◌, ◌≤◌, ◌⊎◌, arith, inl, inr, ⊎_elim, ℕ, suc, Bool, true, not, List, [], ◌∷◌, ◌++◌, Option, Some, None, refl, sym, ap, subst, ◌∙◌, append_assoc, append-nil}
use Rattle.std.specs.Prelude.{slice_get, slice_set, option_map, ◌==◌, if◌then◌else◌}
use Rattle.std.specs.declared.net.ip_addr.IpAddr.{IpAddr}
use Rattle.std.specs.List.{AllByRecursion, Contains}
use Rattle.dns_names.specs.Name.{Labels, names_eq}
use Rattle.dns_records.specs.Record.{Record}
use Rattle.dns_records.specs.Types.{type_soa, class_in}
use Rattle.dns_wire.specs.Message.{Message}
use Rattle.dns_request.specs.Codes.{rcode_formerr, rcode_notauth, rcode_refused, rcode_servfail}
use Rattle.dns_request.specs.declared.request.Transport.{Transport}
use Rattle.dns_request.specs.declared.request.Transport.TheVariants.{Udp, Tcp}
use Rattle.dns_answer.specs.Answer.{Handled, NoReply, Replies, Update, Transfer, handled}
use Rattle.dns_update.specs.Verdict.{Verdict, Refuses, Keeps, Leaves, verdict}
use Rattle.dns_versions.specs.Each.{Each2, Each3}
use Rattle.dns_versions.specs.Held.{newest_zone}
use Rattle.dns_versions.specs.Staging.{has_room}
use Rattle.dns_zone.specs.Zone.{Zone}
use Rattle.dns_primary.specs.declared.primary.ZoneSpec.{ZoneSpec}
use Rattle.dns_primary.specs.declared.event.Peer.{Peer}
use Rattle.dns_primary.specs.declared.event.To.{To}
use Rattle.dns_primary.specs.declared.event.To.TheVariants as to
use Rattle.dns_primary.specs.Machine.{Setting, Made, ZoneState, Machine, kept_of, updates_of, shown_zones, peer_at, sending_at}
use Rattle.dns_primary.specs.Flush.{Sent, flushed, flush_sends, flushed_zones}
use Rattle.dns_primary.specs.Update.{Asked, Admission, Rejects, Admits, zone_position, admission_in, admission_at, admission, newest_serial, waits, stages, with_staged, accepted_in, judged_in, admitted, is_full, answer}
use Rattle.dns_primary.specs.Checkpoint.{IsCheckpoint}
use Rattle.dns_primary.specs.Step.{Event, Datagram, Connect, Arrives, Flush, Checkpoint, Pump, Closed, IsCheckpointed, IsUpdateBegun, IsUpdated, Effects, IsRequestHandled, IsArrived, IsConnected, Goes, Lacks, Step}
use Rattle.dns_primary.specs.Stop.{IsMaking, IsRecovered, AreRecovered, IsStopped, IsSetAnew}
use Rattle.dns_primary.specs.Fresh.{IsLoaded, IsFresh}
use Rattle.dns_primary.specs.Runs.{Moment, Took, Stopped, Configured, machine_after, Happens, Run, machine_at_end, Carries, Brings, BringsIn, CameIn, AllCameIn, AllCameSince, openings_in, IsOpenedAtMost}
use Rattle.dns_primary.proofs.Quiet.{transferred_quiet, pumped_quiet}
use Rattle.dns_primary.proofs.Zonewise.{tested, pair_same, pair_on, pair_set, pair_map, pair_found_before, Same, same_itself, zone_flushed}
use Rattle.dns_primary.proofs.Preserved.{has, same_moved, same_updates}

same_on : (a b c : ZoneState) → Same a b → Same b c → Same a c
same_on a b c p q = record { setting = q.setting ∙ p.setting; loaded = q.loaded ∙ p.loaded; updates = q.updates ∙ p.updates; openings = q.openings ∙ p.openings; altered = q.altered ∙ p.altered }

flushed_same : (fails : List Bool) (zones : List ZoneState) → Each2 Same zones (flushed_zones fails zones)
flushed_same [] zones = pair_same Same same_itself zones
flushed_same (f ∷ fails) [] = tt
flushed_same (f ∷ fails) (z ∷ zones) = ((zone_flushed f z).same, flushed_same fails zones)

checkpoint_same : (index room : ℕ) (old : Machine) (fails : List Bool) (moving : Bool) (new : Machine) → IsCheckpoint index room old fails moving new → Each2 Same old.zones new.zones
checkpoint_same index room old fails moving new made =
    let zones = (flushed fails old).zones in
    subst (λ (m : Machine). Each2 Same old.zones m.zones) (sym made.is)
    (pair_on Same same_on old.zones zones (slice_set zones index made.next) (flushed_same fails old.zones)
    (pair_set Same same_itself zones index made.zone made.next made.stands
    (same_updates made.zone made.next (same_moved moving room made.zone made.next made.moved))))

begun_same : (fails : List Bool) (old : Machine) (lacked : Option (ℕ × ℕ)) (effects : Effects) (mid : Machine) → IsUpdateBegun fails old lacked effects mid → Each2 Same old.zones mid.zones
begun_same fails old None effects mid h =
    subst (λ (m : Machine). Each2 Same old.zones m.zones) (sym (h.1).state)
    (tested (λ (p : Machine × List Sent). Each2 Same old.zones (p.0).zones) (is_full old) (flushed fails old, flush_sends fails old) (old, [])
    (λ _. flushed_same fails old.zones) (λ _. pair_same Same same_itself old.zones))
begun_same fails old (Some lacked) effects mid h = checkpoint_same lacked.0 lacked.1 old h.0 h.1 mid h.3

-- One update more, which has Q, or the same ones.
record IsWith (Q : ZoneState → Message → Type 0) (z w : ZoneState) : Type 0 where
  setting : w.setting ≡ z.setting
  updates : (updates_of w ≡ updates_of z) ⊎ ((made : Made) × (updates_of w ≡ updates_of z ++ made ∷ []) × Q w made.update)
  openings : w.openings ≡ z.openings
  altered : w.altered ≡ z.altered

abbrev AreWith : (ZoneState → Message → Type 0) → List ZoneState → List ZoneState → Type 0
AreWith Q = Each2 (IsWith Q)

with_itself : (Q : ZoneState → Message → Type 0) (z : ZoneState) → IsWith Q z z
with_itself Q z = record { setting = refl; updates = inl refl; openings = refl; altered = refl }

from_same : (Q : ZoneState → Message → Type 0) (z w : ZoneState) → Same z w → IsWith Q z w
from_same Q z w s = record { setting = s.setting; updates = inl s.updates; openings = s.openings; altered = s.altered }

same_with : (Q : ZoneState → Message → Type 0) (a b c : ZoneState) → Same a b → IsWith Q b c → IsWith Q a c
same_with Q a b c s w = record {
  setting = w.setting ∙ s.setting;
  updates = ⊎_elim (λ e. inl (e ∙ s.updates)) (λ e. inr (e.0, e.1 ∙ ap (λ (us : List Made). us ++ e.0 ∷ []) s.updates, e.2)) w.updates;
  openings = w.openings ∙ s.openings;
  altered = w.altered ∙ s.altered;
}

all_same : (Q : ZoneState → Message → Type 0) (old new : List ZoneState) → Each2 Same old new → AreWith Q old new
all_same Q [] [] h = tt
all_same Q [] (w ∷ new) h = absurd h
all_same Q (z ∷ old) [] h = absurd h
all_same Q (z ∷ old) (w ∷ new) h = (from_same Q z w h.0, all_same Q old new h.1)

all_still : (Q : ZoneState → Message → Type 0) (zones : List ZoneState) → AreWith Q zones zones
all_still Q zones = pair_same (IsWith Q) (with_itself Q) zones

all_with : (Q : ZoneState → Message → Type 0) (old mid new : List ZoneState) → Each2 Same old mid → AreWith Q mid new → AreWith Q old new
all_with Q [] [] [] p q = tt
all_with Q [] [] (c ∷ new) p q = absurd q
all_with Q [] (b ∷ mid) new p q = absurd p
all_with Q (a ∷ old) [] new p q = absurd p
all_with Q (a ∷ old) (b ∷ mid) [] p q = absurd q
all_with Q (a ∷ old) (b ∷ mid) (c ∷ new) p q = (same_with Q a b c p.0 q.0, all_with Q old mid new p.1 q.1)

-- a zone that is admitted is named, and may be updated from there
pub record IsAllowed (zones : List ZoneState) (a : Asked) (index : ℕ) (z : ZoneState) : Type 0 where
  pub stands : slice_get zones index ≡ Some z
  pub named : names_eq z.setting.shape.apex a.zone.name ≡ true
  pub allowed : z.setting.may_update a.address ≡ true

abbrev pub AllowedIn : List ZoneState → Asked → Admission → Type 0
AllowedIn zones a (Rejects rcode) = Unit {0}
AllowedIn zones a (Admits index z) = IsAllowed zones a index z

abbrev pub IsNamed : Labels → Option ZoneState → Type 0
IsNamed apex None = Unit {0}
IsNamed apex (Some z) = names_eq z.setting.shape.apex apex ≡ true

abbrev pub NamedAt : Labels → List ZoneState → Option ℕ → Type 0
NamedAt apex zones None = Unit {0}
NamedAt apex zones (Some index) = IsNamed apex (slice_get zones index)

named_later : (apex : Labels) (z : ZoneState) (zones : List ZoneState) (o : Option ℕ) → NamedAt apex zones o → NamedAt apex (z ∷ zones) (option_map suc o)
named_later apex z zones None h = tt
named_later apex z zones (Some index) h = h

pub place_named : (apex : Labels) (zones : List ZoneState) → NamedAt apex zones (zone_position apex zones)
place_named apex [] = tt
place_named apex (z ∷ rest) =
    tested (NamedAt apex (z ∷ rest)) (names_eq z.setting.shape.apex apex) (Some 0) (option_map suc (zone_position apex rest))
    (λ e. e)
    (λ _. named_later apex z rest (zone_position apex rest) (place_named apex rest))

in_allowed : (zones : List ZoneState) (a : Asked) (index : ℕ) (found : Option ZoneState) → slice_get zones index ≡ found → IsNamed a.zone.name found → AllowedIn zones a (admission_in a.address index found)
in_allowed zones a index None e n = tt
in_allowed zones a index (Some z) e n =
    tested (AllowedIn zones a) (not (z.setting.may_update a.address)) (Rejects rcode_refused) (if z.closed then Rejects rcode_servfail else Admits index z)
    (λ _. tt)
    (λ may. tested (AllowedIn zones a) z.closed (Rejects rcode_servfail) (Admits index z) (λ _. tt) (λ _. record { stands = e; named = n; allowed = has (z.setting.may_update a.address) may }))

at_allowed : (zones : List ZoneState) (a : Asked) (o : Option ℕ) → NamedAt a.zone.name zones o → AllowedIn zones a (admission_at zones a.address o)
at_allowed zones a None n = tt
at_allowed zones a (Some index) n = in_allowed zones a index (slice_get zones index) refl n

pub admission_allowed : (zones : List ZoneState) (a : Asked) → AllowedIn zones a (admission zones a)
admission_allowed zones a =
    tested (AllowedIn zones a) (not (a.zone.qtype == type_soa)) (Rejects rcode_formerr)
    (if not (a.zone.qclass == class_in) then Rejects rcode_notauth else admission_at zones a.address (zone_position a.zone.name zones))
    (λ _. tt)
    (λ _. tested (AllowedIn zones a) (not (a.zone.qclass == class_in)) (Rejects rcode_notauth) (admission_at zones a.address (zone_position a.zone.name zones))
    (λ _. tt)
    (λ _. at_allowed zones a (zone_position a.zone.name zones) (place_named a.zone.name zones)))

-- the update of an event
record IsBrought (old : Machine) (event : Event) (a : Asked) : Type 0 where
  peer : Peer
  transport : Transport
  octets : List ℕ
  came : Carries old event peer transport octets
  asks : handled (shown_zones old) octets transport ≡ Update a.message a.zone
  from : a.address ≡ peer.address

module _ (old : Machine) (event : Event) (a : Asked) (b : IsBrought old event a) where
  brings : (index : ℕ) (y z : ZoneState) → slice_get old.zones index ≡ Some y → z.setting ≡ y.setting → names_eq z.setting.shape.apex a.zone.name ≡ true → z.setting.may_update a.address ≡ true → Brings old event z a.message
  brings index y z there same named allowed = record {
    peer = b.peer;
    transport = b.transport;
    octets = b.octets;
    came = b.came;
    question = a.zone;
    asks = b.asks;
    index = index;
    zone = y;
    there = there;
    shape = ap (λ (s : Setting). s.shape) (sym same);
    named = subst (λ (s : Setting). names_eq s.shape.apex a.zone.name ≡ true) same named;
    allowed = subst (λ (s : Setting). s.may_update (b.peer).address ≡ true) same (subst (λ (x : IpAddr). z.setting.may_update x ≡ true) b.from allowed);
  }

  abbrev Goes_to : Machine → Machine × List Sent → Type 0
  Goes_to m p = AreWith (Brings old event) m.zones (p.0).zones

  still : (m : Machine) → AreWith (Brings old event) m.zones m.zones
  still m = all_still (Brings old event) m.zones

  accepted_brings : (m : Machine) → Each2 Same old.zones m.zones → (index : ℕ) (z : ZoneState) (records : List Record) → IsAllowed m.zones a index z → Goes_to m (accepted_in m a index z records)
  accepted_brings m same index z records h =
      tested (Goes_to m) (has_room (kept_of z) records) (stages m a index z records, []) (waits m a index rcode_servfail (newest_serial z) (updates_of z), [])
      (λ _.
      (let made : Made = record { update = a.message; records = records } in
      let before = pair_found_before Same old.zones m.zones index z same h.stands in
      pair_set (IsWith (Brings old event)) (with_itself (Brings old event)) m.zones index z (with_staged made z) h.stands
      (record { setting = refl; updates = inr (made, sym (append_assoc z.shown z.staged (made ∷ [])), brings index before.zone (with_staged made z) before.there before.holds.setting h.named h.allowed); openings = refl; altered = refl })))
      (λ _. still m)

  judged_brings : (m : Machine) → Each2 Same old.zones m.zones → (index : ℕ) (z : ZoneState) (v : Verdict) → IsAllowed m.zones a index z → Goes_to m (judged_in m a index z v)
  judged_brings m same index z (Refuses rcode) h = still m
  judged_brings m same index z Keeps h = still m
  judged_brings m same index z (Leaves records) h = accepted_brings m same index z records h

  admitted_brings : (m : Machine) → Each2 Same old.zones m.zones → (d : Admission) → AllowedIn m.zones a d → Goes_to m (admitted m a d)
  admitted_brings m same (Rejects rcode) h = still m
  admitted_brings m same (Admits index z) h = judged_brings m same index z (verdict (newest_zone (kept_of z)) a.message.answers a.message.authorities) h

  updated_brings : (fails : List Bool) (effects : Effects) (new : Machine) → IsUpdated fails old a effects new → AreWith (Brings old event) old.zones new.zones
  updated_brings fails effects new u =
      subst (λ (m : Machine). AreWith (Brings old event) old.zones m.zones) (sym u.state)
      (all_with (Brings old event) old.zones (u.mid).zones ((answer u.mid a).0).zones (begun_same fails old _ u.first u.mid u.begun)
      (admitted_brings u.mid (begun_same fails old _ u.first u.mid u.begun) (admission (u.mid).zones a) (admission_allowed (u.mid).zones a)))

module _ (old : Machine) (event : Event) where
  nothing_new : (new next : Machine) → new ≡ next → Each2 Same old.zones next.zones → AreWith (Brings old event) old.zones new.zones
  nothing_new new next e s = subst (λ (m : Machine). AreWith (Brings old event) old.zones m.zones) (sym e) (all_same (Brings old event) old.zones next.zones s)

  same_zones : (new : Machine) → new.zones ≡ old.zones → AreWith (Brings old event) old.zones new.zones
  same_zones new e = subst (λ (zs : List ZoneState). AreWith (Brings old event) old.zones zs) (sym e) (all_still (Brings old event) old.zones)

  served_brings : (fails : List Bool) (to : To) (peer : Peer) (transport : Transport) (octets : List ℕ) (h : Handled) (effects : Effects) (new : Machine)
      → Carries old event peer transport octets → handled (shown_zones old) octets transport ≡ h → IsRequestHandled fails old to peer h effects new → AreWith (Brings old event) old.zones new.zones
  served_brings fails to peer transport octets NoReply effects new c e g = nothing_new new old (g.1).state (pair_same Same same_itself old.zones)
  served_brings fails to peer transport octets (Replies reply) effects new c e g = nothing_new new old (g.1).state (pair_same Same same_itself old.zones)
  served_brings fails to peer transport octets (Update message question) effects new c e g =
      updated_brings old event (record { to = to; address = peer.address; message = message; zone = question })
      (record { peer = peer; transport = transport; octets = octets; came = c; asks = e; from = refl }) fails effects new g
  served_brings fails to peer transport octets (Transfer asked message question) effects new c e g =
      same_zones new (transferred_quiet old to peer asked message question effects.sent new g.1).zones

arrived_brings : (fails : List Bool) (old : Machine) (number : ℕ) (o : Option Peer) (octets : List ℕ) (effects : Effects) (new : Machine) → peer_at number old.connections ≡ o
    → IsArrived fails old number o octets effects new → AreWith (Brings old (Arrives number octets)) old.zones new.zones
arrived_brings fails old number None octets effects new e g = nothing_new old (Arrives number octets) new old (g.1).state (pair_same Same same_itself old.zones)
arrived_brings fails old number (Some peer) octets effects new e g =
    served_brings old (Arrives number octets) fails (to.Connection number) peer Tcp octets _ effects new (e, refl, refl) refl g

connected_same : (old : Machine) (peer : Peer) (effects : Effects) (new : Machine) → IsConnected old peer effects new → new.zones ≡ old.zones
connected_same old peer effects new (inl h) = ap (λ (m : Machine). m.zones) h.state
connected_same old peer effects new (inr h) = ap (λ (m : Machine). m.zones) (h.1).state

checkpointed_same : (fails : List Bool) (old : Machine) (index : ℕ) (o : Option ZoneState) (effects : Effects) (new : Machine) → IsCheckpointed fails old index o effects new → Each2 Same old.zones new.zones
checkpointed_same fails old index None effects new g = subst (λ (m : Machine). Each2 Same old.zones m.zones) (sym (g.1).state) (pair_same Same same_itself old.zones)
checkpointed_same fails old index (Some z) effects new g = begun_same fails old (Some (index, 0)) effects new g

goes_brings : (fails : List Bool) (old : Machine) (event : Event) (effects : Effects) (new : Machine) → Goes fails old event effects new → AreWith (Brings old event) old.zones new.zones
goes_brings fails old (Datagram peer octets) effects new g = served_brings old (Datagram peer octets) fails (to.Address peer) peer Udp octets _ effects new (refl, refl, refl) refl g
goes_brings fails old (Connect peer) effects new g = same_zones old (Connect peer) new (connected_same old peer effects new g.1)
goes_brings fails old (Arrives number octets) effects new g = arrived_brings fails old number (peer_at number old.connections) octets effects new refl g
goes_brings fails old Flush effects new g = nothing_new old Flush new (flushed fails old) (g.1).state (flushed_same fails old.zones)
goes_brings fails old (Checkpoint index) effects new g = all_same (Brings old (Checkpoint index)) old.zones new.zones (checkpointed_same fails old index (slice_get old.zones index) effects new g)
goes_brings fails old (Pump number) effects new g = same_zones old (Pump number) new (pumped_quiet old number (sending_at number old.connections) effects.sent new g.1).zones
goes_brings fails old (Closed number) effects new g = same_zones old (Closed number) new (ap (λ (m : Machine). m.zones) (g.1).state)

lacks_brings : (fails : List Bool) (old : Machine) (event : Event) (effects : Effects) (new : Machine) → Lacks fails old event effects new → AreWith (Brings old event) old.zones new.zones
lacks_brings fails old event effects new l = elim (l.stays) [
  | inl c ↦ nothing_new old event new old c.1 (pair_same Same same_itself old.zones)
  | inr r ↦ elim r [
    | inl c ↦ nothing_new old event new (flushed fails old) c.2 (flushed_same fails old.zones)
    | inr c ↦ all_same (Brings old event) old.zones new.zones (begun_same fails old (Some c.0) c.1 new c.3)
  ]
]

step_brings : (fails : List Bool) (old : Machine) (event : Event) (effects : Effects) (new : Machine) → Step fails old event effects new → AreWith (Brings old event) old.zones new.zones
step_brings fails old event effects new (inl g) = goes_brings fails old event effects new g
step_brings fails old event effects new (inr l) = lacks_brings fails old event effects new l

-- one of some updates
abbrev Has : List Made → Made → Type 0
Has [] u = ⊥
Has (x ∷ xs) u = (u ≡ x) ⊎ Has xs u

has_front : (xs ys : List Made) (u : Made) → Has xs u → Has (xs ++ ys) u
has_front [] ys u h = absurd h
has_front (x ∷ xs) ys u (inl e) = inl e
has_front (x ∷ xs) ys u (inr h) = inr (has_front xs ys u h)

has_either : (xs ys : List Made) (u : Made) → Has (xs ++ ys) u → Has xs u ⊎ Has ys u
has_either [] ys u h = inr h
has_either (x ∷ xs) ys u (inl e) = inl (inl e)
has_either (x ∷ xs) ys u (inr h) = ⊎_elim (λ a. inl (inr a)) (λ b. inr b) (has_either xs ys u h)

-- Each update that the zone has afterwards it had before, or the moment brought it; and its store was opened as often more.
record IsOf (m : Machine) (t : Moment) (z y : ZoneState) : Type 0 where
  shape : y.setting.shape ≡ z.setting.shape
  updates : (u : Made) → Has (updates_of y) u → Has (updates_of z) u ⊎ BringsIn m t y u.update
  openings : y.openings ≤ z.openings + openings_in (t ∷ [])
  altered : y.altered ≡ z.altered

same_has : (xs ys : List Made) (u : Made) → xs ≡ ys → Has xs u → Has ys u
same_has xs ys u e h = subst (λ (us : List Made). Has us u) e h

with_is : (fails : List Bool) (m : Machine) (event : Event) (effects : Effects) (new : Machine) (z y : ZoneState) → IsWith (Brings m event) z y → IsOf m (Took event fails effects new) z y
with_is fails m event effects new z y w = record {
  shape = ap (λ (s : Setting). s.shape) w.setting;
  updates = λ u h. ⊎_elim
      (λ e. inl (same_has (updates_of y) (updates_of z) u e h))
      (λ e. ⊎_elim (λ a. inl a) (λ b. ⊎_elim (λ is. inr (subst (λ (x : Made). Brings m event y x.update) (sym is) e.2)) (λ none. absurd none) b)
      (has_either (updates_of z) (e.0 ∷ []) u (same_has (updates_of y) (updates_of z ++ e.0 ∷ []) u e.1 h)))
      w.updates;
  openings = (let same = w.openings in omega (arith, same));
  altered = w.altered;
}

all_with_are : (fails : List Bool) (m : Machine) (event : Event) (effects : Effects) (new : Machine) (old now : List ZoneState) → AreWith (Brings m event) old now
    → Each2 (IsOf m (Took event fails effects new)) old now
all_with_are fails m event effects new [] [] h = tt
all_with_are fails m event effects new [] (y ∷ now) h = absurd h
all_with_are fails m event effects new (z ∷ old) [] h = absurd h
all_with_are fails m event effects new (z ∷ old) (y ∷ now) h = (with_is fails m event effects new z y h.0, all_with_are fails m event effects new old now h.1)

recovered_is : (least most : ℕ) (making : ℕ → Type 0) (m : Machine) (event : Event) (tries : ℕ) (new : Machine) (z y : ZoneState) → most ≤ suc tries → IsRecovered least most making z y → IsOf m (Stopped event tries new) z y
recovered_is least most making m event tries new z y few r = record {
  openings = (let at = r.at_most in omega (arith, at, few));
  altered = r.altered;
  shape = ap (λ (s : Setting). s.shape) r.setting;
  updates = λ u h.
      (let now : updates_of y ≡ z.shown ++ r.kept = ap (λ (us : List Made). y.shown ++ us) r.staged ∙ append-nil y.shown ∙ r.shown in
      let whole : (z.shown ++ r.kept) ++ r.lost ≡ updates_of z = append_assoc z.shown r.kept r.lost ∙ sym (ap (λ (us : List Made). z.shown ++ us) r.front) in
      inl (same_has ((z.shown ++ r.kept) ++ r.lost) (updates_of z) u whole (has_front (z.shown ++ r.kept) r.lost u (same_has (updates_of y) (z.shown ++ r.kept) u now h))));
}

all_recovered_are : (least most : ℕ) (m : Machine) (event : Event) (tries : ℕ) (stopped : Machine) (index : ℕ) (old new : List ZoneState) → most ≤ suc tries → AreRecovered least most m event index old new
    → Each2 (IsOf m (Stopped event tries stopped)) old new
all_recovered_are least most m event tries stopped index [] [] few h = tt
all_recovered_are least most m event tries stopped index [] (y ∷ new) few h = absurd h
all_recovered_are least most m event tries stopped index (z ∷ old) [] few h = absurd h
all_recovered_are least most m event tries stopped index (z ∷ old) (y ∷ new) few h =
    (recovered_is least most (IsMaking m event index z) m event tries stopped z y few h.0, all_recovered_are least most m event tries stopped (suc index) old new few h.1)

anew_is : (m new : Machine) (z y : ZoneState) → IsSetAnew z y → IsOf m (Configured new) z y
anew_is m new z y s = record {
  shape = s.shape;
  updates = λ u h. inl (same_has (updates_of y) (updates_of z) u (ap updates_of s.rest) h);
  openings = (let same : y.openings ≡ z.openings = ap (λ (x : ZoneState). x.openings) s.rest in omega (arith, same));
  altered = ap (λ (x : ZoneState). x.altered) s.rest;
}

moment_is : (m : Machine) (t : Moment) → Happens m t → Each2 (IsOf m t) m.zones (machine_after t).zones
moment_is m (Took event fails effects new) h = all_with_are fails m event effects new m.zones new.zones (step_brings fails m event effects new h)
moment_is m (Configured new) h = pair_map IsSetAnew (IsOf m (Configured new)) (anew_is m new) m.zones new.zones h.zones
moment_is m (Stopped event tries new) h = all_recovered_are 1 (suc tries) m event tries new 0 m.zones new.zones (omega arith) h.zones

-- ... and so of a run.
record CameFrom (m : Machine) (run : List Moment) (z w : ZoneState) : Type 0 where
  shape : w.setting.shape ≡ z.setting.shape
  updates : (u : Made) → Has (updates_of w) u → Has (updates_of z) u ⊎ CameIn m run w u.update
  openings : w.openings ≤ z.openings + openings_in run
  altered : w.altered ≡ z.altered

brings_as : (m : Machine) (t : Moment) (y w : ZoneState) (x : Message) → w.setting.shape ≡ y.setting.shape → BringsIn m t y x → BringsIn m t w x
brings_as m (Took event fails effects new) y w x e b = record {
  peer = b.peer;
  transport = b.transport;
  octets = b.octets;
  came = b.came;
  question = b.question;
  asks = b.asks;
  index = b.index;
  zone = b.zone;
  there = b.there;
  shape = b.shape ∙ sym e;
  named = b.named;
  allowed = b.allowed;
}
brings_as m (Stopped event tries new) y w x e b = absurd b
brings_as m (Configured new) y w x e b = absurd b

both_times : (t : Moment) (rest : List Moment) → openings_in (t ∷ rest) ≡ openings_in (t ∷ []) + openings_in rest
both_times (Took event fails effects new) rest = omega arith
both_times (Stopped event tries new) rest = omega arith
both_times (Configured new) rest = omega arith

came_on : (m : Machine) (t : Moment) (rest : List Moment) (z y w : ZoneState) → IsOf m t z y → CameFrom (machine_after t) rest y w → CameFrom m (t ∷ rest) z w
came_on m t rest z y w p q = record {
  shape = q.shape ∙ p.shape;
  updates = λ u h. ⊎_elim (λ a. ⊎_elim (λ b. inl b) (λ b. inr (inl (brings_as m t y w u.update q.shape b))) (p.updates u a)) (λ c. inr (inr c)) (q.updates u h);
  openings = (let one = p.openings in let two = q.openings in let both = both_times t rest in omega (arith, one, two, both));
  altered = q.altered ∙ p.altered;
}

all_came_on : (m : Machine) (t : Moment) (rest : List Moment) (olds mids news : List ZoneState) → Each2 (IsOf m t) olds mids → Each2 (CameFrom (machine_after t) rest) mids news
    → Each2 (CameFrom m (t ∷ rest)) olds news
all_came_on m t rest [] [] [] p q = tt
all_came_on m t rest [] [] (w ∷ news) p q = absurd q
all_came_on m t rest [] (y ∷ mids) news p q = absurd p
all_came_on m t rest (z ∷ olds) [] news p q = absurd p
all_came_on m t rest (z ∷ olds) (y ∷ mids) [] p q = absurd q
all_came_on m t rest (z ∷ olds) (y ∷ mids) (w ∷ news) p q = (came_on m t rest z y w p.0 q.0, all_came_on m t rest olds mids news p.1 q.1)

run_came : (m : Machine) (run : List Moment) → Run m run → Each2 (CameFrom m run) m.zones (machine_at_end m run).zones
run_came m [] r = pair_same (CameFrom m []) (λ z. record { shape = refl; updates = λ u h. inl h; openings = omega arith; altered = refl }) m.zones
run_came m (t ∷ rest) r = all_came_on m t rest m.zones (machine_after t).zones (machine_at_end (machine_after t) rest).zones (moment_is m t r.0) (run_came (machine_after t) rest r.1)

each_has : (P : Made → Type 0) (xs : List Made) → ((u : Made) → Has xs u → P u) → AllByRecursion P xs
each_has P [] h = tt
each_has P (x ∷ xs) h = (h x (inl refl), each_has P xs (λ u has. h u (inr has)))

from_none : (m : Machine) (run : List Moment) (z w : ZoneState) → updates_of z ≡ [] → CameFrom m run z w → AllCameIn m run w
from_none m run z w none c =
    each_has (λ u. CameIn m run w u.update) (updates_of w) (λ u h. ⊎_elim (λ a. absurd (same_has (updates_of z) [] u none a)) (λ b. b) (c.updates u h))

all_from_none : (m : Machine) (run : List Moment) (zones : List Zone) (settings : List ZoneSpec) (olds news : List ZoneState) → Each3 IsLoaded zones settings olds
    → Each2 (CameFrom m run) olds news → AllByRecursion (AllCameIn m run) news
all_from_none m run zones settings [] [] f c = tt
all_from_none m run zones settings [] (w ∷ news) f c = absurd c
all_from_none m run zones settings (z ∷ olds) [] f c = absurd c
all_from_none m run (a ∷ zones) (s ∷ settings) (z ∷ olds) (w ∷ news) f c =
    (from_none m run z w (ap (λ (ms : List Made). ms ++ z.staged) (f.0).shown ∙ (f.0).staged) c.0, all_from_none m run zones settings olds news f.1 c.1)
all_from_none m run [] [] (z ∷ olds) (w ∷ news) f c = absurd f
all_from_none m run [] (s ∷ settings) (z ∷ olds) (w ∷ news) f c = absurd f
all_from_none m run (a ∷ zones) [] (z ∷ olds) (w ∷ news) f c = absurd f

pub all_came : (zones : List Zone) (settings : List ZoneSpec) (start : Machine) (run : List Moment) → IsFresh zones settings start → Run start run → AllByRecursion (AllCameIn start run) (machine_at_end start run).zones
all_came zones settings start run f r = all_from_none start run zones settings start.zones (machine_at_end start run).zones f.zones_are (run_came start run r)

contained : (xs : List Made) (u : Made) → Has xs u → Contains xs u
contained [] u h = absurd h
contained (x ∷ xs) u (inl e) = (0, omega arith, sym e)
contained (x ∷ xs) u (inr h) = (let c = contained xs u h in (suc c.0, omega (arith, c.1), c.2))

all_since : (m : Machine) (run : List Moment) (olds news : List ZoneState) → Each2 (CameFrom m run) olds news → Each2 (AllCameSince m run) olds news
all_since m run [] [] c = tt
all_since m run [] (w ∷ news) c = absurd c
all_since m run (z ∷ olds) [] c = absurd c
all_since m run (z ∷ olds) (w ∷ news) c = (
  each_has (λ u. Contains (updates_of z) u ⊎ CameIn m run w u.update) (updates_of w)
      (λ u h. ⊎_elim (λ there. inl (contained (updates_of z) u there)) (λ came. inr came) ((c.0).updates u h)),
  all_since m run olds news c.1,
)

pub all_came_since : (start : Machine) (run : List Moment) → Run start run → Each2 (AllCameSince start run) start.zones (machine_at_end start run).zones
all_came_since start run r = all_since start run start.zones (machine_at_end start run).zones (run_came start run r)

all_counted : (m : Machine) (run : List Moment) (olds news : List ZoneState) → Each2 (CameFrom m run) olds news → Each2 (IsOpenedAtMost (openings_in run)) olds news
all_counted m run [] [] c = tt
all_counted m run [] (w ∷ news) c = absurd c
all_counted m run (z ∷ olds) [] c = absurd c
all_counted m run (z ∷ olds) (w ∷ news) c = ((c.0).openings, all_counted m run olds news c.1)

pub run_counts : (m : Machine) (run : List Moment) → Run m run → Each2 (IsOpenedAtMost (openings_in run)) m.zones (machine_at_end m run).zones
run_counts m run r = all_counted m run m.zones (machine_at_end m run).zones (run_came m run r)

-- the settings stay in a step, and where the machine is opened again with the same ones
abbrev pub StaysSet : ZoneState → ZoneState → Type 0
StaysSet z w = w.setting ≡ z.setting

pub step_set : (fails : List Bool) (old : Machine) (event : Event) (effects : Effects) (new : Machine) → Step fails old event effects new → Each2 StaysSet old.zones new.zones
step_set fails old event effects new h = pair_map (IsWith (Brings old event)) StaysSet (λ z w x. x.setting) old.zones new.zones (step_brings fails old event effects new h)

all_recovered_set : (least most : ℕ) (m : Machine) (event : Event) (index : ℕ) (old new : List ZoneState) → AreRecovered least most m event index old new → Each2 StaysSet old new
all_recovered_set least most m event index [] [] h = tt
all_recovered_set least most m event index [] (y ∷ new) h = absurd h
all_recovered_set least most m event index (z ∷ old) [] h = absurd h
all_recovered_set least most m event index (z ∷ old) (y ∷ new) h = (h.0.setting, all_recovered_set least most m event (suc index) old new h.1)

pub stopped_set : (tries : ℕ) (old : Machine) (event : Event) (new : Machine) → IsStopped tries old event new → Each2 StaysSet old.zones new.zones
stopped_set tries old event new h = all_recovered_set 1 (suc tries) old event 0 old.zones new.zones h.zones

pub all_stay_set : (zones : List ZoneState) → Each2 StaysSet zones zones
all_stay_set zones = pair_same StaysSet (λ z. refl) zones

pub stay_set_on : (olds mids news : List ZoneState) → Each2 StaysSet olds mids → Each2 StaysSet mids news → Each2 StaysSet olds news
stay_set_on olds mids news p q = pair_on StaysSet (λ a b c x y. y ∙ x) olds mids news p q
