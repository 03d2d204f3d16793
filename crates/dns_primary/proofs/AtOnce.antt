-- No update is acknowledged at once.
use Rattle.std.proofs.Common.{◌≡◌, ◌⊎◌, ℕ, Bool, true, inl, inr, List, [], ◌∷◌, ◌++◌, map, Option, Some, None, refl, sym, subst, arith}
use Rattle.std.specs.Prelude.{slice_get, not, ◌==◌, ◌≢◌, if◌then◌else◌}
use Rattle.std.specs.List.{AllByRecursion}
use Rattle.std.specs.declared.net.ip_addr.IpAddr.{IpAddr}
use Rattle.dns_records.specs.Types.{type_soa, class_in}
use Rattle.dns_wire.specs.Message.{header_of}
use Rattle.dns_wire.specs.Text.{text}
use Rattle.dns_request.specs.Codes.{rcode_formerr, rcode_notauth, rcode_refused, rcode_servfail}
use Rattle.dns_request.specs.declared.request.Transport.TheVariants.{Udp, Tcp}
use Rattle.dns_answer.specs.Answer.{bare_reply, Handled, NoReply, Replies, Update, Transfer, handled}
use Rattle.dns_update.specs.Verdict.{Verdict, Refuses, Keeps, Leaves, verdict}
use Rattle.dns_versions.specs.Held.{newest_zone}
use Rattle.dns_versions.specs.Staging.{has_room}
use Rattle.dns_primary.specs.declared.event.Peer.{Peer}
use Rattle.dns_primary.specs.declared.event.To.{To}
use Rattle.dns_primary.specs.declared.event.To.TheVariants as to
use Rattle.dns_primary.specs.Machine.{ZoneState, Waits, Machine, kept_of, updates_of, peer_at, shown_zones}
use Rattle.dns_primary.specs.Flush.{Sent, Replied, flushed, flush_sends, flushed_zones, released}
use Rattle.dns_primary.specs.Update.{Asked, Admission, Rejects, Admits, admission, admission_in, admission_at, zone_position, newest_serial, waits, stages, judged_in, admitted, is_full, answer, room_lacked}
use Rattle.dns_primary.specs.Step.{Event, Datagram, Connect, Arrives, Flush, Checkpoint, Pump, Closed, IsUpdateBegun, IsUpdated, Effects, IsRequestHandled, IsArrived, Goes, Lacks, Step, is_asking, is_update, arrived_update, failure, failure_on, failures}
use Rattle.dns_primary.specs.Runs.{IsNoAcknowledgement, brings_update}
use Rattle.dns_primary.proofs.Zonewise.{tested}
use Rattle.dns_primary.proofs.Sound.{all_with}

abbrev AreRefusals : List Sent → Type 0
AreRefusals sent = AllByRecursion IsNoAcknowledgement sent

released_refuse : (zones : List ZoneState) (ws : List Waits) → AreRefusals (map (released zones) ws)
released_refuse zones [] = tt
released_refuse zones (w ∷ ws) = (tt, released_refuse zones ws)

flush_refuses : (fails : List Bool) (m : Machine) → AreRefusals (flush_sends fails m)
flush_refuses fails m = released_refuse (flushed_zones fails m.zones) m.waiting

-- what is refused before it is judged gets another code than NOERROR
abbrev IsRefusing : Admission → Type 0
IsRefusing (Rejects rcode) = rcode ≢ 0
IsRefusing (Admits index z) = Unit {0}

in_refuses : (address : IpAddr) (index : ℕ) (found : Option ZoneState) → IsRefusing (admission_in address index found)
in_refuses address index None = λ e. absurd (omega (arith, e))
in_refuses address index (Some z) =
    tested IsRefusing (not (z.setting.may_update address)) (Rejects rcode_refused) (if z.closed then Rejects rcode_servfail else Admits index z)
    (λ _. λ e. absurd (omega (arith, e)))
    (λ _. tested IsRefusing z.closed (Rejects rcode_servfail) (Admits index z) (λ _. λ e. absurd (omega (arith, e))) (λ _. tt))

at_refuses : (zones : List ZoneState) (address : IpAddr) (index : Option ℕ) → IsRefusing (admission_at zones address index)
at_refuses zones address None = λ e. absurd (omega (arith, e))
at_refuses zones address (Some index) = in_refuses address index (slice_get zones index)

admission_refuses : (zones : List ZoneState) (a : Asked) → IsRefusing (admission zones a)
admission_refuses zones a =
    tested IsRefusing (not (a.zone.qtype == type_soa)) (Rejects rcode_formerr)
    (if not (a.zone.qclass == class_in) then Rejects rcode_notauth else admission_at zones a.address (zone_position a.zone.name zones))
    (λ _. λ e. absurd (omega (arith, e)))
    (λ _. tested IsRefusing (not (a.zone.qclass == class_in)) (Rejects rcode_notauth) (admission_at zones a.address (zone_position a.zone.name zones))
    (λ _. λ e. absurd (omega (arith, e)))
    (λ _. at_refuses zones a.address (zone_position a.zone.name zones)))

judged_refuses : (m : Machine) (a : Asked) (index : ℕ) (z : ZoneState) (v : Verdict) → AreRefusals (judged_in m a index z v).1
judged_refuses m a index z (Refuses rcode) = tt
judged_refuses m a index z Keeps = tt
judged_refuses m a index z (Leaves records) =
    tested (λ (p : Machine × List Sent). AreRefusals p.1) (has_room (kept_of z) records) (stages m a index z records, []) (waits m a index rcode_servfail (newest_serial z) (updates_of z), [])
    (λ _. tt) (λ _. tt)

admitted_refuses : (m : Machine) (a : Asked) (d : Admission) → IsRefusing d → AreRefusals (admitted m a d).1
admitted_refuses m a (Rejects rcode) other = ((a.message.header, rcode, other, refl), tt)
admitted_refuses m a (Admits index z) other = judged_refuses m a index z (verdict (newest_zone (kept_of z)) a.message.answers a.message.authorities)

begun_refuses : (fails : List Bool) (m : Machine) (lacked : Option (ℕ × ℕ)) (first : Effects) (mid : Machine) → IsUpdateBegun fails m lacked first mid → AreRefusals first.sent
begun_refuses fails m None first mid g =
    subst AreRefusals (sym (g.1).sent)
    (tested (λ (p : Machine × List Sent). AreRefusals p.1) (is_full m) (flushed fails m, flush_sends fails m) (m, []) (λ _. flush_refuses fails m) (λ _. tt))
begun_refuses fails m (Some lacked) first mid g = subst AreRefusals (sym (g.4).sent) (flush_refuses g.0 m)

update_refuses : (fails : List Bool) (m : Machine) (a : Asked) (effects : Effects) (new : Machine) → IsUpdated fails m a effects new → AreRefusals effects.sent
update_refuses fails m a effects new u =
    subst AreRefusals (sym u.sent)
    (all_with IsNoAcknowledgement (u.first).sent (answer u.mid a).1 (begun_refuses fails m (room_lacked m a) u.first u.mid u.begun)
    (admitted_refuses u.mid a (admission (u.mid).zones a) (admission_refuses (u.mid).zones a)))

served_refuses : (fails : List Bool) (old : Machine) (to : To) (peer : Peer) (h : Handled) (effects : Effects) (new : Machine) → IsRequestHandled fails old to peer h effects new → is_update h ≡ true → AreRefusals effects.sent
served_refuses fails old to peer NoReply effects new g e = absurd (cc e)
served_refuses fails old to peer (Replies reply) effects new g e = absurd (cc e)
served_refuses fails old to peer (Update message question) effects new g e =
    update_refuses fails old (record { to = to; address = peer.address; message = message; zone = question }) effects new g
served_refuses fails old to peer (Transfer octets message question) effects new g e = absurd (cc e)

arrived_refuses : (fails : List Bool) (old : Machine) (number : ℕ) (peer : Option Peer) (octets : List ℕ) (effects : Effects) (new : Machine) → IsArrived fails old number peer octets effects new → arrived_update old peer octets ≡ true → AreRefusals effects.sent
arrived_refuses fails old number None octets effects new g e = absurd (cc e)
arrived_refuses fails old number (Some peer) octets effects new g e =
    served_refuses fails old (to.Connection number) peer (handled (shown_zones old) octets Tcp) effects new g e

event_refuses : (fails : List Bool) (old : Machine) (event : Event) (effects : Effects) (new : Machine) → Goes fails old event effects new → brings_update old event ≡ true → AreRefusals effects.sent
event_refuses fails old (Datagram peer octets) effects new g e = served_refuses fails old (to.Address peer) peer (handled (shown_zones old) octets Udp) effects new g e
event_refuses fails old (Connect peer) effects new g e = absurd (cc e)
event_refuses fails old (Arrives number octets) effects new g e = arrived_refuses fails old number (peer_at number old.connections) octets effects new g e
event_refuses fails old Flush effects new g e = absurd (cc e)
event_refuses fails old (Checkpoint index) effects new g e = absurd (cc e)
event_refuses fails old (Pump number) effects new g e = absurd (cc e)
event_refuses fails old (Closed number) effects new g e = absurd (cc e)

failure_refuses : (to : To) (octets : List ℕ) → AreRefusals (failure to octets)
failure_refuses to octets =
    tested AreRefusals (is_asking octets) (Replied to (text (bare_reply (header_of octets) rcode_servfail)) ∷ []) []
    (λ _. ((header_of octets, rcode_servfail, (λ e. absurd (omega (arith, e))), refl), tt))
    (λ _. tt)

failure_on_refuses : (number : ℕ) (peer : Option Peer) (octets : List ℕ) → AreRefusals (failure_on number peer octets)
failure_on_refuses number None octets = tt
failure_on_refuses number (Some peer) octets = failure_refuses (to.Connection number) octets

failures_refuse : (m : Machine) (event : Event) → AreRefusals (failures m event)
failures_refuse m (Datagram peer octets) = failure_refuses (to.Address peer) octets
failures_refuse m (Arrives number octets) = failure_on_refuses number (peer_at number m.connections) octets
failures_refuse m (Connect peer) = tt
failures_refuse m Flush = tt
failures_refuse m (Checkpoint index) = tt
failures_refuse m (Pump number) = tt
failures_refuse m (Closed number) = tt

lacks_refuses : (fails : List Bool) (old : Machine) (event : Event) (effects : Effects) (new : Machine) → Lacks fails old event effects new → AreRefusals effects.sent
lacks_refuses fails old event effects new l = elim (l.stays) [
  | inl c ↦ subst AreRefusals (sym c.2) (failures_refuse old event)
  | inr r ↦ elim r [
    | inl c ↦ subst AreRefusals (sym c.3) (all_with IsNoAcknowledgement (flush_sends fails old) (failures old event) (flush_refuses fails old) (failures_refuse old event))
    | inr c ↦ subst AreRefusals (sym c.4) (all_with IsNoAcknowledgement (c.1).sent (failures old event) (begun_refuses fails old (Some c.0) c.1 new c.3) (failures_refuse old event))
  ]
]

pub step_refuses : (fails : List Bool) (old : Machine) (event : Event) (effects : Effects) (new : Machine) → Step fails old event effects new → brings_update old event ≡ true → AreRefusals effects.sent
step_refuses fails old event effects new (inl g) e = event_refuses fails old event effects new g e
step_refuses fails old event effects new (inr l) e = lacks_refuses fails old event effects new l
