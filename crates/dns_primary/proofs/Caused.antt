-- What replies with SERVFAIL come of.
use Rattle.std.proofs.Common.{◌≡◌, ◌⊎◌, inl, inr, ⊎_elim, ◌<◌, ℕ, Bool, true, false, List, [], ◌∷◌, ◌++◌, length, map, Option, Some, None, Result, Ok, Err, refl, sym, ap, subst, ◌∙◌, arith, zero, suc}
use Rattle.std.specs.Prelude.{slice_get, not, ◌&&◌, ◌||◌, ◌==◌, ◌%◌, nat_le, nat_lt, is_none, is_some, option_map}
use Rattle.std.specs.List.{AllByRecursion, Contains}
use Rattle.std.proofs.lemmas.Bool.Decides.{nat_tests}
use Rattle.dns_records.specs.Record.{Record}
use Rattle.dns_records.specs.Types.{type_soa, type_ixfr, type_axfr, type_mailb, type_maila, class_in}
use Rattle.dns_wire.specs.Message.{Message, Question, header_of}
use Rattle.dns_wire.specs.Reading.{message_of}
use Rattle.dns_wire.specs.Codes.{number_of_rcode}
use Rattle.dns_wire.specs.declared.codes.Rcode.{Rcode}
use Rattle.dns_wire.specs.declared.codes.Rcode.TheVariants as rcode
use Rattle.dns_wire.specs.Text.{Reply, text}
use Rattle.dns_zone.specs.Zone.{Zone}
use Rattle.dns_lookup.specs.Lookup.{resolve, zone_of}
use Rattle.dns_request.specs.Codes.{rcode_formerr, rcode_notauth, rcode_notimp, rcode_nxdomain, rcode_refused, rcode_servfail}
use Rattle.dns_request.specs.Request as request
use Rattle.dns_request.specs.Request.{request_of, read_as, message_as, question_as, has_counts, too_long, opcode_query, opcode_update}
use Rattle.dns_request.specs.declared.request.Transport.{Transport}
use Rattle.dns_request.specs.declared.request.Transport.TheVariants.{Udp, Tcp}
use Rattle.dns_answer.specs.Fit.{by_udp_without_additional, failed, truncated, is_referral}
use Rattle.dns_answer.specs.Sections.{is_name_error}
use Rattle.dns_answer.specs.Answer.{answered, fitted, handled_as, reply_for, with_question}
use Rattle.dns_transfer.specs.Messages.{octets_with, message_with}
use Rattle.dns_transfer.specs.Refusal.{client_serial, is_malformed, refusal as refusal_by}
use Rattle.dns_transfer.specs.Session.{Sending, SendsBy}
use Rattle.dns_update.specs.Verdict.{Verdict, Refuses, Keeps, Leaves, verdict}
use Rattle.dns_versions.specs.Held.{newest_zone}
use Rattle.dns_versions.specs.Staging.{has_room}
use Rattle.dns_primary.specs.declared.event.Peer.{Peer}
use Rattle.dns_primary.specs.declared.event.To.{To}
use Rattle.dns_primary.specs.declared.event.To.TheVariants as to
use Rattle.dns_primary.specs.declared.event.Noted.TheVariants.{OutOfMemory}
use Rattle.dns_primary.specs.Machine.{Made, ZoneState, Waits, Machine, kept_of, updates_of, shown_zones, peer_at, sending_at}
use Rattle.dns_primary.specs.Flush.{Sent, Answered, Replied, flushed, flush_sends, released, is_closed_in}
use Rattle.dns_primary.specs.Connections.{without_connection}
use Rattle.dns_primary.specs.Update.{Asked, Admission, Rejects, Admits, admission, admission_at, admission_in, zone_position, newest_serial, waits, stages, replies, accepted_in, judged_in, admitted, is_full, made_place, answer, room_lacked}
use Rattle.dns_primary.specs.Transfer.{transfer_version, zone_named, transport_of, is_free, may_have, OpensFrom, refusal_of, TransferBegins, IsStarted, IsTransferred, IsSentOn, IsPumped}
use Rattle.dns_primary.specs.Step.{Event, Datagram, Connect, Arrives, Flush, Checkpoint, Pump, Closed, IsCheckpointed, IsUpdateBegun, IsUpdated, Effects, IsRequestHandled, IsArrived, Goes, Step}
use Rattle.dns_primary.specs.Runs.{IsReleasedFrom}
use Rattle.dns_primary.specs.Bounds.{IsBounded, IsForOpen}
use Rattle.dns_primary.specs.Causes.{code_of, IsForClosed, LacksRoom, UpdateCause, IsTooLong, RequestCause, ArrivedCause, EventCause, HasCause, Waited, HaveCauses}
use Rattle.dns_primary.proofs.Quiet.{IsQuiet, transferred_quiet, pumped_quiet}
use Rattle.dns_primary.proofs.Zonewise.{tested}
use Rattle.dns_primary.proofs.Sound.{all_with, all_more}
use Rattle.dns_primary.proofs.Released.{step_releases}
use Rattle.dns_primary.proofs.Verdicts.{either, OtherVerdict, other_verdict}

-- a reply at once
abbrev AtOnce : Type 0 → Sent → Type 0
AtOnce Cause (Answered w rcode) = Unit {0}
AtOnce Cause (Replied to octets) = code_of octets ≡ rcode_servfail → Cause

abbrev WaitsBy : Type 0 → Machine → Waits → Type 0
WaitsBy Cause old w = w.rcode ≡ rcode_servfail → Waited old w ⊎ Cause

-- what goes out at once, and what waits then
record Ended (Cause : Type 0) (old : Machine) (ended : Machine × List Sent) : Type 0 where
  sent : AllByRecursion (AtOnce Cause) ended.1
  waiting : AllByRecursion (WaitsBy Cause old) (ended.0).waiting

-- where an update is refused before it is judged
abbrev IsRefusal : Machine → Asked → Admission → Type 0
IsRefusal m a (Rejects rcode) = rcode % 16 ≡ 2 → IsForClosed m a
IsRefusal m a (Admits index z) = Unit {0}

none_there : (m : Machine) (a : Asked) (rcode : ℕ) → (rcode % 16 ≡ 2 → ⊥) → IsRefusal m a (Rejects rcode)
none_there m a rcode other e = absurd (other e)

refused_in : (m : Machine) (a : Asked) (index : ℕ) (o : Option ZoneState) → zone_position a.zone.name m.zones ≡ Some index → slice_get m.zones index ≡ o → IsRefusal m a (admission_in a.address index o)
refused_in m a index None named e = none_there m a rcode_notauth (λ f. omega (arith, f))
refused_in m a index (Some z) named e =
    either (IsRefusal m a) (not (z.setting.may_update a.address)) _ _ (none_there m a rcode_refused (λ f. omega (arith, f)))
    (tested (IsRefusal m a) z.closed (Rejects rcode_servfail) (Admits index z) (λ c f. record { index = index; zone = z; named = named; stands = e; closed = c }) (λ c. tt))

refused_at : (m : Machine) (a : Asked) (o : Option ℕ) → zone_position a.zone.name m.zones ≡ o → IsRefusal m a (admission_at m.zones a.address o)
refused_at m a None named = none_there m a rcode_notauth (λ f. omega (arith, f))
refused_at m a (Some index) named = refused_in m a index (slice_get m.zones index) named refl

refusal : (m : Machine) (a : Asked) → IsRefusal m a (admission m.zones a)
refusal m a =
    either (IsRefusal m a) (not (a.zone.qtype == type_soa)) _ _ (none_there m a rcode_formerr (λ f. omega (arith, f)))
    (either (IsRefusal m a) (not (a.zone.qclass == class_in)) _ _ (none_there m a rcode_notauth (λ f. omega (arith, f)))
    (refused_at m a (zone_position a.zone.name m.zones) refl))

abbrev AnswerCause : Machine → Asked → Type 0
AnswerCause m a = IsForClosed m a ⊎ LacksRoom m a

-- what waits already
abbrev AreWaiting : Type 0 → Machine → Machine → Type 0
AreWaiting Cause old m = AllByRecursion (WaitsBy Cause old) m.waiting

one_more : (Cause : Type 0) (old m : Machine) (a : Asked) (index rcode serial : ℕ) (updates : List Made) → AreWaiting Cause old m → (rcode ≡ 2 → Cause) → Ended Cause old (waits m a index rcode serial updates, [])
one_more Cause old m a index rcode serial updates before cause = record { sent = tt; waiting = all_more (WaitsBy Cause old) m.waiting _ before (λ e. inr (cause e)) }

at_once : (Cause : Type 0) (old m : Machine) (a : Asked) (rcode : ℕ) → AreWaiting Cause old m → (rcode % 16 ≡ 2 → Cause) → Ended Cause old (m, replies a rcode ∷ [])
at_once Cause old m a rcode before cause = record { sent = (cause, tt); waiting = before }

ends_accepted : (old m : Machine) (a : Asked) (index : ℕ) (z : ZoneState) (records : List Record) → AreWaiting (AnswerCause m a) old m → admission m.zones a ≡ Admits index z
    → verdict (newest_zone (kept_of z)) a.message.answers a.message.authorities ≡ Leaves records → Ended (AnswerCause m a) old (accepted_in m a index z records)
ends_accepted old m a index z records before admits leaves =
    let Cause = AnswerCause m a in
    tested (Ended Cause old) (has_room (kept_of z) records) (stages m a index z records, []) (waits m a index rcode_servfail (newest_serial z) (updates_of z), [])
    (λ _. record { sent = tt; waiting = all_more (WaitsBy Cause old) m.waiting _ before (λ e. absurd (omega (arith, e))) })
    (λ none. one_more Cause old m a index rcode_servfail (newest_serial z) (updates_of z) before (λ _. inr (record { index = index; zone = z; records = records; admits = admits; leaves = leaves; room = none })))

ends_judged : (old m : Machine) (a : Asked) (index : ℕ) (z : ZoneState) (v : Verdict) → AreWaiting (AnswerCause m a) old m → admission m.zones a ≡ Admits index z
    → verdict (newest_zone (kept_of z)) a.message.answers a.message.authorities ≡ v → OtherVerdict v → Ended (AnswerCause m a) old (judged_in m a index z v)
ends_judged old m a index z (Refuses rcode) before admits is other = one_more (AnswerCause m a) old m a index (number_of_rcode rcode) (newest_serial z) (updates_of z) before (λ e. absurd (other e))
ends_judged old m a index z Keeps before admits is other = one_more (AnswerCause m a) old m a index 0 (newest_serial z) (updates_of z) before (λ e. absurd (omega (arith, e)))
ends_judged old m a index z (Leaves records) before admits is other = ends_accepted old m a index z records before admits is

ends_admitted : (old m : Machine) (a : Asked) (d : Admission) → AreWaiting (AnswerCause m a) old m → admission m.zones a ≡ d → IsRefusal m a d → Ended (AnswerCause m a) old (admitted m a d)
ends_admitted old m a (Rejects rcode) before is closed = at_once (AnswerCause m a) old m a rcode before (λ e. inl (closed e))
ends_admitted old m a (Admits index z) before is closed =
    ends_judged old m a index z (verdict (newest_zone (kept_of z)) a.message.answers a.message.authorities) before is refl (other_verdict (newest_zone (kept_of z)) a.message.answers a.message.authorities)

-- what waits stays
waited : (old : Machine) (ws : List Waits) → ((w : Waits) → Contains ws w → Contains old.waiting w) → (Cause : Type 0) → AllByRecursion (WaitsBy Cause old) ws
waited old [] there Cause = tt
waited old (w ∷ ws) there Cause = (
  λ e. inl (record { before = w; there = there w (0, omega arith, refl); is = refl }),
  waited old ws (λ x h. there x (suc h.0, omega (arith, h.1), h.2)) Cause,
)

waited_all : (old : Machine) (Cause : Type 0) → AreWaiting Cause old old
waited_all old Cause = waited old old.waiting (λ w h. h) Cause

none_at_once : (Cause : Type 0) (zones : List ZoneState) (ws : List Waits) → AllByRecursion (AtOnce Cause) (map (released zones) ws)
none_at_once Cause zones [] = tt
none_at_once Cause zones (w ∷ ws) = (tt, none_at_once Cause zones ws)

begins : (fails : List Bool) (m : Machine) (Cause : Type 0) → Ended Cause m (made_place fails m)
begins fails m Cause =
    either (Ended Cause m) (is_full m) (flushed fails m, flush_sends fails m) (m, [])
    (record { sent = none_at_once Cause _ m.waiting; waiting = tt })
    (record { sent = tt; waiting = waited_all m Cause })

reaches : (Cause : Type 0) (old new next : Machine) (sent out : List Sent) → new ≡ next → sent ≡ out → Ended Cause old (next, out) → Ended Cause old (new, sent)
reaches Cause old new next sent out e f p = subst (λ (x : Machine × List Sent). Ended Cause old x) (λ i. (sym e i, sym f i)) p

begun_ends : (fails : List Bool) (m : Machine) (lacked : Option (ℕ × ℕ)) (first : Effects) (mid : Machine) (Cause : Type 0) → IsUpdateBegun fails m lacked first mid → Ended Cause m (mid, first.sent)
begun_ends fails m None first mid Cause g = reaches Cause m mid (made_place fails m).0 first.sent (made_place fails m).1 (g.1).state (g.1).sent (begins fails m Cause)
begun_ends fails m (Some lacked) first mid Cause g = reaches Cause m mid _ first.sent (flush_sends g.0 m) (g.3).is (g.4).sent (record { sent = none_at_once _ _ m.waiting; waiting = tt })

-- with a cause that follows from it
all_over : {X : Type 0} (P Q : X → Type 0) → ((x : X) → P x → Q x) → (xs : List X) → AllByRecursion P xs → AllByRecursion Q xs
all_over P Q over [] h = tt
all_over P Q over (x ∷ xs) h = (over x h.0, all_over P Q over xs h.1)

module _ (First Second : Type 0) (over : First → Second) (old : Machine) where
  at_over : (one : Sent) → AtOnce First one → AtOnce Second one
  at_over (Answered w rcode) h = tt
  at_over (Replied to octets) h = λ e. over (h e)

  ended_over : (ended : Machine × List Sent) → Ended First old ended → Ended Second old ended
  ended_over ended h = record {
    sent = all_over (AtOnce First) (AtOnce Second) at_over ended.1 h.sent;
    waiting = all_over (WaitsBy First old) (WaitsBy Second old) (λ w wait e. ⊎_elim (λ before. inl before) (λ cause. inr (over cause)) (wait e)) (ended.0).waiting h.waiting;
  }

ends_updated : (fails : List Bool) (m : Machine) (a : Asked) (effects : Effects) (new : Machine) → IsUpdated fails m a effects new → Ended (UpdateCause fails m a) m (new, effects.sent)
ends_updated fails m a effects new u =
    let Cause = AnswerCause u.mid a in
    let ended = answer u.mid a in
    let begun = begun_ends fails m (room_lacked m a) u.first u.mid Cause u.begun in
    let here = ends_admitted m u.mid a (admission (u.mid).zones a) begun.waiting refl (refusal u.mid a) in
    reaches (UpdateCause fails m a) m new ended.0 effects.sent ((u.first).sent ++ ended.1) u.state u.sent
    (ended_over Cause (UpdateCause fails m a) (λ c. record { first = u.first; mid = u.mid; begun = u.begun; cause = c }) m (ended.0, (u.first).sent ++ ended.1)
    (record { sent = all_with (AtOnce Cause) (u.first).sent ended.1 begun.sent here.sent; waiting = here.waiting }))

-- the codes of requests that are refused
abbrev IsOtherRequest : request.Request → Type 0
IsOtherRequest (request.Refused rcode) = rcode % 16 ≡ 2 → ⊥
IsOtherRequest (request.NotServed m q rcode) = rcode % 16 ≡ 2 → ⊥
IsOtherRequest request.Ignored = Unit {0}
IsOtherRequest (request.Query m q) = Unit {0}
IsOtherRequest (request.Update m q) = Unit {0}
IsOtherRequest (request.Transfer m q) = Unit {0}

formerr : IsOtherRequest (request.Refused rcode_formerr)
formerr e = omega (arith, e)

notimp : (m : Message) (q : Question) → IsOtherRequest (request.NotServed m q rcode_notimp)
notimp m q e = omega (arith, e)

refused : (m : Message) (q : Question) → IsOtherRequest (request.NotServed m q rcode_refused)
refused m q e = omega (arith, e)

other_question : (m : Message) (q : Question) → IsOtherRequest (question_as m q)
other_question m q =
    either IsOtherRequest (m.header.opcode == opcode_update) _ _ tt
    (either IsOtherRequest (q.qtype == type_ixfr || q.qtype == type_axfr) _ _ tt
    (either IsOtherRequest (q.qtype == type_mailb || q.qtype == type_maila) _ _ (notimp m q)
    (either IsOtherRequest (not (q.qclass == class_in)) _ _ (refused m q) tt)))

other_message : (m : Message) (qs : List Question) → IsOtherRequest (message_as m qs)
other_message m [] = formerr
other_message m (q ∷ []) = either IsOtherRequest (has_counts m q) _ _ (other_question m q) formerr
other_message m (q ∷ r ∷ rest) = formerr

other_read : (o : Option Message) → IsOtherRequest (read_as o)
other_read None = formerr
other_read (Some m) = other_message m m.questions

other_request : (octets : List ℕ) (transport : Transport) → IsOtherRequest (request_of octets transport)
other_request octets transport =
    either IsOtherRequest (nat_lt (length octets) 12 || (header_of octets).qr) _ _ tt
    (either IsOtherRequest (not ((header_of octets).opcode == opcode_query || (header_of octets).opcode == opcode_update)) _ _ (λ e. omega (arith, e))
    (either IsOtherRequest (too_long transport octets) _ _ formerr (other_read (message_of octets))))

-- the code of a reply that is fitted
by_test : (P : List ℕ → Type 0) (b : Bool) (x y : List ℕ) → (b ≡ true → P x) → (b ≡ false → P y) → P (elim b [ true ↦ x | false ↦ y ])
by_test P true x y f g = f refl
by_test P false x y f g = g refl

over : (n : ℕ) → nat_le n 65535 ≡ false → 65535 < n
over n e = grind (arith, nat_tests, e)

fits : (transport : Transport) (r : Reply) → (r.rcode % 16 ≡ 2 → ⊥) → code_of (fitted transport r) ≡ 2 → IsTooLong transport r
fits Udp r other =
    let P = λ (octets : List ℕ). code_of octets ≡ 2 → IsTooLong Udp r in
    by_test P (nat_le (length (text r)) 512) (text r) (by_udp_without_additional r) (λ _ e. absurd (other e))
    (λ _. by_test P (not (is_referral r) && nat_le (length (text (record r { additional = [] }))) 512) (text (record r { additional = [] })) (truncated r) (λ _ e. absurd (other e)) (λ _ e. absurd (other e)))
fits Tcp r other =
    by_test (λ (octets : List ℕ). code_of octets ≡ 2 → IsTooLong Tcp r) (nat_le (length (text r)) 65535) (text r) (failed r) (λ _ e. absurd (other e)) (λ long e. (refl, over (length (text r)) long))

other_answer : (zones : List Zone) (octets : List ℕ) (m : Message) (q : Question) → (answered zones octets m q).rcode % 16 ≡ 2 → ⊥
other_answer zones octets m q =
    either (λ (r : Reply). r.rcode % 16 ≡ 2 → ⊥) (is_none (zone_of zones q.name)) (with_question octets m q rcode_refused) (reply_for octets m q (resolve zones q.name q.qtype)) (λ e. omega (arith, e))
    (either (λ (n : ℕ). n % 16 ≡ 2 → ⊥) (is_name_error (resolve zones q.name q.qtype)) rcode_nxdomain 0 (λ e. omega (arith, e)) (λ e. omega (arith, e)))

-- what an event leaves
one_reply : (Cause : Type 0) (old : Machine) (to : To) (octets : List ℕ) → (code_of octets ≡ 2 → Cause) → Ended Cause old (old, Replied to octets ∷ [])
one_reply Cause old to octets cause = record { sent = (cause, tt); waiting = waited_all old Cause }

-- what goes out by a transfer has NOERROR, or the code of a refusal
no_error : (message out : List ℕ) → code_of message ≡ 0 → out ≡ message → code_of out ≡ 2 → ⊥
no_error message out zero_is is e = omega (arith, zero_is, ap code_of (sym is), e)

sends_by : (transport : Transport) (s : Sending) (message : List ℕ) (rest : List Record) → SendsBy transport s message rest → code_of message ≡ 2 → ⊥
sends_by Tcp s message rest h = no_error (octets_with s.heading s.question h.sent) message refl h.packed
sends_by Udp s message rest h =
    let whole = octets_with s.heading s.question s.left in
    let alone = octets_with s.heading s.question (s.soa ∷ []) in
    let cut = text (record (message_with s.heading s.question []) { tc = true }) in
    let P = λ (octets : List ℕ). message ≡ octets → code_of message ≡ 2 → ⊥ in
    by_test P (nat_le (length whole) 512) whole (elim (nat_le (length alone) 512) [ true ↦ alone | false ↦ cut ]) (λ _ is. no_error whole message refl is)
    (λ _. by_test P (nat_le (length alone) 512) alone cut (λ _ is. no_error alone message refl is) (λ _ is. no_error cut message refl is)) h.0

same_waiting : (Cause : Type 0) (old new : Machine) (sent : List Sent) → IsQuiet old sent new → AllByRecursion (AtOnce Cause) sent → Ended Cause old (new, sent)
same_waiting Cause old new sent q out = record { sent = out; waiting = subst (λ (ws : List Waits). AllByRecursion (WaitsBy Cause old) ws) (sym q.waiting) (waited_all old Cause) }

one_sent : (Cause : Type 0) (to : To) (octets : List ℕ) (sent : List Sent) → sent ≡ Replied to octets ∷ [] → (code_of octets ≡ 2 → Cause) → AllByRecursion (AtOnce Cause) sent
one_sent Cause to octets sent is cause = subst (λ (l : List Sent). AllByRecursion (AtOnce Cause) l) (sym is) (cause, tt)

none_sent : (Cause : Type 0) (sent : List Sent) → sent ≡ [] → AllByRecursion (AtOnce Cause) sent
none_sent Cause sent is = subst (λ (l : List Sent). AllByRecursion (AtOnce Cause) l) (sym is) tt

abbrev IsOtherCode : Option ℕ → Type 0
IsOtherCode None = Unit {0}
IsOtherCode (Some n) = n % 16 ≡ 2 → ⊥

other_code : (n : ℕ) → (n % 16 ≡ 2 → ⊥) → IsOtherCode (Some n)
other_code n other = other

other_refusal : (transport : Transport) (q : Question) (client : Option ℕ) (held allowed : Bool) → IsOtherCode (refusal_by transport q client held allowed)
other_refusal transport q client held allowed =
    either IsOtherCode (is_malformed transport q client) _ _ (other_code rcode_formerr (λ e. omega (arith, e)))
    (either IsOtherCode (not (q.qclass == class_in) || not held) _ _ (other_code rcode_notauth (λ e. omega (arith, e)))
    (either IsOtherCode (not allowed) _ _ (other_code rcode_refused (λ e. omega (arith, e))) tt))

refusal_code : (to : To) (octets : List ℕ) (m : Message) (q : Question) (rcode : Rcode) → (number_of_rcode rcode % 16 ≡ 2 → ⊥) → code_of (refusal_of (transport_of to) octets m q rcode) ≡ 2
    → (n : ℕ) × IsTooLong (transport_of to) (with_question octets m q n)
refusal_code to octets m q rcode.FormErr other e = absurd (other e)
refusal_code to octets m q rcode other e = (number_of_rcode rcode, fits (transport_of to) (with_question octets m q (number_of_rcode rcode)) other e)

begun_codes : (Cause : Type 0) (old : Machine) (to : To) (s : Sending) (out : List Sent) (next : Machine) → TransferBegins old to s out next → AllByRecursion (AtOnce Cause) out
begun_codes Cause old (to.Connection number) s out next h = none_sent Cause out h.0
begun_codes Cause old (to.Address peer) s out next h = one_sent Cause (to.Address peer) h.0 out h.3 (λ e. absurd (sends_by s.transport s h.0 (h.1).left (h.2).1 e))
begun_codes Cause old to.Nowhere s out next h = none_sent Cause out h.0

started_codes : (old : Machine) (to : To) (peer : Peer) (octets : List ℕ) (m : Message) (q : Question) (r : Result Sending Rcode) (out : List Sent) (next : Machine) → OpensFrom old to peer octets m q r → IsStarted old to octets m q r out next
    → AllByRecursion (AtOnce ((n : ℕ) × IsTooLong (transport_of to) (with_question octets m q n))) out
started_codes old to peer octets m q (Ok s) out next o h = begun_codes _ old to s out next h
started_codes old to peer octets m q (Err rcode) out next o h =
    one_sent _ to (refusal_of (transport_of to) octets m q rcode) out h.0
    (refusal_code to octets m q rcode
    (subst IsOtherCode o (other_refusal (transport_of to) q (client_serial q m.authorities) (is_some (option_map transfer_version (zone_named q.name old.zones))) (may_have peer.address (zone_named q.name old.zones) && is_free to old.connections))))

transferred : (old : Machine) (to : To) (peer : Peer) (octets : List ℕ) (m : Message) (q : Question) (out : List Sent) (next : Machine) → IsTransferred old to peer octets m q out next
    → Ended ((n : ℕ) × IsTooLong (transport_of to) (with_question octets m q n)) old (next, out)
transferred old to peer octets m q out next h =
    same_waiting _ old next out (transferred_quiet old to peer octets m q out next h) (started_codes old to peer octets m q h.0 out next h.1 h.2)

sent_codes : (old : Machine) (number : ℕ) (s : Sending) (left : List Record) (out : List Sent) (next : Machine) → IsSentOn old number s left out next → AllByRecursion (AtOnce ⊥) out
sent_codes old number s [] out next h = none_sent ⊥ out h.0
sent_codes old number s (r ∷ left) out next h = one_sent ⊥ (to.Connection number) h.0 out h.3 (sends_by s.transport s h.0 (h.1).left (h.2).1)

pumped_codes : (old : Machine) (number : ℕ) (s : Option Sending) (out : List Sent) (next : Machine) → IsPumped old number s out next → AllByRecursion (AtOnce ⊥) out
pumped_codes old number None out next h = none_sent ⊥ out h.0
pumped_codes old number (Some s) out next h = sent_codes old number s s.left out next h

pumped : (old : Machine) (number : ℕ) (s : Option Sending) (out : List Sent) (next : Machine) → IsPumped old number s out next → Ended ⊥ old (next, out)
pumped old number s out next h = same_waiting ⊥ old next out (pumped_quiet old number s out next h) (pumped_codes old number s out next h)

served : (fails : List Bool) (old : Machine) (to : To) (peer : Peer) (octets : List ℕ) (transport : Transport) (r : request.Request) (effects : Effects) (new : Machine) → IsOtherRequest r
    → IsRequestHandled fails old to peer (handled_as (shown_zones old) octets transport r) effects new → Ended (RequestCause fails old to peer octets transport r) old (new, effects.sent)
served fails old to peer octets transport request.Ignored effects new other g =
    reaches _ old new old effects.sent [] (g.1).state (g.1).sent (record { sent = tt; waiting = waited_all old _ })
served fails old to peer octets transport (request.Refused rcode) effects new other g =
    reaches _ old new old effects.sent _ (g.1).state (g.1).sent (one_reply _ old to _ other)
served fails old to peer octets transport (request.NotServed m q rcode) effects new other g =
    reaches _ old new old effects.sent _ (g.1).state (g.1).sent (one_reply _ old to _ (fits transport (with_question octets m q rcode) other))
served fails old to peer octets transport (request.Query m q) effects new other g =
    reaches _ old new old effects.sent _ (g.1).state (g.1).sent (one_reply _ old to _ (fits transport (answered (shown_zones old) octets m q) (other_answer (shown_zones old) octets m q)))
served fails old to peer octets transport (request.Update m q) effects new other g =
    ends_updated fails old (record { to = to; address = peer.address; message = m; zone = q }) effects new g
served fails old to peer octets transport (request.Transfer m q) effects new other g = transferred old to peer octets m q effects.sent new g.1

arrived : (fails : List Bool) (old : Machine) (number : ℕ) (peer : Option Peer) (octets : List ℕ) (effects : Effects) (new : Machine) → IsArrived fails old number peer octets effects new
    → Ended (ArrivedCause fails old number peer octets) old (new, effects.sent)
arrived fails old number None octets effects new g = reaches _ old new old effects.sent [] (g.1).state (g.1).sent (record { sent = tt; waiting = waited_all old _ })
arrived fails old number (Some peer) octets effects new g = served fails old (to.Connection number) peer octets Tcp (request_of octets Tcp) effects new (other_request octets Tcp) g

redirected : (Cause : Type 0) (old : Machine) (number : ℕ) (ws : List Waits) → ((w : Waits) → Contains ws w → Contains old.waiting w)
    → AllByRecursion (WaitsBy Cause old) (map (λ (w : Waits). record w { to = without_connection number w.to }) ws)
redirected Cause old number [] there = tt
redirected Cause old number (w ∷ ws) there = (
  λ e. inl (record { before = w; there = there w (0, omega arith, refl); is = refl }),
  redirected Cause old number ws (λ x h. there x (suc h.0, omega (arith, h.1), h.2)),
)

checkpointed : (fails : List Bool) (old : Machine) (index : ℕ) (o : Option ZoneState) (effects : Effects) (new : Machine) → IsCheckpointed fails old index o effects new → Ended ⊥ old (new, effects.sent)
checkpointed fails old index None effects new g = reaches _ old new old effects.sent [] (g.1).state (g.1).sent (record { sent = tt; waiting = waited_all old _ })
checkpointed fails old index (Some z) effects new g =
    reaches _ old new _ effects.sent (flush_sends g.0 old) (g.3).is (g.4).sent (record { sent = none_at_once _ _ old.waiting; waiting = tt })

goes : (fails : List Bool) (old : Machine) (event : Event) (effects : Effects) (new : Machine) → Goes fails old event effects new → Ended (EventCause fails old event) old (new, effects.sent)
goes fails old (Datagram peer octets) effects new g = served fails old (to.Address peer) peer octets Udp (request_of octets Udp) effects new (other_request octets Udp) g
goes fails old (Connect peer) effects new g = elim (g.1) [
  | inl c ↦ reaches _ old new _ effects.sent [] c.state (ap (λ (x : Effects). x.sent) c.reported) (record { sent = tt; waiting = waited_all old _ })
  | inr c ↦ reaches _ old new old effects.sent [] (c.1).state (c.1).sent (record { sent = tt; waiting = waited_all old _ })
]
goes fails old (Arrives number octets) effects new g = arrived fails old number (peer_at number old.connections) octets effects new g
goes fails old Flush effects new g = reaches _ old new (flushed fails old) effects.sent (flush_sends fails old) (g.1).state (g.1).sent (record { sent = none_at_once _ _ old.waiting; waiting = tt })
goes fails old (Checkpoint index) effects new g = checkpointed fails old index (slice_get old.zones index) effects new g
goes fails old (Pump number) effects new g = pumped old number (sending_at number old.connections) effects.sent new g.1
goes fails old (Closed number) effects new g = reaches _ old new _ effects.sent [] (g.1).state (g.1).sent (record { sent = tt; waiting = redirected _ old number old.waiting (λ w h. h) })

-- those that waited
found : (zones : List ZoneState) (ws : List Waits) (w : Waits) → AllByRecursion (IsForOpen zones) ws → Contains ws w → IsForOpen zones w
found zones [] w all (k, small, is) = absurd (omega (arith, small))
found zones (x ∷ ws) w all (zero, small, is) = subst (IsForOpen zones) is all.0
found zones (x ∷ ws) w all (suc k, small, is) = found zones ws w all.1 (k, omega (arith, small), is)

released_by : (was closed : Bool) (w : Waits) (rcode : ℕ) → was ≡ false → (rcode ≡ w.rcode) ⊎ ((rcode ≡ rcode_servfail) × (closed ≡ true)) → rcode ≡ 2
    → (w.rcode ≡ 2) ⊎ ((was ≡ false) × (closed ≡ true))
released_by was closed w rcode opened (inl is) e = inl (sym is ∙ e)
released_by was closed w rcode opened (inr is) e = inr (opened, is.1)

joined : (fails : List Bool) (old : Machine) (event : Event) (new : Machine) (sent : List Sent) → AllByRecursion (IsForOpen old.zones) old.waiting → AllByRecursion (IsReleasedFrom old new) sent
    → AllByRecursion (AtOnce (EventCause fails old event)) sent → AllByRecursion (HasCause fails old event new) sent
joined fails old event new [] opened p q = tt
joined fails old event new (Answered w rcode ∷ sent) opened p q = (
  released_by (is_closed_in (slice_get old.zones w.zone)) (is_closed_in (slice_get new.zones w.zone)) w rcode (found old.zones old.waiting w opened (p.0).0) (p.0).1,
  joined fails old event new sent opened p.1 q.1,
)
joined fails old event new (Replied to octets ∷ sent) opened p q = (q.0, joined fails old event new sent opened p.1 q.1)

pub step_caused : (fails : List Bool) (old : Machine) (event : Event) (effects : Effects) (new : Machine) → IsBounded old → Step fails old event effects new → (effects.noted ≡ OutOfMemory → ⊥)
    → HaveCauses fails old event effects.sent new
step_caused fails old event effects new bounded (inl g) some =
    let ended = goes fails old event effects new g in
    record { sent = joined fails old event new effects.sent bounded.opened (step_releases fails old event effects new (inl g)) ended.sent; waiting = ended.waiting }
step_caused fails old event effects new bounded (inr l) some = absurd (some l.noted)
