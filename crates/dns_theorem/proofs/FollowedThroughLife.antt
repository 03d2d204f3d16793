-- Transfers in a life are followed, by TCP and by UDP.
use Rattle.std.proofs.Common.{◌≡◌, ◌≢◌, inl, inr, ℕ, suc, Bool, true, false, List, [], ◌∷◌, ◌++◌, length, Option, Some, None, Result, Ok, Err, refl, sym, ap, subst, ◌∙◌}
use Rattle.std.specs.Prelude.{◌&&◌, is_some, option_map}
use Rattle.std.specs.declared.net.ip_addr.IpAddr.{IpAddr}
use Rattle.std.specs.List.{AllByRecursion}
use Rattle.dns_records.specs.Record.{Record, IsRecord}
use Rattle.dns_serial.specs.Serial.{greater}
use Rattle.dns_zone.specs.Zone.{Zone, IsZone, soas}
use Rattle.dns_changes.specs.Version.{serial_in}
use Rattle.dns_names.specs.Name.{Labels}
use Rattle.dns_wire.specs.Message.{Question, Message, header_of}
use Rattle.dns_wire.specs.Reading.{message_of}
use Rattle.dns_wire.specs.declared.codes.Rcode.{Rcode}
use Rattle.dns_wire.specs.Codes.{number_of_rcode}
use Rattle.dns_request.specs.declared.request.Transport.TheVariants.{Udp}
use Rattle.dns_answer.specs.Answer.{Handled, Transfer}
use Rattle.dns_transfer.specs.Refusal.{client_serial, refusal, serial_asked}
use Rattle.dns_transfer.specs.Session.{Sending, SendsBy, Version, IsTransferOpened}
use Rattle.dns_update.proofs.Accepted.{IsSent}
use Rattle.dns_secondary.specs.Receiving.{Receiving}
use Rattle.dns_secondary.specs.Request.{question_asked, soas_held}
use Rattle.dns_store.specs.Versions.{newest_after, shown_of}
use Rattle.dns_versions.specs.Each.{Each2}
use Rattle.dns_primary.specs.declared.event.Peer.{Peer}
use Rattle.dns_primary.specs.declared.event.To.TheVariants.{Address}
use Rattle.dns_primary.specs.declared.event.Noted.TheVariants.{OutOfMemory}
use Rattle.dns_primary.specs.Machine.{Made, ZoneState, Machine, kept_of, updates_of, versions_of, shown_zones}
use Rattle.dns_primary.specs.Flush.{Replied}
use Rattle.dns_primary.specs.Transfer.{OpensFrom, IsStarted, TransferBegins, may_have, transfer_version, zone_named}
use Rattle.dns_primary.specs.Step.{Datagram, Effects, IsRequestHandled, Step}
use Rattle.dns_primary.specs.Runs.{Lasts, AllLast}
use Rattle.dns_primary.proofs.Zonewise.{versions_joined}
use Rattle.dns_theorem.specs.Versions.{LeadTo}
use Rattle.dns_theorem.specs.Copies.{IsFollowed, FollowsInOrder, serial_held}
use Rattle.dns_primary.proofs.Stopping.{fresh_keeps, resumed_keeps}
use Rattle.dns_primary.specs.Runs.{HasHistory}
use Rattle.dns_theorem.specs.Headline.{IsSoundZone, BeginsLoaded, BeginsResumed, IsSoundState, WasRead}
use Rattle.dns_theorem.specs.Lives.{Act, Ran, Loaded, Reopened, machine_after_act, Life, end_of_life, BringsBy, CameAlong, LoadsBy, LoadedAlong, IsVersionOf, AreVersionsOf, HasGrown, StaysTrueOf}
use Rattle.dns_theorem.specs.Followed.{AreSoundVersions, HasSoundVersions, BeginsSoundly, IsSoundAct, TransfersAreFollowedThroughLife, AsksByUdp, IsAskedOf, DatagramsAreFollowed}
use Rattle.dns_theorem.proofs.Chains.{last_zone}
use Rattle.dns_theorem.proofs.Chained.{AreSent, Leads, leads_on, accepted_sound, sound_front, sound_joined}
use Rattle.dns_theorem.proofs.Fed.{IsSessionFor, session_is_followed}
use Rattle.dns_theorem.proofs.Followed.{brought, known_one, loaded_soundly, tells, was_sent}
use Rattle.dns_theorem.proofs.Lived.{life_leaves, start_rests}
use Rattle.dns_theorem.proofs.Read.{transfer_came, transfer_read}
use Rattle.dns_theorem.proofs.Requests.{IsAsked, TellsSerial, asked_by, tells_serial, session_for, some_left}
use Rattle.dns_theorem.proofs.Shown.{IsFewSoas, apex_is, held_few, held_is_followed, kept, kept_leads, known}

-- ---- the versions of a life are sound
brought_by : (m : Machine) (act : Act) (z : ZoneState) (u : Message) → IsSoundAct act → BringsBy m act z u → AllByRecursion IsSent u.authorities
brought_by m (Ran moment) z u o b = brought m moment z u o b
brought_by m (Loaded index file new) z u o b = absurd b
brought_by m (Reopened index new) z u o b = absurd b

came_sent : (m : Machine) (life : List Act) (z : ZoneState) (u : Message) → AllByRecursion IsSoundAct life → CameAlong m life z u → AllByRecursion IsSent u.authorities
came_sent m [] z u o c = absurd c
came_sent m (act ∷ rest) z u o (inl b) = brought_by m act z u o.0 b
came_sent m (act ∷ rest) z u o (inr c) = came_sent (machine_after_act act) rest z u o.1 c

loads_valid : (m : Machine) (act : Act) (z : ZoneState) (rs : List Record) → IsSoundAct act → LoadsBy m act z rs → AllByRecursion IsRecord rs
loads_valid m (Ran moment) z rs o b = absurd b
loads_valid m (Loaded index file new) z rs o b = subst (AllByRecursion IsRecord) (sym b.0) o
loads_valid m (Reopened index new) z rs o b = absurd b

loaded_valid : (m : Machine) (life : List Act) (z : ZoneState) (rs : List Record) → AllByRecursion IsSoundAct life → LoadedAlong m life z rs → AllByRecursion IsRecord rs
loaded_valid m [] z rs o c = absurd c
loaded_valid m (act ∷ rest) z rs o (inl b) = loads_valid m act z rs o.0 b
loaded_valid m (act ∷ rest) z rs o (inr c) = loaded_valid (machine_after_act act) rest z rs o.1 c

version_sound : (start : Machine) (life : List Act) (z : ZoneState) (n : ℕ) (before : List Record) (m : Made) → AllByRecursion IsSoundAct life
    → IsZone (record { apex = z.setting.shape.apex; records = before }) → AllByRecursion IsRecord before → IsVersionOf start life z n before m
    → IsSoundZone (record { apex = z.setting.shape.apex; records = m.records }) × (greater (serial_in (soas m.records)) (serial_in (soas before)) ≡ true)
version_sound start life z n before m o valid each (inl (a, came)) = accepted_sound z.setting.shape n before m valid each a (came_sent start life z m.update o came)
version_sound start life z n before m o valid each (inr (f, loaded)) = (record { valid = f.valid; each = loaded_valid start life z m.records o loaded }, f.raised)

versions_sound : (start : Machine) (life : List Act) (z : ZoneState) (n : ℕ) (before : List Record) (later : List Made) → AllByRecursion IsSoundAct life
    → IsZone (record { apex = z.setting.shape.apex; records = before }) → AllByRecursion IsRecord before → AreVersionsOf start life z n before later
    → AreSoundVersions z.setting.shape.apex before (versions_of later)
versions_sound start life z n before [] o valid each h = tt
versions_sound start life z n before (m ∷ later) o valid each h =
    let one = version_sound start life z n before m o valid each h.0 in
    (one.0, one.1, versions_sound start life z (suc n) m.records later o (one.0).valid (one.0).each h.1)

grown_sound : (start : Machine) (life : List Act) (z w : ZoneState) → AllByRecursion IsSoundAct life → HasSoundVersions z → Lasts z w → HasGrown start life z w → HasSoundVersions w
grown_sound start life z w o k l g =
    let apex : z.setting.shape.apex ≡ w.setting.shape.apex = sym (ap (λ s. s.apex) l.shape) in
    let records : z.loaded ≡ w.loaded = sym l.loaded in
    let loaded : IsSoundZone (record { apex = w.setting.shape.apex; records = w.loaded }) = subst IsSoundZone (λ i. record { apex = apex i; records = records i }) k.loaded in
    let had : AreSoundVersions w.setting.shape.apex w.loaded (versions_of z.shown) =
    subst (λ (a : Labels). AreSoundVersions a w.loaded (versions_of z.shown)) apex
    (subst (λ (rs : List Record). AreSoundVersions z.setting.shape.apex rs (versions_of z.shown)) records k.shown) in
    let first : Leads w.setting.shape.apex w.loaded (versions_of z.shown) = leads_on w.setting.shape.apex w.loaded (versions_of z.shown) loaded.valid loaded.each had in
    let since : AreVersionsOf start life w (length z.shown) (newest_after w.loaded (versions_of z.shown)) g.later =
    subst (λ (rs : List Record). AreVersionsOf start life w (length z.shown) (newest_after rs (versions_of z.shown)) g.later) records g.versions in
    let more = versions_sound start life w (length z.shown) (newest_after w.loaded (versions_of z.shown)) g.later o (last_zone w.setting.shape.apex w.loaded _ _ first.leads) first.each since in
    let all : AreSoundVersions w.setting.shape.apex w.loaded (versions_of z.shown ++ versions_of g.later) =
    sound_joined w.setting.shape.apex w.loaded (versions_of z.shown) (versions_of g.later) had more in
    let same : versions_of z.shown ++ versions_of g.later ≡ versions_of w.shown ++ versions_of w.staged =
    sym (versions_joined z.shown g.later) ∙ ap versions_of (sym g.updates) ∙ versions_joined w.shown w.staged in
    record {
      loaded = loaded;
      shown = sound_front w.setting.shape.apex w.loaded (versions_of w.shown) (versions_of w.staged) (subst (AreSoundVersions w.setting.shape.apex w.loaded) same all);
    }

all_sound : (start : Machine) (life : List Act) (olds news : List ZoneState) → AllByRecursion IsSoundAct life → AllByRecursion HasSoundVersions olds → AllLast olds news
    → Each2 (HasGrown start life) olds news → AllByRecursion HasSoundVersions news
all_sound start life [] [] o k l g = tt
all_sound start life [] (w ∷ news) o k l g = absurd l
all_sound start life (z ∷ olds) [] o k l g = absurd l
all_sound start life (z ∷ olds) (w ∷ news) o k l g = (grown_sound start life z w o k.0 l.0 g.0, all_sound start life olds news o k.1 l.1 g.1)

-- what was shown at a moment is shown at the end
last_along : (start : Machine) (earlier between : List Act) (zones : List ZoneState) → AllLast start.zones zones → AllByRecursion (StaysTrueOf zones) (earlier ++ between)
    → AllLast (end_of_life start earlier).zones zones
last_along start [] between zones l m = l
last_along start (act ∷ earlier) between zones l m = last_along (machine_after_act act) earlier between zones (m.0).shown m.1

-- what is known at a moment of a life
pub record IsKnownSince (earlier now : Machine) : Type 0 where
  pub lasts : AllLast earlier.zones now.zones
  pub sound : AllByRecursion HasSoundVersions now.zones

pub known_since : (start : Machine) (earlier between : List Act) → BeginsSoundly start → Life start (earlier ++ between) → AllByRecursion IsSoundAct (earlier ++ between)
    → IsKnownSince (end_of_life start earlier) (end_of_life start (earlier ++ between))
known_since start earlier between begins life sound =
    let now = end_of_life start (earlier ++ between) in
    let legacy = life_leaves start (earlier ++ between) begins.rests life in
    record {
      lasts = last_along start earlier between now.zones legacy.loaded legacy.acts;
      sound = all_sound start (earlier ++ between) start.zones now.zones sound begins.sound legacy.loaded legacy.grown;
    }

pub transfers_are_followed : TransfersAreFollowedThroughLife
transfers_are_followed start earlier between later event fails effects opened s number sending taken message rest fed begins life sound run asks opens given messages went =
    let since = known_since start earlier between begins life sound in
    tells (end_of_life start earlier) (end_of_life start (earlier ++ between)) later event fails effects opened s number sending since.lasts since.sound run.0 run.1 asks opens taken message rest fed given messages went

-- ---- by UDP
not_refused : (s : Receiving) (held : Zone) (m : Machine) (w : ZoneState) (address : IpAddr) (q : Question) (message : Message) (o : Option ZoneState) → s.held ≡ Some held → q ≡ question_asked s.apex s.held
    → TellsSerial s message → o ≡ Some w → w.setting.may_transfer address ≡ true
    → refusal Udp q (client_serial q message.authorities) (is_some (option_map transfer_version o)) (may_have address o && true) ≡ None
not_refused s held m w address q message o has is serial named allowed =
    let asked : q ≡ question_asked s.apex (Some held) = is ∙ ap (question_asked s.apex) has in
    let client : client_serial (question_asked s.apex (Some held)) message.authorities ≡ serial_held (Some held) =
    subst (λ (h : Option Zone). serial_asked (question_asked s.apex h) (client_serial (question_asked s.apex h) message.authorities) ≡ serial_held h) has serial in
    (λ i. refusal Udp (asked i) (client_serial (asked i) message.authorities) (is_some (option_map transfer_version (named i))) (may_have address (named i) && true))
    ∙ (λ i. refusal Udp (question_asked s.apex (Some held)) (client i) true (allowed i && true))

some_version : (a b : Version) → ◌≡◌ {A = Option Version} (Some a) (Some b) → a ≡ b
some_version a b e = cc

module _ (earlier now : Machine) (peer : Peer) (octets : List ℕ) (fails : List Bool) (effects : Effects) (after : Machine) (s : Receiving) (held : Zone) (w : ZoneState)
    (since : IsKnownSince earlier now)
    (asks : AsksByUdp s held earlier now)
    (asked : IsAskedOf s now peer octets w) where
  came : asked.came ≡ octets
  came = transfer_came (shown_zones now) octets Udp asked.came asked.message asked.question asked.taken

  read : (message_of octets ≡ Some asked.message) × ((asked.message).questions ≡ asked.question ∷ [])
  read = transfer_read (shown_zones now) octets Udp asked.came asked.message asked.question asked.taken

  few : IsFewSoas (soas_held s.held)
  few = subst (λ (h : Option Zone). IsFewSoas (soas_held h)) (sym asks.holds) (held_few earlier now since.lasts since.sound s.apex (Some held) asks.held)

  is_asked : IsAsked s octets asked.message asked.question
  is_asked = asked_by s asks.named asks.number few octets asked.message asked.question read.0 read.1 asked.asks

  k : HasSoundVersions w
  k = known earlier now since.lasts since.sound s.apex w asked.named

  abbrev shown : List Record
  shown = shown_of (kept_of w)

  followed : IsFollowed s.apex s.held (kept w k) shown
  followed = subst (λ (h : Option Zone). IsFollowed s.apex h (kept w k) shown) (sym asks.holds) (held_is_followed earlier now since.lasts since.sound s.apex w asked.named (Some held) asks.held)

  serial : TellsSerial s asked.message
  serial = tells_serial s asks.named asks.number few octets asked.message asked.question read.0 read.1 (kept w k) shown followed asked.asks

  here : zone_named (asked.question).name now.zones ≡ Some w
  here = ap (λ (q : Question). zone_named q.name now.zones) is_asked.question ∙ asked.named

  abbrev Answers : Type 0
  Answers = (message : List ℕ) × (effects.sent ≡ Replied (Address peer) message ∷ []) × ((header_of message).tc ≡ false → FollowsInOrder s message [] shown)

  opened_so : (sending : Sending) → IsTransferOpened Udp octets asked.message asked.question (transfer_version w) sending → TransferBegins now (Address peer) sending effects.sent after → Answers
  opened_so sending o (message, next, sends, sent, stays) = (message, sent, follows)
    where
      session : IsSessionFor s (kept w k) shown sending
      session = session_for s Udp octets asked.message asked.question w k sending asks.by_udp asks.number is_asked serial o

      ends : next.left ≡ []
      ends = (let by : SendsBy Udp sending message next.left = subst (λ t. SendsBy t sending message next.left) o.by sends.1 in by.1)

      follows : (header_of message).tc ≡ false → FollowsInOrder s message [] shown
      follows tc =
          let leads = kept_leads w k in
          session_is_followed s leads.0 (kept w k) shown sending session asks.begun
          (subst (λ (a : Labels). LeadTo a leads.0 (kept w k) shown) (apex_is s.apex now.zones w asked.named) leads.1)
          followed [] message [] s (some_left sending (kept w k) shown (serial_held s.held) session.soa session.left, next, sends, ends) (λ udp. (tc, tt)) refl

  opens_so : (opened : Result Sending Rcode) → OpensFrom now (Address peer) peer asked.came asked.message asked.question opened
      → IsStarted now (Address peer) asked.came asked.message asked.question opened effects.sent after → Answers
  opens_so (Ok sending) o begins =
      let version : transfer_version w ≡ o.1 = some_version (transfer_version w) o.1 (sym (ap (option_map transfer_version) here) ∙ o.2) in
      opened_so sending
      (subst (λ (xs : List ℕ). IsTransferOpened Udp xs asked.message asked.question (transfer_version w) sending) came
      (subst (λ (v : Version). IsTransferOpened Udp asked.came asked.message asked.question v sending) (sym version) o.3))
      begins
  opens_so (Err rcode) o refuses =
      let none = not_refused s held now w peer.address asked.question asked.message (zone_named (asked.question).name now.zones) asks.holds is_asked.question serial here asked.allowed in
      let clash : ◌≡◌ {A = Option ℕ} None (Some (number_of_rcode rcode)) = sym none ∙ o in
      absurd cc

  answers : Step fails now (Datagram peer octets) effects after → effects.noted ≢ OutOfMemory → Answers
  answers (inr lacks) memory = absurd (memory lacks.noted)
  answers (inl goes) memory =
      let h : IsRequestHandled fails now (Address peer) peer (Transfer asked.came asked.message asked.question) effects after =
      subst (λ (x : Handled). IsRequestHandled fails now (Address peer) peer x effects after) asked.taken goes in
      opens_so (h.1).0 (h.1).1 (h.1).2

pub datagrams_are_followed : DatagramsAreFollowed
datagrams_are_followed start earlier between peer octets fails effects after s held w begins life sound step asks asked memory =
    answers (end_of_life start earlier) (end_of_life start (earlier ++ between)) peer octets fails effects after s held w (known_since start earlier between begins life sound) asks asked step memory

-- ---- where a life begins
each_read : (made : List Made) → AllByRecursion (λ u. WasRead u.update) made → AreSent made
each_read [] h = tt
each_read (u ∷ made) h = (was_sent u.update h.0, each_read made h.1)

states_sound : (states : List ZoneState) → AllByRecursion IsSoundState states → AllByRecursion HasHistory states → AllByRecursion HasSoundVersions states
states_sound [] s h = tt
states_sound (z ∷ states) s h = (known_one z (s.0).loaded h.0 (each_read (updates_of z) (s.0).updates), states_sound states s.1 h.1)

pub loaded_begins : (m : Machine) → BeginsLoaded m → BeginsSoundly m
loaded_begins m (zones, settings, sound, fresh) = record {
  rests = start_rests m (inl (zones, settings, fresh));
  sound = states_sound m.zones (loaded_soundly zones settings m.zones sound fresh.zones_are) (fresh_keeps zones settings m [] fresh tt).history;
}

pub resumed_begins : (m : Machine) → BeginsResumed m → BeginsSoundly m
resumed_begins m (held, sound, resumed) = record {
  rests = start_rests m (inr (held, resumed));
  sound = states_sound m.zones sound (resumed_keeps held m [] resumed tt).history;
}
