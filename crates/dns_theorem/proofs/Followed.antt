-- A transfer that is opened in a run is followed.
use Rattle.std.proofs.Common.{◌≡◌, ◌<◌, ◌⊎◌, inl, inr, ℕ, zero, suc, Bool, List, [], ◌∷◌, ◌++◌, length, get_or, Option, Some, refl, sym, ap, subst, ◌∙◌, arith}
use Rattle.std.specs.List.{AllByRecursion, Contains}
use Rattle.dns_records.specs.Record.{Record}
use Rattle.dns_names.specs.Name.{Labels}
use Rattle.dns_zone.specs.Zone.{Zone}
use Rattle.dns_wire.specs.Message.{Question, Message}
use Rattle.dns_wire.specs.Reading.{message_of}
use Rattle.dns_request.specs.declared.request.Transport.TheVariants.{Udp, Tcp}
use Rattle.dns_transfer.specs.Session.{Sending}
use Rattle.dns_update.proofs.Accepted.{IsSent, updates_sent}
use Rattle.dns_secondary.specs.Receiving.{Receiving}
use Rattle.dns_secondary.specs.Request.{soas_held}
use Rattle.dns_store.specs.Versions.{shown_of}
use Rattle.dns_versions.specs.Each.{Each2, Each3}
use Rattle.dns_primary.specs.declared.primary.ZoneSpec.{ZoneSpec}
use Rattle.dns_primary.specs.Machine.{Made, ZoneState, Machine, kept_of, updates_of, versions_of, shown_zones, sending_at}
use Rattle.dns_primary.specs.Transfer.{zone_named}
use Rattle.dns_primary.specs.Step.{Event, Datagram, Arrives, Connect, Flush, Checkpoint, Pump, Closed, Effects, Step}
use Rattle.dns_primary.specs.Continues.{OpensOn, Continues}
use Rattle.dns_primary.specs.Fresh.{IsLoaded}
use Rattle.dns_primary.specs.Runs.{Moment, Took, Stopped, Configured, machine_after, Run, machine_at_end, HasHistory, AllLast, Brings, BringsIn, CameIn, AllCameSince, StaysTrue, Promise, Continuation}
use Rattle.dns_primary.proofs.Brought.{all_came_since}
use Rattle.dns_primary.proofs.Stopping.{fresh_keeps, resumed_keeps}
use Rattle.dns_primary.proofs.Continued.{run_goes, step_opened}
use Rattle.dns_theorem.specs.Copies as copies
use Rattle.dns_theorem.specs.Copies.{IsFollowed, FollowsInOrder, SendsAll, serial_held}
use Rattle.dns_theorem.specs.Versions.{LeadTo}
use Rattle.dns_theorem.specs.Headline.{CarriesOctets, AreOctetsIn, IsSoundZone, WasRead, IsSoundState, BeginsLoaded, BeginsResumed, Asks, AsksBy, OpensFor, IsGivenOut, pumped_in, TransfersAreFollowed}
use Rattle.dns_theorem.specs.Followed.{AreSoundVersions, HasSoundVersions}
use Rattle.dns_theorem.proofs.Chained.{AreSent, history_sound, sound_front}
use Rattle.dns_theorem.proofs.Fed.{IsSessionFor, session_is_followed}
use Rattle.dns_theorem.proofs.Given.{given_all}
use Rattle.dns_theorem.proofs.Read.{update_reads, transfer_read}
use Rattle.dns_theorem.proofs.Requests.{IsAsked, TellsSerial, asked_by, tells_serial, session_for, some_left}
use Rattle.dns_theorem.proofs.Shown.{IsFewSoas, apex_is, held_few, held_is_followed, kept, kept_leads, known}
use Rattle.dns_primary.proofs.Zonewise.{versions_joined}

-- ---- runs
pub run_parts : (m : Machine) (xs ys : List Moment) → Run m (xs ++ ys) → Run m xs × Run (machine_at_end m xs) ys
run_parts m [] ys r = (tt, r)
run_parts m (t ∷ xs) ys r = (let rest = run_parts (machine_after t) xs ys r.1 in ((r.0, rest.0), rest.1))

last_joined : (m : Machine) (xs ys : List Moment) → machine_at_end m (xs ++ ys) ≡ machine_at_end (machine_at_end m xs) ys
last_joined m [] ys = refl
last_joined m (t ∷ xs) ys = last_joined (machine_after t) xs ys

-- ---- what came
pub carried : (m : Machine) (event : Event) (z : ZoneState) (u : Message) → CarriesOctets event → Brings m event z u → AllByRecursion IsSent u.authorities
carried m (Datagram peer octets) z u o b =
    let octal = subst (AllByRecursion (λ octet. octet < 256)) (sym (b.came).2) o in
    updates_sent b.octets u octal (update_reads (shown_zones m) b.octets b.transport u b.question octal b.asks)
carried m (Arrives number octets) z u o b =
    let octal = subst (AllByRecursion (λ octet. octet < 256)) (sym (b.came).2) o in
    updates_sent b.octets u octal (update_reads (shown_zones m) b.octets b.transport u b.question octal b.asks)
carried m (Connect peer) z u o b = absurd b.came
carried m Flush z u o b = absurd b.came
carried m (Checkpoint index) z u o b = absurd b.came
carried m (Pump number) z u o b = absurd b.came
carried m (Closed number) z u o b = absurd b.came

pub brought : (m : Machine) (t : Moment) (z : ZoneState) (u : Message) → AreOctetsIn t → BringsIn m t z u → AllByRecursion IsSent u.authorities
brought m (Took event fails effects new) z u o b = carried m event z u o b
brought m (Stopped event tries new) z u o b = absurd b
brought m (Configured new) z u o b = absurd b

came_sent : (m : Machine) (run : List Moment) (z : ZoneState) (u : Message) → AllByRecursion AreOctetsIn run → CameIn m run z u → AllByRecursion IsSent u.authorities
came_sent m [] z u o c = absurd c
came_sent m (t ∷ rest) z u o (inl b) = brought m t z u o.0 b
came_sent m (t ∷ rest) z u o (inr c) = came_sent (machine_after t) rest z u o.1 c

-- what was there at the start was read from octets, too
pub was_sent : (u : Message) → WasRead u → AllByRecursion IsSent u.authorities
was_sent u h = updates_sent h.0 u h.1 h.2

had : (olds : List Made) (u : Made) → AllByRecursion (λ v. WasRead v.update) olds → (k : ℕ) → k < length olds → get_or olds k u ≡ u → AllByRecursion IsSent (u.update).authorities
had [] u h k within at = absurd (omega (arith, within))
had (v ∷ olds) u h zero within at = subst (λ (w : Made). AllByRecursion IsSent (w.update).authorities) at (was_sent v.update h.0)
had (v ∷ olds) u h (suc k) within at = had olds u h.1 k (omega (arith, within)) at

one_sent : (m : Machine) (run : List Moment) (z w : ZoneState) (u : Made) → AllByRecursion AreOctetsIn run → AllByRecursion (λ v. WasRead v.update) (updates_of z)
    → Contains (updates_of z) u ⊎ CameIn m run w u.update → AllByRecursion IsSent (u.update).authorities
one_sent m run z w u o h (inl there) = had (updates_of z) u h there.0 there.1 there.2
one_sent m run z w u o h (inr came) = came_sent m run w u.update o came

all_sent : (m : Machine) (run : List Moment) (z w : ZoneState) (made : List Made) → AllByRecursion AreOctetsIn run → AllByRecursion (λ v. WasRead v.update) (updates_of z)
    → AllByRecursion (λ u. Contains (updates_of z) u ⊎ CameIn m run w u.update) made → AreSent made
all_sent m run z w [] o h c = tt
all_sent m run z w (u ∷ made) o h c = (one_sent m run z w u o h c.0, all_sent m run z w made o h c.1)

front_sent : (xs ys : List Made) → AreSent (xs ++ ys) → AreSent xs
front_sent [] ys h = tt
front_sent (x ∷ xs) ys h = (h.0, front_sent xs ys h.1)

back_sent : (xs ys : List Made) → AreSent (xs ++ ys) → AreSent ys
back_sent [] ys h = h
back_sent (x ∷ xs) ys h = back_sent xs ys h.1

-- loaded as a sound zone
abbrev pub IsSoundlyLoaded : ZoneState → Type 0
IsSoundlyLoaded z = IsSoundZone (record { apex = z.setting.shape.apex; records = z.loaded })

-- what is loaded has no update
pub loaded_soundly : (zones : List Zone) (settings : List ZoneSpec) (states : List ZoneState) → AllByRecursion IsSoundZone zones → Each3 IsLoaded zones settings states → AllByRecursion IsSoundState states
loaded_soundly [] [] [] s h = tt
loaded_soundly (a ∷ zones) (t ∷ settings) (z ∷ states) s h =
    let apex : a.apex ≡ z.setting.shape.apex = sym (ap (λ x. x.apex) (h.0).shape) in
    let records = sym (h.0).loaded in
    let none : updates_of z ≡ [] = λ i. (h.0).shown i ++ (h.0).staged i in (
      record {
        loaded = subst IsSoundZone (λ i. record { apex = apex i; records = records i }) s.0;
        updates = subst (AllByRecursion (λ (u : Made). WasRead u.update)) (sym none) tt;
      },
      loaded_soundly zones settings states s.1 h.1,
    )
loaded_soundly _ _ _ s h = absurd h

-- What is known of a zone in a run: it was loaded soundly, and its updates came and were accepted; so its versions are sound.
pub known_one : (w : ZoneState) → IsSoundlyLoaded w → HasHistory w → AreSent (updates_of w) → HasSoundVersions w
known_one w loaded history sent =
    let apex = w.setting.shape.apex in
    let all = history_sound w.setting.shape 0 w.loaded (updates_of w) loaded.valid loaded.each history sent in
    record {
      loaded = loaded;
      shown = sound_front apex w.loaded (versions_of w.shown) (versions_of w.staged) (subst (AreSoundVersions apex w.loaded) (versions_joined w.shown w.staged) all);
    }

pub known_each : (m : Machine) (run : List Moment) (olds news : List ZoneState) → AllByRecursion AreOctetsIn run → AllByRecursion IsSoundState olds → AllLast olds news
    → AllByRecursion HasHistory news → Each2 (AllCameSince m run) olds news → AllByRecursion HasSoundVersions news
known_each m run [] [] o s l h c = tt
known_each m run [] (w ∷ news) o s l h c = absurd l
known_each m run (z ∷ olds) [] o s l h c = absurd l
known_each m run (z ∷ olds) (w ∷ news) o s l h c =
    let shape = sym (l.0).shape in
    let loaded = sym (l.0).loaded in (
      known_one w (subst IsSoundZone (λ i. record { apex = (shape i).apex; records = loaded i }) (s.0).loaded) h.0 (all_sent m run z w (updates_of w) o (s.0).updates c.0),
      known_each m run olds news o s.1 l.1 h.1 c.1,
    )

-- what was shown at a moment is shown at the end
last_from : (start : Machine) (earlier between : List Moment) (zones : List ZoneState) → AllLast start.zones zones → AllByRecursion (StaysTrue zones) (earlier ++ between)
    → AllLast (machine_at_end start earlier).zones zones
last_from start [] between zones l m = l
last_from start (t ∷ earlier) between zones l m = last_from (machine_after t) earlier between zones (m.0).shown m.1

-- ---- the law
some_octets : (number : ℕ) (a b : List ℕ) → Arrives number a ≡ Arrives number b → a ≡ b
some_octets number a b e = cc

-- of a machine whose zones have sound versions, of which the earlier ones were shown
module _ (earlier now : Machine) (later' : List Moment) (event : Event) (fails : List Bool) (effects : Effects) (opened : Machine) (s : Receiving) (number : ℕ) (sending : Sending)
    (lasts : AllLast earlier.zones now.zones)
    (sound : AllByRecursion HasSoundVersions now.zones)
    (step : Step fails now event effects opened)
    (run : Run opened later')
    (asks : Asks s earlier now)
    (opens : OpensFor s number now event opened sending) where
  on : OpensOn now number event sending
  on = step_opened number fails now event effects opened sending opens.none opens.opens step

  these : on.octets ≡ opens.octets
  these = some_octets number on.octets opens.octets (sym on.arrives ∙ opens.comes)

  by_these : AsksBy s on.octets
  by_these = subst (AsksBy s) (sym these) opens.asks

  read : (message_of on.octets ≡ Some on.message) × ((on.message).questions ≡ on.question ∷ [])
  read = transfer_read (shown_zones now) on.octets Tcp on.octets on.message on.question on.asks

  few : IsFewSoas (soas_held s.held)
  few = held_few earlier now lasts sound s.apex s.held asks.held

  asked : IsAsked s on.octets on.message on.question
  asked = asked_by s asks.named asks.number few on.octets on.message on.question read.0 read.1 by_these

  named : zone_named s.apex now.zones ≡ Some on.zone
  named = ap (λ (q : Question). zone_named q.name now.zones) (sym asked.question) ∙ on.named

  abbrev w : ZoneState
  w = on.zone

  k : HasSoundVersions w
  k = known earlier now lasts sound s.apex w named

  abbrev shown : List Record
  shown = shown_of (kept_of w)

  followed : IsFollowed s.apex s.held (kept w k) shown
  followed = held_is_followed earlier now lasts sound s.apex w named s.held asks.held

  serial : TellsSerial s on.message
  serial = tells_serial s asks.named asks.number few on.octets on.message on.question read.0 read.1 (kept w k) shown followed by_these

  session : IsSessionFor s (kept w k) shown sending
  session = session_for s Tcp on.octets on.message on.question w k sending asks.by_tcp asks.number asked serial on.opened

  goes_on : Continues number later' (Some sending)
  goes_on = subst (λ (o : Option Sending). Continues number later' o) opens.opens (run_goes number later' opened (sending_at number opened.connections) refl run)

  follows : (taken : List (List ℕ)) (message : List ℕ) (rest : List (List ℕ)) (fed : Receiving) → IsGivenOut number (Some sending) later'
      → pumped_in number later' ≡ taken ++ message ∷ rest → copies.AllTellMore s taken fed → FollowsInOrder fed message rest shown
  follows taken message rest fed given messages went =
      let leads = kept_leads w k in
      let all = given_all number later' sending (some_left sending (kept w k) shown (serial_held s.held) session.soa session.left) goes_on given in
      session_is_followed s leads.0 (kept w k) shown sending session asks.begun
      (subst (λ (a : Labels). LeadTo a leads.0 (kept w k) shown) (apex_is s.apex now.zones w named) leads.1)
      followed taken message rest fed
      (subst (SendsAll sending) messages all)
      (λ udp. (let clash : Tcp ≡ Udp = sym asks.by_tcp ∙ udp in absurd cc))
      went

  pub tells : (taken : List (List ℕ)) (message : List ℕ) (rest : List (List ℕ)) (fed : Receiving) → IsGivenOut number (Some sending) later'
      → pumped_in number later' ≡ taken ++ message ∷ rest → copies.AllTellMore s taken fed
      → (v : ZoneState) × (zone_named s.apex now.zones ≡ Some v) × FollowsInOrder fed message rest (shown_of (kept_of v))
  tells taken message rest fed given messages went = (w, named, follows taken message rest fed given messages went)

-- of a machine whose runs go on so, and whose zones are sound
followed_from : (start : Machine) (earlier between later' : List Moment) (event : Event) (fails : List Bool) (effects : Effects) (opened : Machine) (s : Receiving) (number : ℕ)
    (sending : Sending) (taken : List (List ℕ)) (message : List ℕ) (rest : List (List ℕ)) (fed : Receiving)
    → AllByRecursion IsSoundState start.zones
    → Continuation start (earlier ++ between)
    → Run start ((earlier ++ between) ++ Took event fails effects opened ∷ later')
    → AllByRecursion AreOctetsIn (earlier ++ between)
    → Asks s (machine_at_end start earlier) (machine_at_end start (earlier ++ between))
    → OpensFor s number (machine_at_end start (earlier ++ between)) event opened sending
    → IsGivenOut number (Some sending) later'
    → pumped_in number later' ≡ taken ++ message ∷ rest
    → copies.AllTellMore s taken fed
    → (w : ZoneState) × (zone_named s.apex (machine_at_end start (earlier ++ between)).zones ≡ Some w) × FollowsInOrder fed message rest (shown_of (kept_of w))
followed_from start earlier between later' event fails effects opened s number sending taken message rest fed sound goes run octets asks opens given messages went =
    let now = machine_at_end start (earlier ++ between) in
    let rest_run = (run_parts start (earlier ++ between) (Took event fails effects opened ∷ later') run).1 in
    tells (machine_at_end start earlier) now later' event fails effects opened s number sending (last_from start earlier between now.zones goes.loaded goes.moments)
    (known_each start (earlier ++ between) start.zones now.zones octets sound goes.loaded goes.history goes.came) rest_run.0 rest_run.1 asks opens taken message rest fed given messages went

before_run : (start : Machine) (earlier between later' : List Moment) (t : Moment) → Run start ((earlier ++ between) ++ t ∷ later') → Run start (earlier ++ between)
before_run start earlier between later' t run = (run_parts start (earlier ++ between) (t ∷ later') run).0

pub promise_goes : (start : Machine) (run : List Moment) → Run start run → Promise start run → Continuation start run
promise_goes start run r p = record { loaded = p.loaded; history = p.history; came = all_came_since start run r; openings = p.openings; moments = p.moments }

pub loaded_are_followed : TransfersAreFollowed BeginsLoaded
loaded_are_followed start earlier between later' event fails effects opened s number sending taken message rest fed (zones, settings, sound, fresh) run octets asks opens given messages went =
    let before = before_run start earlier between later' (Took event fails effects opened) run in
    followed_from start earlier between later' event fails effects opened s number sending taken message rest fed (loaded_soundly zones settings start.zones sound fresh.zones_are)
    (promise_goes start (earlier ++ between) before (fresh_keeps zones settings start (earlier ++ between) fresh before)) run octets asks opens given messages went

pub resumed_are_followed : TransfersAreFollowed BeginsResumed
resumed_are_followed start earlier between later' event fails effects opened s number sending taken message rest fed (held, sound, resumed) run octets asks opens given messages went =
    let before = before_run start earlier between later' (Took event fails effects opened) run in
    followed_from start earlier between later' event fails effects opened s number sending taken message rest fed sound (resumed_keeps held start (earlier ++ between) resumed before) run octets asks
    opens given messages went
