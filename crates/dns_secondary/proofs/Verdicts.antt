-- What is told after the records of a message.
use Rattle.std.proofs.Common.{◌≡◌, ◌⊎◌, inl, inr, Bool, true, false, List, Some, None, refl, sym, ap, subst, ◌∙◌}
use Rattle.std.specs.Prelude.{ℕ, Result, Ok, Err, IfOk, IfErr, if◌then◌else◌}
use Rattle.dns_records.specs.Record.{Record}
use Rattle.dns_wire.specs.Message.{Message, ResourceRecord}
use Rattle.dns_wire.specs.Reads.{Reads}
use Rattle.dns_request.specs.declared.request.Transport.{Transport}
use Rattle.dns_request.specs.declared.request.Transport.TheVariants.{Udp, Tcp}
use Rattle.dns_secondary.specs.State.{State, Begun, Led, Whole, Removing, Adding, Ended, IsUnfinished}
use Rattle.dns_secondary.specs.Rest.{is_current, Means, Reaches, FailsBy}
use Rattle.dns_secondary.specs.Receiving.{Receiving, header_fault}
use Rattle.dns_secondary.specs.Told.{progress_at_end, Concludes, TellsProgress, Fails, EndsInNoZone, Hears, Feeds, RefusesFrom, RefusesFeed, over}
use Rattle.dns_secondary.specs.declared.fault.Fault.{Fault}
use Rattle.dns_secondary.specs.declared.fault.Fault.TheVariants.{OutOfMemory}
use Rattle.dns_secondary.specs.declared.fault.Progress.{Progress}
use Rattle.dns_secondary.specs.declared.fault.Progress.TheVariants.{More, Done, UpToDate, RetryTcp}
use Rattle.dns_secondary.proofs.Runs.{one_reached, rest_on, rest_of, fails_lost, ended_lost}

abbrev told_of : Bool → Transport → Progress
told_of b t = if b then UpToDate else elim t [ Udp ↦ RetryTcp | Tcp ↦ More ]

led_more : (b : Bool) (t : Transport) → told_of b t ≡ More → (b ≡ false) × (t ≡ Tcp)
led_more true t e = absurd cc
led_more false Udp e = absurd cc
led_more false Tcp e = (refl, refl)

led_current : (b : Bool) (t : Transport) → told_of b t ≡ UpToDate → b ≡ true
led_current true t e = refl
led_current false Udp e = absurd cc
led_current false Tcp e = absurd cc

led_again : (b : Bool) (t : Transport) → told_of b t ≡ RetryTcp → (b ≡ false) × (t ≡ Udp)
led_again true t e = absurd cc
led_again false Udp e = (refl, refl)
led_again false Tcp e = absurd cc

more_open : (s : Receiving) (at : State) (set : List Record) → progress_at_end s at ≡ More → Means s.apex s.held at set → ⊥
more_open s Begun set e m = m
more_open s (Led soa) set e m = let no = (led_more (is_current s.held soa) s.transport e).0 in let yes = m.0 in absurd cc
more_open s (Whole soa so_far) set e m = m
more_open s (Removing soa so_far) set e m = m
more_open s (Adding soa so_far reached) set e m = m
more_open s (Ended ended) set e m = absurd cc

more_unfinished : (s : Receiving) (at : State) → progress_at_end s at ≡ More → IsUnfinished at
more_unfinished s Begun e = tt
more_unfinished s (Led soa) e = tt
more_unfinished s (Whole soa so_far) e = tt
more_unfinished s (Removing soa so_far) e = tt
more_unfinished s (Adding soa so_far reached) e = tt
more_unfinished s (Ended ended) e = absurd cc

more_tcp : (s : Receiving) (at : State) (soa : Record) → progress_at_end s at ≡ More → at ≡ Led soa → s.transport ≡ Tcp
more_tcp s at soa e is = (led_more (is_current s.held soa) s.transport (ap (progress_at_end s) (sym is) ∙ e)).1

current_led : (s : Receiving) (at : State) → progress_at_end s at ≡ UpToDate → (soa : Record) × (at ≡ Led soa) × (is_current s.held soa ≡ true)
current_led s Begun e = absurd cc
current_led s (Led soa) e = (soa, refl, led_current (is_current s.held soa) s.transport e)
current_led s (Whole soa set) e = absurd cc
current_led s (Removing soa set) e = absurd cc
current_led s (Adding soa set reached) e = absurd cc
current_led s (Ended set) e = absurd cc

again_led : (s : Receiving) (at : State)
    → progress_at_end s at ≡ RetryTcp
    → (soa : Record) × (at ≡ Led soa) × (is_current s.held soa ≡ false) × (s.transport ≡ Udp)
again_led s Begun e = absurd cc
again_led s (Led soa) e = let both = led_again (is_current s.held soa) s.transport e in (soa, refl, both.0, both.1)
again_led s (Whole soa set) e = absurd cc
again_led s (Removing soa set) e = absurd cc
again_led s (Adding soa set reached) e = absurd cc
again_led s (Ended set) e = absurd cc

pub tells : (s : Receiving) (at next : State) (records : List ResourceRecord) (p : Progress) (new : Receiving)
    → Reaches s.apex s.held at records next
    → p ≡ progress_at_end (over s) next
    → Concludes (over s) next p new
    → TellsProgress s at records p new
tells s at next records More new run e c = (
  next,
  run,
  more_unfinished (over s) next (sym e),
  c,
  (λ more set. rest_on s.apex s.held at next records more set run),
  (λ set r. more_open (over s) next set (sym e) ((rest_of s.apex s.held at next records set run).0 r)),
  (λ soa alone. more_tcp (over s) next soa (sym e) (one_reached s.apex s.held at next (Led soa) records run alone)),
)
tells s at next records Done new run e c = (
  c.0,
  (rest_of s.apex s.held at next records c.0 run).1 (subst (λ n. Means s.apex s.held n c.0) (sym c.1) (refl, c.2)),
  (λ soa alone. (let is = one_reached s.apex s.held at next (Led soa) records run alone in let ended = c.1 in absurd cc)),
  c.3,
)
tells s at next records UpToDate new run e c =
    let led = current_led (over s) next (sym e) in
    (led.0, subst (λ n. Reaches s.apex s.held at records n) led.1 run, led.2, c)
tells s at next records RetryTcp new run e c =
    let led = again_led (over s) next (sym e) in
    (led.0, subst (λ n. Reaches s.apex s.held at records n) led.1 run, led.2, led.3, c)

pub fails_at : (s : Receiving) (at : State) (records : List ResourceRecord) (fault : Fault)
    → FailsBy s.apex s.held at records fault
    → Fails s at records fault
fails_at s at records fault h = record {
  cause = inl h;
  lost = λ more set r. fails_lost s.apex s.held at records more fault set h r;
}

pub fails_last : (s : Receiving) (at next : State) (records : List ResourceRecord) (fault : Fault)
    → Reaches s.apex s.held at records next
    → EndsInNoZone (over s) next fault
    → Fails s at records fault
fails_last s at next records fault run h =
    let ended = subst (λ n. Reaches s.apex s.held at records n) h.1 run in
    record {
      cause = inr (h.0, ended, h.2, h.3);
      lost = λ more set r. ended_lost s.apex s.held h.0 more set h.2 ((rest_on s.apex s.held at (Ended h.0) records more set ended).0 r);
    }

-- the same of a result
pub tells_ok : (s : Receiving) (at next : State) (records : List ResourceRecord) (r : Result Progress Fault) (new : Receiving)
    → Reaches s.apex s.held at records next
    → IfOk r (λ p. p ≡ progress_at_end s next)
    → IfOk r (λ p. Concludes s next p new)
    → IfOk r (λ p. TellsProgress s at records p new)
tells_ok s at next records (Ok p) new run e c = tells s at next records p new run e c
tells_ok s at next records (Err fault) new run e c = c

pub fails_first : (s : Receiving) (at : State) (records : List ResourceRecord) (fault : Fault)
    → (fault ≡ OutOfMemory) ⊎ FailsBy s.apex s.held at records fault
    → (fault ≡ OutOfMemory) ⊎ Fails s at records fault
fails_first s at records fault (inl memory) = inl memory
fails_first s at records fault (inr h) = inr (fails_at s at records fault h)

pub fails_err : (s : Receiving) (at next : State) (records : List ResourceRecord) (r : Result Progress Fault)
    → Reaches s.apex s.held at records next
    → IfErr r (λ e. (e ≡ OutOfMemory) ⊎ EndsInNoZone s next e)
    → IfErr r (λ e. (e ≡ OutOfMemory) ⊎ Fails s at records e)
fails_err s at next records (Ok p) run h = h
fails_err s at next records (Err fault) run (inl memory) = inl memory
fails_err s at next records (Err fault) run (inr h) = inr (fails_last s at next records fault run h)

-- of octets
pub hears_ok : (s : Receiving) (at : State) (octets : List ℕ) (m : Message) (r : Result Progress Fault) (new : Receiving)
    → Reads octets m
    → header_fault s m ≡ None
    → IfOk r (λ p. TellsProgress s at m.answers p new)
    → IfOk r (λ p. Hears s at octets p new)
hears_ok s at octets m (Ok p) new stands accepted h = record { message = m; stands = stands; accepted = accepted; tells = h }
hears_ok s at octets m (Err fault) new stands accepted h = h

pub hears_err : (s : Receiving) (at : State) (octets : List ℕ) (m : Message) (r : Result Progress Fault)
    → Reads octets m
    → header_fault s m ≡ None
    → IfErr r (λ e. (e ≡ OutOfMemory) ⊎ Fails s at m.answers e)
    → IfErr r (λ e. (e ≡ OutOfMemory) ⊎ RefusesFrom s (Some at) octets e)
hears_err s at octets m (Ok p) stands accepted h = h
hears_err s at octets m (Err fault) stands accepted (inl memory) = inl memory
hears_err s at octets m (Err fault) stands accepted (inr h) = inr (inr (m, stands, accepted, h))

-- the receiver but for its state
over_hears : (s : Receiving) (at : State) (octets : List ℕ) (p : Progress) (new : Receiving)
    → Hears (over s) at octets p new
    → Hears s at octets p new
over_hears s at octets p new h = record { message = h.message; stands = h.stands; accepted = h.accepted; tells = over_tells s at (h.message).answers p new h.tells }
  where
    over_tells : (s : Receiving) (at : State) (records : List ResourceRecord) (p : Progress) (new : Receiving) → TellsProgress (over s) at records p new → TellsProgress s at records p new
    over_tells s at records More new h = h
    over_tells s at records Done new h = h
    over_tells s at records UpToDate new h = h
    over_tells s at records RetryTcp new h = h

pub feeds_ok : (s t : Receiving) (at : State) (octets : List ℕ) (r : Result Progress Fault) (new : Receiving)
    → t ≡ over s
    → s.state ≡ Some at
    → IfOk r (λ p. Hears t at octets p new)
    → IfOk r (λ p. Feeds s octets p new)
feeds_ok s t at octets (Ok p) new e is h = (at, is, over_hears s at octets p new (subst (λ u. Hears u at octets p new) e h))
feeds_ok s t at octets (Err fault) new e is h = h

over_refuses : (s : Receiving) (at : State) (octets : List ℕ) (fault : Fault)
    → RefusesFrom (over s) (Some at) octets fault
    → RefusesFrom s (Some at) octets fault
over_refuses s at octets fault (inl h) = inl h
over_refuses s at octets fault (inr h) = inr (h.0, h.1, h.2, record { cause = (h.3).cause; lost = (h.3).lost })

pub feeds_err : (s t : Receiving) (at : State) (octets : List ℕ) (r : Result Progress Fault)
    → t ≡ over s
    → s.state ≡ Some at
    → IfErr r (λ e. (e ≡ OutOfMemory) ⊎ RefusesFrom t (Some at) octets e)
    → IfErr r (λ e. (e ≡ OutOfMemory) ⊎ RefusesFeed s octets e)
feeds_err s t at octets (Ok p) e is h = h
feeds_err s t at octets (Err fault) e is (inl memory) = inl memory
feeds_err s t at octets (Err fault) e is (inr h) =
    inr (subst (λ o. RefusesFrom s o octets fault) (sym is)
    (over_refuses s at octets fault (subst (λ u. RefusesFrom u (Some at) octets fault) e h)))
