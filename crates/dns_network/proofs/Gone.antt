-- Connections that are unused or stalled are gone after they were visited.
use Rattle.std.proofs.Common.{◌≡◌, ◌⊎◌, inl, inr, ℕ, zero, suc, ◌+◌, ◌<◌, ◌≤◌, Bool, false, List, [], ◌∷◌, ◌++◌, length, Option, Some, None, refl, ap, sym, subst, arith}
use Rattle.std.specs.Prelude.{slice_get}
use Rattle.dns_zone.specs.declared.index.ZoneIndex as zone_index
use Rattle.dns_store.specs.declared.zone_store.ZoneStore as store
use Rattle.dns_primary.specs.Machine.{Machine}
use Rattle.dns_primary.specs.Keeps.{IsKept}
use Rattle.dns_primary.specs.Step.{Event, Datagram, Connect, Arrives, Flush, Checkpoint, Pump, Closed}
use Rattle.dns_network.specs.declared.connection.Connection.{Connection}
use Rattle.dns_network.specs.declared.network.Network.{Ghosts}
use Rattle.dns_network.specs.declared.network.Observer as notes
use Rattle.dns_network.specs.declared.stream.Stream as stream
use Rattle.dns_network.specs.Closing.{Cause, HasEnded, Silent, Stalled, NoMemory, NoPlace, StalledAreGone, UnusedAreGone}
use Rattle.dns_network.specs.Connection.{IsInUse, IsStalled, IsUnused, IsUnusedOrInUse, used_of}
use Rattle.dns_network.specs.Connections.{IsOpenWith}
use Rattle.dns_network.specs.Delivery.{Served}
use Rattle.dns_network.specs.Turn.{TurnMoment, Asks, Moves, Connects, Refuses, Happens, Closes, AreMoments, EventComes, IsCauseNoted, IsMoment, IsPlaced}
use Rattle.dns_network.specs.Turns.{AreIdle, EachHasItsPart, HasItsPart}
use Rattle.dns_network.proofs.Leads.{MomentsLead, and_on}
use Rattle.dns_network.proofs.Parts.{idle_on}
use Rattle.dns_network.proofs.Running.{moments_kept}
use Rattle.dns_network.proofs.Used.{Is, IsStalledOrUsed, Lasts, either, gone_stays, in_use_lasts, inside, open_gone, put_stays, set_stays, stalled_lasts, unused_lasts, used_lasts, weaker}
use Rattle.dns_network.proofs.Visited.{effects_stay}

-- a number below the next one
split : (number at : ℕ) → number < at + 1 → (number < at) ⊎ (number ≡ at)
split zero zero less = inr refl
split zero (suc at) less = inl (omega arith)
split (suc number) zero less = absurd (omega (arith, less))
split (suc number) (suc at) less = elim (split number at (omega (arith, less))) [
  | inl below ↦ inl (omega (arith, below))
  | inr same ↦ inr (ap suc same)
]

placed_stays : {N S : Type 0} (n : Ghosts N S) (s : stream.Ghosts S) (now : ℕ) (known : Connection S → Type 0) (lasts : Lasts s now known) (number : ℕ) (new : S) (accepted : Option ℕ)
    (asked last : N) (before after : List (Option (Connection S))) → IsPlaced n now new accepted asked last before after → Is known number before → Is known number after
placed_stays n s now known lasts number new None asked last before after (none, same) is = subst (Is known number) (sym same) is
placed_stays n s now known lasts number new (Some target) asked last before after (inl (refused, gone)) is = subst (Is known number) (sym gone) (gone_stays known number target before is)
placed_stays n s now known lasts number new (Some target) asked last before after (inr (watched, is_watched, inl (past, same))) is = subst (Is known number) (sym same) is
placed_stays n s now known lasts number new (Some target) asked last before after (inr (watched, is_watched, inr (less, (c, from, left, held, used, set)))) is =
    subst (Is known number) (sym set) (put_stays known number target before c (lasts.used c used) is)

module _ {I D S N L : Type 0} {i : zone_index.Ghosts I} {d : store.Ghosts D} (s : stream.Ghosts S) (n : Ghosts N S) (l : notes.Ghosts L) (now : ℕ) where
  abbrev places : Served I D S N L i d → List (Option (Connection S))
  places served = served.connections

  -- What is known of a connection, and lasts, is known after what is done in this second.
  module _ (known : Connection S → Type 0) (lasts : Lasts s now known) (number : ℕ) where
    same_is : (old new : Served I D S N L i d) → new.connections ≡ old.connections → Is known number old.connections → Is known number new.connections
    same_is old new same is = subst (Is known number) (sym same) is

    caused : (target : ℕ) (cause : Cause) (old new : Served I D S N L i d) → IsCauseNoted l target cause old new → new.connections ≡ old.connections
    caused target HasEnded old new same = ap places same
    caused target Silent old new noted = ap places noted.rest
    caused target Stalled old new noted = ap places noted.rest
    caused target NoMemory old new noted = ap places noted.rest
    caused target NoPlace old new same = ap places same

    came_is : (event : Event) (old given : Served I D S N L i d) → EventComes n now event old given → Is known number old.connections
        → Is known number given.connections
    came_is (Datagram peer octets) old given comes is = same_is old given (ap places comes.0) is
    came_is (Arrives target message) old given (c, e, there, handed, set) is =
        subst (Is known number) (sym (ap places set)) (set_stays known number target old.connections c e there (λ k. lasts.used e handed.used) is)
    came_is (Pump target) old given comes is = same_is old given (ap places comes) is
    came_is Flush old given comes is = same_is old given (ap places comes) is
    came_is (Connect peer) old given comes is = absurd comes
    came_is (Checkpoint index) old given comes is = absurd comes
    came_is (Closed target) old given comes is = absurd comes

    moment_is : (one : TurnMoment) (old new : Served I D S N L i d) → IsMoment s n l now one old new → Is known number old.connections
        → Is known number new.connections
    moment_is Asks old new h is = same_is old new (ap places h.rest) is
    moment_is (Moves target answer) old new h is =
        subst (Is known number) (sym (ap places h.rest))
        (set_stays known number target old.connections h.before h.after h.there (λ k. lasts.moved h.before h.after h.on.moved k) is)
    moment_is (Connects peer effects) old new h is =
        placed_stays n s now known lasts number h.stream effects.accepted h.asked new.network old.connections new.connections h.taken.placed is
    moment_is (Refuses peer) old new h is = same_is old new (ap places h.rest) is
    moment_is (Happens event effects goings) old new h is =
        let given = came_is event old h.given h.is_given is in
        let told = same_is h.given h.told (ap places h.rest) given in
        effects_stay n l known number lasts.queued effects goings h.told new h.happened told
    moment_is (Closes target cause) old new h is =
        subst (Is known number) (sym h.closed.gone)
        (gone_stays known number target h.told.connections (same_is old h.told (caused target cause old h.told h.noted) is))

    moments_are : (moments : List TurnMoment) (old new : Served I D S N L i d) → AreMoments s n l now moments old new → Is known number old.connections
        → Is known number new.connections
    moments_are [] old new same is = same_is old new (ap places same) is
    moments_are (one ∷ rest) old new (between, here, later) is = moments_are rest between new later (moment_is one old between here is)

    pub lead_is : (old new : Served I D S N L i d) → MomentsLead s n l now old new → Is known number old.connections → Is known number new.connections
    lead_is old new (moments, are) is = moments_are moments old new are is

  pub lead_kept : (old new : Served I D S N L i d) (m : Machine) → MomentsLead s n l now old new → IsKept old.primary m → (e : Machine) × IsKept new.primary e
  lead_kept old new m (moments, are) kept = moments_kept s n l now moments old new m are kept

  -- one connection, after it was visited
  pub unused_gone : (number : ℕ) (old mid new : Served I D S N L i d) (m : Machine) → MomentsLead s n l now old mid → MomentsLead s n l now mid new
      → ((e : Machine) → IsKept mid.primary e → IsOpenWith (IsUnused now) (slice_get mid.connections number) → Is (IsInUse now) number new.connections)
      → IsKept old.primary m → IsOpenWith (IsUnused now) (slice_get old.connections number) → Is (IsInUse now) number new.connections
  unused_gone number old mid new m before visit gone kept unused =
      let first : Is (IsUnusedOrInUse now) number old.connections =
      weaker (IsUnused now) (IsUnusedOrInUse now) (slice_get old.connections number) (λ c is. inl is) (open_gone (IsUnused now) (slice_get old.connections number) unused) in
      let there = lead_is (IsUnusedOrInUse now) (unused_lasts s now) number old mid before first in
      let (e, kept') = lead_kept old mid m before kept in
      elim (either (IsUnused now) (IsInUse now) (slice_get mid.connections number) there) [
        | inl still ↦ gone e kept' still
        | inr used ↦ lead_is (IsInUse now) (in_use_lasts s now) number mid new visit used
      ]

  pub stalled_gone : (number : ℕ) (old mid new : Served I D S N L i d) → MomentsLead s n l now old mid → MomentsLead s n l now mid new
      → (IsOpenWith (IsStalled now) (slice_get mid.connections number) → Is (λ c. used_of c ≡ now) number new.connections)
      → IsOpenWith (IsStalled now) (slice_get old.connections number) → Is (λ c. used_of c ≡ now) number new.connections
  stalled_gone number old mid new before visit gone stalled =
      let first : Is (IsStalledOrUsed now) number old.connections =
      weaker (IsStalled now) (IsStalledOrUsed now) (slice_get old.connections number) (λ c is. inl is) (open_gone (IsStalled now) (slice_get old.connections number) stalled) in
      let there = lead_is (IsStalledOrUsed now) (stalled_lasts s now) number old mid before first in
      elim (either (IsStalled now) (λ c. used_of c ≡ now) (slice_get mid.connections number) there) [
        | inl still ↦ gone still
        | inr used ↦ lead_is (λ c. used_of c ≡ now) (used_lasts s now) number mid new visit used
      ]

  -- Those with numbers below this one were visited, whether something was done or not, and what was done leads here.
  pub record AreVisited (below : ℕ) (done : Bool) (old new : Served I D S N L i d) : Type 0 where
    pub leads : MomentsLead s n l now old new
    pub parts : (moments : List TurnMoment) × EachHasItsPart s n l now below moments old new × (done ≡ false → AreIdle moments)
    pub unused : (m : Machine) → IsKept old.primary m → (number : ℕ) → number < below → IsOpenWith (IsUnused now) (slice_get old.connections number)
        → Is (IsInUse now) number new.connections
    pub stalled : (number : ℕ) → number < below → IsOpenWith (IsStalled now) (slice_get old.connections number)
        → Is (λ c. used_of c ≡ now) number new.connections

  visited_unused : (at : ℕ) (done : Bool) (old mid new : Served I D S N L i d) → AreVisited at done old mid → MomentsLead s n l now mid new
      → ((e : Machine) → IsKept mid.primary e → IsOpenWith (IsUnused now) (slice_get mid.connections at) → Is (IsInUse now) at new.connections)
      → (m : Machine) → IsKept old.primary m → (number : ℕ) → (number < at) ⊎ (number ≡ at) → IsOpenWith (IsUnused now) (slice_get old.connections number)
      → Is (IsInUse now) number new.connections
  visited_unused at done old mid new before visit gone m kept number (inl below) is =
      lead_is (IsInUse now) (in_use_lasts s now) number mid new visit (before.unused m kept number below is)
  visited_unused at done old mid new before visit gone m kept number (inr same) is =
      subst (λ (k : ℕ). Is (IsInUse now) k new.connections) (sym same)
      (unused_gone at old mid new m before.leads visit gone kept
      (subst (λ (k : ℕ). IsOpenWith (IsUnused now) (slice_get old.connections k)) same is))

  visited_stalled : (at : ℕ) (done : Bool) (old mid new : Served I D S N L i d) → AreVisited at done old mid → MomentsLead s n l now mid new
      → (IsOpenWith (IsStalled now) (slice_get mid.connections at) → Is (λ c. used_of c ≡ now) at new.connections)
      → (number : ℕ) → (number < at) ⊎ (number ≡ at) → IsOpenWith (IsStalled now) (slice_get old.connections number)
      → Is (λ c. used_of c ≡ now) number new.connections
  visited_stalled at done old mid new before visit gone number (inl below) is =
      lead_is (λ c. used_of c ≡ now) (used_lasts s now) number mid new visit (before.stalled number below is)
  visited_stalled at done old mid new before visit gone number (inr same) is =
      subst (λ (k : ℕ). Is (λ c. used_of c ≡ now) k new.connections) (sym same)
      (stalled_gone at old mid new before.leads visit gone
      (subst (λ (k : ℕ). IsOpenWith (IsStalled now) (slice_get old.connections k)) same is))

  pub none_visited : (old : Served I D S N L i d) → AreVisited 0 false old old
  none_visited old = record {
    leads = ([], refl);
    parts = ([], (refl, refl), λ idle. tt);
    unused = λ m kept number below is. absurd (omega (arith, below));
    stalled = λ number below is. absurd (omega (arith, below));
  }

  -- the next one is visited
  pub one_visited : (at : ℕ) (before one done : Bool) (old mid new : Served I D S N L i d) → (done ≡ false → before ≡ false) → (done ≡ false → one ≡ false)
      → AreVisited at before old mid → (moments : List TurnMoment) × HasItsPart s n l now at moments mid new × (one ≡ false → AreIdle moments)
      → ((e : Machine) → IsKept mid.primary e → IsOpenWith (IsUnused now) (slice_get mid.connections at) → Is (IsInUse now) at new.connections)
      → (IsOpenWith (IsStalled now) (slice_get mid.connections at) → Is (λ c. used_of c ≡ now) at new.connections)
      → AreVisited (at + 1) done old new
  one_visited at before one done old mid new not_before not_one visited (moments, part, idle) unused stalled =
      let visit : MomentsLead s n l now mid new = (moments, part.are) in
      let (first, each, idle_before) = visited.parts in
      let next : suc at ≡ at + 1 = omega arith in
      record {
        leads = and_on s n l now old mid new visited.leads visit;
        parts = (first ++ moments, subst (λ (k : ℕ). EachHasItsPart s n l now k (first ++ moments) old new) next (first, moments, mid, refl, each, part), λ none. idle_on first moments (idle_before (not_before none)) (idle (not_one none)));
        unused = λ m kept number below is. visited_unused at before old mid new visited visit unused m kept number (split number at below) is;
        stalled = λ number below is. visited_stalled at before old mid new visited visit stalled number (split number at below) is;
      }

  -- all of them are
  pub all_unused : (below : ℕ) (done : Bool) (old new : Served I D S N L i d) → length old.connections ≤ below → AreVisited below done old new → (m : Machine) → IsKept old.primary m
      → UnusedAreGone now old.connections new.connections
  all_unused below done old new all visited m kept = λ number is.
      let less = inside (IsUnused now) number old.connections is in
      visited.unused m kept number (omega (arith, less, all)) is

  pub all_stalled : (below : ℕ) (done : Bool) (old new : Served I D S N L i d) → length old.connections ≤ below → AreVisited below done old new
      → StalledAreGone now old.connections new.connections
  all_stalled below done old new all visited = λ number is.
      let less = inside (IsStalled now) number old.connections is in
      visited.stalled number (omega (arith, less, all)) is

  -- so it is where something is done before the visits
  pub unused_between : (old mid done : Served I D S N L i d) → MomentsLead s n l now old mid → MomentsLead s n l now mid done
      → ((e : Machine) → IsKept mid.primary e → UnusedAreGone now mid.connections done.connections)
      → (m : Machine) → IsKept old.primary m → UnusedAreGone now old.connections done.connections
  unused_between old mid done before visits gone m kept = λ number is.
      unused_gone number old mid done m before visits (λ e kept' is'. gone e kept' number is') kept is

  pub stalled_between : (old mid done : Served I D S N L i d) → MomentsLead s n l now old mid → MomentsLead s n l now mid done
      → StalledAreGone now mid.connections done.connections → StalledAreGone now old.connections done.connections
  stalled_between old mid done before visits gone = λ number is.
      stalled_gone number old mid done before visits (λ is'. gone number is') is

  -- and after them
  pub unused_after : (old : List (Option (Connection S))) (done new : Served I D S N L i d) → UnusedAreGone now old done.connections
      → MomentsLead s n l now done new → UnusedAreGone now old new.connections
  unused_after old done new gone after = λ number is. lead_is (IsInUse now) (in_use_lasts s now) number done new after (gone number is)

  pub stalled_after : (old : List (Option (Connection S))) (done new : Served I D S N L i d) → StalledAreGone now old done.connections
      → MomentsLead s n l now done new → StalledAreGone now old new.connections
  stalled_after old done new gone after = λ number is. lead_is (λ c. used_of c ≡ now) (used_lasts s now) number done new after (gone number is)
