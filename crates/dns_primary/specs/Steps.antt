-- Steps of a primary, and what is said of them.
use Rattle.std.specs.Prelude.{◌≡◌, ◌⊎◌, ◌↔◌, ℕ, zero, suc, Bool, true, ◌&&◌, ◌||◌, is_some}
use Rattle.std.specs.Prelude.{List, [], ◌∷◌, ◌++◌}
use Rattle.std.specs.Prelude.{Option, Some, None, Result, Ok, Err, map}
use Rattle.dns_wire.specs.Message.{Header, Question, Message}
use Rattle.dns_wire.specs.Codes.{number_of_rcode}
use Rattle.dns_request.specs.Codes.{rcode_servfail}
use Rattle.dns_request.specs.declared.request.Transport.{Transport}
use Rattle.dns_wire.specs.Text.{text}
use Rattle.dns_answer.specs.Answer.{Transfer, bare_reply, handled}
use Rattle.dns_zone.specs.declared.index.ZoneIndex as zone_index
use Rattle.dns_store.specs.declared.zone_store.ZoneStore as store
use Rattle.dns_sectors.specs.Device.{Content, LeavesOnly}
use Rattle.dns_store.specs.Versions.{Shape, Opened, OpensAsLeft}
use Rattle.dns_store.specs.declared.checkpoint.CheckpointError.{CheckpointError}
use Rattle.dns_store.specs.declared.checkpoint.CheckpointError.TheVariants as refused
use Rattle.dns_versions.specs.declared.zone_versions.ZoneVersions.{ZoneVersions}
use Rattle.dns_versions.specs.Each.{Each2, Each3}
use Rattle.dns_versions.specs.Flush.{FailedWhere}
use Rattle.dns_versions.specs.Checkpoint.{OpensAsCheckpointed}
use Rattle.dns_primary.specs.declared.event.Peer.{Peer}
use Rattle.dns_primary.specs.declared.event.To.{To}
use Rattle.dns_primary.specs.declared.event.Event as code
use Rattle.dns_primary.specs.declared.event.Event.TheVariants as event
use Rattle.dns_primary.specs.declared.event.Effects.{Effects}
use Rattle.dns_primary.specs.declared.event.Noted.{Noted}
use Rattle.dns_primary.specs.declared.event.Noted.TheVariants.{Nothing, OutOfMemory, Device}
use Rattle.dns_primary.specs.declared.primary.Primary.{Primary}
use Rattle.dns_primary.specs.declared.update.Outcome.{Outcome}
use Rattle.dns_primary.specs.declared.update.Outcome.TheVariants as outcome
use Rattle.dns_primary.specs.Machine.{ZoneState, Machine, kept_of, shown_zones}
use Rattle.dns_primary.specs.Flush.{Sent, Replied, flushed, flush_sends}
use Rattle.dns_primary.specs.Update.{Asked, replies, is_full, room_lacked}
use Rattle.dns_primary.specs.Step as machine
use Rattle.dns_primary.specs.Step.{AreFailures, IsUpdateBegun, IsRequestHandled, IsUpdated, failure}
use Rattle.dns_primary.specs.Step.{is_update}
use Rattle.dns_primary.specs.Step.{request_lacks}
use Rattle.dns_primary.specs.Keeps.{IsKept, AreEffects}

-- The event of the machine.
abbrev pub event_shown : code.Event → machine.Event
event_shown (event.Datagram peer octets) = machine.Datagram peer octets.now
event_shown (event.Connect peer) = machine.Connect peer
event_shown (event.Message number octets) = machine.Arrives number octets.now
event_shown event.Flush = machine.Flush
event_shown (event.Checkpoint index) = machine.Checkpoint index
event_shown (event.Pump number) = machine.Pump number
event_shown (event.Closed number) = machine.Closed number

-- If the store's device is honest, a crash at any moment between the two leaves of it what has P.
abbrev pub LeavesIfHonest : {S : Type 0} → store.Ghosts S → S → S → (Content → Type 0) → Type 0
LeavesIfHonest s old new P = s.is_honest old → LeavesOnly s.moment s.left_since old new P

-- Each device is as honest as it was.
abbrev pub StayHonest : {I S : Type 0} → store.Ghosts S → List (ZoneVersions I S) → List (ZoneVersions I S)
    → Type 0
StayHonest s olds news = Each2 (λ a b. s.is_honest b.store ↔ s.is_honest a.store) olds news

-- A crash at any moment between the two leaves each honest device so that it opens as the versions shown and
-- the first of those staged.
abbrev pub AtAnyMoment : {I S : Type 0} → store.Ghosts S → Machine → List (ZoneVersions I S)
    → List (ZoneVersions I S) → Type 0
AtAnyMoment s m olds news =
    Each3 (λ a b k. LeavesIfHonest s a.store b.store (OpensAsLeft s.opens k)) olds news
    (map kept_of m.zones)

-- A primary took a step: these of the devices failed, which is said of each of them, the machine that it kept
-- went on to the next one, which it keeps now, and the effects are reported. `step` says of a list of
-- failures, effects and a machine that they are such a step.
pub record Stepped {I S : Type 0} {i : zone_index.Ghosts I} {s : store.Ghosts S} (m : Machine)
    (old new : Primary I S i s) (effects : Effects)
    (step : List Bool → machine.Effects → Machine → Type 0) : Type 0 where
  pub fails : List Bool
  pub failed : FailedWhere (λ b. s.failed b.store) fails old.pending.items new.pending.items
  pub any_moment : AtAnyMoment s m old.pending.items new.pending.items
  pub honest : StayHonest s old.pending.items new.pending.items
  pub next : Machine
  pub stated : machine.Effects
  pub is : step fails stated next
  pub effects_are : AreEffects stated effects
  pub kept : IsKept new next

-- The room that is asked of each zone where its base may be moved.
abbrev pub without_room : ZoneState → Option ℕ × ZoneState
without_room z = (None, z)

abbrev pub with_room : ℕ → ℕ → List ZoneState → List (Option ℕ × ZoneState)
with_room index room [] = []
with_room zero room (z ∷ rest) = (Some room, z) ∷ map without_room rest
with_room (suc index) room (z ∷ rest) = (None, z) ∷ with_room index room rest

abbrev pub with_rooms : Option (ℕ × ℕ) → List ZoneState → List (Option ℕ × ZoneState)
with_rooms None zones = map without_room zones
with_rooms (Some moved) zones = with_room moved.0 moved.1 zones

-- A crash leaves the versions shown and the first of those staged; where the base is moved, with that or all
-- of them with the next.
abbrev pub OpensAsEvent : (Shape → Opened → Content → Type 0) → Option ℕ → ZoneState → Content → Type 0
OpensAsEvent opens None z c = OpensAsLeft opens (kept_of z) c
OpensAsEvent opens (Some room) z c = OpensAsCheckpointed opens z.setting.keep room (kept_of z) c

-- A crash at any moment between the two leaves each honest device so that it opens as that.
abbrev pub AtAnyMomentOf : {I S : Type 0}
    → store.Ghosts S → Option (ℕ × ℕ) → Machine → List (ZoneVersions I S) → List (ZoneVersions I S) → Type 0
AtAnyMomentOf s moved m olds news =
    Each3 (λ a b k. LeavesIfHonest s a.store b.store (OpensAsEvent s.opens k.0 k.1)) olds news
    (with_rooms moved m.zones)

-- A primary took a step that may move the base of this zone, leaving that room: these of the devices failed,
-- which is said of each of them; at each moment a crash left each honest device as that allows, and each is
-- as honest as it was; the machine that it kept went on to the next one, which it keeps now, and the effects
-- are reported.
pub record SteppedOn {I S : Type 0} {i : zone_index.Ghosts I} {s : store.Ghosts S} (m : Machine)
    (moved : Option (ℕ × ℕ)) (old new : Primary I S i s) (effects : Effects)
    (step : List Bool → machine.Effects → Machine → Type 0) : Type 0 where
  pub fails : List Bool
  pub failed : FailedWhere (λ b. s.failed b.store) fails old.pending.items new.pending.items
  pub any_moment : AtAnyMomentOf s moved m old.pending.items new.pending.items
  pub honest : StayHonest s old.pending.items new.pending.items
  pub next : Machine
  pub stated : machine.Effects
  pub is : step fails stated next
  pub effects_are : AreEffects stated effects
  pub kept : IsKept new next

-- A primary took the step of an event.
abbrev pub SteppedBy : {I S : Type 0} {i : zone_index.Ghosts I} {s : store.Ghosts S} → Machine → machine.Event
    → Primary I S i s → Primary I S i s → Effects → Type 0
SteppedBy m event old new effects =
    SteppedOn m (machine.base_moved m event) old new effects
    (λ fails stated next. machine.Step fails m event stated next)

-- A primary has the state that it had: it keeps the machines that it kept, each step from what it is now is one from
-- what it was, and each step that led to what it was led to what it is now.
pub record HasSameState {I S : Type 0} {i : zone_index.Ghosts I} {s : store.Ghosts S} (old new : Primary I S i s)
    : Type 0 where
  pub kept : (m : Machine) → IsKept old m → IsKept new m
  pub stepped : (m : Machine) (event : machine.Event) (next : Primary I S i s) (effects : Effects)
      → SteppedBy m event new next effects → SteppedBy m event old next effects
  pub led : (m : Machine) (event : machine.Event) (before : Primary I S i s) (effects : Effects)
      → SteppedBy m event before old effects → SteppedBy m event before new effects

-- What is noted where a device failed that came after others.
abbrev pub noted_then : Noted → ℕ → Noted
noted_then Nothing index = Device index
noted_then OutOfMemory index = OutOfMemory
noted_then (Device earlier) index = Device earlier

abbrev pub noted_moved : {T : Type 0} → Noted → ℕ → Result T CheckpointError → Noted
noted_moved noted index (Ok v) = noted
noted_moved noted index (Err refused.Device) = noted_then noted index
noted_moved noted index (Err refused.Closed) = noted
noted_moved noted index (Err refused.OutOfMemory) = OutOfMemory

-- Nothing goes out; or one reply alone.
abbrev pub nothing : machine.Effects
nothing = record { sent = []; accepted = None; noted = Nothing }

abbrev pub one_reply : Sent → machine.Effects
one_reply reply = record { sent = reply ∷ []; accepted = None; noted = Nothing }

-- SERVFAIL for want of memory, the header of a request alone.
abbrev pub lack_reply : To → Header → machine.Effects
lack_reply to header = record (one_reply (Replied to (text (bare_reply header rcode_servfail)))) {
  noted = OutOfMemory;
}

-- What becomes of an update goes out after what went out before.
abbrev pub answered_with : machine.Effects → Asked → Outcome → machine.Effects
answered_with effects a (outcome.Waits rcode) = effects
answered_with effects a (outcome.AtOnce rcode) =
    record effects { sent = effects.sent ++ replies a (number_of_rcode rcode) ∷ [] }
answered_with effects a outcome.OutOfMemory =
    record effects { sent = effects.sent ++ replies a rcode_servfail ∷ []; noted = OutOfMemory }

-- Memory was refused to the move of a base, after the flush.
pub record LacksMove (fails : List Bool) (old : Machine) (effects : machine.Effects)
    (mid : Machine) : Type 0 where
  pub failures : AreFailures true old fails
  pub state : mid ≡ flushed fails old
  pub sent : effects.sent ≡ flush_sends fails old
  pub accepted : effects.accepted ≡ None
  pub noted : effects.noted ≡ OutOfMemory

-- What comes before an update is answered, or as much of it as memory was there for.
abbrev pub IsBegunOrLacks : Machine → Option (ℕ × ℕ) → List Bool → machine.Effects → Machine → Type 0
IsBegunOrLacks old lacked fails effects mid =
    IsUpdateBegun fails old lacked effects mid ⊎ ((is_some lacked ≡ true) × LacksMove fails old effects mid)

-- Memory was refused to an update, before what comes first, or within it, or after it.
pub record LacksUpdate (fails : List Bool) (old : Machine) (a : Asked) (effects : machine.Effects)
    (new : Machine) : Type 0 where
  pub noted : effects.noted ≡ OutOfMemory
  pub accepted : effects.accepted ≡ None
  pub stays : ((fails ≡ []) × (new ≡ old) × (effects.sent ≡ replies a rcode_servfail ∷ []))
      ⊎ ((((is_full old || is_some (room_lacked old a)) ≡ true) × AreFailures true old fails
      × (new ≡ flushed fails old) × (effects.sent ≡ flush_sends fails old ++ replies a rcode_servfail ∷ []))
      ⊎ ((lacked : ℕ × ℕ) × (first : machine.Effects) × (room_lacked old a ≡ Some lacked)
      × IsUpdateBegun fails old (Some lacked) first new
      × (effects.sent ≡ first.sent ++ replies a rcode_servfail ∷ [])))

abbrev pub IsUpdatedOrLacks : Machine → Asked → List Bool → machine.Effects → Machine → Type 0
IsUpdatedOrLacks old a fails effects new =
    IsUpdated fails old a effects new ⊎ LacksUpdate fails old a effects new

-- Memory was refused to a request, which is an update or none.
pub record LacksRequest (fails : List Bool) (old : Machine) (to : To) (updates : Bool)
    (lacked : Option (ℕ × ℕ)) (octets : List ℕ) (effects : machine.Effects) (new : Machine) : Type 0 where
  pub noted : effects.noted ≡ OutOfMemory
  pub accepted : effects.accepted ≡ None
  pub stays : ((fails ≡ []) × (new ≡ old) × (effects.sent ≡ failure to octets))
      ⊎ ((((updates && is_full old || is_some lacked) ≡ true) × AreFailures true old fails
      × (new ≡ flushed fails old) × (effects.sent ≡ flush_sends fails old ++ failure to octets))
      ⊎ ((room : ℕ × ℕ) × (first : machine.Effects) × (lacked ≡ Some room)
      × IsUpdateBegun fails old (Some room) first new × (effects.sent ≡ first.sent ++ failure to octets)))

-- What becomes of octets that came from a peer by a transport, their reply going there.
abbrev pub IsServedOrLacks : Machine → Peer → To → List ℕ → Transport → List Bool → machine.Effects
    → Machine → Type 0
IsServedOrLacks old peer to octets transport fails effects new =
    IsRequestHandled fails old to peer (handled (shown_zones old) octets transport) effects new
    ⊎ LacksRequest fails old to (is_update (handled (shown_zones old) octets transport))
    (request_lacks old to peer (handled (shown_zones old) octets transport)) octets effects new

-- Memory was refused to a request that changes nothing then.
pub record LacksAlone (fails : List Bool) (old : Machine) (to : To) (header : Header)
    (effects : machine.Effects) (new : Machine) : Type 0 where
  pub nothing : fails ≡ []
  pub stays : new ≡ old
  pub is : effects ≡ lack_reply to header

-- What becomes of a request for a transfer.
abbrev pub IsTransferredOrLacks : Machine → Peer → To → List ℕ → Message → Question → List Bool
    → machine.Effects → Machine → Type 0
IsTransferredOrLacks old peer to octets message question fails effects new =
    IsRequestHandled fails old to peer (Transfer octets message question) effects new
    ⊎ LacksAlone fails old to message.header effects new
