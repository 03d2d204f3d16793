-- Transfers in the life of a primary.
use Rattle.std.specs.Prelude.{◌≡◌, ◌≢◌, ◌<◌, ◌^◌, ℕ, Bool, true, false, List, [], ◌∷◌, ◌++◌, Some}
use Rattle.std.specs.List.{AllByRecursion}
use Rattle.dns_names.specs.Name.{Labels, IsName}
use Rattle.dns_records.specs.Record.{Record, IsRecord}
use Rattle.dns_serial.specs.Serial.{greater}
use Rattle.dns_zone.specs.Zone.{Zone, soas}
use Rattle.dns_changes.specs.Version.{serial_in}
use Rattle.dns_wire.specs.Message.{Message, Question, header_of}
use Rattle.dns_request.specs.declared.request.Transport.TheVariants.{Udp}
use Rattle.dns_answer.specs.Answer.{Transfer, handled}
use Rattle.dns_transfer.specs.Session.{Sending}
use Rattle.dns_secondary.specs.Receiving.{Receiving}
use Rattle.dns_secondary.specs.State.{Begun}
use Rattle.dns_store.specs.Versions.{Versions, shown_of}
use Rattle.dns_primary.specs.declared.event.Noted.TheVariants.{OutOfMemory}
use Rattle.dns_primary.specs.declared.event.Peer.{Peer}
use Rattle.dns_primary.specs.declared.event.To.TheVariants.{Address}
use Rattle.dns_primary.specs.Machine.{ZoneState, Machine, kept_of, shown_zones, versions_of}
use Rattle.dns_primary.specs.Flush.{Replied}
use Rattle.dns_primary.specs.Transfer.{zone_named}
use Rattle.dns_primary.specs.Step.{Event, Datagram, Effects, Step}
use Rattle.dns_primary.specs.Runs.{Moment, Took, Run}
use Rattle.dns_theorem.specs.Copies as copies
use Rattle.dns_theorem.specs.Copies.{FollowsInOrder}
use Rattle.dns_theorem.specs.Headline.{AreOctetsIn, Asks, AsksBy, IsGivenOut, IsHeldOf, IsSoundZone, OpensFor}
use Rattle.dns_theorem.specs.Headline.{pumped_in}
use Rattle.dns_theorem.specs.Lives.{Act, Ran, Loaded, Reopened, IsMachineAtRest, Life, end_of_life}

-- Each version is a valid zone of that name, with a greater serial than the one before it (RFC 1982 3.2).
abbrev pub AreSoundVersions : Labels → List Record → Versions → Type 0
AreSoundVersions apex before [] = Unit {0}
AreSoundVersions apex before (v ∷ later) =
    IsSoundZone (record { apex = apex; records = v })
    × (greater (serial_in (soas v)) (serial_in (soas before)) ≡ true)
    × AreSoundVersions apex v later

-- The zone was valid when it was loaded, and each version that was shown since is, with a greater serial.
pub record HasSoundVersions (z : ZoneState) : Type 0 where
  pub loaded : IsSoundZone (record { apex = z.setting.shape.apex; records = z.loaded })
  pub shown : AreSoundVersions z.setting.shape.apex z.loaded (versions_of z.shown)

-- A machine at rest, of such zones: as they were just loaded, or as stores were that were there before.
pub record BeginsSoundly (m : Machine) : Type 0 where
  pub rests : IsMachineAtRest m
  pub sound : AllByRecursion HasSoundVersions m.zones

-- What comes in an act are octets, and what is loaded are records that a zone can have.
abbrev pub IsSoundAct : Act → Type 0
IsSoundAct (Ran moment) = AreOctetsIn moment
IsSoundAct (Loaded index file new) = AllByRecursion IsRecord file
IsSoundAct (Reopened index new) = Unit {0}

-- Whoever holds nothing of a zone, or a version that was shown of it at any time of the life, before
-- whichever loads and migrations, and asks for a transfer by TCP, is fed what the machine gives out for it,
-- in order: the next message is not refused but for memory, and after the last, and after no other, the
-- version is held that was shown when the transfer was opened.
abbrev pub TransfersAreFollowedThroughLife : Type 0
TransfersAreFollowedThroughLife =
    (start : Machine) (earlier between : List Act) (later : List Moment) (event : Event) (fails : List Bool)
    (effects : Effects) (opened : Machine) (s : Receiving) (number : ℕ) (sending : Sending)
    (before : List (List ℕ)) (message : List ℕ) (rest : List (List ℕ)) (now : Receiving)
    → BeginsSoundly start
    → Life start (earlier ++ between)
    → AllByRecursion IsSoundAct (earlier ++ between)
    → Run (end_of_life start (earlier ++ between)) (Took event fails effects opened ∷ later)
    → Asks s (end_of_life start earlier) (end_of_life start (earlier ++ between))
    → OpensFor s number (end_of_life start (earlier ++ between)) event opened sending
    → IsGivenOut number (Some sending) later
    → pumped_in number later ≡ before ++ message ∷ rest
    → copies.AllTellMore s before now
    → (w : ZoneState)
    × (zone_named s.apex (end_of_life start (earlier ++ between)).zones ≡ Some w)
    × FollowsInOrder now message rest (shown_of (kept_of w))

-- One who asks the machine by UDP for the changes of a version of a zone that it showed earlier.
pub record AsksByUdp (s : Receiving) (version : Zone) (earlier now : Machine) : Type 0 where
  pub named : IsName s.apex
  pub number : s.id < 2 ^ 16
  pub by_udp : s.transport ≡ Udp
  pub begun : s.state ≡ Some Begun
  pub holds : s.held ≡ Some version
  pub held : IsHeldOf s.apex earlier now (Some version)

-- The octets ask for that, and are taken as a request for a transfer of a zone that the peer may have.
pub record IsAskedOf (s : Receiving) (now : Machine) (peer : Peer) (octets : List ℕ) (w : ZoneState) : Type 0
  where
    pub asks : AsksBy s octets
    pub came : List ℕ
    pub message : Message
    pub question : Question
    pub taken : handled (shown_zones now) octets Udp ≡ Transfer came message question
    pub named : zone_named s.apex now.zones ≡ Some w
    pub allowed : w.setting.may_transfer peer.address ≡ true

-- Whoever holds a version that was shown at any time of the life, and asks for its changes by UDP, gets one
-- answer where memory is not refused. Where that is not cut off, with the bit TC, it is not refused but for
-- memory, and tells that the version is held that is shown, anew or as before, or to ask again by TCP
-- (RFC 1995 2).
abbrev pub DatagramsAreFollowed : Type 0
DatagramsAreFollowed =
    (start : Machine) (earlier between : List Act) (peer : Peer) (octets : List ℕ) (fails : List Bool)
    (effects : Effects) (after : Machine) (s : Receiving) (held : Zone) (w : ZoneState)
    → BeginsSoundly start
    → Life start (earlier ++ between)
    → AllByRecursion IsSoundAct (earlier ++ between)
    → Step fails (end_of_life start (earlier ++ between)) (Datagram peer octets) effects after
    → AsksByUdp s held (end_of_life start earlier) (end_of_life start (earlier ++ between))
    → IsAskedOf s (end_of_life start (earlier ++ between)) peer octets w
    → effects.noted ≢ OutOfMemory
    → (message : List ℕ)
    × (effects.sent ≡ Replied (Address peer) message ∷ [])
    × ((header_of message).tc ≡ false → FollowsInOrder s message [] (shown_of (kept_of w)))
