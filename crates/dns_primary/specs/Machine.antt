-- The state of a primary, as a machine: of each zone its versions, and for all the replies that wait and the
-- connections.
use Rattle.std.specs.Prelude.{◌⊎◌, ℕ, Bool, ◌==◌, IsTrue, List, [], ◌∷◌, ◌++◌, Any, map, Option, Some, None}
use Rattle.std.specs.Prelude.{if◌then◌else◌}
use Rattle.std.specs.declared.net.ip_addr.IpAddr.{IpAddr}
use Rattle.dns_records.specs.Record.{Record}
use Rattle.dns_zone.specs.Zone.{Zone}
use Rattle.dns_wire.specs.Message.{Header, Message}
use Rattle.dns_sectors.specs.Crash.{Write}
use Rattle.dns_store.specs.Versions.{Shape, Kept, Versions}
use Rattle.dns_transfer.specs.Session.{Sending}
use Rattle.dns_versions.specs.Held.{shown_zone}
use Rattle.dns_primary.specs.declared.event.Peer.{Peer}
use Rattle.dns_primary.specs.declared.event.To.{To}

-- What is configured of a zone: its apex, the sizes of its store, how many changes a checkpoint keeps at
-- most, and from which addresses it may be updated and transferred.
pub record Setting : Type 0 where
  pub shape : Shape
  pub keep : ℕ
  pub may_update : IpAddr → Bool
  pub may_transfer : IpAddr → Bool

-- An accepted update, and the records that it left.
pub record Made : Type 0 where
  pub update : Message
  pub records : List Record

-- A zone: its records as loaded, the updates of the version that is shown, and those staged after it. `base`
-- is the number of the version that its journal begins at; `second` is that of another, left by a checkpoint
-- that failed. `openings` is how often its store was opened. `altered` are sectors of its device that were
-- altered, as they stand. Where its device failed it is closed.
pub record ZoneState : Type 0 where
  pub setting : Setting
  pub loaded : List Record
  pub shown : List Made
  pub staged : List Made
  pub base : ℕ
  pub second : Option ℕ
  pub openings : ℕ
  pub altered : List Write
  pub closed : Bool

abbrev pub updates_of : ZoneState → List Made
updates_of z = z.shown ++ z.staged

abbrev pub versions_of : List Made → Versions
versions_of = map (λ m. m.records)

-- The versions alone, as a store keeps them: each update's is the one after it.
abbrev pub kept_of : ZoneState → Kept
kept_of z = record {
  shape = z.setting.shape;
  loaded = z.loaded;
  shown = versions_of z.shown;
  staged = versions_of z.staged;
  base = z.base;
  second = z.second;
  openings = z.openings;
  altered = z.altered;
  closed = z.closed;
}

-- A reply to an update, which waits for the next flush, and the address that the update came from. `updates`
-- are those of its zone when it was judged, and the update itself if it was accepted; `serial` is that of the
-- zone's newest version then.
pub record Waits : Type 0 where
  pub to : To
  pub address : IpAddr
  pub header : Header
  pub rcode : ℕ
  pub zone : ℕ
  pub serial : ℕ
  pub updates : List Made

-- A connection, the peer that made it, and the transfer that is open on it.
pub record Connection : Type 0 where
  pub number : ℕ
  pub peer : Peer
  pub transfer : Option Sending

pub record Machine : Type 0 where
  pub zones : List ZoneState
  pub waiting : List Waits
  pub connections : List Connection

-- Some zone may be updated or transferred from the address.
abbrev pub IsListed : Machine → IpAddr → Type 0
IsListed m address =
    Any (λ z. IsTrue (z.setting.may_update address) ⊎ IsTrue (z.setting.may_transfer address)) m.zones

-- The zones as they are shown.
abbrev pub shown_zones : Machine → List Zone
shown_zones m = map (λ z. shown_zone (kept_of z)) m.zones

-- The peer of the connection with that number.
abbrev pub peer_at : ℕ → List Connection → Option Peer
peer_at number [] = None
peer_at number (c ∷ rest) = if c.number == number then Some c.peer else peer_at number rest

-- The transfer that is open on the connection with that number.
abbrev pub sending_at : ℕ → List Connection → Option Sending
sending_at number [] = None
sending_at number (c ∷ rest) = if c.number == number then c.transfer else sending_at number rest
