-- What a primary keeps of the machine, and how it reports effects.
use Rattle.std.specs.Prelude.{◌≡◌, ◌⊎◌, ◌++◌, ◌↔◌, ℕ, Bool, List, [], ◌∷◌, map, length}
use Rattle.std.specs.Prelude.{Option, Some, None, Result, Ok}
use Rattle.std.specs.Prelude.{Err, IsTrue, slice_get, ◌==◌, if◌then◌else◌}
use Rattle.slab.specs.Slab.{Slab, get, slab_len}
use Rattle.std.specs.declared.net.ip_addr.IpAddr.{IpAddr}
use Rattle.dns_wire.specs.Message.{header_of}
use Rattle.dns_wire.specs.Codes.{number_of_rcode}
use Rattle.dns_zone.specs.Zone.{Zone}
use Rattle.dns_zone.specs.declared.index.ZoneIndex as zone_index
use Rattle.dns_store.specs.declared.zone_store.ZoneStore as store
use Rattle.dns_policy.specs.Prefix.{IsAllowed}
use Rattle.dns_store.specs.Versions.{Kept}
use Rattle.dns_transfer.specs.Session.{Sending}
use Rattle.dns_versions.specs.declared.zone_versions.ZoneVersions.{ZoneVersions}
use Rattle.dns_versions.specs.Each.{Each2, Each3}
use Rattle.dns_versions.specs.Flush.{FailedWhere, first_true}
use Rattle.dns_versions.specs.Held.{HasVersions}
use Rattle.dns_primary.specs.declared.event.Waiting.{Waiting}
use Rattle.dns_primary.specs.declared.event.HeaderTo.{HeaderTo}
use Rattle.dns_primary.specs.declared.event.Reply.{Reply}
use Rattle.dns_primary.specs.declared.event.Effects.{Effects}
use Rattle.dns_primary.specs.declared.event.Peer.{Peer}
use Rattle.dns_primary.specs.declared.event.To.{To}
use Rattle.dns_primary.specs.declared.event.To.TheVariants as to
use Rattle.dns_primary.specs.declared.primary.Primary.{Primary}
use Rattle.dns_primary.specs.declared.primary.ZoneSpec.{ZoneSpec}
use Rattle.dns_primary.specs.To.{octets_in}
use Rattle.dns_primary.specs.declared.transfers.OpenTransfer.{OpenTransfer}
use Rattle.dns_primary.specs.Machine.{Waits, Machine, ZoneState, kept_of, peer_at, sending_at}
use Rattle.dns_primary.specs.Flush.{Sent, all_out, answered_of, flush_sends, flushed, goes_out}
use Rattle.dns_wire.specs.declared.codes.Rcode.{Rcode}
use Rattle.dns_request.specs.Codes.{rcode_notauth}
use Rattle.dns_primary.specs.Update.{Admission, Rejects, Admits}
use Rattle.dns_primary.specs.Step as machine

-- These are the versions of the zones, in order.
abbrev pub HaveVersions : {I S : Type 0} → (S → Kept → Type 0) → List Zone → List (ZoneVersions I S)
    → List ZoneState → Type 0
HaveVersions keeps zones pending states =
    Each3 (λ z b k. HasVersions keeps z b k) zones pending (map kept_of states)

-- A reply that waits, as it is stored: of the updates only how many there are.
pub record IsWaiting (w : Waiting) (stated : Waits) : Type 0 where
  pub to : w.to ≡ stated.to
  pub address : w.address ≡ stated.address
  pub header : header_of w.request ≡ stated.header
  pub rcode : number_of_rcode w.rcode ≡ stated.rcode
  pub zone : w.zone ≡ stated.zone
  pub version : w.version ≡ length stated.updates
  pub serial : w.serial ≡ stated.serial

-- A checkpoint keeps so many changes, and the addresses from which a zone may be updated are those that its
-- list allows, and so are those from which it may be transferred.
pub record IsSet (s : ZoneSpec) (z : ZoneState) : Type 0 where
  pub keep : s.keep ≡ z.setting.keep
  pub update : (a : IpAddr) → IsTrue (z.setting.may_update a) ↔ IsAllowed s.update.items a
  pub transfer : (a : IpAddr) → IsTrue (z.setting.may_transfer a) ↔ IsAllowed s.transfer.items a

-- One of the lists that are configured of a zone allows the address.
unfoldable pub IsInList : ZoneSpec → IpAddr → Type 0
IsInList s address = IsAllowed s.update.items address ⊎ IsAllowed s.transfer.items address

-- The transfer that is open on the connection with that number, as they are stored.
abbrev pub sending_on : {I : Type 0} → ℕ → List (OpenTransfer I) → Option Sending
sending_on number [] = None
sending_on number (t ∷ rest) = if t.number == number then Some t.session else sending_on number rest

-- What is shown, what backs it, the pending replies, the connections and the transfers that are open on them
-- are those of the machine, whatever older versions there were.
pub record IsKept {I S : Type 0} {i : zone_index.Ghosts I} {s : store.Ghosts S} (p : Primary I S i s)
    (m : Machine) : Type 0 where
  pub zones_are : HaveVersions s.keeps p.zones.items p.pending.items m.zones
  pub settings_are : Each2 IsSet p.settings.items m.zones
  pub waiting_are : Each2 IsWaiting p.waiting.items m.waiting
  pub connections_are : (number : ℕ) → get p.connections number ≡ peer_at number m.connections
  pub transfers_are : (number : ℕ) → sending_on number p.transfers.items ≡ sending_at number m.connections
  pub as_many : slab_len p.connections ≡ length m.connections

abbrev pub header_out : HeaderTo → To × List ℕ
header_out h = (h.waited.to, h.octets)

-- These are the headers of replies that waited, in order.
abbrev pub AreTold : List HeaderTo → List Waits → Type 0
AreTold headers waits = Each2 (λ h w. IsWaiting h.waited w) headers waits

-- To the headers that go out this one is added, unless it goes nowhere.
abbrev pub GoesOutAfter : List HeaderTo → List HeaderTo → Sent → Type 0
GoesOutAfter old new sent = map header_out new ≡ map header_out old ++ goes_out sent

-- All zones were flushed, as far as their devices let them, and the replies that waited for that are these;
-- the first zone whose device failed is told.
abbrev pub AreAllFlushed : {I S : Type 0} → (S → Kept → Type 0) → (S → ℕ) → Machine → List Zone
    → List (ZoneVersions I S) → List (ZoneVersions I S) → List HeaderTo → Option ℕ → Type 0
AreAllFlushed keeps failed m zones olds news headers first =
    (fails : List Bool) × (length fails ≡ length m.zones)
    × FailedWhere (λ b. failed b.store) fails olds news
    × HaveVersions keeps zones news (flushed fails m).zones
    × (map header_out headers ≡ all_out (flush_sends fails m))
    × AreTold headers (answered_of (flush_sends fails m))
    × (first ≡ first_true fails)

abbrev pub reply_out : Option Reply → List (To × List ℕ)
reply_out None = []
reply_out (Some r) = (r.to, octets_in r.octets) ∷ []

-- These are the effects: the replies that waited, in order, each with what was stored of it, then the one to
-- what came, if there is one.
pub record AreEffects (stated : machine.Effects) (effects : Effects) : Type 0 where
  pub sent : all_out stated.sent ≡ map header_out effects.headers.items ++ reply_out effects.message
  pub told : AreTold effects.headers.items (answered_of stated.sent)
  pub accepted : stated.accepted ≡ effects.accepted
  pub noted : stated.noted ≡ effects.noted

-- The admission that follows from a test of the zone at a position, and one that names the position of a
-- zone.
abbrev pub admission_of_test : ℕ → ZoneState → Result (Unit {0}) Rcode → Admission
admission_of_test index z (Ok v) = Admits index z
admission_of_test index z (Err rcode) = Rejects (number_of_rcode rcode)

abbrev pub admits_at : ℕ → Option ZoneState → Admission
admits_at index None = Rejects rcode_notauth
admits_at index (Some z) = Admits index z

abbrev pub admission_shown : List ZoneState → Result ℕ Rcode → Admission
admission_shown states (Ok index) = admits_at index (slice_get states index)
admission_shown states (Err rcode) = Rejects (number_of_rcode rcode)

-- Where a reply goes to a connection, it is there.
abbrev pub HasConnection : Slab Peer → To → Type 0
HasConnection connections (to.Address peer) = Unit {0}
HasConnection connections (to.Connection number) = get connections number ≡ None → ⊥
HasConnection connections to.Nowhere = Unit {0}
