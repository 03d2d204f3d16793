-- An update that is for a primary whose replies have room for one more, and what is said of it.
use Rattle.std.specs.Prelude.{◌≡◌, ◌↔◌, ◌+◌, ℕ, true, false, List, [], ◌∷◌, length, slice_get, Some}
use Rattle.dns_wire.specs.Codes.{number_of_rcode}
use Rattle.dns_request.specs.Codes.{rcode_servfail}
use Rattle.dns_zone.specs.Zone.{Zone, soas}
use Rattle.dns_changes.specs.Version.{serial_in}
use Rattle.dns_sectors.specs.Device.{Content}
use Rattle.dns_store.specs.Versions.{Kept, StandsStill}
use Rattle.dns_versions.specs.declared.zone_versions.ZoneVersions.{ZoneVersions}
use Rattle.dns_versions.specs.Each.{Each2}
use Rattle.dns_versions.specs.Held.{newest_zone}
use Rattle.dns_update.specs.Verdict.{Verdict, verdict}
use Rattle.dns_primary.specs.declared.event.Waiting.{Waiting}
use Rattle.dns_primary.specs.declared.primary.ZoneSpec.{ZoneSpec}
use Rattle.dns_primary.specs.declared.update.UpdateRequest.{UpdateRequest}
use Rattle.dns_primary.specs.declared.update.Planned.{Planned}
use Rattle.dns_primary.specs.declared.update.Outcome.{Outcome}
use Rattle.dns_primary.specs.declared.update.Outcome.TheVariants as outcome
use Rattle.dns_primary.specs.Machine.{ZoneState, Machine, Connection, kept_of}
use Rattle.dns_primary.specs.Flush.{Sent}
use Rattle.dns_primary.specs.Update.{Asked, Rejects, Admits, admission, replies, lacked_by}
use Rattle.dns_primary.specs.Outcome.{HasLeft, IsPlannedBy, IsStageable, lacked_of}
use Rattle.dns_primary.specs.Keeps.{HaveVersions, IsSet, IsWaiting}

-- The update that the request is.
abbrev pub asked_of : UpdateRequest → Asked
asked_of u =
    record { to = u.to; address = u.address; message = u.request.message.message; zone = u.request.question }

-- No call was made on the device of the store, and so none failed, and it is as honest as it was.
pub record IsUntouched {S : Type 0} (moment : S → ℕ) (left_since : S → ℕ → Content → Type 0) (failed : S → ℕ)
    (is_honest : S → Type 0) (old new : S) : Type 0 where
  pub still : StandsStill moment left_since old new
  pub quiet : failed new ≡ failed old
  pub honest : is_honest new ↔ is_honest old

-- The reply has the number and the serial of the newest of these versions.
pub record IsOfNewest (k : Kept) (w : Waiting) : Type 0 where
  pub version : w.version ≡ length k.shown + length k.staged
  pub serial : w.serial ≡ serial_in (soas (newest_zone k).records)

-- The machine has these zones, with what backs them, these pending replies, and those connections.
pub record HoldsZones {I S : Type 0} (keeps : S → Kept → Type 0) (zones : List Zone)
    (pending : List (ZoneVersions I S))
    (settings : List ZoneSpec)
    (waiting : List Waiting) (connections : List Connection) (m : Machine) : Type 0 where
  pub zones_are : HaveVersions keeps zones pending m.zones
  pub settings_are : Each2 IsSet settings m.zones
  pub waiting_are : Each2 IsWaiting waiting m.waiting
  pub connections_are : m.connections ≡ connections

-- It ends so, with nothing sent as long as its reply waits, and else a reply at once; or memory was refused,
-- and the machine stays as it is.
abbrev pub IsAnswered : (Machine → Type 0) → Machine → Asked → Machine × List Sent → Outcome → Type 0
IsAnswered held m a ended (outcome.Waits rcode) = (ended.1 ≡ []) × held ended.0
IsAnswered held m a ended (outcome.AtOnce rcode) =
    (ended.1 ≡ replies a (number_of_rcode rcode) ∷ []) × held ended.0
IsAnswered held m a ended outcome.OutOfMemory = held m

-- The verdict on an update of this zone, by its newest version.
abbrev pub verdict_on : Asked → ZoneState → Verdict
verdict_on a z = verdict (newest_zone (kept_of z)) a.message.answers a.message.authorities

-- What was planned before what came first still holds of the zone at the index: the update is refused if the
-- zone is closed then, and else admitted, and it comes to the same by the verdict on its newest version. What
-- came first left room in its journal.
pub record HoldsStill {X : Type 0} (m : Machine) (a : Asked) (index : ℕ) (p : Planned X) : Type 0 where
  pub zone : ZoneState
  pub stands : slice_get m.zones index ≡ Some zone
  pub shut : zone.closed ≡ true → admission m.zones a ≡ Rejects rcode_servfail
  pub admits : zone.closed ≡ false → admission m.zones a ≡ Admits index zone
  pub is : IsPlannedBy (kept_of zone) (verdict_on a zone) p
  pub left : zone.closed ≡ false → HasLeft (kept_of zone) (verdict_on a zone)

-- The update is planned, for the zone at the index.
pub record IsUpdatePlanned {X : Type 0} (m : Machine) (a : Asked) (index : ℕ) (p : Planned X) : Type 0 where
  pub zone : ZoneState
  pub admits : admission m.zones a ≡ Admits index zone
  pub is : IsPlannedBy (kept_of zone) (verdict_on a zone) p
  pub lacks : lacked_of p ≡ lacked_by (kept_of zone) (verdict_on a zone)

-- What was planned may be staged after the newest version of the zone at the index.
abbrev pub IsStageableAt : {X : Type 0} → List Zone → ℕ → Planned X → Type 0
IsStageableAt newest index p = (v : Zone) → slice_get newest index ≡ Some v → IsStageable v p
