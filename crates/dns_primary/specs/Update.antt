-- What becomes of an update (RFC 2136 3).
use Rattle.std.specs.Prelude.{ℕ, suc, Bool, not, ◌==◌, nat_lt, List, [], ◌∷◌, ◌++◌, length, slice_get}
use Rattle.std.specs.Prelude.{slice_set, Option, Some, None, option_map, if◌then◌else◌}
use Rattle.std.specs.declared.net.ip_addr.IpAddr.{IpAddr}
use Rattle.dns_names.specs.Name.{Labels, names_eq}
use Rattle.dns_records.specs.Types.{type_soa, class_in}
use Rattle.dns_records.specs.Record.{Record}
use Rattle.dns_wire.specs.Codes.{number_of_rcode}
use Rattle.dns_wire.specs.Message.{Question, Message}
use Rattle.dns_wire.specs.Text.{text}
use Rattle.dns_request.specs.Codes.{rcode_formerr, rcode_notauth, rcode_refused, rcode_servfail}
use Rattle.dns_answer.specs.Answer.{bare_reply}
use Rattle.dns_zone.specs.Zone.{soas}
use Rattle.dns_changes.specs.Version.{serial_in}
use Rattle.dns_update.specs.Verdict.{Verdict, Refuses, Keeps, Leaves, verdict}
use Rattle.dns_store.specs.Versions.{Kept}
use Rattle.dns_versions.specs.Held.{newest_zone}
use Rattle.dns_versions.specs.Staging.{has_room, sectors_lacked}
use Rattle.dns_primary.specs.declared.event.To.{To}
use Rattle.dns_primary.specs.Machine.{Made, ZoneState, Machine, kept_of, updates_of}
use Rattle.dns_primary.specs.Flush.{Sent, Replied, flushed, flush_sends}

-- How many replies may wait.
abbrev pub most_waiting : ℕ
most_waiting = 32

-- An update that came: where its reply goes, the address that it came from, its message and the zone that it
-- names.
pub record Asked : Type 0 where
  pub to : To
  pub address : IpAddr
  pub message : Message
  pub zone : Question

-- The position of the first zone with this apex.
abbrev pub zone_position : Labels → List ZoneState → Option ℕ
zone_position apex [] = None
zone_position apex (z ∷ rest) =
    if names_eq z.setting.shape.apex apex then Some 0 else option_map suc (zone_position apex rest)

-- What is tested before the update is judged (RFC 2136 3.1, 3.3): it is refused at once, or it is for the
-- zone at a position.
pub data Admission : Type 0 where
  Rejects : ℕ → Admission
  Admits : ℕ → ZoneState → Admission

-- The address, and whether the zone is closed.
abbrev pub admission_in : IpAddr → ℕ → Option ZoneState → Admission
admission_in address index None = Rejects rcode_notauth
admission_in address index (Some z) =
    if not (z.setting.may_update address) then Rejects rcode_refused
    else if z.closed then Rejects rcode_servfail
    else Admits index z

abbrev pub admission_at : List ZoneState → IpAddr → Option ℕ → Admission
admission_at zones address None = Rejects rcode_notauth
admission_at zones address (Some index) = admission_in address index (slice_get zones index)

-- The type of the zone that is named, its class and its apex, then as above.
abbrev pub admission : List ZoneState → Asked → Admission
admission zones a =
    if not (a.zone.qtype == type_soa) then Rejects rcode_formerr
    else if not (a.zone.qclass == class_in) then Rejects rcode_notauth
    else admission_at zones a.address (zone_position a.zone.name zones)

-- The serial of a zone's newest version.
abbrev pub newest_serial : ZoneState → ℕ
newest_serial z = serial_in (soas (newest_zone (kept_of z)).records)

-- The reply waits, with the serial and the updates of its zone.
abbrev pub waits : Machine → Asked → ℕ → ℕ → ℕ → List Made → Machine
waits m a index rcode serial updates =
    record m {
      waiting = m.waiting ++ record {
        to = a.to;
        address = a.address;
        header = a.message.header;
        rcode = rcode;
        zone = index;
        serial = serial;
        updates = updates;
      } ∷ [];
    }

abbrev pub with_staged : Made → ZoneState → ZoneState
with_staged made z = record z { staged = z.staged ++ made ∷ [] }

-- The update is staged after the newest version, and its reply waits.
abbrev pub stages : Machine → Asked → ℕ → ZoneState → List Record → Machine
stages m a index z records =
    let made : Made = record { update = a.message; records = records } in
    waits (record m { zones = slice_set m.zones index (with_staged made z) }) a index 0
    (newest_serial (with_staged made z)) (updates_of (with_staged made z))

-- The reply goes out at once.
abbrev pub replies : Asked → ℕ → Sent
replies a rcode = Replied a.to (text (bare_reply a.message.header rcode))

-- An accepted update is staged. One for which there is no room is refused, and its reply waits. (The entry of
-- the first fits in what is left of the journal, by what came before.)
abbrev pub accepted_in : Machine → Asked → ℕ → ZoneState → List Record → Machine × List Sent
accepted_in m a index z records =
    if has_room (kept_of z) records then (stages m a index z records, [])
    else (waits m a index rcode_servfail (newest_serial z) (updates_of z), [])

-- What is judged waits, whether or not it changes the zone.
abbrev pub judged_in : Machine → Asked → ℕ → ZoneState → Verdict → Machine × List Sent
judged_in m a index z (Refuses rcode) =
    (waits m a index (number_of_rcode rcode) (newest_serial z) (updates_of z), [])
judged_in m a index z Keeps = (waits m a index 0 (newest_serial z) (updates_of z), [])
judged_in m a index z (Leaves records) = accepted_in m a index z records

-- It is judged on the newest version.
abbrev pub admitted : Machine → Asked → Admission → Machine × List Sent
admitted m a (Rejects rcode) = (m, replies a rcode ∷ [])
admitted m a (Admits index z) =
    judged_in m a index z (verdict (newest_zone (kept_of z)) a.message.answers a.message.authorities)

-- As many wait as may.
abbrev pub is_full : Machine → Bool
is_full m = not (nat_lt (length m.waiting) most_waiting)

-- Then a flush comes first.
abbrev pub made_place : List Bool → Machine → Machine × List Sent
made_place fails m = if is_full m then (flushed fails m, flush_sends fails m) else (m, [])

-- How many sectors an update lacks that is judged so: those of its entry, where there is room for its
-- version, but not in what is left of the journal.
abbrev pub lacked_by : Kept → Verdict → Option ℕ
lacked_by k (Refuses rcode) = None
lacked_by k Keeps = None
lacked_by k (Leaves records) = sectors_lacked k records

-- The position of the zone whose journal lacks room for the update, and how many sectors. Then a checkpoint
-- comes first that leaves them. No flush before it changes the newest version or what is left.
abbrev pub lacked_at : Asked → Admission → Option (ℕ × ℕ)
lacked_at a (Rejects rcode) = None
lacked_at a (Admits index z) =
    option_map (λ sectors. (index, sectors))
    (lacked_by (kept_of z) (verdict (newest_zone (kept_of z)) a.message.answers a.message.authorities))

abbrev pub room_lacked : Machine → Asked → Option (ℕ × ℕ)
room_lacked m a = lacked_at a (admission m.zones a)

-- The update is tested and judged on the machine that is left by what came first.
abbrev pub answer : Machine → Asked → Machine × List Sent
answer m a = admitted m a (admission m.zones a)
