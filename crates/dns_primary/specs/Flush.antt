-- What a flush of all zones does.
use Rattle.std.specs.Prelude.{ℕ, Bool, true, false, ◌||◌, List, [], ◌∷◌, ◌++◌, map, flat_map, slice_get}
use Rattle.std.specs.Prelude.{Option, Some, None, if◌then◌else◌}
use Rattle.dns_wire.specs.Text.{text}
use Rattle.dns_request.specs.Codes.{rcode_servfail}
use Rattle.dns_answer.specs.Answer.{bare_reply}
use Rattle.dns_primary.specs.declared.event.To.{To}
use Rattle.dns_primary.specs.declared.event.To.TheVariants.{Address, Connection, Nowhere}
use Rattle.dns_primary.specs.To.{is_nowhere}
use Rattle.dns_primary.specs.Machine.{Made, ZoneState, Waits, Machine}

-- What goes out: the reply to an update that waited, with this response code, or another reply.
pub data Sent : Type 0 where
  Answered : Waits → ℕ → Sent
  Replied : To → List ℕ → Sent

abbrev pub is_none_made : List Made → Bool
is_none_made [] = true
is_none_made (m ∷ rest) = false

-- What is staged of a zone is shown, or its device fails and it is closed. A closed zone, and one with
-- nothing staged, stay.
abbrev pub flushed_zone : Bool → ZoneState → ZoneState
flushed_zone fails z =
    if z.closed || is_none_made z.staged then z
    else if fails then record z { closed = true }
    else record z { shown = z.shown ++ z.staged; staged = [] }

-- All zones in order, as far as the list goes of which devices fail.
abbrev pub flushed_zones : List Bool → List ZoneState → List ZoneState
flushed_zones [] zones = zones
flushed_zones (f ∷ fails) [] = []
flushed_zones (f ∷ fails) (z ∷ zones) = flushed_zone f z ∷ flushed_zones fails zones

abbrev pub is_closed_in : Option ZoneState → Bool
is_closed_in None = true
is_closed_in (Some z) = z.closed

-- A reply that waited goes out, as SERVFAIL if its zone is closed.
abbrev pub released_code : List ZoneState → Waits → ℕ
released_code zones w = if is_closed_in (slice_get zones w.zone) then rcode_servfail else w.rcode

abbrev pub released : List ZoneState → Waits → Sent
released zones w = Answered w (released_code zones w)

-- Nothing waits then.
abbrev pub flushed : List Bool → Machine → Machine
flushed fails m = record m { zones = flushed_zones fails m.zones; waiting = [] }

abbrev pub flush_sends : List Bool → Machine → List Sent
flush_sends fails m = map (released (flushed_zones fails m.zones)) m.waiting

-- Where it goes, and its octets; to nowhere goes nothing.
abbrev pub out_to : To → List ℕ → List (To × List ℕ)
out_to (Address peer) octets = (Address peer, octets) ∷ []
out_to (Connection number) octets = (Connection number, octets) ∷ []
out_to Nowhere octets = []

abbrev pub goes_out : Sent → List (To × List ℕ)
goes_out (Answered w rcode) = out_to w.to (text (bare_reply w.header rcode))
goes_out (Replied to octets) = out_to to octets

abbrev pub all_out : List Sent → List (To × List ℕ)
all_out sent = flat_map goes_out sent

-- The replies that waited and go somewhere, in order.
abbrev pub answered_in : Sent → List Waits
answered_in (Answered w rcode) = if is_nowhere w.to then [] else w ∷ []
answered_in (Replied to octets) = []

abbrev pub answered_of : List Sent → List Waits
answered_of sent = flat_map answered_in sent
