-- Worked examples: one zone with an update that waits for a flush.
use Rattle.std.proofs.Common.{◌≡◌, true, false, [], ◌∷◌, refl}
use Rattle.std.specs.Prelude.{None}
use Rattle.std.specs.declared.net.ip_addr.IpAddr.{IpAddr}
use Rattle.dns_wire.specs.Message.{Header, Message}
use Rattle.dns_primary.specs.declared.event.To.{To}
use Rattle.dns_primary.specs.declared.event.To.TheVariants.{Connection}
use Rattle.dns_primary.specs.Machine.{Setting, Made, ZoneState, Waits, Machine, shown_zones}
use Rattle.dns_primary.specs.Flush.{Answered, flushed, flush_sends, all_out}
use Rattle.dns_primary.specs.Connections.{closed}

module _ (update : Message) (address : IpAddr) (header : Header) (setting : Setting) where
  abbrev made : Made
  made = record { update = update; records = [] }

  abbrev zone : ZoneState
  zone = record { setting = setting; loaded = []; shown = []; staged = made ∷ []; base = 0; second = None; openings = 0; altered = []; closed = false }

  abbrev reply : To → Waits
  reply to = record { to = to; address = address; header = header; rcode = 0; zone = 0; serial = 0; updates = made ∷ [] }

  abbrev machine : To → Machine
  machine to = record { zones = zone ∷ []; waiting = reply to ∷ []; connections = [] }

  answered : (to : To) → flush_sends (false ∷ []) (machine to) ≡ Answered (reply to) 0 ∷ []
  answered to = refl

  -- a failed flush is SERVFAIL, and shows nothing
  failed : (to : To) → flush_sends (true ∷ []) (machine to) ≡ Answered (reply to) 2 ∷ []
  failed to = refl

  shown_before : (to : To) → shown_zones (flushed (true ∷ []) (machine to)) ≡ shown_zones (machine to)
  shown_before to = refl

  -- after it nothing of the zone is made durable any more
  stays_closed : (to : To) → flushed (false ∷ []) (flushed (true ∷ []) (machine to)) ≡ flushed (true ∷ []) (machine to)
  stays_closed to = refl

  -- a reply to a connection that was closed goes nowhere
  nowhere : all_out (flush_sends (false ∷ []) (closed 3 (machine (Connection 3)))) ≡ []
  nowhere = refl
