-- What one who holds a version, or nothing, makes of a transfer.
use Rattle.std.specs.Prelude.{◌≡◌, ⊤, ℕ, ◌<◌, ◌^◌, false, List, [], ◌∷◌, ◌++◌, map, Option, Some, None}
use Rattle.std.specs.List.{AllByRecursion}
use Rattle.dns_names.specs.Name.{Labels, IsName}
use Rattle.dns_records.specs.Record.{Record, IsRecord}
use Rattle.dns_zone.specs.Zone.{Zone, soas}
use Rattle.dns_changes.specs.Change.{Change}
use Rattle.dns_changes.specs.Version.{serial_in}
use Rattle.dns_wire.specs.Message.{header_of}
use Rattle.dns_wire.specs.Valid.{item_of}
use Rattle.dns_request.specs.declared.request.Transport.TheVariants.{Udp}
use Rattle.dns_transfer.specs.Form.{advances}
use Rattle.dns_transfer.specs.Records.{transfer_of}
use Rattle.dns_transfer.specs.Session.{Sending, SendsMessage, IsTransferOpened}
use Rattle.dns_secondary.specs.Receiving.{Receiving}
use Rattle.dns_secondary.specs.Request.{question_asked, request_message, request_octets}
use Rattle.dns_secondary.specs.Rest.{AreHeld}
use Rattle.dns_secondary.specs.State.{Begun}
use Rattle.dns_secondary.specs.Taken.{Taken}
use Rattle.dns_secondary.specs.Told.{Feeds, RefusesFeed, holding}
use Rattle.dns_secondary.specs.declared.fault.Fault.{Fault}
use Rattle.dns_secondary.specs.declared.fault.Progress.TheVariants.{More, Done, UpToDate, RetryTcp}
use Rattle.dns_theorem.specs.Versions.{LeadTo, EndAlike}

-- What is held where a transfer is asked for: nothing; or a version from which changes lead to the one that
-- is shown, over which the serial goes less than 2^31. It may be older than the first whose changes are kept.
abbrev pub IsFollowed : Labels → Option Zone → List Change → List Record → Type 0
IsFollowed apex None kept shown = ⊤
IsFollowed apex (Some z) kept shown =
    (later : List Change) × LeadTo apex z.records later shown
    × (advances later < 2 ^ 31) × EndAlike later kept

-- The serial of the version that is held.
abbrev pub serial_held : Option Zone → Option ℕ
serial_held None = None
serial_held (Some z) = Some (serial_in (soas z.records))

-- The records of the transfer.
abbrev pub answer_for : Option Zone → List Change → List Record → List Record
answer_for held kept shown = transfer_of shown kept (serial_held held)

-- The answer to whoever holds nothing, or a version that is followed, means the version that is shown.
abbrev pub TransferIsTaken : Type 0
TransferIsTaken =
    (apex : Labels) (held : Option Zone) (base : List Record) (kept : List Change) (shown : List Record)
    → LeadTo apex base kept shown
    → IsFollowed apex held kept shown
    → AllByRecursion IsRecord (answer_for held kept shown)
    → Taken apex held (map item_of (answer_for held kept shown)) shown

-- A session sends all that is left of it, one message after the other.
abbrev pub SendsAll : Sending → List (List ℕ) → Type 0
SendsAll s [] = s.left ≡ []
SendsAll s (message ∷ messages) =
    (s.left ≡ [] → ⊥) × (next : Sending) × SendsMessage s message next × SendsAll next messages

-- The messages of the session that is opened for a request, for the version that is shown. By UDP none is cut
-- off, with the bit TC (RFC 1035 4.1.1).
pub record AreAnswers (s : Receiving) (kept : List Change) (shown : List Record)
    (messages : List (List ℕ)) : Type 0 where
  pub named : IsName s.apex
  pub number : s.id < 2 ^ 16
  pub sending : Sending
  pub opened : IsTransferOpened s.transport (request_octets s.apex s.held s.id)
      (request_message s.apex s.held s.id)
      (question_asked s.apex s.held)
      (record { zone = record { apex = s.apex; records = shown }; changes = kept }) sending
  pub each : AllByRecursion IsRecord sending.left
  pub all : SendsAll sending messages
  pub not_cut : s.transport ≡ Udp → AllByRecursion (λ message. (header_of message).tc ≡ false) messages

-- Messages are fed, of each of which it is reported that more is to come.
abbrev pub AllTellMore : Receiving → List (List ℕ) → Receiving → Type 0
AllTellMore s [] now = now ≡ s
AllTellMore s (message ∷ rest) now = (next : Receiving) × Feeds s message More next
    × AllTellMore next rest now

-- The next message of a transfer of the version that is shown is not refused. More is to come only where a
-- message is left; after the last the version that is shown is held, anew or as before, and that is reported
-- after no other. By UDP there is one message, and what is reported of it may be to ask again by TCP.
pub record FollowsInOrder (s : Receiving) (message : List ℕ) (pending : List (List ℕ))
    (shown : List Record) : Type 0 where
  pub refused : (fault : Fault) → RefusesFeed s message fault → ⊥
  pub more : (next : Receiving) → Feeds s message More next → pending ≡ [] → ⊥
  pub done : (next : Receiving) → Feeds s message Done next → (pending ≡ []) × (next ≡ holding s shown)
  pub current : (next : Receiving) → Feeds s message UpToDate next → (pending ≡ []) × AreHeld s.held shown
  pub again : (next : Receiving) → Feeds s message RetryTcp next → s.transport ≡ Udp
  pub alone : s.transport ≡ Udp → pending ≡ []

-- Who asks for a transfer of a version, and is fed its messages in order, holds that version after the last,
-- or by UDP is told to ask again.
abbrev pub TransferIsFollowed : Type 0
TransferIsFollowed =
    (s : Receiving) (base : List Record) (kept : List Change) (shown : List Record) (before : List (List ℕ))
    (message : List ℕ) (pending : List (List ℕ)) (now : Receiving)
    → s.state ≡ Some Begun
    → LeadTo s.apex base kept shown
    → IsFollowed s.apex s.held kept shown
    → AreAnswers s kept shown (before ++ message ∷ pending)
    → AllTellMore s before now
    → FollowsInOrder now message pending shown
