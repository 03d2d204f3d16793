-- How the transfers that are open are stored, and what a message of one changes.
use Rattle.std.specs.Prelude.{◌≡◌, ◌⊎◌, ℕ, Bool, List, [], Option, Some, None}
use Rattle.dns_wire.specs.Message.{Header}
use Rattle.dns_transfer.specs.Session.{Sending, SendsMessage}
use Rattle.dns_primary.specs.declared.event.To.{To}
use Rattle.dns_primary.specs.declared.event.Effects.{Effects}
use Rattle.dns_primary.specs.declared.transfers.OpenTransfer.{OpenTransfer}
use Rattle.dns_primary.specs.Machine.{Machine}
use Rattle.dns_primary.specs.Flush.{Replied}
use Rattle.dns_primary.specs.Transfer.{TransferBegins, open_still}
use Rattle.dns_primary.specs.Step as machine
use Rattle.dns_primary.specs.Step.{TellsFlush}
use Rattle.dns_primary.specs.Keeps.{AreEffects, sending_on}
use Rattle.dns_primary.specs.Steps.{LacksAlone, lack_reply, one_reply}

-- This transfer, or none, is open on the connection with that number, and on the others those that were.
pub record SetsOn {I : Type 0} (number : ℕ) (s : Option Sending)
    (old new : List (OpenTransfer I)) : Type 0 where
  pub here : sending_on number new ≡ s
  pub others : (n : ℕ) → (number ≡ n → ⊥) → sending_on n new ≡ sending_on n old

-- No message is there: no transfer is open on the connection, or one of which nothing is left, and it is
-- forgotten.
abbrev pub EndsOn : {I : Type 0} → ℕ → List (OpenTransfer I) → List (OpenTransfer I) → Type 0
EndsOn number old new =
    ((sending_on number old ≡ None) × (new ≡ old))
    ⊎ ((s : Sending) × (sending_on number old ≡ Some s) × (s.left ≡ []) × SetsOn number None old new)

-- The transfer on the connection gives this message, and the last one ends it.
abbrev pub SendsOn : {I : Type 0} → ℕ → List ℕ → List (OpenTransfer I) → List (OpenTransfer I) → Type 0
SendsOn number message old new =
    (s : Sending) × (sending_on number old ≡ Some s) × (s.left ≡ [] → ⊥)
    × ((rest : Sending) × SendsMessage s message rest × SetsOn number (open_still rest.left rest) old new)

-- The message that answers at once, or memory was refused.
abbrev pub IsAtOnce : To → Header → Sending → Effects → Type 0
IsAtOnce to header s effects =
    ((message : List ℕ) × (rest : Sending) × SendsMessage s message rest
    × AreEffects (one_reply (Replied to message)) effects)
    ⊎ AreEffects (lack_reply to header) effects

-- What a transfer begins with, or memory was refused.
abbrev pub TransferBeginsOrLacks : Machine → To → Header → Sending → List Bool → machine.Effects
    → Machine → Type 0
TransferBeginsOrLacks old to header s fails effects new =
    ((fails ≡ []) × TransferBegins old to s effects.sent new × TellsFlush effects effects.sent None)
    ⊎ LacksAlone fails old to header effects new
