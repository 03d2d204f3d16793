-- What the messages of a transfer read as.
use Rattle.std.specs.Prelude.{◌≡◌, ◌<◌, ℕ, Bool, List, ◌∷◌, ◌++◌, Some, None}
use Rattle.std.specs.List.{AllByRecursion, flat_map}
use Rattle.dns_wire.specs.Text.{Reply}
use Rattle.dns_answer.specs.Answer.{AreTextOf}
use Rattle.dns_transfer.specs.Session.{Sending}
use Rattle.dns_versions.specs.Each.{Each2}
use Rattle.dns_primary.specs.Machine.{Machine, sending_at}
use Rattle.dns_primary.specs.Step.{Arrives, Effects}
use Rattle.dns_primary.specs.Runs.{Moment, Took, Run, machine_at_end}
use Rattle.dns_theorem.specs.Headline.{AreOctetsIn, IsGivenOut, pumped_in}
use Rattle.dns_theorem.specs.Lives.{Act, Life, end_of_life}
use Rattle.dns_theorem.specs.Followed.{BeginsSoundly, IsSoundAct}

-- Each message is the one compressed text of a valid reply, and reads as that; and the answers of these
-- replies, one after the other, are the records that the transfer has to send.
pub record ReadsAsSent (s : Sending) (messages : List (List ℕ)) : Type 0 where
  pub replies : List Reply
  pub texts : Each2 AreTextOf messages replies
  pub answers : flat_map (λ (r : Reply). r.answer) replies ≡ s.left

-- Whatever request opens a transfer on a connection, in a run of a machine that begins so: what is given out
-- for it, up to its end, reads as it was meant.
abbrev pub TransfersAreRead : (Machine → Type 0) → Type 0
TransfersAreRead Begins =
    (start : Machine) (earlier later : List Moment) (number : ℕ) (octets : List ℕ) (fails : List Bool)
    (effects : Effects) (opened : Machine) (sending : Sending)
    → Begins start
    → Run start (earlier ++ Took (Arrives number octets) fails effects opened ∷ later)
    → AllByRecursion AreOctetsIn earlier
    → AllByRecursion (λ octet. octet < 256) octets
    → sending_at number (machine_at_end start earlier).connections ≡ None
    → sending_at number opened.connections ≡ Some sending
    → IsGivenOut number (Some sending) later
    → ReadsAsSent sending (pumped_in number later)

-- So it is in the life of a primary.
abbrev pub TransfersAreReadThroughLife : Type 0
TransfersAreReadThroughLife =
    (start : Machine) (earlier : List Act) (later : List Moment) (number : ℕ) (octets : List ℕ)
    (fails : List Bool) (effects : Effects) (opened : Machine) (sending : Sending)
    → BeginsSoundly start
    → Life start earlier
    → AllByRecursion IsSoundAct earlier
    → Run (end_of_life start earlier) (Took (Arrives number octets) fails effects opened ∷ later)
    → AllByRecursion (λ octet. octet < 256) octets
    → sending_at number (end_of_life start earlier).connections ≡ None
    → sending_at number opened.connections ≡ Some sending
    → IsGivenOut number (Some sending) later
    → ReadsAsSent sending (pumped_in number later)
