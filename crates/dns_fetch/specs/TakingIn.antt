-- The messages of a stream by which a zone is taken in.
use Rattle.std.specs.Prelude.{◌≡◌, ◌⊎◌, ◌+◌, ◌<◌, ℕ, Bool, true, false, List, [], ◌∷◌, ◌++◌, length}
use Rattle.std.specs.Prelude.{Option, Some, None}
use Rattle.dns_names.specs.Name.{Labels}
use Rattle.dns_records.specs.Record.{Record}
use Rattle.dns_zone.specs.Zone.{Zone}
use Rattle.dns_wire.specs.Message.{Message, ResourceRecord}
use Rattle.dns_wire.specs.Reads.{Reads}
use Rattle.dns_request.specs.declared.request.Transport.TheVariants.{Tcp}
use Rattle.dns_secondary.specs.Receiving.{Receiving, header_fault}
use Rattle.dns_secondary.specs.Request.{request_octets}
use Rattle.dns_secondary.specs.Rest.{Reaches}
use Rattle.dns_secondary.specs.State.{State, Begun}
use Rattle.dns_secondary.specs.Taken.{Taken}
use Rattle.dns_secondary.specs.Received.{is_incremental, received_count}
use Rattle.dns_secondary.specs.Told.{Feeds, RefusesFeed}
use Rattle.dns_secondary.specs.declared.fault.Fault.{Fault}
use Rattle.dns_secondary.specs.declared.fault.Fault.TheVariants.{BadSequence, InvalidZone}
use Rattle.dns_secondary.specs.declared.fault.Progress.TheVariants.{More, Done, UpToDate}
use Rattle.dns_network.specs.Framed.{pending_length, IsFramed}
use Rattle.dns_network.specs.declared.stream.Stream.{Ghosts}

-- The number of the request.
abbrev pub request_number : ℕ
request_number = 1

-- One who asks by TCP for the zone of an apex, or for the changes of a version that is held, and has read the
-- answer up to that state.
abbrev pub asking_at : Labels → Option Zone → State → Receiving
asking_at apex held at =
    record { apex = apex; held = held; id = request_number; transport = Tcp; state = Some at }

-- ... and has read nothing yet.
abbrev pub asking : Labels → Option Zone → Receiving
asking apex held = asking_at apex held Begun

-- Each of these octets is a message that answers the request, by its header and its question; and their
-- records in order (RFC 5936 2.2.1).
abbrev pub AreAnswersTo : Labels → Option Zone → List (List ℕ) → List ResourceRecord → Type 0
AreAnswersTo apex held [] records = records ≡ []
AreAnswersTo apex held (octets ∷ rest) records =
    (message : Message) × Reads octets message × (header_fault (asking apex held) message ≡ None)
    × (later : List ResourceRecord) × (records ≡ message.answers ++ later) × AreAnswersTo apex held rest later

-- Messages are fed, of each of which it is reported that more is to come.
abbrev pub TellMore : Receiving → List (List ℕ) → Receiving → Type 0
TellMore s [] now = now ≡ s
TellMore s (message ∷ rest) now = (next : Receiving) × Feeds s message More next × TellMore next rest now

-- A message that was fed brings no record: it has none in its answer section; or no changes are told, and as
-- many records have come as before it, so that each of its records had come (RFC 5936 2.2).
abbrev pub BringsNoRecord : Receiving → List ℕ → Receiving → Type 0
BringsNoRecord s octets next =
    ((message : Message) × Reads octets message × (message.answers ≡ []))
    ⊎ ((is_incremental next.state ≡ false) × (received_count next.state ≡ received_count s.state))

-- Messages are fed, none of which brings a record, and of each of which it is reported that more is to come.
abbrev pub BringNoRecords : Receiving → List (List ℕ) → Receiving → Type 0
BringNoRecords s [] now = now ≡ s
BringNoRecords s (message ∷ rest) now =
    (next : Receiving) × Feeds s message More next × BringsNoRecord s message next
    × BringNoRecords next rest now

-- Messages are fed, of each of which it is reported that more is to come, and the last `count` of them bring
-- no record.
pub record HasIdled (s : Receiving) (messages : List (List ℕ)) (count : ℕ) (now : Receiving) : Type 0 where
  pub before : List (List ℕ)
  pub idle : List (List ℕ)
  pub parts : messages ≡ before ++ idle
  pub many : length idle ≡ count
  pub from : Receiving
  pub more : TellMore s before from
  pub idles : BringNoRecords from idle now

-- How many messages in a row that bring no record end an answer.
abbrev pub idle_limit : ℕ
idle_limit = 4096

-- The last of some messages bring no record, so many in a row that the answer is given up.
abbrev pub GivesUpIdle : Receiving → List (List ℕ) → Fault → Type 0
GivesUpIdle s messages fault =
    (fault ≡ BadSequence) × (now : Receiving) × HasIdled s messages idle_limit now

-- No first part of some messages ends in so many that bring no record.
abbrev pub NeverStalls : Receiving → List (List ℕ) → Type 0
NeverStalls s messages =
    (first later : List (List ℕ)) (now : Receiving)
    → messages ≡ first ++ later
    → HasIdled s first idle_limit now → ⊥

-- The records of a first part of some messages, which are answers, mean the records of this zone: a whole
-- zone, changes of the version that is held, or that it is current (RFC 5936 2.2, RFC 1995 2 and 4). Never
-- did so many in a row bring no record that the answer is given up.
pub record IsToldBy (apex : Labels) (held : Option Zone) (messages : List (List ℕ))
    (zone : List Record) : Type 0 where
  pub first : List (List ℕ)
  pub later : List (List ℕ)
  pub parts : messages ≡ first ++ later
  pub records : List ResourceRecord
  pub answers : AreAnswersTo apex held first records
  pub means : Taken apex held records zone
  pub steady : NeverStalls (asking apex held) first

-- The most records that a zone has.
abbrev pub most_received : ℕ
most_received = 65536

-- More records of a whole zone have come than one may have.
pub record IsTooMuch (s : Receiving) : Type 0 where
  pub whole : is_incremental s.state ≡ false
  pub many : most_received < received_count s.state

-- A message is refused for this fault; or with it more records of a whole zone have come than one may have,
-- so that the answer is given up.
abbrev pub IsGivenUp : Receiving → List ℕ → Fault → Type 0
IsGivenUp s message fault =
    RefusesFeed s message fault
    ⊎ ((fault ≡ InvalidZone) × (next : Receiving) × Feeds s message More next × IsTooMuch next)

-- One of some messages is refused for this fault, or the answer is given up with it, after those before it,
-- which are answers.
pub record IsRefusedIn (apex : Labels) (held : Option Zone) (messages : List (List ℕ))
    (fault : Fault) : Type 0 where
  pub first : List (List ℕ)
  pub message : List ℕ
  pub later : List (List ℕ)
  pub parts : messages ≡ first ++ message ∷ later
  pub records : List ResourceRecord
  pub answers : AreAnswersTo apex held first records
  pub at : State
  pub reached : Reaches apex held Begun records at
  pub refused : IsGivenUp (asking_at apex held at) message fault
      ⊎ GivesUpIdle (asking apex held) (first ++ message ∷ []) fault

module _ {S : Type 0} (g : Ghosts S) where
  -- Octets were sent on a stream, and octets were received, if it is faithful.
  pub record HasExchanged (old : S) (out came : List ℕ) (new : S) : Type 0 where
    pub faithful : g.is_faithful old → g.is_faithful new
    pub sent : g.is_faithful old → g.sent new ≡ g.sent old ++ out
    pub received : g.is_faithful old → g.received new ≡ g.received old ++ came

  -- The request was sent, after its length, and the messages that were received, each after its length, are
  -- these, and a rest that is no whole message (RFC 1035 4.2.2).
  pub record IsRequestAnswered (apex : Labels) (held : Option Zone) (old : S) (messages : List (List ℕ))
      (new : S) : Type 0 where
    pub octets : List ℕ
    pub rest : List ℕ
    pub framed : IsFramed octets messages rest
    pub carried : HasExchanged old (pending_length (request_octets apex held request_number)) octets new

  -- A zone was taken in: the messages that were received tell it.
  abbrev pub IsTakenIn : Labels → Option Zone → S → List Record → S → Type 0
  IsTakenIn apex held old zone new =
      (messages : List (List ℕ)) × IsRequestAnswered apex held old messages new
      × IsToldBy apex held messages zone

  -- The answer was refused: one of the messages that were received is.
  abbrev pub IsAnswerRefused : Labels → Option Zone → S → Fault → S → Type 0
  IsAnswerRefused apex held old fault new =
      (messages : List (List ℕ)) × IsRequestAnswered apex held old messages new
      × IsRefusedIn apex held messages fault

  -- It was so on a stream that may have been had.
  abbrev pub IsTakenFrom : (S → Type 0) → Labels → Option Zone → List Record → Type 0
  IsTakenFrom reached apex held zone = (old new : S) × reached old × IsTakenIn apex held old zone new

  abbrev pub IsRefusedFrom : (S → Type 0) → Labels → Option Zone → Fault → Type 0
  IsRefusedFrom reached apex held fault =
      (old new : S) × reached old × IsAnswerRefused apex held old fault new

-- How many messages in a row have brought no record, where `count` had and one more is fed.
abbrev pub IsIdleCount : Receiving → List ℕ → Receiving → ℕ → ℕ → Type 0
IsIdleCount s message next count after =
    (BringsNoRecord s message next × (after ≡ count + 1))
    ⊎ ((BringsNoRecord s message next → ⊥) × (after ≡ 0))

-- Messages are fed, of each of which it is reported that more is to come, after `count` in a row that brought
-- no record: with them it is `after`, and never so many that the answer is given up.
abbrev pub HearsMore : ℕ → Receiving → List (List ℕ) → ℕ → Receiving → Type 0
HearsMore count s [] after now = (after ≡ count) × (now ≡ s)
HearsMore count s (message ∷ rest) after now =
    (next : Receiving)
    × Feeds s message More next
    × (mid : ℕ)
    × IsIdleCount s message next count mid
    × (mid < idle_limit)
    × HearsMore mid next rest after now

-- Messages are fed up to one of which it is reported that the answer is at its end.
pub record TellEnd (count : ℕ) (s : Receiving) (messages : List (List ℕ)) (new : Receiving) : Type 0 where
  pub first : List (List ℕ)
  pub message : List ℕ
  pub later : List (List ℕ)
  pub parts : messages ≡ first ++ message ∷ later
  pub idle : ℕ
  pub now : Receiving
  pub more : HearsMore count s first idle now
  pub last : Feeds now message Done new ⊎ Feeds now message UpToDate new

-- ... or up to one that is refused, or with which the answer is given up.
pub record TellRefusal (count : ℕ) (s : Receiving) (messages : List (List ℕ)) (fault : Fault) : Type 0 where
  pub first : List (List ℕ)
  pub message : List ℕ
  pub later : List (List ℕ)
  pub parts : messages ≡ first ++ message ∷ later
  pub idle : ℕ
  pub now : Receiving
  pub more : HearsMore count s first idle now
  pub refused : IsGivenUp now message fault
      ⊎ ((fault ≡ BadSequence) × (next : Receiving) × Feeds now message More next
      × BringsNoRecord now message next × (idle + 1 ≡ idle_limit))

-- What these tell.
abbrev pub Tells : ℕ → Receiving → List (List ℕ) → Bool → ℕ → Receiving → Type 0
Tells count s messages true after new = TellEnd count s messages new
Tells count s messages false after new = HearsMore count s messages after new

module _ {S : Type 0} (g : Ghosts S) where
  -- Nothing was sent on a stream, and octets that were received are messages and a rest.
  pub record HasHeard (old : S) (messages : List (List ℕ)) (rest : List ℕ) (new : S) : Type 0 where
    pub octets : List ℕ
    pub framed : IsFramed octets messages rest
    pub carried : HasExchanged g old [] octets new

  -- The messages lead to the answer's end.
  abbrev pub HasHeardEnd : S → Receiving → S → Receiving → Type 0
  HasHeardEnd old s new now =
      (messages : List (List ℕ)) × (rest : List ℕ) × HasHeard old messages rest new × TellEnd 0 s messages now

  -- One of the messages is refused.
  abbrev pub HasHeardRefusal : S → Receiving → Fault → S → Type 0
  HasHeardRefusal old s fault new =
      (messages : List (List ℕ)) × (rest : List ℕ) × HasHeard old messages rest new
      × TellRefusal 0 s messages fault
