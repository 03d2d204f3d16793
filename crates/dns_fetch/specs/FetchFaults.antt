-- Why a zone is not taken in from another server, and how it is reported.
use Rattle.std.specs.Prelude.{◌≡◌, ℕ, Bool, true, false, List, ◌++◌, Option, codes, decimal, if◌then◌else◌}
use Rattle.std.specs.Bool.{MatchBool}
use Rattle.std.specs.Io.KnownBytes.{Appends}
use Rattle.dns_secondary.specs.declared.fault.Fault.{Fault}
use Rattle.dns_secondary.specs.declared.fault.Fault.TheVariants as answer
use Rattle.dns_configuration.specs.Faults.{line, printed_word}
use Rattle.dns_fetch.specs.declared.fetch_faults.FetchFault.{FetchFault}
use Rattle.dns_fetch.specs.declared.fetch_faults.FetchFault.TheVariants.{OutOfMemory, BadAddress}
use Rattle.dns_fetch.specs.declared.fetch_faults.FetchFault.TheVariants.{Unavailable, Closed, TimedOut}
use Rattle.dns_fetch.specs.declared.fetch_faults.FetchFault.TheVariants.{Refused}

-- The refusal of an answer, as a fault of its server.
abbrev pub fault_of_answer : Fault → FetchFault
fault_of_answer answer.OutOfMemory = OutOfMemory
fault_of_answer fault = Refused fault

-- A fault that comes of asking a server, so that it is no wrong word; and what holds where it is the refusal
-- of the answer.
abbrev pub ComesOfAsking : FetchFault → (Fault → Type 0) → Type 0
ComesOfAsking (Refused fault) holds = holds fault
ComesOfAsking BadAddress holds = ⊥
ComesOfAsking _ holds = Unit {0}

-- The name of each refusal, and what can be done about it.
abbrev pub answer_word : Fault → List ℕ
answer_word answer.OutOfMemory = codes "OutOfMemory"
answer_word answer.BadMessage = codes "BadMessage"
answer_word answer.WrongId = codes "WrongId"
answer_word (answer.Refused code) = codes "Refused(" ++ decimal code ++ codes ")"
answer_word answer.BadSequence = codes "BadSequence"
answer_word answer.RemovesAbsent = codes "RemovesAbsent"
answer_word answer.AddsPresent = codes "AddsPresent"
answer_word answer.InvalidZone = codes "InvalidZone"
answer_word answer.AfterEnd = codes "AfterEnd"

abbrev pub answer_advice : Fault → List ℕ
answer_advice answer.OutOfMemory = codes "memory was refused"
answer_advice answer.BadMessage = codes "what came is no whole DNS message that answers the request"
answer_advice answer.WrongId = codes "what came answers another request"
answer_advice (answer.Refused code) =
    codes "the server doesn't have the zone, or doesn't allow this address to transfer it"
answer_advice answer.BadSequence =
    codes "what came is no transfer of that zone, or has a record that no zone here can have"
answer_advice answer.RemovesAbsent =
    codes "the changes don't fit the file of --since; fetch the whole zone without it"
answer_advice answer.AddsPresent =
    codes "the changes don't fit the file of --since; fetch the whole zone without it"
answer_advice answer.InvalidZone =
    codes "the records that came are no valid zone here; check tells why of a file"
answer_advice answer.AfterEnd = codes "a message came after the answer's end"

-- The name of each fault, and what can be done about it.
abbrev pub fetch_word : FetchFault → List ℕ
fetch_word OutOfMemory = codes "OutOfMemory"
fetch_word BadAddress = codes "BadAddress"
fetch_word Unavailable = codes "Unavailable"
fetch_word Closed = codes "Closed"
fetch_word TimedOut = codes "TimedOut"
fetch_word (Refused fault) = answer_word fault

abbrev pub fetch_advice : FetchFault → List ℕ
fetch_advice OutOfMemory = codes "memory was refused"
fetch_advice BadAddress = codes "an address and a port are expected, such as 192.0.2.1:53 or [2001:db8::1]:53"
fetch_advice Unavailable = codes "no server takes connections by TCP there, or the way to it is closed"
fetch_advice Closed = codes "the server ended the connection before its answer's end; its log tells why"
fetch_advice TimedOut =
    codes "for 30 seconds the server sent or took nothing, or it took more than --seconds in all"
fetch_advice (Refused fault) = answer_advice fault

-- Memory was refused, of which nothing is reported.
abbrev pub is_memory_refused : FetchFault → Bool
is_memory_refused OutOfMemory = true
is_memory_refused _ = false

-- The exit status: 1 where a word or the answer is refused, and else 3.
abbrev pub fetch_status : FetchFault → ℕ
fetch_status BadAddress = 1
fetch_status (Refused fault) = 1
fetch_status _ = 3

-- What is reported: the server and the fault, and in a second line, if it is wanted, what can be done.
abbrev pub fetch_text : List ℕ → FetchFault → Bool → List ℕ
fetch_text server fault explain =
    if explain
    then printed_word server ++ codes ": " ++ fetch_word fault ++ codes "\n" ++ printed_word server
    ++ codes ": " ++ fetch_advice fault
    else printed_word server ++ codes ": " ++ fetch_word fault

-- How a run that met a fault goes on: of refused memory nothing is reported; else the fault is, and the
-- status is that of the fault.
abbrev pub IsFetchTold : List ℕ → FetchFault → Bool → Option (List ℕ) → Option (List ℕ) → ℕ → Type 0
IsFetchTold server fault explain err err_after status =
    MatchBool (is_memory_refused fault) (status ≡ 3)
    ((status ≡ fetch_status fault) × Appends err err_after (line (fetch_text server fault explain)))
