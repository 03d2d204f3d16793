-- Messages on a stream (RFC 1035 section 4.2.2).
use Rattle.std.specs.Prelude.{◌≡◌, ℕ, ◌<◌, List, ◌++◌, length}
use Rattle.std.specs.Prelude.{map}
use Rattle.std.specs.List.{All, concat}
use Rattle.std.specs.Int.{w16, to_be_bytes}

-- A message after its length, which is two octets, the high one first.
abbrev pub pending_length : List ℕ → List ℕ
pending_length message = to_be_bytes w16 (length message) ++ message

-- No whole message is at the front.
abbrev pub BeginsWithNone : List ℕ → Type 0
BeginsWithNone octets =
    (message rest : List ℕ) → length message < 65536 → octets ≡ pending_length message ++ rest → ⊥

-- A stream is these messages, each after its length, and a rest that is no whole message.
pub record IsFramed (stream : List ℕ) (messages : List (List ℕ)) (rest : List ℕ) : Type 0 where
  pub short : All (λ message. length message < 65536) messages
  pub whole : stream ≡ concat (map pending_length messages) ++ rest
  pub none : BeginsWithNone rest
