-- Why a connection is closed.
use Rattle.std.specs.Prelude.{◌≡◌, ℕ, false, List, Option, slice_get}
use Rattle.dns_network.specs.declared.connection.Connection.{Connection}
use Rattle.dns_network.specs.declared.stream.Stream.{Ghosts}
use Rattle.dns_network.specs.Connection.{HasLost, IsInUse, IsSilent, IsStalled, IsUnused, stream_of, used_of}
use Rattle.dns_network.specs.Connections.{IsGoneOr, IsOpenWith, is_open}

-- Its stream ended or failed; it is silent, or stalled; memory was refused for what was read from it; it was
-- put in no place.
pub data Cause : Type 0 where
  HasEnded : Cause
  Silent : Cause
  Stalled : Cause
  NoMemory : Cause
  NoPlace : Cause

module _ {S : Type 0} where
  -- The connection with a number, of these, gives that cause to close it in the second `now`.
  abbrev pub GivesCause : Ghosts S → ℕ → Cause → ℕ → List (Option (Connection S)) → Type 0
  GivesCause s now HasEnded number places =
      IsOpenWith (λ c. s.has_ended (stream_of c)) (slice_get places number)
  GivesCause s now Silent number places = IsOpenWith (IsSilent now) (slice_get places number)
  GivesCause s now Stalled number places = IsOpenWith (IsStalled now) (slice_get places number)
  GivesCause s now NoMemory number places =
      IsOpenWith (λ c. (lost : Connection S) × HasLost s c lost) (slice_get places number)
  GivesCause s now NoPlace number places = is_open number places ≡ false

  -- Each connection that was unused in the second `now` is gone, or it was used in that second, or octets are
  -- left to write.
  abbrev pub UnusedAreGone : ℕ → List (Option (Connection S)) → List (Option (Connection S)) → Type 0
  UnusedAreGone now old new =
      (number : ℕ) → IsOpenWith (IsUnused now) (slice_get old number)
      → IsGoneOr (IsInUse now) (slice_get new number)

  -- Each one that was stalled is gone, or it was used in that second.
  abbrev pub StalledAreGone : ℕ → List (Option (Connection S)) → List (Option (Connection S)) → Type 0
  StalledAreGone now old new =
      (number : ℕ) → IsOpenWith (IsStalled now) (slice_get old number)
      → IsGoneOr (λ c. used_of c ≡ now) (slice_get new number)
