-- The servers that a run connects to.
use Rattle.std.specs.Prelude.{◌≡◌, ◌⊎◌, ℕ, List, [], ◌∷◌, Option, Some}
use Rattle.std.specs.declared.net.socket_addr.SocketAddr.{SocketAddr}
use Rattle.dns_configuration.specs.Settings.{IsSocketAddress}

-- A server is connected to: its address, and the stream that came of it, if one did.
abbrev pub ConnectCall : Type 0 → Type 0
ConnectCall S = SocketAddr × Option S

-- Of the one call, to this address, this stream came.
abbrev pub IsStreamOf : {S : Type 0} → List (ConnectCall S) → SocketAddr → S → Type 0
IsStreamOf calls address stream = calls ≡ (address, Some stream) ∷ []

-- There was one call, to this address.
abbrev pub IsOneCall : {S : Type 0} → List (ConnectCall S) → SocketAddr → Type 0
IsOneCall {S} calls address = (stream : Option S) × (calls ≡ (address, stream) ∷ [])

-- Nothing is connected to, or once the address that the word is.
abbrev pub ConnectsOnce : {S : Type 0} → List ℕ → List (ConnectCall S) → Type 0
ConnectsOnce server calls =
    (calls ≡ []) ⊎ ((address : SocketAddr) × IsSocketAddress server address × IsOneCall calls address)
