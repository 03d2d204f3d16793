-- The calls of the system on sockets, and what they answered.
use Rattle.std.specs.Prelude.{◌≡◌, ◌≢◌, ◌∷◌, [], ℕ, List, Option, Some, None, Result, Ok, Err, take}
use Rattle.std.specs.declared.io.Error.{Error}
use Rattle.std.specs.declared.io.ErrorKind.TheVariants as kind
use Rattle.std.specs.declared.net.socket_addr.SocketAddr.{SocketAddr}
use Rattle.std.specs.IoError.{error_kind}

-- Octets, and the address from which they came or to which they go.
abbrev pub Addressed : Type 0
Addressed = List ℕ × SocketAddr

-- A call on a socket of datagrams: one was asked for, and this one came, or none did; or one was sent.
pub data DatagramCall : Type 0 where
  RecvFrom : Option Addressed → DatagramCall
  SendTo : Addressed → DatagramCall

-- What was asked for came to the front of a buffer, or there was an error.
abbrev pub datagram_in : {E : Type 0} → List ℕ → Result (ℕ × SocketAddr) E → Option Addressed
datagram_in buffer (Ok came) = Some (take came.0 buffer, came.1)
datagram_in buffer (Err error) = None

-- The datagrams that came in these calls, and those that were sent.
abbrev pub received_in : List DatagramCall → List Addressed
received_in [] = []
received_in (RecvFrom (Some one) ∷ rest) = one ∷ received_in rest
received_in (RecvFrom None ∷ rest) = received_in rest
received_in (SendTo one ∷ rest) = received_in rest

abbrev pub datagrams_sent : List DatagramCall → List Addressed
datagrams_sent [] = []
datagrams_sent (RecvFrom got ∷ rest) = datagrams_sent rest
datagrams_sent (SendTo one ∷ rest) = one ∷ datagrams_sent rest

-- A call on a listener: it was asked for a connection, and this one came, with the address of its peer, or
-- none did.
pub data ListenerCall (T : Type 0) : Type 0 where
  Accept : Option (T × SocketAddr) → ListenerCall T

-- The connections that came in these calls.
abbrev pub connections_accepted : {T : Type 0} → List (ListenerCall T) → List (T × SocketAddr)
connections_accepted [] = []
connections_accepted (Accept (Some one) ∷ rest) = one ∷ connections_accepted rest
connections_accepted (Accept None ∷ rest) = connections_accepted rest

-- The stream ended, or failed: no octet moved, or there was an error that doesn't pass.
abbrev pub EndsStream : Result ℕ Error → Type 0
EndsStream (Ok count) = count ≡ 0
EndsStream (Err error) = (error_kind error ≢ kind.WouldBlock) × (error_kind error ≢ kind.Interrupted)
