-- What a stream in memory has a record of.
use Rattle.std.specs.Prelude.{◌≡◌, ◌⊎◌, ◌+◌, ℕ, Bool, true, List, [], length}
use Rattle.dns_network.specs.declared.memory_stream.MemoryStream.{MemoryStream}
use Rattle.dns_network.specs.declared.stream.Moved.{Moved}
use Rattle.dns_network.specs.declared.stream.Moved.TheVariants.{Octets, Later, Ended}

-- what was read from it, and what it took
abbrev pub received_by : MemoryStream → List ℕ
received_by stream = stream.received.items

abbrev pub sent_by : MemoryStream → List ℕ
sent_by stream = stream.sent.items

-- a read or a write of it failed
abbrev pub has_failed : MemoryStream → Bool
has_failed stream = stream.has_failed

-- One failed, or the peer writes no more and all that it wrote was read.
abbrev pub HasEnded : MemoryStream → Type 0
HasEnded stream = (has_failed stream ≡ true) ⊎ ((stream.is_closed ≡ true) × (stream.waiting.items ≡ []))

-- how many octets were read from it, or taken by it
abbrev pub octets_moved : MemoryStream → ℕ
octets_moved stream = length (received_by stream) + length (sent_by stream)

-- A read or a write answered so: that many octets moved, or none did, and it did not fail; or it ended.
abbrev pub HasAnswered : MemoryStream → Moved → MemoryStream → Type 0
HasAnswered old (Octets count) new =
    (octets_moved new ≡ octets_moved old + count) × (has_failed new ≡ has_failed old)
HasAnswered old Later new = (octets_moved new ≡ octets_moved old) × (has_failed new ≡ has_failed old)
HasAnswered old Ended new = HasEnded new
