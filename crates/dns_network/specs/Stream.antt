-- Reads and writes of a stream.
use Rattle.std.specs.Prelude.{ℕ}
use Rattle.dns_network.specs.declared.stream.Moved.{Moved}
use Rattle.dns_network.specs.declared.stream.Moved.TheVariants.{Octets, Later, Ended}

-- how many octets moved
abbrev pub moved : Moved → ℕ
moved (Octets count) = count
moved Later = 0
moved Ended = 0

-- where octets moved
abbrev pub IfOctets : Moved → Type 0 → Type 0
IfOctets (Octets count) fact = fact
IfOctets Later fact = Unit {0}
IfOctets Ended fact = Unit {0}
