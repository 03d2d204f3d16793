-- Where replies go, and their octets.
use Rattle.std.specs.Prelude.{ℕ, Bool, true, false, List}
use Rattle.dns_primary.specs.declared.event.To.{To}
use Rattle.dns_primary.specs.declared.event.To.TheVariants.{Address, Connection, Nowhere}
use Rattle.dns_primary.specs.declared.event.ReplyOctets.{ReplyOctets}
use Rattle.dns_primary.specs.declared.event.ReplyOctets.TheVariants.{Header, Longer}

abbrev pub is_nowhere : To → Bool
is_nowhere (Address peer) = false
is_nowhere (Connection number) = false
is_nowhere Nowhere = true

abbrev pub octets_in : ReplyOctets → List ℕ
octets_in (Header octets) = octets
octets_in (Longer octets) = octets.items
