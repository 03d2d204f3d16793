-- Requests and their replies, octet for octet, at the example zone of RFC 4592.
use Rattle.std.specs.Prelude.{◌≡◌, [], ◌∷◌, refl, codes}
use Rattle.dns_request.specs.declared.request.Transport.TheVariants.{Udp}
use Rattle.dns_answer.specs.Answer.{NoReply, Replies, handled}
use Rattle.dns_wire.proofs.Hex.{hex}
use Rattle.dns_zone.specs.ExampleZone.{example_zone}

-- an address that is there
pub address_of_host1 : handled (example_zone ∷ []) (hex (codes "12340000000100000000000005686f737431076578616d706c650000010001")) Udp ≡ Replies (hex (codes "12348400000100010000000005686f737431076578616d706c650000010001c00c0001000100000e100004c0000201"))
address_of_host1 = refl

-- a record that is synthesised, with the address of its host
pub synthesised_from_wildcard : handled (example_zone ∷ []) (hex (codes "00020000000100000000000005686f737433076578616d706c6500000f0001")) Udp ≡ Replies (hex (codes "00028400000100010000000105686f737433076578616d706c6500000f0001c00c000f000100000e10000a000a05686f737431c012c02d0001000100000e100004c0000201"))
synthesised_from_wildcard = refl

-- the source exists without the type
pub wildcard_without_type : handled (example_zone ∷ []) (hex (codes "00030000000100000000000005686f737433076578616d706c650000010001")) Udp ≡ Replies (hex (codes "00038400000100000001000005686f737433076578616d706c650000010001c012000600010000012c0031026e73076578616d706c6503636f6d000a686f73746d6173746572c0120000000700001c2000000384001275000000012c"))
wildcard_without_type = refl

-- eleven octets; a question whose name points at itself; one octet more
pub too_short : handled (example_zone ∷ []) (hex (codes "0001000000010000000000")) Udp ≡ NoReply
too_short = refl

pub pointer_to_itself : handled (example_zone ∷ []) (hex (codes "000a00000001000000000000c00c00010001")) Udp ≡ Replies (hex (codes "000a80010000000000000000"))
pointer_to_itself = refl

pub octet_left_over : handled (example_zone ∷ []) (hex (codes "12340000000100000000000005686f737431076578616d706c65000001000100")) Udp ≡ Replies (hex (codes "123480010000000000000000"))
octet_left_over = refl
