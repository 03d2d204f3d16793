-- The laws of a device in a file.
use Rattle.std.specs.Prelude.{◌≡◌, ℕ, zero, suc, List, drop, length, refl}
use Rattle.std.proofs.Common.{arith}
use Rattle.dns_sectors.specs.FileOctets.{sectors}

pub length-sectors : (n : ℕ) (octets : List ℕ) → length (sectors n octets) ≡ n
length-sectors zero octets = refl
length-sectors (suc n) octets = omega (arith, length-sectors n (drop 512 octets))
