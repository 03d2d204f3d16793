-- What a plain form is made of.
use Rattle.std.proofs.Common.{ℕ, ◌<◌, ◌≤◌, List, [], ◌∷◌, ◌++◌, length, arith}
use Rattle.std.specs.List.{AllByRecursion}
use Rattle.dns_names.specs.Name.{Labels, IsLabel, wire}

pub octets-append : (xs ys : List ℕ)
    → AllByRecursion (λ octet. octet < 256) xs
    → AllByRecursion (λ octet. octet < 256) ys
    → AllByRecursion (λ octet. octet < 256) (xs ++ ys)
octets-append [] ys h k = k
octets-append (x ∷ xs) ys h k = (h.0, octets-append xs ys h.1 k)

-- a plain form is octets
pub wire_octets : (name : Labels) → AllByRecursion IsLabel name
    → AllByRecursion (λ octet. octet < 256) (wire name)
wire_octets [] h = (omega arith, tt)
wire_octets (label ∷ rest) h =
    let short : length label ≤ 63 = h.0.short in
    (omega arith, octets-append label (wire rest) h.0.octets (wire_octets rest h.1))

pub wire_some : (name : Labels) → 0 < length (wire name)
wire_some [] = omega arith
wire_some (label ∷ rest) = omega arith
