-- The octets of a file, and the sectors that they are.
use Rattle.std.specs.Prelude.{ℕ, zero, suc, ◌+◌, List, [], ◌∷◌, ◌++◌, drop, length}
use Rattle.dns_sectors.specs.Device.{Content}

-- the first so many of these octets, with zeros for those past the end
abbrev pub padded : ℕ → List ℕ → List ℕ
padded zero octets = []
padded (suc n) [] = 0 ∷ padded n []
padded (suc n) (x ∷ octets) = x ∷ padded n octets

-- The octets with new ones from an offset on, in place of those that were there. Zeros fill a gap before
-- them.
abbrev pub written : ℕ → List ℕ → List ℕ → List ℕ
written offset new octets = padded offset octets ++ (new ++ drop (offset + length new) octets)

-- so many sectors, of 512 octets each, with zeros for the octets past the end
abbrev pub sectors : ℕ → List ℕ → Content
sectors zero octets = []
sectors (suc n) octets = padded 512 octets ∷ sectors n (drop 512 octets)
