-- Octets from a position on, and octets put before a word, one after the other.
use Rattle.std.proofs.Common.{◌≡◌, ℕ, zero, suc, ◌<◌, ◌-◌, List, [], ◌∷◌, ◌++◌, length, take, drop, refl, ap, arith}
use Rattle.std.proofs.lemmas.List.{take_all, length-drop}
use Rattle.dns_masterfile.specs.Pieces.{Piece, Fault, Text, Bare, Quoted, grown, pieces_of}
use Rattle.dns_masterfile.specs.Steps.{grown_by}

pub rest_of : (octets : List ℕ) (at : ℕ) → take (length octets - at) (drop at octets) ≡ drop at octets
rest_of octets at = take_all (length octets - at) (drop at octets) (omega (arith, length-drop at octets))

pub grown_bare : (octets text : List ℕ) (ps : List Piece) → grown_by octets (Text (Bare text) ∷ ps) ≡ Text (Bare (octets ++ text)) ∷ ps
grown_bare [] text ps = refl
grown_bare (c ∷ cs) text ps = ap (grown c) (grown_bare cs text ps)

pub grown_fault : (octets : List ℕ) → grown_by octets (Fault ∷ []) ≡ Fault ∷ []
grown_fault [] = refl
grown_fault (c ∷ cs) = ap (grown c) (grown_fault cs)

pub grown_more : (xs ys : List ℕ) (ps : List Piece) → grown_by (xs ++ ys) ps ≡ grown_by xs (grown_by ys ps)
grown_more [] ys ps = refl
grown_more (x ∷ xs) ys ps = ap (grown x) (grown_more xs ys ps)

pub grown_quoted : (octets text : List ℕ) (ps : List Piece) → grown_by octets (Text (Quoted text) ∷ ps) ≡ Text (Quoted (octets ++ text)) ∷ ps
grown_quoted [] text ps = refl
grown_quoted (c ∷ cs) text ps = ap (grown c) (grown_quoted cs text ps)

-- a piece that is none of the octets after it has octets
pub some_octets : (octets : List ℕ) (n : ℕ) (p : Piece) → pieces_of octets ≡ p ∷ pieces_of (drop n octets) → 0 < n
some_octets octets zero p h = absurd (omega (arith, ap length h))
some_octets octets (suc n) p h = omega arith
