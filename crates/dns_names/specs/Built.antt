-- A name that is being made from text.
use Rattle.std.specs.Prelude.{◌≡◌, ℕ, ◌<◌, ◌==◌, nat_lt, List, [], ◌∷◌, ◌++◌, length, map, Option, Some, None}
use Rattle.std.specs.Prelude.{if◌then◌else◌}
use Rattle.std.specs.List.{list_any, AllByRecursion}
use Rattle.std.specs.Char.{to_ascii_lowercase}
use Rattle.dns_names.specs.Name.{Labels}
use Rattle.dns_names.specs.Text.{Letter, onto, parts_of}
use Rattle.dns_names.specs.declared.builder.Builder.{Builder}

-- The labels one after the other, each after its length, or after 63 where it is longer.
abbrev pub framed : Labels → List ℕ
framed [] = []
framed (label ∷ rest) = (if nat_lt 63 (length label) then 63 else length label) ∷ label ++ framed rest

-- Octets in lower case.
pub record IsLower (octets : List ℕ) : Type 0 where
  pub lower : map to_ascii_lowercase octets ≡ octets
  pub fit : AllByRecursion (λ octet. octet < 256) octets

-- What the builder holds: labels that have ended, and the octets of the one that has not.
pub record IsBuilt (b : Builder) (done : Labels) (tail : List ℕ) : Type 0 where
  pub octets : b.octets.items ≡ framed done ++ 0 ∷ tail
  pub start : b.start ≡ length (framed done)
  pub empty : b.empty ≡ list_any (λ label. length label == 0) done
  pub long : b.long ≡ list_any (λ label. nat_lt 63 (length label)) done
  pub labels : AllByRecursion IsLower done
  pub last : IsLower tail

-- Labels that have ended and an open one, before the parts of what is left.
abbrev pub joined_labels : Labels → List ℕ → Labels × List ℕ → Labels × List ℕ
joined_labels done tail ([], rest) = (done, tail ++ rest)
joined_labels done tail (label ∷ labels, rest) = (done ++ (tail ++ label) ∷ labels, rest)

abbrev pub parts_after : Labels → List ℕ → Option (Labels × List ℕ) → Option (Labels × List ℕ)
parts_after done tail None = None
parts_after done tail (Some parts) = Some (joined_labels done tail parts)

-- With a letter taken, the parts of the whole stay what they are.
abbrev pub TakesLetter : Builder → Labels → List ℕ → Letter → Option (List Letter) → Type 0
TakesLetter b done tail letter behind =
    (ended : Labels) × (last : List ℕ) × IsBuilt b ended last
    × (parts_after done tail (parts_of (onto letter behind))
    ≡ parts_after ended last (parts_of behind))
