-- The lengths of names by their offsets, and why a name has no end that is told.
use Rattle.std.specs.Prelude.{◌≡◌, ◌≢◌, ℕ, List, length, get_or}
use Rattle.dns_names.specs.Name.{Labels, wire}
use Rattle.dns_wire.specs.NameAt.{NameAt}
use Rattle.dns_wire.specs.declared.ReadError.{ReadError}
use Rattle.dns_wire.specs.declared.lengths.Fault.{Fault}
use Rattle.dns_wire.specs.declared.lengths.Fault.TheVariants.{Refused, Far}

-- A name at an offset that takes so many octets in full.
pub record IsMeasured (message : List ℕ) (at size : ℕ) : Type 0 where
  pub name : Labels
  pub end : ℕ
  pub stands : NameAt message at name end
  pub sized : length (wire name) ≡ size

-- Each number that is not zero is the length of the name at the offset that is its index.
abbrev pub AreLengths : List ℕ → List ℕ → Type 0
AreLengths message lengths = (at : ℕ) → get_or lengths at 0 ≢ 0 → IsMeasured message at (get_or lengths at 0)

-- What a fault says where it is a refusal.
abbrev pub IfRefused : (ReadError → Type 0) → Fault → Type 0
IfRefused P (Refused e) = P e
IfRefused P Far = Unit

-- What it says where a name is too far.
abbrev pub IfFar : Type 0 → Fault → Type 0
IfFar P (Refused e) = Unit
IfFar P Far = P
