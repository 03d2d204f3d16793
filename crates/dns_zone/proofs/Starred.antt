-- The plain form of a wildcard.
use Rattle.std.proofs.Common.{◌≡◌, ℕ, ◌≤◌, List, length, refl, arith}
use Rattle.dns_names.specs.Name.{Labels, IsName, wire, wildcard, labels_of}
use Rattle.dns_names.specs.Plain.{IsPlain}
use Rattle.dns_names.specs.PlainLaws.{plain_of}

-- the label before a name with room for it
pub wildcard_valid : (name : Labels) → IsName name → length (wire name) ≤ 253 → IsName (wildcard name)
wildcard_valid name valid room = record {
  labels = (record { some = omega arith; short = omega arith; lower = refl; octets = (omega arith, tt) }, valid.labels);
  short = omega (arith, room);
}

pub record Starred (name : Labels) (octets : List ℕ) : Type 0 where
  pub labels : labels_of octets ≡ wildcard name
  pub plain : IsPlain octets

pub starred : (name : Labels) (octets : List ℕ) → IsName name → length (wire name) ≤ 253 → octets ≡ wire (wildcard name) → Starred name octets
starred name octets valid room e = let p = plain_of octets (wildcard name) (wildcard_valid name valid room) e in record { labels = p.0; plain = p.1 }
