-- A plain form, read as a name.
use Rattle.std.proofs.Common.{◌≡◌, ℕ, ◌<◌, ◌≤◌, List, [], ◌∷◌, ◌++◌, length, map, refl, sym, ap, ◌∙◌, arith}
use Rattle.std.specs.Char.{to_ascii_lowercase}
use Rattle.std.specs.List.{AllByRecursion}
use Rattle.std.proofs.lemmas.List.{map-append}
use Rattle.dns_names.specs.Name.{Labels, IsLabel, IsName, wire}
use Rattle.dns_names.specs.Lower.{lower_low}
use Rattle.dns_names.specs.PlainLaws.{wire_once}
use Rattle.std.specs.Prelude.{Bool, IsTrue}
use Rattle.std.specs.Str.{bytes_eq}
use Rattle.dns_wire.proofs.Places.{bytes_same, bytes_self}

-- a name is in lower case
pub lower_wire : (name : Labels) → AllByRecursion IsLabel name → map to_ascii_lowercase (wire name) ≡ wire name
lower_wire [] valid = refl
lower_wire (l ∷ ls) valid =
    let short : length l ≤ 63 = valid.0.short in
    let low : length l < 65 = omega arith in
    let rest : map to_ascii_lowercase (l ++ wire ls) ≡ l ++ wire ls =
    map-append to_ascii_lowercase l (wire ls) ∙ ap (λ (xs : List ℕ). xs ++ map to_ascii_lowercase (wire ls)) valid.0.lower ∙ ap (λ (xs : List ℕ). l ++ xs) (lower_wire ls valid.1) in
    ap (λ (k : ℕ). k ∷ map to_ascii_lowercase (l ++ wire ls)) (lower_low (length l) low) ∙ ap (λ (xs : List ℕ). length l ∷ xs) rest

-- two names are one where their plain forms are
pub same_wire : (a b : Labels) (octets : List ℕ) (r : Bool) → IsName a → IsName b → octets ≡ wire a → r ≡ bytes_eq octets (wire b) → (IsTrue r → a ≡ b) × (a ≡ b → IsTrue r)
same_wire a b octets r valid valid' e h = (
  λ t. wire_once a b valid valid' (sym e ∙ bytes_same octets (wire b) (sym h ∙ t)),
  λ s. h ∙ ap (λ (xs : List ℕ). bytes_eq xs (wire b)) (e ∙ ap wire s) ∙ bytes_self (wire b),
)
