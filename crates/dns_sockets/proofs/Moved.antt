-- The octets that move on a stream of which they are known or not.
use Rattle.std.proofs.Common.{◌≡◌, ◌≤◌, ℕ, length, take, arith, List, [], ◌++◌, Option, Some, None, Result, Ok, Err, refl, sym, ap, ◌∙◌}
use Rattle.std.specs.Prelude.{IfOk, IsSome, unwrap_or}
use Rattle.std.specs.Io.KnownBytes.{append_known}
use Rattle.std.specs.Result.{result_unwrap_or}

-- So many octets at the front of these were added.
pub added : {E : Type 0} (a b : Option (List ℕ)) (octets : List ℕ) (r : Result ℕ E) (count : ℕ) → b ≡ append_known a (take (result_unwrap_or r 0) octets) → count ≡ result_unwrap_or r 0 → IsSome a
    → unwrap_or b [] ≡ unwrap_or a [] ++ take count octets
added None b octets r count is many known = absurd (cc known)
added (Some before) b octets r count is many known =
    ap (λ (known : Option (List ℕ)). unwrap_or known []) is ∙ ap (λ (n : ℕ). before ++ take n octets) (sym many)

-- They are known after it exactly if they were before.
pub known_on : (a b : Option (List ℕ)) (octets : List ℕ) → b ≡ append_known a octets → (IsSome b → IsSome a) × (IsSome a → IsSome b)
known_on None b octets is = ((λ some. absurd (cc (some, is))), (λ some. absurd (cc some)))
known_on (Some before) b octets is = ((λ some. refl), (λ some. cc is))

-- So many are no more than there are.
pub as_few : {E : Type 0} (octets : List ℕ) (r : Result ℕ E) (count : ℕ) → count ≡ result_unwrap_or r 0 → IfOk r (λ n. n ≤ length octets) → count ≤ length octets
as_few octets (Ok n) count is few = omega (arith, is, few)
as_few octets (Err error) count is few = omega (arith, is)
