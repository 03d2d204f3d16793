-- The calls that a command makes on what it is lent, and what they answered.
use Rattle.std.specs.Prelude.{◌≡◌, ◌⊎◌, List, ◌++◌, Option, None, Some}

-- These calls were made after those before, in this order, and no other. What keeps no list of its calls
-- keeps none after them; what keeps one may lose it, where it can't make it longer.
abbrev pub HasCalled : {C : Type 0} → Option (List C) → Option (List C) → List C → Type 0
HasCalled None after calls = after ≡ None
HasCalled (Some before) after calls = (after ≡ Some (before ++ calls)) ⊎ (after ≡ None)

-- P holds of the calls that were made.
abbrev pub Calls : {C : Type 0} → Option (List C) → Option (List C) → (List C → Type 0) → Type 0
Calls {C} before after P = (calls : List C) × HasCalled before after calls × P calls
