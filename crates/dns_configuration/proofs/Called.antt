-- Calls that were made one after another.
use Rattle.std.proofs.Common.{◌≡◌, ◌⊎◌, inl, inr, refl, ℕ, List, [], ◌++◌, Option, None, Some, Result, Ok, Err, IfOk, sym, ap, subst, ◌∙◌, append-nil, append_assoc}
use Rattle.std.specs.Result.{result_unwrap_or}
use Rattle.dns_configuration.specs.Calls.{Calls, HasCalled}

pub nothing_called : {C : Type 0} (a : Option (List C)) → HasCalled a a []
nothing_called None = refl
nothing_called (Some calls) = inl (ap Some (sym (append-nil calls)))

-- No call was made.
pub no_calls : {C : Type 0} (a : Option (List C)) (P : List C → Type 0) → P [] → Calls a a P
no_calls a P p = ([], nothing_called a, p)

-- a list that was lost stays so
lost_on : {C : Type 0} (b c : Option (List C)) (then : List C) → b ≡ None → HasCalled b c then → c ≡ None
lost_on {C = C} b c then lost k = subst (λ (t : Option (List C)). HasCalled t c then) lost k

kept_on : {C : Type 0} (calls : List C) (b c : Option (List C)) (first then : List C) → b ≡ Some (calls ++ first) → HasCalled b c then → HasCalled (Some calls) c (first ++ then)
kept_on {C = C} calls b c first then kept k =
    let on : HasCalled (Some (calls ++ first)) c then = subst (λ (t : Option (List C)). HasCalled t c then) kept k in
    elim on [ inl same ↦ inl (same ∙ ap Some (append_assoc calls first then)) | inr lost ↦ inr lost ]

pub called_on : {C : Type 0} (a b c : Option (List C)) (first then : List C) → HasCalled a b first → HasCalled b c then → HasCalled a c (first ++ then)
called_on None b c first then h k = lost_on b c then h k
called_on (Some calls) b c first then (inl kept) k = kept_on calls b c first then kept k
called_on (Some calls) b c first then (inr lost) k = inr (lost_on b c then lost k)

-- What holds however a run ended.
pub ended_as : {E : Type 0} (P : ℕ → Type 0) (r : Result ℕ E) → P 3 → IfOk r P → P (result_unwrap_or r 3)
ended_as P (Ok status) failed is = is
ended_as P (Err e) failed is = failed
