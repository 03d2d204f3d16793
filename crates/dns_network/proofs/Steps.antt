-- What is done one after the other.
use Rattle.std.proofs.Common.{◌≡◌, ℕ, ◌+◌, ◌<◌, List, [], ◌∷◌, ◌++◌, length, map, take, get_or, refl, ap, sym, subst, ◌∙◌}
use Rattle.std.proofs.lemmas.List.{map-append, take_more}
use Rattle.dns_network.specs.Steps.{AreSteps}

module _ {S T : Type 0} (step : S → T → S → Type 0) where
  pub steps_on : (first later : List T) (a b c : S) → AreSteps step first a b → AreSteps step later b c → AreSteps step (first ++ later) a c
  steps_on [] later a b c is more = subst (λ (x : S). AreSteps step later x c) is more
  steps_on (one ∷ rest) later a b c (between, here, pending) more = (between, here, steps_on rest later between b c pending more)

  pub step_more : (first : List T) (one : T) (a b c : S) → AreSteps step first a b → step b one c → AreSteps step (first ++ one ∷ []) a c
  step_more first one a b c is more = steps_on first (one ∷ []) a b c is (c, more, refl)

  -- one more, after those of a list
  pub and_one : (old new : List T) (a b c : S) → AreSteps step old a b
      → (one : T) × (new ≡ old ++ one ∷ []) × AreSteps step (one ∷ []) b c
      → AreSteps step new a c
  and_one old new a b c is (one, e, more) = subst (λ (l : List T). AreSteps step l a c) (sym e) (steps_on old (one ∷ []) a b c is more)

  -- the next of those that items tell
  pub next_step : {P : Type 0} (told : P → T) (items : List P) (at : ℕ) (other : P) (a b c : S) → at < length items
      → AreSteps step (map told (take at items)) a b → step b (told (get_or items at other)) c
      → AreSteps step (map told (take (at + 1) items)) a c
  next_step told items at other a b c lt is more =
      let here = get_or items at other in
      let next : map told (take (at + 1) items) ≡ map told (take at items) ++ told here ∷ [] =
      ap (map told) (take_more items at other lt) ∙ map-append told (take at items) (here ∷ []) in
      subst (λ (l : List T). AreSteps step l a c) (sym next) (step_more (map told (take at items)) (told here) a b c is more)
