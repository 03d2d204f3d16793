-- Lists of one length, element by element.
use Rattle.std.specs.Prelude.{List, [], ◌∷◌}

abbrev pub Each2 : {A B : Type 0} → (A → B → Type 0) → List A → List B → Type 0
Each2 R [] [] = Unit {0}
Each2 R (a ∷ xs) (b ∷ ys) = R a b × Each2 R xs ys
Each2 R _ _ = ⊥

abbrev pub Each3 : {A B C : Type 0} → (A → B → C → Type 0) → List A → List B → List C → Type 0
Each3 R [] [] [] = Unit {0}
Each3 R (a ∷ xs) (b ∷ ys) (c ∷ zs) = R a b c × Each3 R xs ys zs
Each3 R _ _ _ = ⊥
