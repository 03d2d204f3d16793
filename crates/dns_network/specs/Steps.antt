-- What is done one after the other.
use Rattle.std.specs.Prelude.{◌≡◌, List, [], ◌∷◌}

module _ {S T : Type 0} where
  -- A step is taken for each of these, one after the other.
  abbrev pub AreSteps : (S → T → S → Type 0) → List T → S → S → Type 0
  AreSteps step [] old new = new ≡ old
  AreSteps step (one ∷ rest) old new = (between : S) × step old one between × AreSteps step rest between new
