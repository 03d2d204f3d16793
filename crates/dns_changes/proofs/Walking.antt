-- Records kept one after another.
use Rattle.std.proofs.Common.{◌≡◌, Bool, true, false, List, [], ◌∷◌, ◌++◌, ◌∙◌, cond, append_assoc}
use Rattle.std.specs.Prelude.{filter}
use Rattle.dns_records.specs.Record.{Record}

-- those kept so far, and those that the rest adds
pub kept_next : (p : Record → Bool) (kept all : List Record) (x : Record) (rest : List Record) → kept ++ filter p (x ∷ rest) ≡ all → cond (p x) (kept ++ x ∷ []) kept ++ filter p rest ≡ all
kept_next p kept all x rest h = at (p x) h
  where
    at : (b : Bool) → kept ++ cond b (x ∷ filter p rest) (filter p rest) ≡ all → cond b (kept ++ x ∷ []) kept ++ filter p rest ≡ all
    at true e = append_assoc kept (x ∷ []) (filter p rest) ∙ e
    at false e = e
