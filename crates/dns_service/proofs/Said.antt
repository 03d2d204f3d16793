-- What a log says, where lines are written out or added.
use Rattle.std.proofs.Common.{◌≡◌, ℕ, List, [], ◌++◌, Option, Some, None, ap, sym, ◌∙◌, append_assoc, append-nil}
use Rattle.std.specs.Io.KnownBytes.{Appends, append_known}

-- Lines that are written out were said before.
pub said_out : (a b : Option (List ℕ)) (ls : List ℕ) → Appends a b ls → Appends (append_known a ls) (append_known b []) []
said_out None b ls h = tt
said_out (Some xs) None ls h = h
said_out (Some xs) (Some ys) ls h = ap (λ (z : List ℕ). z ++ []) h

-- Lines that are added are said after those before.
pub said_more : (a : Option (List ℕ)) (ls s ms : List ℕ) → ms ≡ ls ++ s → Appends (append_known a ls) (append_known a ms) s
said_more None ls s ms e = tt
said_more (Some xs) ls s ms e = ap (λ (z : List ℕ). xs ++ z) e ∙ sym (append_assoc xs ls s)

-- What is said stays where nothing is added.
pub said_none : (a : Option (List ℕ)) (ls : List ℕ) → Appends (append_known a ls) (append_known a ls) []
said_none None ls = tt
said_none (Some xs) ls = sym (append-nil (xs ++ ls))
