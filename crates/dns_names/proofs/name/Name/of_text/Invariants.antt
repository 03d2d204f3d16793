use Rattle.std.proofs.Common.{◌≡◌, List, ℕ, length}
use Rattle.dns_names.specs.Name.{Labels}
use Rattle.dns_names.specs.Text.{letters, parts_of}
use Rattle.dns_names.specs.Built.{IsBuilt, parts_after}
use Rattle.dns_names.proofs.name.Name.of_text.Given as goal

abbrev pub invariant-letters : goal.invariant-letters
invariant-letters l = (done : Labels) × (tail : List ℕ) × IsBuilt l.builder done tail × (parts_of (letters l.fn.text) ≡ parts_after done tail (parts_of (letters l.rest)))

abbrev pub decreases-letters : goal.decreases-letters
decreases-letters l = length l.rest
