use Rattle.std.proofs.Common.{◌≡◌, ◌∷◌, take}
use Rattle.std.specs.Prelude.{map}
use Rattle.dns_update.proofs.touched.owners.Given as goal

abbrev pub invariant-loop-item : goal.invariant-loop-item
invariant-loop-item l = l.names.items ≡ l.apex ∷ map (λ i. i.owner) (take l.item-index l.items)
