use Rattle.std.proofs.Common.{◌≤◌, List, ℕ, length, sym, arith, subst}
use Rattle.std.proofs.lemmas.List.{length-take}
use Rattle.dns_store.proofs.snapshot.read_snapshot.Goals as goal

pub returns-clause-len : goal.returns-clause-len
returns-clause-len g c =
    subst (λ (xs : List ℕ). length xs ≤ c.args.root.now.snapshot_length) (sym c.truncate.ensures.items)
    (omega (arith, length-take c.args.root.now.snapshot_length c.read_parts.new.octets.items))
