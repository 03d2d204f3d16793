use Rattle.std.proofs.Common.{◌≡◌, ℕ, ◌+◌, ◌-◌, [], ◌∷◌, vec_len}
use Rattle.dns_lookup.specs.Lookup.{chain}
use Rattle.dns_lookup.specs.Lookup as lookup
use Rattle.dns_lookup.specs.Represented.{Represents}
use Rattle.dns_lookup.specs.Lent.{Lends, AllLend}
use Rattle.dns_lookup.proofs.Chained.{Chained}
use Rattle.dns_lookup.proofs.chain.follow.Given as goal

abbrev pub invariant-names : goal.invariant-names
invariant-names g l =
    (more : ℕ)
    × (vec_len l.found + more ≡ 8)
    × ((f : lookup.Found) → Represents l.zones f l.fn.first → Chained l.zones l.qtype (f ∷ chain 7 l.zones (f.name ∷ []) l.fn.target l.qtype) more l.found.items l.here)
    × (Lends l.zones l.qtype l.fn.first → AllLend l.zones l.qtype l.found.items)

abbrev pub decreases-names : goal.decreases-names
decreases-names g l = 8 - vec_len l.found
