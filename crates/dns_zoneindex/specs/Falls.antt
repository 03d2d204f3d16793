-- The measure falls.
use Rattle.std.proofs.Common.{◌≡◌, ℕ, suc, ◌+◌, ◌<◌, ◌≤◌, List, [], ◌∷◌, ◌++◌, length, map, refl, arith}
use Rattle.std.specs.Prelude.{Bool, max}
use Rattle.dns_records.specs.Record.{Record}
use Rattle.dns_zoneindex.specs.Entries.{PathRecord, Child, here, pushed, flat}
use Rattle.dns_zoneindex.specs.Size.{weight, children_size, slot_size, node_size}
use Rattle.dns_zoneindex.specs.Children.{items, joined, own_of, child_in, AreChildren, IsGroup}
use Rattle.dns_zoneindex.specs.declared.node.Children.{Children}
use Rattle.dns_zoneindex.specs.declared.node.Children.TheVariants.{Empty, One, Many}
use Rattle.dns_zoneindex.specs.declared.node.Branch.TheDeep.{deep-Children, deep-Kind}
use Rattle.dns_zoneindex.specs.declared.node.Kind.{Kind}
use Rattle.dns_zoneindex.specs.declared.node.Kind.TheVariants.{Leaf, Branch}
use denote.Param.Weighed.{most}

pub weight-append : (a b : List PathRecord) → weight (a ++ b) ≡ weight a + weight b
weight-append [] b = omega arith
weight-append (e ∷ a) b = omega (arith, weight-append a b)

pub weight-pushed : (l : List ℕ) (a : List PathRecord)
    → weight (map (pushed l) a) ≡ weight a + length a + length a + length a
weight-pushed l [] = refl
weight-pushed l (e ∷ a) = omega (arith, weight-pushed l a)

pub sizes_flat : (cs : List Child) → AreChildren cs → children_size cs ≤ weight (flat cs)
sizes_flat [] h = omega arith
sizes_flat (c ∷ cs) h =
    omega (
      arith,
      h.0,
      sizes_flat cs h.2,
      weight-append (map (pushed c.label) c.own) (flat cs),
      weight-pushed c.label c.own,
    )

sizes-append : (a b : List Child) → children_size (a ++ b) ≡ children_size a + children_size b
sizes-append [] b = omega arith
sizes-append (x ∷ a) b = omega (arith, sizes-append a b)

pub children_falls : (rs : List Record) (l : Children)
    → AreChildren (items l)
    → max (deep-Children l) 0 ≤ suc (weight (own_of rs l))
children_falls rs Empty h = omega arith
children_falls rs (One n) h =
    omega (arith, sizes_flat (n ∷ []) h, weight-append (map here rs) (flat (n ∷ [])))
children_falls rs (Many g) h = omega (arith, sizes_flat g.value h, weight-append (map here rs) (flat g.value))

pub kind_falls : (k : Kind) → max (deep-Kind k) 0 ≤ node_size (child_in k)
kind_falls (Leaf r) = omega arith
kind_falls (Branch b) = omega arith

pub slot_falls : (l : Children) → max (deep-Children l) 0 ≤ slot_size (items l)
slot_falls Empty = omega arith
slot_falls (One n) = omega arith
slot_falls (Many g) = omega arith

-- children that are there weigh something
some_weighs : (s : List Child) → 0 < length s → 2 ≤ children_size s
some_weighs [] p = absurd (omega (arith, p))
some_weighs (c ∷ s) p = omega arith

-- no slot weighs more than all together, nor as much where another is there
most_of_all : (slots : List (List Child))
    → most (λ s. slot_size s + 1) slots ≤ children_size (joined slots) + 2
most_of_all [] = omega arith
most_of_all (s ∷ slots) = omega (arith, most_of_all slots, sizes-append s (joined slots))

pub group_falls : (count : ℕ) (slots : List (List Child)) (keys : List ℕ) (skip : ℕ) (whole : Bool)
    → IsGroup count slots keys skip whole
    → max (most (λ s. slot_size s + 1) slots) 0 ≤ children_size (joined slots)
group_falls count [] keys skip whole h = absurd (omega (arith, h.2))
group_falls count (s ∷ []) keys skip whole h = absurd (omega (arith, h.2))
group_falls count (s ∷ t ∷ slots) keys skip whole h =
    omega (
      arith,
      most_of_all (t ∷ slots),
      sizes-append s (joined (t ∷ slots)),
      some_weighs s h.1.0,
      some_weighs t h.1.1.0,
      sizes-append t (joined slots),
    )
