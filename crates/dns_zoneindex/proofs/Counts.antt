-- How many records are at and under names.
use Rattle.std.proofs.Common.{◌≡◌, ◌+◌, List, [], ◌∷◌, ◌++◌, length, map, arith, length-append}
use Rattle.std.proofs.lemmas.List.{length-map}
use Rattle.dns_zoneindex.specs.Entries.{PathRecord, Child, pushed, flat}

pub length-pushed : (c : Child) (es : List PathRecord) → length (map (pushed c.label) c.own ++ es) ≡ length c.own + length es
length-pushed c es = omega (arith, length-append (map (pushed c.label) c.own) es, length-map c.own (pushed c.label))

pub length-flat-append : (a b : List Child) → length (flat (a ++ b)) ≡ length (flat a) + length (flat b)
length-flat-append [] b = omega arith
length-flat-append (c ∷ a) b = omega (arith, length-flat-append a b, length-pushed c (flat (a ++ b)), length-pushed c (flat a))
