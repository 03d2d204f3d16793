-- The children of a name as a list by label: what is found in it, put into it, taken out of it.
use Rattle.std.specs.Prelude.{List, [], ◌∷◌, ℕ, Option, Some, None}
use Rattle.std.specs.FinMap.Entries.{by_order}
use Rattle.dns_zoneindex.specs.Entries.{Child}
use Rattle.dns_zoneindex.specs.Children.{label_cmp}

abbrev pub child_of : List ℕ → List Child → Option Child
child_of label [] = None
child_of label (c ∷ rest) = by_order (label_cmp label c.label) None (Some c) (child_of label rest)

-- The child at its position in order. It replaces one of equal label.
abbrev pub put_child : Child → List Child → List Child
put_child c [] = c ∷ []
put_child c (d ∷ rest) = by_order (label_cmp c.label d.label) (c ∷ d ∷ rest) (c ∷ rest) (d ∷ put_child c rest)

abbrev pub without_child : List ℕ → List Child → List Child
without_child label [] = []
without_child label (d ∷ rest) =
    by_order (label_cmp label d.label) (d ∷ rest) rest (d ∷ without_child label rest)
