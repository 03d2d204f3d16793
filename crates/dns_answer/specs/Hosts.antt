-- Names in the order of their octets.
use Rattle.std.specs.Prelude.{◌≡◌, false, List, [], ◌∷◌, ◌++◌}
use Rattle.std.specs.List.{list_any}
use Rattle.std.specs.Ordering.{nat_cmp}
use Rattle.std.specs.Cmp.Lexicographic.{slice_cmp}
use Rattle.std.specs.declared.cmp.Ordering.TheVariants.{Less}
use Rattle.dns_names.specs.Name.{Labels, names_eq, wire}

-- A name comes after another.
abbrev pub IsAfter : Labels → Labels → Type 0
IsAfter name other = slice_cmp nat_cmp (wire other) (wire name) ≡ Less

-- The last of them is the greatest: a name that comes after it is none of them.
abbrev pub EndWithGreatest : List Labels → Type 0
EndWithGreatest names =
    (front : List Labels) (last next : Labels)
    → names ≡ front ++ last ∷ []
    → IsAfter next last
    → list_any (names_eq next) names ≡ false
