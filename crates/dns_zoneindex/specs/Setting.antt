-- The records of one name in place of those that it had.
use Rattle.std.specs.Prelude.{ℕ, Bool, true, false, List, [], ◌∷◌, ◌++◌, map, cond}
use Rattle.std.specs.Ordering.{is_lt, is_gt}
use Rattle.dns_records.specs.Record.{Record}
use Rattle.dns_zoneindex.specs.Entries.{PathRecord, here, pushed, under_label}
use Rattle.dns_zoneindex.specs.Children.{label_cmp}

abbrev pub keep : (PathRecord → Bool) → List PathRecord → List PathRecord
keep p [] = []
keep p (e ∷ es) = cond (p e) (e ∷ keep p es) (keep p es)

-- The name's own records, and those before the child of a label.
abbrev pub before : List ℕ → PathRecord → Bool
before label e = elim (e.path) [ [] ↦ true | m ∷ rest ↦ is_gt (label_cmp label m) ]

abbrev pub behind : List ℕ → PathRecord → Bool
behind label e = elim (e.path) [ [] ↦ false | m ∷ rest ↦ is_lt (label_cmp label m) ]

-- Those of other names under it.
abbrev pub deeper : PathRecord → Bool
deeper e = elim (e.path) [ [] ↦ false | m ∷ rest ↦ true ]

-- The name that labels lead to has these records, all others those that they had.
abbrev pub set_at : List (List ℕ) → List Record → List PathRecord → List PathRecord
set_at [] records es = map here records ++ keep deeper es
set_at (label ∷ path) records es =
    keep (before label) es
    ++ (map (pushed label) (set_at path records (under_label label es)) ++ keep (behind label) es)
