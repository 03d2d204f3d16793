-- Lines and words of a script.
use Rattle.std.specs.Prelude.{◌≡◌, ℕ, suc, ◌==◌, ◌||◌, Bool, nat_lt, List, [], length, filter, map, position}
use Rattle.std.specs.Prelude.{MatchOption, Option, Some, None}
use Rattle.std.specs.List.{after_first, before_first, slice_split}
use Rattle.std.specs.Str.Lines.{strip_carriage_return}

-- Space and tab.
abbrev pub is_blank : ℕ → Bool
is_blank c = c == 32 || c == 9

-- The words of a line: what is between blanks.
abbrev pub words : List ℕ → List (List ℕ)
words line = filter (λ word. nat_lt 0 (length word)) (slice_split is_blank line)

-- The lines of a script end with LF or CR LF.
abbrev pub is_feed : ℕ → Bool
is_feed c = c == 10

abbrev pub lines : List ℕ → List (List ℕ)
lines script = map strip_carriage_return (slice_split is_feed script)

-- What is left of a script after a line, if a line feed ends it.
abbrev pub lines_left : Option (List ℕ) → List (List ℕ)
lines_left None = []
lines_left (Some rest) = lines rest

-- A text is parted at the first of certain octets: what comes before it, and what comes after; where there is
-- none, all comes before.
abbrev pub IsPartedAt : (ℕ → Bool) → List ℕ → List ℕ → Option (List ℕ) → Type 0
IsPartedAt is_between text front after =
    MatchOption (position is_between text) ((front ≡ text) × (after ≡ None))
    (λ _. (front ≡ before_first is_between text) × (after ≡ Some (after_first is_between text)))

-- What is between certain octets of a text, if there is one.
abbrev pub pieces_left : (ℕ → Bool) → Option (List ℕ) → List (List ℕ)
pieces_left is_between None = []
pieces_left is_between (Some rest) = slice_split is_between rest

-- How much that is.
abbrev pub room : Option (List ℕ) → ℕ
room None = 0
room (Some rest) = suc (length rest)
