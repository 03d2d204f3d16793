-- Records with what is left of the labels that lead to them, after as many as a depth says.
use Rattle.std.specs.Prelude.{◌≡◌, false, true, ℕ, ◌+◌, ◌<◌, List, [], ◌∷◌, ◌++◌, length, map, drop, reverse}
use Rattle.std.specs.List.{list_all, AllByRecursion}
use Rattle.std.specs.Ordering.{nat_cmp, is_gt}
use Rattle.std.specs.Cmp.Lexicographic.{slice_cmp}
use Rattle.std.specs.declared.cmp.Ordering.{Ordering}
use Rattle.dns_names.specs.Name.{Labels}
use Rattle.dns_records.specs.Record.{Record}
use Rattle.dns_zoneindex.specs.Entries.{PathRecord, here}
use Rattle.dns_zoneindex.specs.Setting.{before}

abbrev pub entry_below : ℕ → Record → PathRecord
entry_below depth r = record { path = drop depth (reverse r.owner); record_there = r }

abbrev pub from_depth : ℕ → List Record → List PathRecord
from_depth depth records = map (entry_below depth) records

abbrev pub path_cmp : Labels → Labels → Ordering
path_cmp p q = slice_cmp (slice_cmp nat_cmp) p q

-- Paths never fall.
abbrev pub NotBefore : Labels → List PathRecord → Type 0
NotBefore path [] = Unit {0}
NotBefore path (f ∷ es) = (is_gt (path_cmp path f.path) ≡ false) × NotBefore path es

abbrev pub Rising : List PathRecord → Type 0
Rising [] = Unit {0}
Rising (e ∷ es) = NotBefore e.path es × Rising es

-- At this depth, counted from the root, the owner has this label.
abbrev pub HasLabel : ℕ → List ℕ → Record → Type 0
HasLabel depth label r = drop depth (reverse r.owner) ≡ label ∷ drop (depth + 1) (reverse r.owner)

-- The last record's owner has another label there, or none.
abbrev pub EndsWithout : ℕ → List ℕ → List Record → Type 0
EndsWithout depth label [] = Unit {0}
EndsWithout depth label (r ∷ []) = HasLabel depth label r → ⊥
EndsWithout depth label (r ∷ s ∷ rest) = EndsWithout depth label (s ∷ rest)

-- The records before the last ones of a label.
pub record IsFront (depth : ℕ) (label : List ℕ) (records front : List Record) : Type 0 where
  pub rest : List Record
  pub whole : records ≡ front ++ rest
  pub same : AllByRecursion (HasLabel depth label) rest
  pub ended : EndsWithout depth label front

-- The last records, those of one label, taken off the others.
pub record IsTakenOff (depth : ℕ) (label : List ℕ) (records front group : List Record) : Type 0 where
  pub whole : records ≡ front ++ group
  pub some : 0 < length group
  pub same : AllByRecursion (HasLabel depth label) group
  pub ahead : list_all (before label) (from_depth depth front) ≡ true

-- All records are those of the name itself.
pub record BelongToName (depth : ℕ) (records left : List Record) : Type 0 where
  pub unchanged : left ≡ records
  pub own : from_depth depth records ≡ map here records
