-- Where the child of a label is, among slots of children.
use Rattle.std.specs.Prelude.{◌≡◌, ℕ, suc, ◌+◌, Bool, false, ◌<◌, ◌≤◌}
use Rattle.std.specs.Prelude.{List, [], ◌∷◌, get_or, length, take, drop, Some}
use Rattle.std.specs.List.{slice_get}
use Rattle.std.specs.Ordering.{is_lt}
use Rattle.std.specs.declared.cmp.Ordering.TheVariants.{Less, Greater}
use Rattle.dns_zoneindex.specs.Assoc.{child_of}
use Rattle.dns_zoneindex.specs.Entries.{Child}
use Rattle.dns_zoneindex.specs.Children.{label_cmp, joined}
use Rattle.dns_zoneindex.specs.Children.{AllChildren, AreChildren, AllFull, AreKeys, AllBegin}
use Rattle.dns_zone.specs.Keys.{IsKey}

-- The label sorts before the first of the children.
abbrev pub is_before : List ℕ → List Child → Bool
is_before label [] = false
is_before label (c ∷ rest) = is_lt (label_cmp label c.label)

-- All children of the slots before this index sort before the label, and all children of the slots after it
-- sort after the label.
pub record IsPlace (label : List ℕ) (slots : List (List Child)) (position : ℕ) : Type 0 where
  pub there : position < length slots
  pub ahead : AllChildren (λ c. label_cmp label c.label ≡ Greater) (joined (take position slots))
  pub behind : AllChildren (λ c. label_cmp label c.label ≡ Less) (joined (drop (suc position) slots))

-- The child of the label is among those of the slot at this index, if there is one.
pub record IsFoundAt (label : List ℕ) (slots : List (List Child)) (position : ℕ) : Type 0 where
  pub there : position < length slots
  pub found : (s : List Child) → slice_get slots position ≡ Some s
      → child_of label s ≡ child_of label (joined slots)

-- The key at the index is at most this one, if it isn't the first, and the next key is greater.
pub record IsLastUpTo (key : ℕ) (keys : List ℕ) (position : ℕ) : Type 0 where
  pub there : position < length keys
  pub least : 0 < position → get_or keys position 0 ≤ key
  pub next : position + 1 < length keys → key < get_or keys (position + 1) 0

-- One of the slots has this child alone.
pub record HasAlone (slots : List (List Child)) (c : Child) : Type 0 where
  pub position : ℕ
  pub is : slice_get slots position ≡ Some (c ∷ [])

-- Each label with this key, if it begins like the slots, has its place at the index.
abbrev pub IsPlaceOfKey : List ℕ → ℕ → List (List Child) → ℕ → Type 0
IsPlaceOfKey keys key slots position =
    (skip : ℕ) (label : List ℕ) → AreKeys skip keys slots → AllFull slots → AreChildren (joined slots)
    → IsKey key (drop skip label) → AllBegin skip label (drop 1 slots) → IsPlace label slots position
