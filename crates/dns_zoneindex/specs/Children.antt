-- What the children of a name are seen as.
use Rattle.std.specs.Prelude.{Bool, true, false, ◌≡◌, ℕ, ◌<◌, List, [], ◌∷◌, ◌++◌, length, map, take, drop}
use Rattle.std.specs.Prelude.{get_or, Option, Some, None}
use Rattle.std.specs.Ordering.{nat_cmp}
use Rattle.std.specs.Cmp.Lexicographic.{slice_cmp}
use Rattle.std.specs.declared.cmp.Ordering.{Ordering}
use Rattle.std.specs.declared.cmp.Ordering.TheVariants.{Less}
use Rattle.dns_records.specs.Record.{Record}
use Rattle.dns_zoneindex.specs.Entries.{PathRecord, Child, here, flat}
use Rattle.dns_zone.specs.Keys.{IsKey}
use Rattle.dns_zoneindex.specs.declared.node.Children.{Children}
use Rattle.dns_zoneindex.specs.declared.node.Children.TheVariants.{Empty, One, Many}
use Rattle.dns_zoneindex.specs.declared.node.Kind.{Kind}
use Rattle.dns_zoneindex.specs.declared.node.Kind.TheVariants.{Leaf, Branch}

abbrev pub items : Children → List Child
items Empty = []
items (One n) = n ∷ []
items (Many g) = g.value

-- The children of slots, one slot after the other.
abbrev pub joined : List (List Child) → List Child
joined [] = []
joined (s ∷ slots) = s ++ joined slots

abbrev pub own_of : List Record → Children → List PathRecord
own_of records children = map here records ++ flat (items children)

abbrev pub label_cmp : List ℕ → List ℕ → Ordering
label_cmp a b = slice_cmp nat_cmp a b

abbrev pub AllChildren : (Child → Type 0) → List Child → Type 0
AllChildren P [] = Unit {0}
AllChildren P (x ∷ xs) = P x × AllChildren P xs

-- Each label is below all later ones, and no name without records is kept.
abbrev pub AreChildren : List Child → Type 0
AreChildren [] = Unit {0}
AreChildren (x ∷ xs) =
    (0 < length x.own) × AllChildren (λ y. label_cmp x.label y.label ≡ Less) xs × AreChildren xs

-- A branch has a record at or under its name, its children are in order, the number is that of its records,
-- and the key that of its label.
abbrev pub IsBranch : ℕ → ℕ → List ℕ → List Record → Children → Type 0
IsBranch count key label records children =
    (0 < length (own_of records children)) × AreChildren (items children)
    × (count ≡ length (own_of records children)) × IsKey key label

-- No slot is empty.
abbrev pub AllFull : List (List Child) → Type 0
AllFull [] = Unit {0}
AllFull (s ∷ slots) = (0 < length s) × AllFull slots

-- The key is that of the first child's label without so many octets.
abbrev pub IsFirstKey : ℕ → ℕ → List Child → Type 0
IsFirstKey skip key [] = ⊥
IsFirstKey skip key (c ∷ rest) = IsKey key (drop skip c.label)

-- Each key is that of the first child of its slot, as far as there are keys.
abbrev pub AreKeys : ℕ → List ℕ → List (List Child) → Type 0
AreKeys skip [] slots = Unit {0}
AreKeys skip (k ∷ keys) [] = Unit {0}
AreKeys skip (k ∷ keys) (s ∷ slots) = IsFirstKey skip k s × AreKeys skip keys slots

-- The label of the first child.
abbrev pub first_label : List Child → List ℕ
first_label [] = []
first_label (c ∷ rest) = c.label

-- So many octets at the beginning of the first child's label are those of another label.
abbrev pub BeginAlike : ℕ → List ℕ → List Child → Type 0
BeginAlike skip label s = take skip label ≡ take skip (first_label s)

abbrev pub AllBegin : ℕ → List ℕ → List (List Child) → Type 0
AllBegin skip label [] = Unit {0}
AllBegin skip label (s ∷ slots) = BeginAlike skip label s × AllBegin skip label slots

-- The first labels of all slots but the first one begin alike.
abbrev pub BeginAsSecond : ℕ → List (List Child) → Type 0
BeginAsSecond skip [] = Unit {0}
BeginAsSecond skip (s ∷ []) = Unit {0}
BeginAsSecond skip (s ∷ t ∷ slots) = AllBegin skip (first_label t) (t ∷ slots)

-- The labels of all children begin alike.
abbrev pub IsWhole : ℕ → List Child → Type 0
IsWhole skip cs = AllChildren (λ c. take skip c.label ≡ take skip (first_label cs)) cs

-- How the labels in the slots of a group begin.
abbrev pub IsSharedPrefix : List (List Child) → ℕ → Bool → Type 0
IsSharedPrefix slots skip whole = BeginAsSecond skip slots × (whole ≡ true → IsWhole skip (joined slots))

-- What holds of the slots of a group, of the number of their records, of their keys, and of how the labels
-- begin.
abbrev pub IsGroup : ℕ → List (List Child) → List ℕ → ℕ → Bool → Type 0
IsGroup count slots keys skip whole =
    AreChildren (joined slots) × AllFull slots × (1 < length slots) × (count ≡ length (flat (joined slots)))
    × AreKeys skip keys slots × IsSharedPrefix slots skip whole

-- What holds of the children of a slot, the number of their records, and the key of the first.
abbrev pub IsSlot : ℕ → ℕ → List Child → Type 0
IsSlot count key children = (count ≡ length (flat children)) × IsFirstKey 0 key children

abbrev pub last_of : List Child → Option Child
last_of [] = None
last_of (c ∷ []) = Some c
last_of (c ∷ d ∷ rest) = last_of (d ∷ rest)

-- So many octets at the beginnings of two labels are the same; none, if there are no two.
abbrev pub AreAlike : ℕ → Option Child → Option Child → Type 0
AreAlike skip None b = skip ≡ 0
AreAlike skip (Some a) None = skip ≡ 0
AreAlike skip (Some a) (Some b) = take skip a.label ≡ take skip b.label

abbrev pub node_of : List ℕ → List Record → Children → Child
node_of label records children = record { label = label; own = own_of records children }

-- The label of a leaf is the first of its owner's.
abbrev pub leaf_label : Record → List ℕ
leaf_label r = get_or r.owner 0 []

-- What is stored at and under a name: for a leaf, its only record.
abbrev pub child_in : Kind → Child
child_in (Leaf r) = record { label = leaf_label r; own = here r ∷ [] }
child_in (Branch b) = b.value

-- What the test for no child tells: none, or one that has a record.
abbrev pub MatchEmpty : Bool → List Child → Type 0
MatchEmpty true cs = cs ≡ []
MatchEmpty false cs = 0 < length (flat cs)
