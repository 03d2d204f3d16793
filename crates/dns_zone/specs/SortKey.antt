-- A number that rises with the order of names.
use Rattle.std.specs.Prelude.{◌≡◌, ℕ, ◌-◌, ◌^◌, true, List, [], length, get_or, reverse, if◌then◌else◌}
use Rattle.std.specs.Ordering.{is_lt, nat_cmp, ordering_then}
use Rattle.std.specs.declared.cmp.Ordering.{Ordering}
use Rattle.dns_names.specs.Lower.{AreOctets}
use Rattle.dns_names.specs.Name.{Labels, under, name_cmp}
use Rattle.dns_records.specs.Record.{record_cmp}
use Rattle.dns_zone.specs.Keys.{leading}
use Rattle.dns_zone.specs.declared.sorting.Keyed.{Keyed}

-- The label of a name next to one that it is under; none, if the two are one name.
abbrev pub label_below : Labels → Labels → List ℕ
label_below apex name = get_or (reverse name) (length apex) []

-- Under an apex, the first eight octets of the label next to it; before all of these, the lowest number;
-- behind them, the highest.
abbrev pub sort_key : Labels → Labels → ℕ
sort_key apex name =
    if under name apex then leading 8 (label_below apex name)
    else if is_lt (name_cmp name apex) then 0
    else 2 ^ 64 - 1

pub record IsSortKey (apex name : Labels) (key : ℕ) : Type 0 where
  pub is : key ≡ sort_key apex name
  pub octets : under name apex ≡ true → AreOctets (label_below apex name)

abbrev pub HasSortKey : Labels → Keyed → Type 0
HasSortKey apex keyed = IsSortKey apex keyed.value.owner keyed.key

-- In order of sort keys, and of the records where these tie.
abbrev pub keyed_cmp : Keyed → Keyed → Ordering
keyed_cmp a b = ordering_then (nat_cmp a.key b.key) (record_cmp a.value b.value)
