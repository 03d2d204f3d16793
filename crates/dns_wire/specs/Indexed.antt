-- A table of targets, in which a suffix is found by a number of its octets.
use Rattle.std.specs.Prelude.{◌≡◌, ◌≢◌, ◌+◌, ◌*◌, ◌/◌, ◌%◌, ◌^◌, ◌<◌, ◌≤◌, ℕ, zero, suc, false, List, []}
use Rattle.std.specs.Prelude.{length, drop, map, get_or, Option}
use Rattle.std.specs.Option.{option_map}
use Rattle.std.specs.List.{fold}
use Rattle.byteorder.specs.Endian.{little_number}
use Rattle.dns_names.specs.Name.{Labels, wire, names_eq}
use Rattle.dns_wire.specs.Compress.{Place, place_of}

-- The least offset at which a suffix occurs.
abbrev pub offset_at : List Place → Labels → Option ℕ
offset_at places suffix = option_map (λ p. p.offset) (place_of places suffix)

-- A number of 64 bits, and one more in it.
unfoldable pub mixed : ℕ → ℕ → ℕ
mixed sum word = (sum + word) % 2 ^ 64 * 11400714819323198485 % 2 ^ 64

-- So many words of eight octets mixed in, and the octets after them.
unfoldable pub words_mixed : ℕ → ℕ → List ℕ → ℕ
words_mixed zero sum octets = fold mixed sum octets
words_mixed (suc more) sum octets = words_mixed more (mixed sum (little_number 8 octets)) (drop 8 octets)

-- The number of a suffix in plain form.
unfoldable pub suffix_number : List ℕ → ℕ
suffix_number octets = words_mixed (length octets / 8) 0 octets

-- The head of a table for a number.
unfoldable pub head_of : ℕ → ℕ
head_of number = number / 18014398509481984 % 1024

-- A target, and a link to an earlier one with the same head: its index and one more, or 0 for none.
pub record Linked : Type 0 where
  pub place : Place
  pub next : ℕ

abbrev pub linked_places : List Linked → List Place
linked_places linked = map (λ l. l.place) linked

-- The suffix of the target at an index, and its head.
abbrev pub suffix_at : List Linked → ℕ → Labels
suffix_at linked index =
    (get_or linked index (record { place = record { offset = 0; suffix = [] }; next = 0 })).place.suffix

abbrev pub next_at : List Linked → ℕ → ℕ
next_at linked index =
    (get_or linked index (record { place = record { offset = 0; suffix = [] }; next = 0 })).next

abbrev pub head_at : List Linked → ℕ → ℕ
head_at linked index = head_of (suffix_number (wire (suffix_at linked index)))

-- A link to the last target before an index that has this head.
pub record IsLast (linked : List Linked) (before head link : ℕ) : Type 0 where
  pub inside : link ≤ before
  pub own : (index : ℕ) → link ≡ index + 1 → head_at linked index ≡ head
  pub after : (index : ℕ) → link ≤ index → index < before → head_at linked index ≢ head

-- The heads and the targets are linked, and no two targets have one suffix.
pub record IsTable (linked : List Linked) (heads : List ℕ) : Type 0 where
  pub first : (head : ℕ) → IsLast linked (length linked) head (get_or heads head 0)
  pub next : (index : ℕ) → index < length linked
      → IsLast linked index (head_at linked index) (next_at linked index)
  pub apart : (a b : ℕ) → a < b → b < length linked
      → names_eq (suffix_at linked a) (suffix_at linked b) ≡ false
