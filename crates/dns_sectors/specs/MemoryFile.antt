-- A file in memory as its record of changes tells it.
use Rattle.std.specs.Prelude.{◌≡◌, ◌≤◌, ℕ, List, [], ◌∷◌, length, take}
use Rattle.std.proofs.Common.{sym, ◌∙◌, ap, arith}
use Rattle.std.proofs.lemmas.List.{take_all}
use Rattle.dns_sectors.specs.FileOctets.{padded, written}
use Rattle.dns_sectors.specs.declared.memory_file.Change.{Change}
use Rattle.dns_sectors.specs.declared.memory_file.Change.TheVariants.{Wrote, Resized}

-- the octets after a change
abbrev pub file_after : List ℕ → Change → List ℕ
file_after octets (Wrote offset new) = written offset new octets
file_after octets (Resized len) = padded len octets

abbrev pub file_after_all : List ℕ → List Change → List ℕ
file_after_all octets [] = octets
file_after_all octets (change ∷ changes) = file_after_all (file_after octets change) changes

-- what a crash since the first t changes of the record left: what the file held then or after a later one
abbrev pub HeldSince : List ℕ → List Change → ℕ → List ℕ → Type 0
HeldSince start changes t c =
    (k : ℕ) × (t ≤ k) × (k ≤ length changes) × (c ≡ file_after_all start (take k changes))

pub now_is_since : (start : List ℕ) (changes : List Change) (t : ℕ) (c : List ℕ) → t ≤ length changes
    → c ≡ file_after_all start changes → HeldSince start changes t c
now_is_since start changes t c le is = (
  length changes,
  le,
  omega arith,
  is ∙ ap (file_after_all start) (sym (take_all (length changes) changes (omega arith))),
)

pub since_now : (start : List ℕ) (changes : List Change) (c : List ℕ)
    → HeldSince start changes (length changes) c → c ≡ file_after_all start changes
since_now start changes c (k, from, to, is) = is ∙ ap (file_after_all start) (take_all k changes from)
