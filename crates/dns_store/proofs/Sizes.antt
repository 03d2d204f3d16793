-- The sizes of entries that a store in memory keeps, after a checkpoint.
use Rattle.std.proofs.Common.{◌≡◌, ⊎_elim, ℕ, ◌+◌, ◌-◌, ◌≤◌, ◌<◌, sum_by, List, [], ◌++◌, length, drop, ◌∙◌, ap, arith, drop-drop}
use Rattle.std.proofs.lemmas.Bool.{cases_lt}
use Rattle.std.proofs.lemmas.List.{append-nil, length-drop}
use Rattle.dns_store.specs.Versions.{Versions, Kept, moved_to}
use Rattle.dns_store.specs.Room.{entries_along, sectors_left}
use Rattle.dns_store.specs.Staged.{entries_length}
use Rattle.dns_store.specs.Checkpoint.{IsKeptNumber, entries_after_base, newest_sectors}
use Rattle.dns_store.proofs.Keeping.{drop_end}

-- A checkpoint leaves the room that it is made for.
pub room_left : (k : Kept) (keep room n : ℕ) → k.staged ≡ [] → room ≤ k.shape.journal → IsKeptNumber k keep room n → room ≤ sectors_left (moved_to (length k.shown - n) k)
room_left k keep room n none le is =
    let es = entries_along k.loaded k.shown in
    let whole : sum_by (λ s. s) (drop (length k.shown - n) (entries_along k.loaded (k.shown ++ k.staged))) ≡ sum_by (λ s. s) (drop (length k.shown - n) (entries_along k.loaded k.shown)) =
    ap (λ (vs : Versions). sum_by (λ s. s) (drop (length k.shown - n) (entries_along k.loaded vs))) (ap (λ (vs : Versions). k.shown ++ vs) none ∙ append-nil k.shown) in
    let size : length (entries_after_base k) ≡ length k.shown - k.base = length-drop k.base (entries_along k.loaded k.shown) ∙ ap (λ j. j - k.base) (entries_length k.loaded k.shown) in
    let there = is.there in
    let fits = is.fits in
    ⊎_elim
    (λ (less : length k.shown < k.base).
    (let end : length k.shown - n ≡ length (entries_along k.loaded k.shown) = omega (arith, there, size, less, entries_length k.loaded k.shown) in
    let nothing : sum_by (λ s. s) (drop (length k.shown - n) (entries_along k.loaded k.shown)) ≡ 0 = ap (λ j. sum_by (λ s. s) (drop j (entries_along k.loaded k.shown))) end ∙ ap (λ (xs : List ℕ). sum_by (λ s. s) xs) (drop_end (entries_along k.loaded k.shown)) in
    omega (arith, whole, nothing, le)))
    (λ (some : k.base ≤ length k.shown).
    (let sum : k.base + (length (entries_after_base k) - n) ≡ length k.shown - n = omega (arith, size, some, there) in
    let same : newest_sectors (λ s. s) (entries_after_base k) n ≡ sum_by (λ s. s) (drop (length k.shown - n) (entries_along k.loaded k.shown)) =
    ap (λ (xs : List ℕ). sum_by (λ s. s) xs) (drop-drop (length (entries_after_base k) - n) k.base es ∙ ap (λ j. drop j es) sum) in
    omega (arith, whole, same, fits, le))) (cases_lt (length k.shown) k.base)
