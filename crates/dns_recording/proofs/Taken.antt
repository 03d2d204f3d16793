-- What a recorder says where lines are added or written out.
use Rattle.std.proofs.Common.{◌≡◌, ℕ, Result, Ok, Err, OnOk, List, [], ◌++◌, Option, Some, None, ap, sym, ◌∙◌, append_assoc, append-nil}
use Rattle.std.specs.Io.KnownBytes.{Appends, append_known}

-- Lines that are added are said after those before.
pub lines_added : (written written_after : Option (List ℕ)) (lines text lines_after : List ℕ) → written_after ≡ written → lines_after ≡ lines ++ text
    → Appends (append_known written lines) (append_known written_after lines_after) text
lines_added None None lines text lines_after same more = tt
lines_added None (Some ys) lines text lines_after same more = tt
lines_added (Some xs) None lines text lines_after same more = absurd (cc same)
lines_added (Some xs) (Some ys) lines text lines_after same more =
    let kept : ys ≡ xs = cc same in ap (λ (y : List ℕ). y ++ lines_after) kept ∙ ap (λ (z : List ℕ). xs ++ z) more ∙ sym (append_assoc xs lines text)

-- Lines that are written out were said before.
pub lines_out : (written written_after : Option (List ℕ)) (lines lines_after : List ℕ) → Appends written written_after lines → lines_after ≡ []
    → Appends (append_known written lines) (append_known written_after lines_after) []
lines_out None written_after lines lines_after out none = tt
lines_out (Some xs) None lines lines_after out none = out
lines_out (Some xs) (Some ys) lines lines_after out none = ap (λ (z : List ℕ). ys ++ z) none ∙ append-nil ys ∙ out ∙ sym (append-nil (xs ++ lines))

-- Lines that are added, and then written out with those before.
pub added_out : (written between written_after : Option (List ℕ)) (lines text lines_between lines_after : List ℕ) → between ≡ written → lines_between ≡ lines ++ text
    → Appends between written_after lines_between → lines_after ≡ [] → Appends (append_known written lines) (append_known written_after lines_after) text
added_out None between written_after lines text lines_between lines_after same more out none = tt
added_out (Some xs) None written_after lines text lines_between lines_after same more out none = absurd (cc same)
added_out (Some xs) (Some ys) None lines text lines_between lines_after same more out none = absurd out
added_out (Some xs) (Some ys) (Some zs) lines text lines_between lines_after same more out none =
    let kept : ys ≡ xs = cc same in
    ap (λ (z : List ℕ). zs ++ z) none ∙ append-nil zs ∙ out ∙ ap (λ (y : List ℕ). y ++ lines_between) kept ∙ ap (λ (z : List ℕ). xs ++ z) more ∙ sym (append_assoc xs lines text)

-- What follows where there was no error.
pub on_ok : {T E P Q : Type 0} (r : Result T E) → (P → Q) → OnOk r P → OnOk r Q
on_ok (Ok v) so h = so h
on_ok (Err e) so h = tt

pub on_ok_all : {T E P : Type 0} (r : Result T E) → P → OnOk r P
on_ok_all (Ok v) h = h
on_ok_all (Err e) h = tt
