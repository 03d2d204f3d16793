-- The first of a list is taken, as much of it as there is room for.
use Rattle.std.proofs.Common.{◌≡◌, ◌<◌, ◌≤◌, ℕ, List, [], ◌∷◌, ◌++◌, length, take, drop, sym, ap, ◌∙◌, arith, slice_index_or, remove}
use Rattle.std.proofs.lemmas.List.{length-take-le, take-append-drop}
use Rattle.std.proofs.Math.Seq.{take-append_seam}

pub first_taken : {A : Type 0} (xs : List A) (x : A) (rest : List A) → 0 < length xs → x ≡ slice_index_or xs 0 x → rest ≡ remove xs 0
    → xs ≡ x ∷ rest
first_taken [] x rest some is less = absurd (omega (arith, some))
first_taken (y ∷ ys) x rest some is less = λ i. sym is i ∷ sym less i

pub cut_off : (count : ℕ) (into octets copied source : List ℕ) → count ≤ length into → length copied ≡ length (take count into)
    → copied ≡ take count source → source ≡ octets
    → take count (copied ++ drop count into) ++ drop count octets ≡ octets
cut_off count into octets copied source inside size is same =
    ap (λ (xs : List ℕ). xs ++ drop count octets) (ap (λ (n : ℕ). take n (copied ++ drop count into)) (sym (size ∙ length-take-le count into inside)) ∙ take-append_seam copied (drop count into) ∙ is ∙ ap (take count) same)
    ∙ take-append-drop count octets
