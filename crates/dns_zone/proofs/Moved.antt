-- Parts of a list that are swapped.
use Rattle.std.proofs.Common.{◌≡◌, ℕ, ◌+◌, ◌-◌, ◌≤◌, List, ◌++◌, length, take, drop, slice_range, sym, ap, ◌∙◌, arith, append_assoc, length-append, length-drop, le_trans, take-append-drop}
use Rattle.std.specs.List.{splice}
use Rattle.std.proofs.lemmas.List.{take_at, drop_at, drop-drop, length-take-le}

-- so many after a position go to the end
abbrev pub moved : {X : Type 0} → List X → ℕ → ℕ → List X
moved xs from count = (take from xs ++ drop (from + count) xs) ++ slice_range xs from (from + count)

pub moved_is : {X : Type 0} (a m r xs : List X) (from count : ℕ) → xs ≡ a ++ (m ++ r) → length a ≡ from → length m ≡ count → moved xs from count ≡ a ++ (r ++ m)
moved_is a m r xs from count e p q =
    let first : take from xs ≡ a = ap (take from) e ∙ take_at a (m ++ r) from p in
    let rest : drop from xs ≡ m ++ r = ap (drop from) e ∙ drop_at a (m ++ r) from p in
    let last : drop (from + count) xs ≡ r = sym (drop-drop count from xs) ∙ ap (drop count) rest ∙ drop_at m r count q in
    let size : from + count - from ≡ count = omega arith in
    let mid : slice_range xs from (from + count) ≡ m = ap (λ n. take n (drop from xs)) size ∙ ap (take count) rest ∙ take_at m r count q in
    (λ i. (first i ++ last i) ++ mid i) ∙ append_assoc a r m

-- what was moved to the end is cut off, and what is after it moved to the end in its place
pub spliced : {X : Type 0} (xs ys one short two : List X) (b e : ℕ) → b ≤ e → e ≤ length xs
    → one ≡ moved (xs ++ ys) b (e - b) → short ≡ take (length one - (e - b)) one → two ≡ moved short b (length xs - e)
    → two ≡ splice xs b e ys
spliced xs ys one short two b e p q g h k =
    let f = take b xs in
    let m = slice_range xs b e in
    let r = drop e xs in
    let f_len : length f ≡ b = length-take-le b xs (le_trans p q) in
    let r_len : length r ≡ length xs - e = length-drop e xs in
    let m_len : length m ≡ e - b = length-take-le (e - b) (drop b xs) (omega (arith, length-drop b xs)) in
    let far : b + (e - b) ≡ e = omega arith in
    let tail : m ++ r ≡ drop b xs = ap (λ z. m ++ z) (ap (λ n. drop n xs) (sym far) ∙ sym (drop-drop (e - b) b xs)) ∙ take-append-drop (e - b) (drop b xs) in
    let whole : xs ≡ f ++ (m ++ r) = sym (ap (λ z. f ++ z) tail ∙ take-append-drop b xs) in
    let all : xs ++ ys ≡ f ++ (m ++ (r ++ ys)) = ap (λ z. z ++ ys) whole ∙ append_assoc f (m ++ r) ys ∙ ap (λ z. f ++ z) (append_assoc m r ys) in
    let one_is : one ≡ (f ++ (r ++ ys)) ++ m = g ∙ moved_is f m (r ++ ys) (xs ++ ys) b (e - b) all f_len m_len ∙ sym (append_assoc f (r ++ ys) m) in
    let one_len : length one ≡ length (f ++ (r ++ ys)) + length m = ap length one_is ∙ length-append (f ++ (r ++ ys)) m in
    let short_is : short ≡ f ++ (r ++ ys) = h ∙ ap (take (length one - (e - b))) one_is ∙ take_at (f ++ (r ++ ys)) m (length one - (e - b)) (omega (arith, one_len, m_len)) in
    k ∙ moved_is f r ys short b (length xs - e) short_is f_len r_len
