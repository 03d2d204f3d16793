-- Lists of octets that are the same in every piece that was compared
use Rattle.std.proofs.Common.{◌≡◌, Fits, ℕ, zero, suc, length-drop, ◌+◌, ◌<◌, ◌≤◌, Bool, true, false, List, [], ◌∷◌, ◌++◌, length, get_or, take, drop, refl, sym, ap, ◌∙◌, arith, rules, lit<}
use Rattle.std.proofs.Math.Seq.{take-add}
use Rattle.std.proofs.lemmas.List.{take-append-drop, take-take, take_all, length-take-le}
use Rattle.std.proofs.lemmas.Nat.{le_bytes_4, le_bytes_8}
use Rattle.std.proofs.lemmas.Slice.Eq.{bytes_eq-Decides}
use Rattle.std.proofs.lemmas.Bool.Decides.{Decides-eqb}
use Rattle.std.specs.Bool.{Decides}
use Rattle.std.specs.Int.{w8, w32, w64, from_le_bytes}
use Rattle.std.specs.Prelude.{nat_eq}
use Rattle.std.specs.Str.{bytes_eq}

-- each is an octet
abbrev pub AreOctets : List ℕ → Type 0
AreOctets xs = (i : ℕ) → get_or xs i 0 < 256

-- one more piece
pub piece_more : (xs ys : List ℕ) (at n : ℕ) → take at xs ≡ take at ys → take n (drop at xs) ≡ take n (drop at ys)
    → take (at + n) xs ≡ take (at + n) ys
piece_more xs ys at n e f = take-add at n xs ∙ ap (λ (zs : List ℕ). zs ++ take n (drop at xs)) e ∙ ap (λ (zs : List ℕ). take at ys ++ zs) f ∙ sym (take-add at n ys)

-- a front and an end that meet are all
pub ends_all : (xs ys : List ℕ) (at last : ℕ) → last ≤ at → take at xs ≡ take at ys → drop last xs ≡ drop last ys → xs ≡ ys
ends_all xs ys at last m e f =
    let front : take last xs ≡ take last ys = sym (take-take last at xs m) ∙ ap (take last) e ∙ take-take last at ys m in
    sym (take-append-drop last xs) ∙ ap (λ (zs : List ℕ). zs ++ drop last xs) front ∙ ap (λ (zs : List ℕ). take last ys ++ zs) f ∙ take-append-drop last ys

-- what a test says, of a fact that is the same
pub tells : (r : Bool) (xs ys : List ℕ) → Decides r (xs ≡ ys) → r ≡ bytes_eq xs ys
tells r xs ys h = search (rules, bytes_eq-Decides)

pub tells_not : (xs ys : List ℕ) → (xs ≡ ys → ⊥) → false ≡ bytes_eq xs ys
tells_not xs ys h = grind (arith, bytes_eq-Decides xs ys)

pub tells_so : (xs ys : List ℕ) → xs ≡ ys → true ≡ bytes_eq xs ys
tells_so xs ys e = sym ((bytes_eq-Decides xs ys).1 e)

pub word_same : (xs ys : List ℕ) → length xs ≡ 8 → length ys ≡ 8 → AreOctets xs → AreOctets ys
    → from_le_bytes w64 xs ≡ from_le_bytes w64 ys → xs ≡ ys
word_same xs ys n m p q e = sym (le_bytes_8 xs (from_le_bytes w64 xs) n p refl) ∙ le_bytes_8 ys (from_le_bytes w64 xs) m q e

pub half_same : (xs ys : List ℕ) → length xs ≡ 4 → length ys ≡ 4 → AreOctets xs → AreOctets ys
    → from_le_bytes w32 xs ≡ from_le_bytes w32 ys → xs ≡ ys
half_same xs ys n m p q e = sym (le_bytes_4 xs (from_le_bytes w32 xs) n p refl) ∙ le_bytes_4 ys (from_le_bytes w32 xs) m q e

take_octets : (n : ℕ) (xs : List ℕ) → AreOctets xs → AreOctets (take n xs)
take_octets zero xs h i = lit< tt
take_octets (suc n) [] h i = lit< tt
take_octets (suc n) (x ∷ xs) h zero = h 0
take_octets (suc n) (x ∷ xs) h (suc i) = take_octets n xs (λ j. h (suc j)) i

drop_octets : (n : ℕ) (xs : List ℕ) → AreOctets xs → AreOctets (drop n xs)
drop_octets zero xs h i = h i
drop_octets (suc n) [] h i = lit< tt
drop_octets (suc n) (x ∷ xs) h i = drop_octets n xs (λ j. h (suc j)) i

pub piece_length : (k n : ℕ) (xs : List ℕ) → n + k ≤ length xs → length (take k (drop n xs)) ≡ k
piece_length k n xs h = length-take-le k (drop n xs) (omega (arith, length-drop n xs))

-- the pieces that two numbers were read of
pub word_tells : (xs ys : List ℕ) (at : ℕ) (p q : ℕ) → at + 8 ≤ length xs → length xs ≡ length ys → AreOctets xs → AreOctets ys
    → p ≡ from_le_bytes w64 (take 8 (drop at xs)) → q ≡ from_le_bytes w64 (take 8 (drop at ys)) → p ≡ q
    → take 8 (drop at xs) ≡ take 8 (drop at ys)
word_tells xs ys at p q n s f g u v e =
    word_same (take 8 (drop at xs)) (take 8 (drop at ys)) (piece_length 8 at xs n) (piece_length 8 at ys (omega arith)) (take_octets 8 (drop at xs) (drop_octets at xs f)) (take_octets 8 (drop at ys) (drop_octets at ys g)) (sym u ∙ e ∙ v)

pub half_tells : (xs ys : List ℕ) (at : ℕ) (p q : ℕ) → at + 4 ≤ length xs → length xs ≡ length ys → AreOctets xs → AreOctets ys
    → p ≡ from_le_bytes w32 (take 4 (drop at xs)) → q ≡ from_le_bytes w32 (take 4 (drop at ys)) → p ≡ q
    → take 4 (drop at xs) ≡ take 4 (drop at ys)
half_tells xs ys at p q n s f g u v e =
    half_same (take 4 (drop at xs)) (take 4 (drop at ys)) (piece_length 4 at xs n) (piece_length 4 at ys (omega arith)) (take_octets 4 (drop at xs) (drop_octets at xs f)) (take_octets 4 (drop at ys) (drop_octets at ys g)) (sym u ∙ e ∙ v)

-- a piece that reaches the end is the whole end
end_whole : (n k : ℕ) (xs : List ℕ) → length xs ≤ n + k → take k (drop n xs) ≡ drop n xs
end_whole n k xs h = take_all k (drop n xs) (omega (arith, length-drop n xs))

-- what the last words tell, if the front up to them is the same
pub last_word : (xs ys : List ℕ) (at last p q : ℕ) → last ≤ at → last + 8 ≡ length xs → length xs ≡ length ys → AreOctets xs → AreOctets ys
    → take at xs ≡ take at ys
    → p ≡ from_le_bytes w64 (take 8 (drop last xs)) → q ≡ from_le_bytes w64 (take 8 (drop last ys))
    → nat_eq p q ≡ bytes_eq xs ys
last_word xs ys at last p q m n s f g e u v =
    tells (nat_eq p q) xs ys (
      λ t. ends_all xs ys at last m e (sym (end_whole last 8 xs (omega arith)) ∙ word_tells xs ys last p q (omega arith) s f g u v ((Decides-eqb p q).0 t) ∙ end_whole last 8 ys (omega arith)),
      λ w. (Decides-eqb p q).1 (u ∙ ap (λ (zs : List ℕ). from_le_bytes w64 (take 8 (drop last zs))) w ∙ sym v),
    )

pub last_half : (xs ys : List ℕ) (last p q : ℕ) → last ≤ 4 → last + 4 ≡ length xs → length xs ≡ length ys → AreOctets xs → AreOctets ys
    → take 4 xs ≡ take 4 ys
    → p ≡ from_le_bytes w32 (take 4 (drop last xs)) → q ≡ from_le_bytes w32 (take 4 (drop last ys))
    → nat_eq p q ≡ bytes_eq xs ys
last_half xs ys last p q m n s f g e u v =
    tells (nat_eq p q) xs ys (
      λ t. ends_all xs ys 4 last m e (sym (end_whole last 4 xs (omega arith)) ∙ half_tells xs ys last p q (omega arith) s f g u v ((Decides-eqb p q).0 t) ∙ end_whole last 4 ys (omega arith)),
      λ w. (Decides-eqb p q).1 (u ∙ ap (λ (zs : List ℕ). from_le_bytes w32 (take 4 (drop last zs))) w ∙ sym v),
    )

-- what differs where it was read differs
pub word_apart : (xs ys : List ℕ) (at p q : ℕ) → p ≡ from_le_bytes w64 (take 8 (drop at xs)) → q ≡ from_le_bytes w64 (take 8 (drop at ys))
    → (p ≡ q → ⊥) → false ≡ bytes_eq xs ys
word_apart xs ys at p q u v h = tells_not xs ys (λ w. h (u ∙ ap (λ (zs : List ℕ). from_le_bytes w64 (take 8 (drop at zs))) w ∙ sym v))

pub all_same : (xs ys : List ℕ) (at : ℕ) → length xs ≤ at → length xs ≡ length ys → take at xs ≡ take at ys → true ≡ bytes_eq xs ys
all_same xs ys at n s e = tells_so xs ys (sym (take_all at xs n) ∙ e ∙ take_all at ys (omega arith))

-- the octets of a slice, as a proof knows them
pub octets : (xs : List ℕ) → ((i : ℕ) → Fits w8 (get_or xs i 0)) → AreOctets xs
octets xs h i = search (rules, h i)
