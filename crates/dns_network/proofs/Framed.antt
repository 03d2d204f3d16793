-- A stream is taken apart in one way.
use Rattle.std.proofs.Common.{◌≡◌, ◌<◌, ℕ, List, [], ◌∷◌, ◌++◌, length, take, drop, map, refl, sym, ap, ◌∙◌, append_assoc}
use Rattle.std.specs.Int.{w16, to_be_bytes, from_be_bytes}
use Rattle.std.specs.List.{All, concat}
use Rattle.std.proofs.lemmas.List.{map-append, append-nil}
use Rattle.std.proofs.lemmas.List.Elements.{All-append, All-head, All-tail}
use Rattle.std.proofs.lemmas.List.Folds.{concat-append}
use Rattle.std.proofs.lemmas.Nat.{from_be_bytes-to_be_bytes_2}
use Rattle.std.proofs.Math.Seq.{drop-append_seam, take-append_seam}
use Rattle.dns_network.specs.Framed.{pending_length, BeginsWithNone, IsFramed}

abbrev pub Short : List (List ℕ) → Type 0
Short messages = All (λ message. length message < 65536) messages

abbrev pub joined : List (List ℕ) → List ℕ
joined messages = concat (map pending_length messages)

pub joined-append : (first later : List (List ℕ)) → joined (first ++ later) ≡ joined first ++ joined later
joined-append first later = ap concat (map-append pending_length first later) ∙ concat-append (map pending_length first) (map pending_length later)

joined_one : (message : List ℕ) → joined (message ∷ []) ≡ pending_length message
joined_one message = ap (λ (xs : List ℕ). to_be_bytes w16 (length message) ++ xs) (append-nil message)

-- one message more is taken
pub one_more : (stream : List ℕ) (messages : List (List ℕ)) (message rest pending : List ℕ) → stream ≡ joined messages ++ rest → rest ≡ pending_length message ++ pending → stream ≡ joined (messages ++ message ∷ []) ++ pending
one_more stream messages message rest pending whole next =
    whole ∙ ap (λ (xs : List ℕ). joined messages ++ xs) next
    ∙ sym (append_assoc (joined messages) (pending_length message) pending)
    ∙ ap (λ (xs : List ℕ). xs ++ pending) (sym (joined-append messages (message ∷ []) ∙ ap (λ (xs : List ℕ). joined messages ++ xs) (joined_one message)))

record OneFront (m n x y : List ℕ) : Type 0 where
  front : m ≡ n
  back : x ≡ y

-- the first message is one
one_front : (m n x y : List ℕ) → length m < 65536 → length n < 65536 → pending_length m ++ x ≡ pending_length n ++ y → OneFront m n x y
one_front m n x y short short' e =
    let heads : to_be_bytes w16 (length m) ≡ to_be_bytes w16 (length n) = ap (take 2) e in
    let size : length m ≡ length n = sym (from_be_bytes-to_be_bytes_2 (length m) short) ∙ ap (from_be_bytes w16) heads ∙ from_be_bytes-to_be_bytes_2 (length n) short' in
    let bodies : m ++ x ≡ n ++ y = ap (drop 2) e in
    record {
      front = sym (take-append_seam m x) ∙ ap (take (length m)) bodies ∙ ap (λ (k : ℕ). take k (n ++ y)) size ∙ take-append_seam n y;
      back = sym (drop-append_seam m x) ∙ ap (drop (length m)) bodies ∙ ap (λ (k : ℕ). drop k (n ++ y)) size ∙ drop-append_seam n y;
    }

pub apart : (m : List ℕ) (ms : List (List ℕ)) (rest : List ℕ) → joined (m ∷ ms) ++ rest ≡ pending_length m ++ (joined ms ++ rest)
apart m ms rest = ap (λ (xs : List ℕ). to_be_bytes w16 (length m) ++ xs) (append_assoc m (joined ms) rest)

pub once : (stream : List ℕ) (messages messages' : List (List ℕ)) (rest rest' : List ℕ) → Short messages → Short messages' → BeginsWithNone rest → BeginsWithNone rest' → joined messages ++ rest ≡ joined messages' ++ rest' → (messages ≡ messages') × (rest ≡ rest')
once stream [] [] rest rest' s s' n n' e = (refl, e)
once stream [] (m ∷ ms) rest rest' s s' n n' e = absurd (n m (joined ms ++ rest') (All-head (λ message. length message < 65536) m ms s') (e ∙ apart m ms rest'))
once stream (m ∷ ms) [] rest rest' s s' n n' e = absurd (n' m (joined ms ++ rest) (All-head (λ message. length message < 65536) m ms s) (sym e ∙ apart m ms rest))
once stream (m ∷ ms) (m' ∷ ms') rest rest' s s' n n' e =
    let f = one_front m m' (joined ms ++ rest) (joined ms' ++ rest') (All-head (λ message. length message < 65536) m ms s) (All-head (λ message. length message < 65536) m' ms' s') (sym (apart m ms rest) ∙ e ∙ apart m' ms' rest') in
    let later = once stream ms ms' rest rest' (All-tail (λ message. length message < 65536) m ms s) (All-tail (λ message. length message < 65536) m' ms' s') n n' f.back in
    (ap (λ (x : List ℕ). x ∷ ms) f.front ∙ ap (λ (xs : List (List ℕ)). m' ∷ xs) later.0, later.1)

pub cut : (piece next : List ℕ) (messages messages' : List (List ℕ)) (rest rest' : List ℕ) → IsFramed piece messages rest → IsFramed (rest ++ next) messages' rest' → IsFramed (piece ++ next) (messages ++ messages') rest'
cut piece next messages messages' rest rest' h k = record {
  short = All-append (λ message. length message < 65536) messages messages' h.short k.short;
  whole =
      ap (λ (xs : List ℕ). xs ++ next) h.whole
      ∙ append_assoc (joined messages) rest next
      ∙ ap (λ (xs : List ℕ). joined messages ++ xs) k.whole
      ∙ sym (append_assoc (joined messages) (joined messages') rest')
      ∙ ap (λ (xs : List ℕ). xs ++ rest') (sym (joined-append messages messages'));
  none = k.none;
}
