-- A slab of connections, and the list of them.
use Rattle.std.proofs.Common.{◌≡◌, ◌<◌, ◌≤◌, ◌+◌, ℕ, zero, suc, Bool, true, false, not, cond, List, [], ◌∷◌, ◌++◌, length, map, take, drop, refl, sym, ap, subst, ◌∙◌, arith}
use Rattle.std.specs.Prelude.{Option, Some, None, OnSome, IfNone, is_some, count_by, filter, slice_set, slice_index_or, ◌==◌, if◌then◌else◌}
use Rattle.std.proofs.lemmas.Bool.Decides.{nat_tests}
use Rattle.std.proofs.lemmas.List.Sums.{sum_by-cons}
use Rattle.slab.specs.Slab.{Slab, get, slab_len, Updates}
use Rattle.dns_versions.specs.Each.{Each2}
use Rattle.dns_primary.specs.declared.event.Peer.{Peer}
use Rattle.dns_primary.specs.Machine.{Connection, peer_at}
use Rattle.dns_primary.proofs.Judged.{tested, untested}

pub is_one : (a b : ℕ) → (a == b) ≡ true → a ≡ b
is_one a b e = grind (arith, nat_tests, e)

is_other : (a b : ℕ) → (a == b) ≡ false → a ≡ b → ⊥
is_other a b e same = grind (arith, nat_tests, e, same)

pub test_same : (a b : ℕ) → a ≡ b → (a == b) ≡ true
test_same a b e = grind (arith, nat_tests, e)

pub test_other : (a b : ℕ) → (a ≡ b → ⊥) → (a == b) ≡ false
test_other a b e = grind (arith, nat_tests, e)

pub by_test : {R : Type 0} (b : Bool) → (b ≡ true → R) → (b ≡ false → R) → R
by_test true here other = here refl
by_test false here other = other refl

none_set : {A : Type 0} (slots : List (Option A)) (i : ℕ) → slice_index_or (slice_set slots i None) i None ≡ None
none_set [] i = refl
none_set (x ∷ slots) zero = refl
none_set (x ∷ slots) (suc i) = none_set slots i

other_set : {A : Type 0} (slots : List (Option A)) (i n : ℕ) → (i ≡ n → ⊥) → slice_index_or (slice_set slots i None) n None ≡ slice_index_or slots n None
other_set [] i n ne = refl
other_set (x ∷ slots) zero zero ne = absurd (ne refl)
other_set (x ∷ slots) zero (suc n) ne = refl
other_set (x ∷ slots) (suc i) zero ne = refl
other_set (x ∷ slots) (suc i) (suc n) ne = other_set slots i n (λ e. ne (ap suc e))

count_more : {A : Type 0} (x : Option A) (slots : List (Option A)) → count_by is_some (x ∷ slots) ≡ cond (is_some x) 1 0 + count_by is_some slots
count_more x slots = sum_by-cons (λ o. cond (is_some o) 1 0) x slots

none_count : {A : Type 0} (slots : List (Option A)) → ((n : ℕ) → (slice_index_or slots n None ≡ None → ⊥) → ⊥) → count_by is_some slots ≡ 0
none_count [] none = refl
none_count (None ∷ slots) none = omega (arith, count_more None slots, none_count slots (λ n h. none (suc n) h))
none_count (Some v ∷ slots) none = absurd (none 0 (λ e. cc e))

one_less : {A : Type 0} (slots : List (Option A)) (i : ℕ) → count_by is_some slots ≤ count_by is_some (slice_set slots i None) + 1
one_less [] i = omega arith
one_less {A} (None ∷ slots) zero = omega arith
one_less {A} (Some v ∷ slots) zero = omega (arith, count_more (Some v) slots, count_more {A = A} None slots)
one_less (x ∷ slots) (suc i) = omega (arith, count_more x slots, count_more x (slice_set slots i None), one_less slots i)

-- there are at most as many values as connections, where each is that of one
at_most : (slots : List (Option Peer)) (cs : List Connection) → ((n : ℕ) → (slice_index_or slots n None ≡ None → ⊥) → peer_at n cs ≡ None → ⊥) → count_by is_some slots ≤ length cs
at_most slots [] h = omega (arith, none_count slots (λ n some. h n some refl))
at_most slots (c ∷ rest) h =
    let less = at_most (slice_set slots c.number None) rest
    (λ n some none. by_test (c.number == n)
    (λ e. some (subst (λ (k : ℕ). slice_index_or (slice_set slots c.number None) k None ≡ None) (is_one c.number n e) (none_set slots c.number)))
    (λ e. h n (λ gone. some (other_set slots c.number n (is_other c.number n e) ∙ gone)) (untested (c.number == n) (Some c.peer) (peer_at n rest) e ∙ none))) in
    omega (arith, less, one_less slots c.number)

abbrev pub without : ℕ → List Connection → List Connection
without number cs = filter (λ (c : Connection). not (c.number == number)) cs

one_without : (a b d : Bool) (c : Connection) (n : ℕ) (front rest : List Connection) → (c.number == n) ≡ d → peer_at n front ≡ (if b then None else peer_at n rest) → (a ≡ true → d ≡ b) → (a ≡ false → b ≡ true → d ≡ false)
    → peer_at n (cond (not a) (c ∷ front) front) ≡ (if b then None else (if d then Some c.peer else peer_at n rest))
one_without true true d c n front rest e h same other = h
one_without true false true c n front rest e h same other = let clash : true ≡ false = same refl in absurd (cc clash)
one_without true false false c n front rest e h same other = h
one_without false true true c n front rest e h same other = let clash : true ≡ false = other refl refl in absurd (cc clash)
one_without false true false c n front rest e h same other = untested (c.number == n) (Some c.peer) (peer_at n front) e ∙ h
one_without false false true c n front rest e h same other = tested (c.number == n) (Some c.peer) (peer_at n front) e
one_without false false false c n front rest e h same other = untested (c.number == n) (Some c.peer) (peer_at n front) e ∙ h

pub peer_without : (number n : ℕ) (cs : List Connection) → peer_at n (without number cs) ≡ (if number == n then None else peer_at n cs)
peer_without number n [] = by_test {R = None ≡ (if number == n then None else None)} (number == n) (λ e. sym (tested (number == n) None None e)) (λ e. sym (untested (number == n) None None e))
peer_without number n (c ∷ rest) =
    one_without (c.number == number) (number == n) (c.number == n) c n (without number rest) rest refl (peer_without number n rest)
    (λ e. ap (λ (k : ℕ). k == n) (is_one c.number number e))
    (λ e f. test_other c.number n (λ g. is_other c.number number e (g ∙ sym (is_one number n f))))

not_longer : (number : ℕ) (cs : List Connection) → length (without number cs) ≤ length cs
not_longer number [] = omega arith
not_longer number (c ∷ rest) = one (c.number == number) c (without number rest) rest (not_longer number rest)
  where
    one : (a : Bool) (c : Connection) (front rest : List Connection) → length front ≤ length rest → length (cond (not a) (c ∷ front) front) ≤ length (c ∷ rest)
    one true c front rest le = omega (arith, le)
    one false c front rest le = omega (arith, le)

shorter : (number : ℕ) (p : Peer) (cs : List Connection) → peer_at number cs ≡ Some p → length (without number cs) < length cs
shorter number p [] e = absurd (cc e)
shorter number p (c ∷ rest) e =
    one (c.number == number) c (without number rest) rest (not_longer number rest)
    (λ is. shorter number p rest (sym (untested (c.number == number) (Some c.peer) (peer_at number rest) is) ∙ e))
  where
    one : (a : Bool) (c : Connection) (front rest : List Connection) → length front ≤ length rest → (a ≡ false → length front < length rest) → length (cond (not a) (c ∷ front) front) < length (c ∷ rest)
    one true c front rest le less = omega (arith, le)
    one false c front rest le less = omega (arith, less refl)

unchanged : (number : ℕ) (cs : List Connection) → peer_at number cs ≡ None → without number cs ≡ cs
unchanged number [] e = refl
unchanged number (c ∷ rest) e =
    one (c.number == number) c (without number rest) rest
    (λ is. let clash : Some c.peer ≡ None = sym (tested (c.number == number) (Some c.peer) (peer_at number rest) is) ∙ e in absurd (cc clash))
    (λ is. unchanged number rest (sym (untested (c.number == number) (Some c.peer) (peer_at number rest) is) ∙ e))
  where
    one : (a : Bool) (c : Connection) (front rest : List Connection) → (a ≡ true → ⊥) → (a ≡ false → front ≡ rest) → cond (not a) (c ∷ front) front ≡ c ∷ rest
    one true c front rest never same = absurd (never refl)
    one false c front rest never same = ap (λ (l : List Connection). c ∷ l) (same refl)

-- a connection is closed
module _ (old new : Slab Peer) (number : ℕ) (cs : List Connection) (updates : Updates old new number None) (were : (n : ℕ) → get old n ≡ peer_at n cs) (as_many : slab_len old ≡ length cs) where
  pub closed_are : (n : ℕ) → get new n ≡ peer_at n (without number cs)
  closed_are n = by_test (number == n)
      (λ e. ap (get new) (sym (is_one number n e)) ∙ updates.changed ∙ sym (peer_without number n cs ∙ tested (number == n) None (peer_at n cs) e))
      (λ e. updates.others n (λ same. is_other number n e (sym same)) ∙ were n ∙ sym (peer_without number n cs ∙ untested (number == n) None (peer_at n cs) e))

  pub closed_as_many : (r : Option Peer) → r ≡ get old number → OnSome r (slab_len new + 1 ≡ slab_len old) → IfNone r (new ≡ old) → slab_len new ≡ length (without number cs)
  closed_as_many (Some p) is less same =
      let short = shorter number p cs (sym (were number) ∙ sym is) in
      let most = at_most new.slots (without number cs) (λ n some none. some (closed_are n ∙ none)) in
      omega (arith, short, most, less, as_many)
  closed_as_many None is less same = ap slab_len same ∙ as_many ∙ ap length (sym (unchanged number cs (sym (were number) ∙ sym is)))

-- a connection is made
pub connected_are : (old new : Slab Peer) (number : ℕ) (peer : Peer) (cs : List Connection) → Updates old new number (Some peer) → ((n : ℕ) → get old n ≡ peer_at n cs)
    → (n : ℕ) → get new n ≡ peer_at n (record { number = number; peer = peer; transfer = None } ∷ cs)
connected_are old new number peer cs updates were n = by_test (number == n)
    (λ e. ap (get new) (sym (is_one number n e)) ∙ updates.changed ∙ sym (tested (number == n) (Some peer) (peer_at n cs) e))
    (λ e. updates.others n (λ same. is_other number n e (sym same)) ∙ were n ∙ sym (untested (number == n) (Some peer) (peer_at n cs) e))

-- each element is changed in its place
module _ {A : Type 0} (f : A → A) where
  pub read_on : (xs : List A) (i : ℕ) (d : A) → i < length xs → slice_index_or (map f (take i xs) ++ drop i xs) i d ≡ slice_index_or xs i d
  read_on [] i d lt = absurd (omega arith)
  read_on (x ∷ xs) zero d lt = refl
  read_on (x ∷ xs) (suc i) d lt = read_on xs i d (omega arith)

  pub write_on : (xs : List A) (i : ℕ) (d : A) → i < length xs → slice_set (map f (take i xs) ++ drop i xs) i (f (slice_index_or xs i d)) ≡ map f (take (suc i) xs) ++ drop (suc i) xs
  write_on [] i d lt = absurd (omega arith)
  write_on (x ∷ xs) zero d lt = refl
  write_on (x ∷ xs) (suc i) d lt = ap (λ (l : List A). f x ∷ l) (write_on xs i d (omega arith))

pub map2 : {A B : Type 0} (R : A → B → Type 0) (f : A → A) (g : B → B) (xs : List A) (ys : List B) → ((a : A) (b : B) → R a b → R (f a) (g b)) → Each2 R xs ys → Each2 R (map f xs) (map g ys)
map2 R f g [] [] go each = each
map2 R f g (x ∷ xs) (y ∷ ys) go each = (go x y each.0, map2 R f g xs ys go each.1)
map2 R f g _ _ go each = absurd each
