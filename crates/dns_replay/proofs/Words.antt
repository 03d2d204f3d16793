-- The words and the lines of a text, one by one.
use Rattle.std.proofs.Common.{◌≡◌, ℕ, suc, ◌+◌, ◌<◌, ◌≤◌, Some, None, Option, Bool, true, false, List, [], ◌∷◌, length, length-drop, refl, ap, ◌∙◌, arith}
use Rattle.std.specs.Prelude.{nat_lt, not, cond, filter, map, position, MatchOption}
use Rattle.std.specs.Str.Lines.{strip_carriage_return}
use Rattle.std.specs.List.{after_first, before_first, onto_first, position_or_len, slice_split}
use Rattle.std.proofs.lemmas.Bool.Decides.{nat_tests}
use Rattle.std.proofs.lemmas.List.Splits.{slice_split_first}
use Rattle.dns_replay.specs.Lines.{is_blank, is_feed, lines, lines_left, pieces_left, room, words}

pub split_none : (p : ℕ → Bool) (xs : List ℕ) → nat_lt (position_or_len p xs) (length xs) ≡ false → slice_split p xs ≡ xs ∷ []
split_none p [] e = refl
split_none p (x ∷ xs) e = at (p x) e (λ h. split_none p xs h)
  where
    at : (b : Bool) → nat_lt (cond (not b) (1 + position_or_len p xs) 0) (suc (length xs)) ≡ false → (nat_lt (position_or_len p xs) (length xs) ≡ false → slice_split p xs ≡ xs ∷ []) → cond b ([] ∷ slice_split p xs) (onto_first x (slice_split p xs)) ≡ (x ∷ xs) ∷ []
    at true h more = absurd (let yes : nat_lt 0 (suc (length xs)) ≡ true = grind (arith, nat_tests) in cc)
    at false h more = ap (onto_first x) (more (grind (arith, nat_tests, h)))

-- The word is kept unless it is empty.
abbrev pub kept : List ℕ → List (List ℕ) → List (List ℕ)
kept word more = cond (nat_lt 0 (length word)) (word ∷ more) more

pub cut_words : (text word pending : List ℕ) → MatchOption (position is_blank text) ((word ≡ text) × (pending ≡ [])) (λ _. (word ≡ before_first is_blank text) × (pending ≡ after_first is_blank text)) → words text ≡ kept word (words pending)
cut_words text word pending h = go (nat_lt (position_or_len is_blank text) (length text)) refl h
  where
    go : (b : Bool) → nat_lt (position_or_len is_blank text) (length text) ≡ b → MatchOption (cond b (Some (position_or_len is_blank text)) None) ((word ≡ text) × (pending ≡ [])) (λ _. (word ≡ before_first is_blank text) × (pending ≡ after_first is_blank text)) → words text ≡ kept word (words pending)
    go true e is = (let inside : position_or_len is_blank text < length text = grind (arith, nat_tests, e) in rw (is.0, is.1) (ap (filter (λ w. nat_lt 0 (length w))) (slice_split_first is_blank text 0 inside)))
    go false e is = rw (is.0, is.1) (ap (filter (λ w. nat_lt 0 (length w))) (split_none is_blank text e))

pub one_word : (text word pending : List ℕ) → words text ≡ kept word (words pending) → 0 < length word → words text ≡ word ∷ words pending
one_word text word pending e some = (let yes : nat_lt 0 (length word) ≡ true = grind (arith, nat_tests, some) in e ∙ ap (λ b. cond b (word ∷ words pending) (words pending)) yes)

pub cut_pieces : (p : ℕ → Bool) (text front : List ℕ) (pending : Option (List ℕ)) → MatchOption (position p text) ((front ≡ text) × (pending ≡ None)) (λ _. (front ≡ before_first p text) × (pending ≡ Some (after_first p text))) → slice_split p text ≡ front ∷ pieces_left p pending
cut_pieces p text front pending h = go (nat_lt (position_or_len p text) (length text)) refl h
  where
    go : (b : Bool) → nat_lt (position_or_len p text) (length text) ≡ b → MatchOption (cond b (Some (position_or_len p text)) None) ((front ≡ text) × (pending ≡ None)) (λ _. (front ≡ before_first p text) × (pending ≡ Some (after_first p text))) → slice_split p text ≡ front ∷ pieces_left p pending
    go true e is = (let inside : position_or_len p text < length text = grind (arith, nat_tests, e) in rw (is.0, is.1) (slice_split_first p text 0 inside))
    go false e is = rw (is.0, is.1) (split_none p text e)

-- the lines of a text are its pieces, each without the carriage return at its end
pub lines_of_pieces : (text line : List ℕ) (pending : Option (List ℕ)) → slice_split is_feed text ≡ line ∷ pieces_left is_feed pending → lines text ≡ strip_carriage_return line ∷ lines_left pending
lines_of_pieces text line None e = ap (map strip_carriage_return) e
lines_of_pieces text line (Some rest) e = ap (map strip_carriage_return) e

pub less_room : (p : ℕ → Bool) (text front : List ℕ) (pending : Option (List ℕ)) → MatchOption (position p text) ((front ≡ text) × (pending ≡ None)) (λ _. (front ≡ before_first p text) × (pending ≡ Some (after_first p text))) → room pending ≤ length text
less_room p text front pending h = go (nat_lt (position_or_len p text) (length text)) refl h
  where
    go : (b : Bool) → nat_lt (position_or_len p text) (length text) ≡ b → MatchOption (cond b (Some (position_or_len p text)) None) ((front ≡ text) × (pending ≡ None)) (λ _. (front ≡ before_first p text) × (pending ≡ Some (after_first p text))) → room pending ≤ length text
    go true e is = (let inside : position_or_len p text < length text = grind (arith, nat_tests, e) in rw (is.1) (omega (arith, length-drop (position_or_len p text + 1) text, inside)))
    go false e is = rw (is.1) (omega arith)
