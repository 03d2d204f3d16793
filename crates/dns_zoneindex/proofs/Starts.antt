-- Where the labels of a name start in its plain form.
use Rattle.std.proofs.Common.{◌≡◌, ℕ, zero, suc, ◌+◌, ◌<◌, ◌≤◌, ◌-◌, inl, inr, List, [], ◌∷◌, ◌++◌, get_or, length, drop, ap, sym, ◌∙◌, subst, append_assoc, length-append, arith}
use Rattle.std.specs.Prelude.{slice_set}
use Rattle.std.proofs.Math.Seq.{drop-append_seam}
use Rattle.std.proofs.lemmas.Bool.{cases_order}
use Rattle.std.specs.List.{AllByRecursion}
use Rattle.std.proofs.lemmas.List.{get_or-set_same, get_or-set_other, length-set}
use Rattle.dns_names.specs.Name.{Labels, IsLabel, IsName, labels_of, wire}
use Rattle.dns_names.specs.Plain.{IsPlain}
use Rattle.dns_names.specs.PlainLaws.{plain_of}
use Rattle.dns_zoneindex.specs.Starts.{AreStarts}

-- How far the walk along the labels is.
pub record IsWalked (name rest : Labels) (starts : List ℕ) (count : ℕ) : Type 0 where
  pub front : List ℕ
  pub whole : wire name ≡ front ++ wire rest
  pub room : count + count ≤ length front
  pub rest_is : rest ≡ drop count name
  pub within : count + length rest ≡ length name
  pub size : length starts ≡ 128
  pub starts_are : AreStarts name starts count

pub walk_begin : (name rest : Labels) (starts : List ℕ) → rest ≡ name → length starts ≡ 128 → IsWalked name rest starts 0
walk_begin name rest starts is size = record {
  front = [];
  whole = ap wire (sym is);
  room = omega arith;
  rest_is = is;
  within = omega (arith, ap length is);
  size = size;
  starts_are = λ k l. absurd (omega (arith, l));
}

pub drop_more : (n : ℕ) (name : Labels) (l : List ℕ) (above : Labels) → drop n name ≡ l ∷ above → drop (suc n) name ≡ above
drop_more zero [] l above e = absurd cc
drop_more zero (m ∷ name) l above e = ap tail e
  where
    tail : Labels → Labels
    tail [] = []
    tail (x ∷ xs) = xs
drop_more (suc n) [] l above e = absurd cc
drop_more (suc n) (m ∷ name) l above e = drop_more n name l above e

-- the part before what is left
pub before_rest : (name rest : Labels) (starts : List ℕ) (count : ℕ) → (h : IsWalked name rest starts count) → length (wire name) ≡ length h.front + length (wire rest)
before_rest name rest starts count h = ap length h.whole ∙ length-append h.front (wire rest)

pub start_fits : (name rest : Labels) (starts : List ℕ) (count : ℕ) → IsWalked name rest starts count → IsName name
    → (length (wire rest) ≤ length (wire name)) × (length (wire name) - length (wire rest) < 256) × (count < 128)
start_fits name rest starts count h valid =
    let is = before_rest name rest starts count h in
    let short = valid.short in
    (omega (arith, is), omega (arith, is, short), omega (arith, is, short, h.room))

-- one label further
pub walk_step : (name rest above : Labels) (starts : List ℕ) (count at : ℕ) (l : List ℕ) → IsWalked name rest starts count → IsName rest
    → rest ≡ l ∷ above
    → at ≡ length (wire name) - length (wire rest)
    → count < 128
    → IsWalked name above (slice_set starts count at) (count + 1)
walk_step name rest above starts count at l h valid is at_is room = record {
  front = h.front ++ (length l ∷ l);
  whole = h.whole ∙ ap (λ n. h.front ++ wire n) is ∙ sym (append_assoc h.front (length l ∷ l) (wire above));
  room = omega (arith, h.room, length-append h.front (length l ∷ l), some);
  rest_is = sym (drop_more count name l above (sym h.rest_is ∙ is)) ∙ ap (λ n. drop n name) one_more;
  within = omega (arith, h.within, ap length is);
  size = length-set starts count at ∙ h.size;
  starts_are = λ k less. elim (cases_order k count) [
    | inl e ↦ here k e
    | inr (inl before) ↦ (let old = h.starts_are k before in (old.0, ap (λ n. drop n (wire name)) (get_or-set_other starts count k at 0 (λ e. absurd (omega (arith, e, before)))) ∙ old.1))
    | inr (inr after) ↦ absurd (omega (arith, less, after))
  ];
}
  where
    one_more : suc count ≡ count + 1
    one_more = omega arith

    some : 0 < length l
    some = (let labels = valid.labels in first rest is labels)
      where
        first : (n : Labels) → n ≡ l ∷ above → AllByRecursion IsLabel n → 0 < length l
        first [] e a = absurd cc
        first (m ∷ n) e a = subst (λ x. 0 < length x) (ap head e) a.0.some
          where
            head : Labels → List ℕ
            head [] = []
            head (x ∷ xs) = x

    start : at ≡ length h.front
    start = omega (arith, at_is, before_rest name rest starts count h)

    here : (k : ℕ) → k ≡ count → IsName (drop k name) × (drop (get_or (slice_set starts count at) k 0) (wire name) ≡ wire (drop k name))
    here k e =
        let rest_is : rest ≡ drop k name = h.rest_is ∙ ap (λ n. drop n name) (sym e) in (
          subst IsName rest_is valid,
          ap (λ n. drop n (wire name)) (ap (λ n. get_or (slice_set starts count at) n 0) e ∙ get_or-set_same starts count at 0 (omega (arith, room, h.size)) ∙ start)
              ∙ ap (drop (length h.front)) h.whole
              ∙ drop-append_seam h.front (wire rest)
              ∙ ap wire rest_is,
        )

-- the name from a start on
pub from_start : (name : Labels) (starts : List ℕ) (count left : ℕ) → AreStarts name starts count → count ≡ length name → left ≤ length name → 0 < left
    → (labels_of (drop (get_or starts (left - 1) 0) (wire name)) ≡ drop (left - 1) name) × IsPlain (drop (get_or starts (left - 1) 0) (wire name))
from_start name starts count left h all within some =
    let here = h (left - 1) (omega (arith, all, within, some)) in
    plain_of (drop (get_or starts (left - 1) 0) (wire name)) (drop (left - 1) name) here.0 here.1

pub label_left : (k : ℕ) (name : Labels) → k < length name → drop k name ≡ [] → ⊥
label_left zero [] l e = absurd (omega (arith, l))
label_left zero (x ∷ name) l e = absurd cc
label_left (suc k) [] l e = absurd (omega (arith, l))
label_left (suc k) (x ∷ name) l e = label_left k name (omega (arith, l)) e

pub above_is : (name here above : Labels) (l : List ℕ) (left : ℕ) → 0 < left → here ≡ drop (left - 1) name → here ≡ l ∷ above → drop left name ≡ above
above_is name here above l left some is parts =
    let more : suc (left - 1) ≡ left = omega (arith, some) in
    ap (λ n. drop n name) (sym more) ∙ drop_more (left - 1) name l above (sym is ∙ parts)
