-- The children of slots, around one of the slots.
use Rattle.std.proofs.Common.{◌≡◌, ℕ, zero, suc, ◌-◌, ◌<◌, ◌≤◌, true, false, inl, inr, nat_eq, nat_lt, List, [], ◌∷◌, ◌++◌, get_or, length, map, take, drop, reverse, Some, None, refl, ap, sym, ◌∙◌, subst, append_assoc, arith}
use Rattle.std.specs.Prelude.{unwrap_or}
use Rattle.std.specs.List.{slice_get}
use Rattle.std.specs.Ordering.{is_lt}
use Rattle.std.specs.Cmp.{nat_cmp_is, tied_itself}
use Rattle.std.specs.FinMap.Entries.{by_order}
use Rattle.std.specs.Str.{bytes_eq}
use Rattle.std.specs.declared.cmp.Ordering.{Ordering}
use Rattle.std.specs.declared.cmp.Ordering.TheVariants.{Less, Equal, Greater}
use Rattle.std.proofs.lemmas.Bool.{cases_order, lt-ltb, le-ltb}
use Rattle.std.proofs.lemmas.Option.{slice_get_within, slice_get_read}
use Rattle.std.proofs.lemmas.List.{length-append, take-append-drop, append-nil, reverse-append}
use Rattle.std.proofs.lemmas.Bool.Decides.{eqb_tells}
use Rattle.dns_zone.specs.Order.{bytes_same, bytes_itself}
use Rattle.dns_zone.specs.Sets.{true_or_false}
use Rattle.dns_zoneindex.specs.Entries.{Child, flat}
use Rattle.dns_zoneindex.specs.Children.{label_cmp, joined, AllChildren, AreChildren, AllFull, IsFirstKey}
use Rattle.dns_zoneindex.specs.Assoc.{child_of, put_child, without_child}
use Rattle.dns_zone.specs.Keys.{IsKey, leading}
use Rattle.dns_zoneindex.specs.Slots.{is_before, HasAlone, IsPlace}
use Rattle.dns_zoneindex.proofs.Counts.{length-pushed}
use Rattle.dns_zoneindex.proofs.Keys.{key_below, key_above, key_equal}
use Rattle.dns_zoneindex.proofs.Under.{labels_same}
use Rattle.dns_zoneindex.proofs.Sides.{label_total, all_map, children_front, children_back, past, child_past, put_past, without_past, child_before, put_before, without_before}

pub joined-append : (a b : List (List Child)) → joined (a ++ b) ≡ joined a ++ joined b
joined-append [] b = refl
joined-append (s ∷ a) b = ap (λ z. s ++ z) (joined-append a b) ∙ sym (append_assoc s (joined a) (joined b))

pub full_both : (a b : List (List Child)) → AllFull a → AllFull b → AllFull (a ++ b)
full_both [] b f g = g
full_both (s ∷ a) b f g = (f.0, full_both a b f.1 g)

pub full_front : (a b : List (List Child)) → AllFull (a ++ b) → AllFull a
full_front [] b f = tt
full_front (s ∷ a) b f = (f.0, full_front a b f.1)

pub full_back : (a b : List (List Child)) → AllFull (a ++ b) → AllFull b
full_back [] b f = f
full_back (s ∷ a) b f = full_back a b f.1

-- slots in two parts
pub in_two : (n : ℕ) (slots front back : List (List Child)) → front ≡ take n slots → back ≡ drop n slots → slots ≡ front ++ back
in_two n slots front back e f = sym (take-append-drop n slots) ∙ (λ i. sym e i ++ sym f i)

pub kept_front : (slots front back : List (List Child)) → slots ≡ front ++ back → AreChildren (joined slots) → AreChildren (joined front)
kept_front slots front back is k = children_front (joined front) (joined back) (subst AreChildren (ap joined is ∙ joined-append front back) k)

pub kept_back : (slots front back : List (List Child)) → slots ≡ front ++ back → AreChildren (joined slots) → AreChildren (joined back)
kept_back slots front back is k = children_back (joined front) (joined back) (subst AreChildren (ap joined is ∙ joined-append front back) k)

pub some_joined : (slots : List (List Child)) → AllFull slots → 0 < length slots → 0 < length (joined slots)
some_joined [] f n = absurd (omega (arith, n))
some_joined (s ∷ slots) f n = omega (arith, f.0, length-append s (joined slots))

pub some_flat : (slots : List (List Child)) → AreChildren (joined slots) → AllFull slots → 1 < length slots → 0 < length (flat (joined slots))
some_flat slots k f n = any (joined slots) k (some_joined slots f (omega (arith, n)))
  where
    any : (cs : List Child) → AreChildren cs → 0 < length cs → 0 < length (flat cs)
    any [] k n = absurd (omega (arith, n))
    any (c ∷ cs) k n = omega (arith, k.0, length-pushed c (flat cs))

-- a slot for each child
pub joined_ones : (xs : List Child) → joined (map (λ x. x ∷ []) xs) ≡ xs
joined_ones [] = refl
joined_ones (x ∷ xs) = ap (λ z. x ∷ z) (joined_ones xs)

pub full_ones : (xs : List Child) → AllFull (map (λ x. x ∷ []) xs)
full_ones [] = tt
full_ones (x ∷ xs) = (omega arith, full_ones xs)

-- a label of up to eight octets is told by its key and its length
pub called : (k o : ℕ) (q m : List ℕ) → IsKey k q → IsKey o m → k ≡ o → length q ≡ length m → length q ≤ 8 → true ≡ bytes_eq q m
called k o q m p r h e short =
    let same = labels_same q m (sym (key_equal k o q m p r h short) ∙ sym (nat_cmp_is (length q) (length m) Equal e)) in
    sym (ap (λ x. bytes_eq q x) (sym same) ∙ bytes_itself q)

-- and only such a label
pub told_by_key : (k o : ℕ) (q m : List ℕ) → IsKey k q → IsKey o m → length q ≡ length m → length q ≤ 8 → nat_eq k o ≡ bytes_eq q m
told_by_key k o q m p r e short = elim (eqb_tells k o) [
  | inl y ↦ y.0 ∙ called k o q m p r y.1 e short
  | inr n ↦ n.0 ∙ sym (elim (true_or_false (bytes_eq q m)) [
    | inl s ↦ absurd (n.1 (p.0 ∙ ap (leading 8) (bytes_same q m s) ∙ sym r.0))
    | inr d ↦ d
  ])
]

-- one child
equal : (q m : List ℕ) → bytes_eq q m ≡ true → label_cmp q m ≡ Equal
equal q m h = ap (λ x. label_cmp q x) (sym (bytes_same q m h)) ∙ tied_itself label_total q

other : (q m : List ℕ) → bytes_eq q m ≡ false → label_cmp q m ≡ Equal → ⊥
other q m h e = (let same : bytes_eq q m ≡ true = ap (λ x. bytes_eq q x) (sym (labels_same q m e)) ∙ bytes_itself q in absurd cc)

pub child_one : (q : List ℕ) (c : Child) → bytes_eq q c.label ≡ true → child_of q (c ∷ []) ≡ Some c
child_one q c h = ap (λ o. by_order o None (Some c) None) (equal q c.label h)

pub child_other : (q : List ℕ) (c : Child) → bytes_eq q c.label ≡ false → child_of q (c ∷ []) ≡ None
child_other q c h = elim (label_cmp q c.label) as (λ o. (o ≡ Equal → ⊥) → by_order o None (Some c) None ≡ None) [
  | Less ↦ λ n. refl
  | Equal ↦ λ n. absurd (n refl)
  | Greater ↦ λ n. refl
] (other q c.label h)

pub without_one : (q : List ℕ) (c : Child) → bytes_eq q c.label ≡ true → without_child q (c ∷ []) ≡ []
without_one q c h = ap (λ o. by_order o (c ∷ []) [] (c ∷ [])) (equal q c.label h)

pub without_other : (q : List ℕ) (c : Child) → bytes_eq q c.label ≡ false → without_child q (c ∷ []) ≡ c ∷ []
without_other q c h = elim (label_cmp q c.label) as (λ o. (o ≡ Equal → ⊥) → by_order o (c ∷ []) [] (c ∷ []) ≡ c ∷ []) [
  | Less ↦ λ n. refl
  | Equal ↦ λ n. absurd (n refl)
  | Greater ↦ λ n. refl
] (other q c.label h)

-- two groups of the slots
pub joined_two : (made : List (List Child)) (a b : List Child) (slots front back : List (List Child)) → made ≡ a ∷ b ∷ [] → a ≡ joined front
    → b ≡ joined back
    → slots ≡ front ++ back
    → joined made ≡ joined slots
joined_two made a b slots front back e f g is =
    ap joined e ∙ (λ i. f i ++ (g i ++ [])) ∙ ap (λ z. joined front ++ z) (append-nil (joined back)) ∙ sym (ap joined is ∙ joined-append front back)

-- one more group, in front of those that were made before
pub more_made : (made new : List (List Child)) (a : List Child) → new ≡ made ++ (a ∷ []) → reverse new ≡ a ∷ reverse made
more_made made new a e = ap reverse e ∙ reverse-append made (a ∷ [])

pub joined_more : (made new : List (List Child)) (a : List Child) (slots front back : List (List Child)) (all : List Child)
    → new ≡ made ++ (a ∷ [])
    → a ≡ joined back
    → slots ≡ front ++ back
    → joined slots ++ joined (reverse made) ≡ all
    → joined front ++ joined (reverse new) ≡ all
joined_more made new a slots front back all e f is before =
    ap (λ z. joined front ++ joined z) (more_made made new a e)
    ∙ ap (λ z. joined front ++ (z ++ joined (reverse made))) f
    ∙ sym (append_assoc (joined front) (joined back) (joined (reverse made)))
    ∙ ap (λ z. z ++ joined (reverse made)) (sym (ap joined is ∙ joined-append front back))
    ∙ before

-- a slot, those before it and those after it
pub from : (slots : List (List Child)) (p : ℕ) (s : List Child) → slice_get slots p ≡ Some s → drop p slots ≡ s ∷ drop (suc p) slots
from [] p s e = absurd (omega (arith, slice_get_within [] p s e))
from (x ∷ slots) zero s e = ap (λ o. unwrap_or o x ∷ slots) e
from (x ∷ slots) (suc p) s e = from slots p s e

pub around : (slots : List (List Child)) (p : ℕ) (s : List Child) → slice_get slots p ≡ Some s → slots ≡ take p slots ++ (s ∷ drop (suc p) slots)
around [] p s e = absurd (omega (arith, slice_get_within [] p s e))
around (x ∷ slots) zero s e = ap (λ o. unwrap_or o x ∷ slots) e
around (x ∷ slots) (suc p) s e = ap (λ z. x ∷ z) (around slots p s e)

pub joined_around : (slots : List (List Child)) (p : ℕ) (s : List Child) → slice_get slots p ≡ Some s
    → joined slots ≡ joined (take p slots) ++ (s ++ joined (drop (suc p) slots))
joined_around slots p s e = ap joined (around slots p s e) ∙ joined-append (take p slots) (s ∷ drop (suc p) slots)

pub full_around : (slots : List (List Child)) (p : ℕ) (s : List Child) → slice_get slots p ≡ Some s → AllFull slots
    → AllFull (take p slots) × (0 < length s) × AllFull (drop (suc p) slots)
full_around slots p s e f =
    let f : AllFull (take p slots ++ (s ∷ drop (suc p) slots)) = subst AllFull (around slots p s e) f in
    let back = full_back (take p slots) (s ∷ drop (suc p) slots) f in
    (full_front (take p slots) (s ∷ drop (suc p) slots) f, back.0, back.1)

-- keys that differ decide
pub key_decides : (key own : ℕ) (q : List ℕ) (s : List Child) → IsKey key q → IsFirstKey 0 own s → (key ≡ own → ⊥) → nat_lt key own ≡ is_before q s
key_decides key own q [] k f n = absurd f
key_decides key own q (c ∷ s) k f n =
    elim (cases_order key own) [
      | inl e ↦ absurd (n e)
      | inr (inl l) ↦ lt-ltb key own l ∙ ap is_lt (key_below key own q c.label k f l)
      | inr (inr g) ↦ le-ltb key own (omega (arith, g)) ∙ ap is_lt (key_above key own q c.label k f g)
    ]

-- the first of a slot decides for all after it, or for all before it
pub behind_from : (q : List ℕ) (slots : List (List Child)) (p : ℕ) (s : List Child) → slice_get slots p ≡ Some s → AreChildren (joined slots)
    → is_before q s ≡ true
    → AllChildren (λ c. label_cmp q c.label ≡ Less) (joined (drop p slots))
behind_from q slots p s e a b =
    subst (λ z. AllChildren (λ c. label_cmp q c.label ≡ Less) (joined z)) (sym (from slots p s e))
    (all_from s (joined (drop (suc p) slots)) b (children_back (joined (take p slots)) _ (subst AreChildren (joined_around slots p s e) a)))
  where
    less_is : (o : Ordering) → is_lt o ≡ true → o ≡ Less
    less_is Less h = refl
    less_is Equal h = absurd cc
    less_is Greater h = absurd cc

    all_from : (s m : List Child) → is_before q s ≡ true → AreChildren (s ++ m) → AllChildren (λ c. label_cmp q c.label ≡ Less) (s ++ m)
    all_from [] m h k = absurd cc
    all_from (c ∷ s) m h k =
        (less_is _ h, all_map _ _ (λ y less. label_total.trans q c.label y.label (less_is _ h) less) (s ++ m) k.1)

pub ahead_to : (q : List ℕ) (slots : List (List Child)) (p : ℕ) (s : List Child) → slice_get slots p ≡ Some s → AreChildren (joined slots)
    → AllFull slots
    → is_before q s ≡ false
    → AllChildren (λ c. label_cmp q c.label ≡ Greater) (joined (take p slots))
ahead_to q slots p s e a f b = up_to s (full_around slots p s e f).1 b (subst AreChildren (joined_around slots p s e) a)
  where
    false_true : false ≡ true → ⊥
    false_true x = absurd cc

    up_to : (s : List Child) → 0 < length s → is_before q s ≡ false
        → AreChildren (joined (take p slots) ++ (s ++ joined (drop (suc p) slots)))
        → AllChildren (λ c. label_cmp q c.label ≡ Greater) (joined (take p slots))
    up_to [] n h k = absurd (omega (arith, n))
    up_to (c ∷ s) n h k = past q (joined (take p slots)) c (s ++ joined (drop (suc p) slots)) k (λ l. false_true (sym h ∙ ap is_lt l))

-- what is in one slot is found, put in and taken out there
pub child_at : (q : List ℕ) (slots : List (List Child)) (p : ℕ) (s : List Child) → slice_get slots p ≡ Some s → IsPlace q slots p
    → child_of q (joined slots) ≡ child_of q s
child_at q slots p s e h =
    ap (child_of q) (joined_around slots p s e)
    ∙ child_past q (joined (take p slots)) _ h.ahead
    ∙ child_before q s (joined (drop (suc p) slots)) h.behind

pub put_at : (c : Child) (slots : List (List Child)) (p : ℕ) (s : List Child) → slice_get slots p ≡ Some s → IsPlace c.label slots p
    → put_child c (joined slots) ≡ joined (take p slots) ++ (put_child c s ++ joined (drop (suc p) slots))
put_at c slots p s e h =
    ap (put_child c) (joined_around slots p s e)
    ∙ put_past c (joined (take p slots)) _ h.ahead
    ∙ ap (λ z. joined (take p slots) ++ z) (put_before c s (joined (drop (suc p) slots)) h.behind)

pub without_at : (q : List ℕ) (slots : List (List Child)) (p : ℕ) (s : List Child) → slice_get slots p ≡ Some s → IsPlace q slots p
    → without_child q (joined slots) ≡ joined (take p slots) ++ (without_child q s ++ joined (drop (suc p) slots))
without_at q slots p s e h =
    ap (without_child q) (joined_around slots p s e)
    ∙ without_past q (joined (take p slots)) _ h.ahead
    ∙ ap (λ z. joined (take p slots) ++ z) (without_before q s (joined (drop (suc p) slots)) h.behind)

-- the slot of a position, as the code holds it
pub at_place : (q l : List ℕ) (slots lent : List (List Child)) (p : ℕ) (s : List Child) → l ≡ q → lent ≡ slots → IsPlace l lent p
    → s ≡ get_or slots p s
    → IsPlace q slots p × (slice_get slots p ≡ Some s)
at_place q l slots lent p s e f h is =
    let h : IsPlace q slots p = subst (λ x. IsPlace x slots p) e (subst (λ x. IsPlace l x p) f h) in
    (h, slice_get_read slots (length slots) p s refl h.there is)

-- others in place of one slot
joined_in : (slots lent come made : List (List Child)) (p : ℕ) (s : List Child) → lent ≡ slots
    → made ≡ take p lent ++ (come ++ drop (suc p) lent)
    → joined come ≡ s
    → joined made ≡ joined (take p slots) ++ (s ++ joined (drop (suc p) slots))
joined_in slots lent come made p s l e f =
    ap joined (e ∙ ap (λ x. take p x ++ (come ++ drop (suc p) x)) l)
    ∙ joined-append (take p slots) (come ++ drop (suc p) slots)
    ∙ ap (λ z. joined (take p slots) ++ z) (joined-append come (drop (suc p) slots) ∙ ap (λ z. z ++ joined (drop (suc p) slots)) f)

pub full_in : (slots lent come made : List (List Child)) (p : ℕ) (s : List Child) → slice_get slots p ≡ Some s → AllFull slots → AllFull come
    → lent ≡ slots
    → made ≡ take p lent ++ (come ++ drop (suc p) lent)
    → AllFull made
full_in slots lent come made p s at f g l e =
    let parts = full_around slots p s at f in
    subst AllFull (sym (e ∙ ap (λ x. take p x ++ (come ++ drop (suc p) x)) l))
    (full_both (take p slots) (come ++ drop (suc p) slots) parts.0 (full_both come (drop (suc p) slots) g parts.2))

pub put_in : (c : Child) (all : List Child) (slots lent come made : List (List Child)) (p : ℕ) (s t : List Child) → joined slots ≡ all
    → IsPlace c.label slots p × (slice_get slots p ≡ Some s)
    → t ≡ s
    → joined come ≡ put_child c t
    → lent ≡ slots
    → made ≡ take p lent ++ (come ++ drop (suc p) lent)
    → joined made ≡ put_child c all
put_in c all slots lent come made p s t is h same e l m =
    joined_in slots lent come made p (put_child c s) l m (e ∙ ap (put_child c) same)
    ∙ sym (put_at c slots p s h.1 h.0)
    ∙ ap (put_child c) is

pub without_in : (q : List ℕ) (all : List Child) (slots lent come made : List (List Child)) (p : ℕ) (s t : List Child) → joined slots ≡ all
    → IsPlace q slots p × (slice_get slots p ≡ Some s)
    → t ≡ s
    → joined come ≡ without_child q t
    → lent ≡ slots
    → made ≡ take p lent ++ (come ++ drop (suc p) lent)
    → joined made ≡ without_child q all
without_in q all slots lent come made p s t is h same e l m =
    joined_in slots lent come made p (without_child q s) l m (e ∙ ap (without_child q) same)
    ∙ sym (without_at q slots p s h.1 h.0)
    ∙ ap (without_child q) is

-- a child that is alone in a slot, and has the label
pub child_alone : (q : List ℕ) (slots : List (List Child)) (c : Child) → HasAlone slots c → AreChildren (joined slots) → AllFull slots
    → bytes_eq q c.label ≡ true
    → child_of q (joined slots) ≡ Some c
child_alone q slots c h kept full called =
    let p = h.position in
    let s = c ∷ [] in
    let k : AreChildren (joined (take p slots) ++ (s ++ joined (drop (suc p) slots))) = subst AreChildren (joined_around slots p s h.is) kept in
    let later = children_back (joined (take p slots)) (s ++ joined (drop (suc p) slots)) k in
    child_at q slots p s h.is (record {
      there = slice_get_within slots p s h.is;
      ahead = ahead_to q slots p s h.is kept full (ap is_lt (equal q c.label called));
      behind = subst (λ x. AllChildren (λ y. label_cmp x y.label ≡ Less) (joined (drop (suc p) slots))) (sym (bytes_same q c.label called)) later.1;
    })
    ∙ child_one q c called
