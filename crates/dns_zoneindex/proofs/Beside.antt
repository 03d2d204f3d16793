-- The keys of slots, side by side.
use Rattle.std.proofs.Common.{◌≡◌, ℕ, zero, suc, ◌+◌, ◌<◌, ◌≤◌, ◌⊎◌, inl, inr, true, false, List, [], ◌∷◌, get_or, length, take, drop, Some, refl, ap, sym, ◌∙◌, subst, arith}
use Rattle.std.specs.Prelude.{unwrap_or, slice_set}
use Rattle.std.specs.List.{slice_get}
use Rattle.std.specs.Ordering.{is_lt}
use Rattle.std.specs.declared.cmp.Ordering.TheVariants.{Less, Greater}
use Rattle.std.proofs.lemmas.Option.{slice_get_within, slice_get-get_or}
use Rattle.dns_zoneindex.specs.Entries.{Child}
use Rattle.dns_zoneindex.specs.Children.{label_cmp, joined, AllChildren, AreChildren, AllFull, AreKeys, IsFirstKey, BeginAlike, AllBegin}
use Rattle.dns_zone.specs.Keys.{IsKey}
use Rattle.dns_zoneindex.specs.Slots.{is_before, IsLastUpTo, IsPlace}
use Rattle.dns_zoneindex.proofs.Keys.{key_below, key_above}
use Rattle.dns_zoneindex.proofs.Fronts.{order_after}
use Rattle.dns_zoneindex.proofs.Sides.{children_back}
use Rattle.dns_zoneindex.proofs.Slots.{behind_from, ahead_to}

-- those of all slots, where there are no more
pub keys_here : (skip n : ℕ) (keys : List ℕ) (slots : List (List Child)) → AreKeys skip (take n keys) slots → length slots ≤ n → AreKeys skip keys slots
keys_here skip n [] slots h short = tt
keys_here skip n (k ∷ keys) [] h short = tt
keys_here skip zero (k ∷ keys) (s ∷ slots) h short = absurd (omega (arith, short))
keys_here skip (suc n) (k ∷ keys) (s ∷ slots) h short = (h.0, keys_here skip n keys slots h.1 (omega (arith, short)))

-- one more of them
pub keys_more : (skip : ℕ) (keys : List ℕ) (n k : ℕ) (slots : List (List Child)) (s : List Child) → AreKeys skip (take n keys) slots
    → n < length keys
    → slice_get slots n ≡ Some s
    → IsFirstKey skip k s
    → AreKeys skip (take (suc n) (slice_set keys n k)) slots
keys_more skip [] n k slots s h l e f = absurd (omega (arith, l))
keys_more skip (x ∷ keys) zero k [] s h l e f = tt
keys_more skip (x ∷ keys) zero k (t ∷ slots) s h l e f = (subst (IsFirstKey skip k) (sym (ap (λ o. unwrap_or o t) e)) f, tt)
keys_more skip (x ∷ keys) (suc n) k [] s h l e f = tt
keys_more skip (x ∷ keys) (suc n) k (t ∷ slots) s h l e f = (h.0, keys_more skip keys n k slots s h.1 (omega (arith, l)) e f)

-- the key of one of them
pub key_there : (skip : ℕ) (keys : List ℕ) (slots : List (List Child)) (p k : ℕ) (s : List Child) → AreKeys skip keys slots
    → slice_get keys p ≡ Some k
    → slice_get slots p ≡ Some s
    → IsFirstKey skip k s
key_there skip [] slots p k s h e f = absurd (omega (arith, slice_get_within [] p k e))
key_there skip (x ∷ keys) [] p k s h e f = absurd (omega (arith, slice_get_within [] p s f))
key_there skip (x ∷ keys) (t ∷ slots) zero k s h e f = subst (λ z. IsFirstKey skip z s) (ap (λ o. unwrap_or o x) e) (subst (IsFirstKey skip x) (ap (λ o. unwrap_or o t) f) h.0)
key_there skip (x ∷ keys) (t ∷ slots) (suc p) k s h e f = key_there skip keys slots p k s h.1 e f

-- one of the slots that begin alike
begin_there : (skip : ℕ) (q : List ℕ) (slots : List (List Child)) (p : ℕ) (s : List Child) → AllBegin skip q slots → slice_get slots p ≡ Some s → BeginAlike skip q s
begin_there skip q [] p s h e = absurd (omega (arith, slice_get_within [] p s e))
begin_there skip q (t ∷ slots) zero s h e = subst (BeginAlike skip q) (ap (λ o. unwrap_or o t) e) h.0
begin_there skip q (t ∷ slots) (suc p) s h e = begin_there skip q slots p s h.1 e

pub begin_later : (skip : ℕ) (q : List ℕ) (slots : List (List Child)) (p : ℕ) (s : List Child) → AllBegin skip q (drop 1 slots) → (p ≡ 0 → ⊥)
    → slice_get slots p ≡ Some s
    → BeginAlike skip q s
begin_later skip q slots zero s h n e = absurd (n refl)
begin_later skip q [] (suc p) s h n e = absurd (omega (arith, slice_get_within [] (suc p) s e))
begin_later skip q (t ∷ slots) (suc p) s h n e = begin_there skip q slots p s h e

-- labels that begin alike are in the order of their keys after that
pub key_before : (skip key own : ℕ) (q : List ℕ) (s : List Child) → IsKey key (drop skip q) → IsFirstKey skip own s → BeginAlike skip q s
    → key < own
    → is_before q s ≡ true
key_before skip key own q [] k f b l = absurd f
key_before skip key own q (c ∷ s) k f b l = ap is_lt (order_after skip q c.label b ∙ sym (key_below key own (drop skip q) (drop skip c.label) k f l))

pub key_past : (skip key own : ℕ) (q : List ℕ) (s : List Child) → IsKey key (drop skip q) → IsFirstKey skip own s → BeginAlike skip q s
    → own < key
    → is_before q s ≡ false
key_past skip key own q [] k f b l = absurd f
key_past skip key own q (c ∷ s) k f b l = ap is_lt (order_after skip q c.label b ∙ sym (key_above key own (drop skip q) (drop skip c.label) k f l))

-- a label whose key is less than a slot's is before all from there on
before_next : (skip : ℕ) (q : List ℕ) (key k : ℕ) (keys : List ℕ) (slots : List (List Child)) (p : ℕ) → IsKey key (drop skip q)
    → AreKeys skip keys slots
    → AllBegin skip q slots
    → AreChildren (joined slots)
    → slice_get keys p ≡ Some k
    → key < k
    → AllChildren (λ c. label_cmp q c.label ≡ Less) (joined (drop p slots))
before_next skip q key k [] slots p kq h b kept e l = absurd (omega (arith, slice_get_within [] p k e))
before_next skip q key k (x ∷ keys) [] zero kq h b kept e l = tt
before_next skip q key k (x ∷ keys) [] (suc p) kq h b kept e l = tt
before_next skip q key k (x ∷ keys) (s ∷ slots) zero kq h b kept e l =
    let is : x ≡ k = ap (λ o. unwrap_or o x) e in
    behind_from q (s ∷ slots) 0 s refl kept (key_before skip key x q s kq h.0 b.0 (omega (arith, l, is)))
before_next skip q key k (x ∷ keys) (s ∷ slots) (suc p) kq h b kept e l =
    before_next skip q key k keys slots p kq h.1 b.1 (children_back s (joined slots) kept) e l

pub before_later : (skip : ℕ) (q : List ℕ) (key k : ℕ) (keys : List ℕ) (slots : List (List Child)) (p : ℕ) → IsKey key (drop skip q)
    → AreKeys skip keys slots
    → AllBegin skip q (drop 1 slots)
    → AreChildren (joined slots)
    → slice_get keys (suc p) ≡ Some k
    → key < k
    → AllChildren (λ c. label_cmp q c.label ≡ Less) (joined (drop (suc p) slots))
before_later skip q key k [] slots p kq h b kept e l = absurd (omega (arith, slice_get_within [] (suc p) k e))
before_later skip q key k (x ∷ keys) [] p kq h b kept e l = tt
before_later skip q key k (x ∷ keys) (s ∷ slots) p kq h b kept e l =
    before_next skip q key k keys slots p kq h.1 b (children_back s (joined slots) kept) e l

-- a label whose key is greater than a slot's is after all before it
pub ahead_by_key : (skip : ℕ) (q : List ℕ) (key k : ℕ) (keys : List ℕ) (slots : List (List Child)) (p : ℕ) → IsKey key (drop skip q)
    → AreKeys skip keys slots
    → AreChildren (joined slots)
    → AllFull slots
    → AllBegin skip q (drop 1 slots)
    → p < length slots
    → (p ≡ 0 → ⊥)
    → slice_get keys p ≡ Some k
    → k < key
    → AllChildren (λ c. label_cmp q c.label ≡ Greater) (joined (take p slots))
ahead_by_key skip q key k keys slots p kq h kept full b there later e l =
    let s = get_or slots p [] in
    let at : slice_get slots p ≡ Some s = slice_get-get_or slots p [] there in
    ahead_to q slots p s at kept full (key_past skip key k q s kq (key_there skip keys slots p k s h e at) (begin_later skip q slots p s b later at) l)

-- none is after the last slot
pub none_behind : (q : List ℕ) (slots : List (List Child)) (n : ℕ) → length slots ≤ n → AllChildren (λ c. label_cmp q c.label ≡ Less) (joined (drop n slots))
none_behind q [] zero short = tt
none_behind q [] (suc n) short = tt
none_behind q (s ∷ slots) zero short = absurd (omega (arith, short))
none_behind q (s ∷ slots) (suc n) short = none_behind q slots n (omega (arith, short))

-- an index that the keys alone determine
pub place_by_key : (skip : ℕ) (q : List ℕ) (key : ℕ) (keys : List ℕ) (slots : List (List Child)) (p : ℕ) → AreKeys skip keys slots
    → AllFull slots
    → AreChildren (joined slots)
    → IsKey key (drop skip q)
    → AllBegin skip q (drop 1 slots)
    → p < length slots
    → length keys ≡ 16
    → IsLastUpTo key keys p
    → ((p ≡ 0) ⊎ (key ≡ get_or keys p 0 → ⊥))
    → (((p + 1 ≡ 16) × (length slots ≡ 16)) ⊎ (p + 1 ≡ 16 → ⊥))
    → IsPlace q slots p
place_by_key skip q key keys slots p h full kept kq b there sixteen last apart end = record {
  there = there;
  ahead = elim apart [ inl e ↦ none_ahead e | inr n ↦ some_ahead n ];
  behind = elim end [ inl e ↦ none_behind q slots (suc p) (omega (arith, e.0, e.1)) | inr n ↦ some_behind n ];
}
  where
    none_ahead : p ≡ 0 → AllChildren (λ c. label_cmp q c.label ≡ Greater) (joined (take p slots))
    none_ahead e = subst (λ n. AllChildren (λ c. label_cmp q c.label ≡ Greater) (joined (take n slots))) (sym e) tt

    some_ahead : (key ≡ get_or keys p 0 → ⊥) → AllChildren (λ c. label_cmp q c.label ≡ Greater) (joined (take p slots))
    some_ahead n = first p refl
      where
        first : (m : ℕ) → m ≡ p → AllChildren (λ c. label_cmp q c.label ≡ Greater) (joined (take p slots))
        first zero e = none_ahead (sym e)
        first (suc m) e =
            let least : get_or keys p 0 ≤ key = last.least (omega (arith, e)) in
            let less : get_or keys p 0 < key = omega (arith, least, n) in
            ahead_by_key skip q key (get_or keys p 0) keys slots p kq h kept full b there (λ z. absurd (omega (arith, z, e))) (slice_get-get_or keys p 0 last.there) less

    some_behind : (p + 1 ≡ 16 → ⊥) → AllChildren (λ c. label_cmp q c.label ≡ Less) (joined (drop (suc p) slots))
    some_behind n =
        let there : p + 1 < length keys = omega (arith, n, sixteen, last.there) in
        let next : p + 1 ≡ suc p = omega arith in
        let behind : key < get_or keys (suc p) 0 = subst (λ m. key < get_or keys m 0) next (last.next there) in
        before_later skip q key (get_or keys (suc p) 0) keys slots p kq h b kept (slice_get-get_or keys (suc p) 0 (omega (arith, there))) behind
