-- Records in order, parted by the labels of their owners at a depth.
use Rattle.std.proofs.Common.{◌≡◌, ℕ, zero, suc, ◌+◌, ◌<◌, Bool, true, false, List, [], ◌∷◌, ◌++◌, length, map, take, drop, reverse, refl, sym, ap, ◌∙◌, subst, append_assoc, arith}
use Rattle.std.proofs.Common.{◌-◌, Bor, Option, Some, None}
use Rattle.std.specs.Prelude.{◌&&◌, get_or, IfSome, IfNone}
use Rattle.std.specs.Option.{option_copied}
use Rattle.std.proofs.Math.Seq.{drop-cons, take-append_seam, drop-append_seam}
use Rattle.std.proofs.lemmas.Option.{slice_get-get_or}
use Rattle.std.specs.List.{list_all, slice_get, AllByRecursion}
use Rattle.std.specs.Ordering.{is_gt, ordering_then, ordering_reverse}
use Rattle.std.specs.Cmp.{tied_itself}
use Rattle.std.specs.declared.cmp.Ordering.{Ordering}
use Rattle.std.specs.declared.cmp.Ordering.TheVariants.{Less, Equal, Greater}
use Rattle.std.proofs.lemmas.List.{length-append, reverse-append, get_or-reverse, length-reverse, map-append}
use Rattle.dns_names.specs.Name.{Labels}
use Rattle.dns_records.specs.Record.{Record}
use Rattle.dns_zone.specs.Order.{both_true}
use Rattle.dns_zone.specs.Records.{is_ordered}
use Rattle.dns_zone.specs.Sets.{Sorted, sorted_from}
use Rattle.dns_zoneindex.specs.Entries.{PathRecord, Child, here, pushed, flat}
use Rattle.dns_zoneindex.specs.Children.{label_cmp, AreChildren}
use Rattle.dns_zoneindex.specs.Owned.{path_records, are_owned}
use Rattle.dns_zoneindex.specs.Setting.{before}
use Rattle.dns_zoneindex.specs.Size.{weight}
use Rattle.dns_zoneindex.specs.Falls.{weight-append, weight-pushed}
use Rattle.dns_zoneindex.specs.Growth.{entry_below, from_depth, path_cmp, NotBefore, Rising, HasLabel, EndsWithout, IsFront, IsTakenOff}
use Rattle.dns_zoneindex.proofs.Sides.{label_total, all_map}
use Rattle.dns_zoneindex.proofs.Under.{labels_same}
use Rattle.dns_zoneindex.proofs.Owned.{AreOwned, owned_test, rising}
use Rattle.dns_zoneindex.proofs.Paths.{head_not}
use Rattle.dns_zone.proofs.Parted.{more_is}

abbrev path : ℕ → Record → Labels
path n r = drop n (reverse r.owner)

pub from-append : (n : ℕ) (a b : List Record) → from_depth n (a ++ b) ≡ from_depth n a ++ from_depth n b
from-append n a b = map-append (entry_below n) a b

-- records of one label
pub from-same : (n : ℕ) (l : List ℕ) (rs : List Record) → AllByRecursion (HasLabel n l) rs → from_depth n rs ≡ map (pushed l) (from_depth (n + 1) rs)
from-same n l [] h = refl
from-same n l (r ∷ rs) h = λ i. record { path = h.0 i; record_there = r } ∷ from-same n l rs h.1 i

pub drop_next : (n : ℕ) (xs : Labels) (l : List ℕ) (t : Labels) → drop n xs ≡ l ∷ t → drop (n + 1) xs ≡ t
drop_next zero [] l t e = absurd cc
drop_next zero (x ∷ xs) l t e = cc
drop_next (suc n) [] l t e = absurd cc
drop_next (suc n) (x ∷ xs) l t e =
    let next : suc n + 1 ≡ suc (n + 1) = omega arith in
    ap (λ k. drop k (x ∷ xs)) next ∙ drop_next n xs l t e

-- parts of what rises
not_before_front : (p : Labels) (a b : List PathRecord) → NotBefore p (a ++ b) → NotBefore p a
not_before_front p [] b h = tt
not_before_front p (e ∷ a) b h = (h.0, not_before_front p a b h.1)

pub rising_front : (a b : List PathRecord) → Rising (a ++ b) → Rising a
rising_front [] b h = tt
rising_front (e ∷ a) b h = (not_before_front e.path a b h.0, rising_front a b h.1)

pub rising_back : (a b : List PathRecord) → Rising (a ++ b) → Rising b
rising_back [] b h = h
rising_back (e ∷ a) b h = rising_back a b h.1

same_head : (l : List ℕ) (p q : Labels) → path_cmp (l ∷ p) (l ∷ q) ≡ path_cmp p q
same_head l p q = ap (λ o. ordering_then o (path_cmp p q)) (tied_itself label_total l)

not_before_pushed : (l : List ℕ) (p : Labels) (es : List PathRecord) → NotBefore (l ∷ p) (map (pushed l) es) → NotBefore p es
not_before_pushed l p [] h = tt
not_before_pushed l p (f ∷ es) h = (ap is_gt (sym (same_head l p f.path)) ∙ h.0, not_before_pushed l p es h.1)

pub rising_pushed : (l : List ℕ) (es : List PathRecord) → Rising (map (pushed l) es) → Rising es
rising_pushed l [] h = tt
rising_pushed l (e ∷ es) h = (not_before_pushed l e.path es h.0, rising_pushed l es h.1)

-- where the last has no label, none has one
none_over : (p : Labels) → is_gt (path_cmp p []) ≡ false → p ≡ []
none_over [] h = refl
none_over (m ∷ p) h = absurd cc

not_before_last : (n : ℕ) (p : Labels) (rs : List Record) (r : Record) → NotBefore p (from_depth n (rs ++ r ∷ [])) → is_gt (path_cmp p (path n r)) ≡ false
not_before_last n p [] r h = h.0
not_before_last n p (s ∷ rs) r h = not_before_last n p rs r h.1

pub all_own : (n : ℕ) (rs : List Record) (r : Record) → Rising (from_depth n (rs ++ r ∷ [])) → path n r ≡ [] → from_depth n (rs ++ r ∷ []) ≡ map here (rs ++ r ∷ [])
all_own n [] r h e = λ i. record { path = e i; record_there = r } ∷ []
all_own n (x ∷ rs) r h e =
    let none : path n x ≡ [] = none_over (path n x) (ap (λ q. is_gt (path_cmp (path n x) q)) (sym e) ∙ not_before_last n (path n x) rs r h.0) in
    λ i. record { path = none i; record_there = x } ∷ all_own n rs r h.1 e i

-- before a label
abbrev ahead : List ℕ → Labels → Bool
ahead l p = elim p [ [] ↦ true | m ∷ rest ↦ is_gt (label_cmp l m) ]

one_ahead : (l : List ℕ) (p rest : Labels) → is_gt (path_cmp p (l ∷ rest)) ≡ false → ((t : Labels) → p ≡ l ∷ t → ⊥) → ahead l p ≡ true
one_ahead l [] rest h never = refl
one_ahead l (m ∷ p) rest h never = by (label_cmp m l) refl (head_not (label_cmp m l) (path_cmp p rest) h)
  where
    by : (o : Ordering) → label_cmp m l ≡ o → is_gt o ≡ false → is_gt (label_cmp l m) ≡ true
    by Less k f = ap is_gt (label_total.antisymm l m ∙ ap ordering_reverse k)
    by Equal k f = absurd (never p (ap (λ z. z ∷ p) (labels_same m l k)))
    by Greater k f = absurd cc

less_over : (l m k : List ℕ) (o : Ordering) → label_cmp m k ≡ o → is_gt o ≡ false → label_cmp k l ≡ Less → label_cmp m l ≡ Less
less_over l m k Less e f h = label_total.trans m k l e h
less_over l m k Equal e f h = label_total.congr m k l e ∙ h
less_over l m k Greater e f h = absurd cc

two_ahead : (l : List ℕ) (p q : Labels) → is_gt (path_cmp p q) ≡ false → ahead l q ≡ true → ahead l p ≡ true
two_ahead l [] q h b = refl
two_ahead l (m ∷ p) [] h b = absurd cc
two_ahead l (m ∷ p) (k ∷ q) h b =
    let less : label_cmp k l ≡ Less = label_total.antisymm k l ∙ ap ordering_reverse (more_is (label_cmp l k) b) in
    let under = less_over l m k (label_cmp m k) refl (head_not (label_cmp m k) (path_cmp p q) h) less in
    ap is_gt (label_total.antisymm l m ∙ ap ordering_reverse under)

pub all_ahead : (n : ℕ) (l : List ℕ) (front : List Record) (x : Record) (rest : List Record) → Rising (from_depth n (front ++ x ∷ rest)) → HasLabel n l x → EndsWithout n l front → list_all (before l) (from_depth n front) ≡ true
all_ahead n l [] x rest h e never = refl
all_ahead n l (r ∷ []) x rest h e never =
    let one = one_ahead l (path n r) (path (n + 1) x) (subst (λ q. is_gt (path_cmp (path n r) q) ≡ false) e h.0.0) (λ t is. never (is ∙ ap (λ z. l ∷ z) (sym (drop_next n (reverse r.owner) l t is)))) in
    ap (λ (b : Bool). b && true) one
all_ahead n l (r ∷ s ∷ front) x rest h e never =
    let next = all_ahead n l (s ∷ front) x rest h.1 e never in
    let both = both_true (before l (entry_below n s)) (list_all (before l) (from_depth n front)) next in
    λ i. two_ahead l (path n r) (path n s) h.0.0 both.0 i && next i

pub ends_here : (n : ℕ) (l : List ℕ) (front : List Record) (r : Record) → (HasLabel n l r → ⊥) → EndsWithout n l (front ++ r ∷ [])
ends_here n l [] r never = never
ends_here n l (s ∷ []) r never = never
ends_here n l (s ∷ t ∷ front) r never = ends_here n l (t ∷ front) r never

-- a child more, before those that are after all that is left
abbrev pub AheadOf : List Child → List PathRecord → Type 0
AheadOf [] es = Unit {0}
AheadOf (c ∷ cs) es = list_all (before c.label) es ≡ true

one_of : (n : ℕ) (l : List ℕ) (front : List Record) (g : Record) (rest : List Record) → list_all (before l) (from_depth n (front ++ g ∷ rest)) ≡ true → before l (entry_below n g) ≡ true
one_of n l [] g rest h = (both_true (before l (entry_below n g)) (list_all (before l) (from_depth n rest)) h).0
one_of n l (r ∷ front) g rest h = one_of n l front g rest (both_true (before l (entry_below n r)) (list_all (before l) (from_depth n (front ++ g ∷ rest))) h).1

less_than : (n : ℕ) (l : List ℕ) (front group : List Record) (m : List ℕ) → 0 < length group → AllByRecursion (HasLabel n l) group → list_all (before m) (from_depth n (front ++ group)) ≡ true → label_cmp l m ≡ Less
less_than n l front [] m p h all = absurd (omega (arith, p))
less_than n l front (g ∷ rest) m p h all =
    let one : ahead m (path n g) ≡ true = one_of n m front g rest all in
    let more : is_gt (label_cmp m l) ≡ true = subst (λ q. ahead m q ≡ true) h.0 one in
    label_total.antisymm l m ∙ ap ordering_reverse (more_is (label_cmp m l) more)

pub one_more : (n : ℕ) (front group : List Record) (c : Child) (cs : List Child) → 0 < length c.own → AreChildren cs → 0 < length group → AllByRecursion (HasLabel n c.label) group → AheadOf cs (from_depth n (front ++ group)) → AreChildren (c ∷ cs)
one_more n front group c [] p s some h all = (p, tt, tt)
one_more n front group c (d ∷ ds) p s some h all =
    let less = less_than n c.label front group d.label some h all in
    (p, (less, all_map (λ y. label_cmp d.label y.label ≡ Less) (λ y. label_cmp c.label y.label ≡ Less) (λ y e. label_total.trans c.label d.label y.label less e) ds s.1), s)

pub entries_more : (n : ℕ) (front group : List Record) (c : Child) (cs : List Child) → AllByRecursion (HasLabel n c.label) group → c.own ≡ from_depth (n + 1) group → from_depth n front ++ flat (c ∷ cs) ≡ from_depth n (front ++ group) ++ flat cs
entries_more n front group c cs h own =
    ap (λ z. from_depth n front ++ (z ++ flat cs)) (ap (map (pushed c.label)) own ∙ sym (from-same n c.label group h))
    ∙ sym (append_assoc (from_depth n front) (from_depth n group) (flat cs))
    ∙ ap (λ z. z ++ flat cs) (sym (from-append n front group))

-- the measure of a child's records is less
length-from : (n : ℕ) (rs : List Record) → length (from_depth n rs) ≡ length rs
length-from n [] = refl
length-from n (r ∷ rs) = ap (λ k. suc k) (length-from n rs)

pub group_falls : (n : ℕ) (l : List ℕ) (front group : List Record) (cs : List Child) (all : List PathRecord) → 0 < length group → AllByRecursion (HasLabel n l) group → from_depth n (front ++ group) ++ flat cs ≡ all → weight (from_depth (n + 1) group) < weight all
group_falls n l front group cs all some h is =
    let under = from_depth (n + 1) group in
    let same : weight (from_depth n group) ≡ weight (map (pushed l) under) = ap weight (from-same n l group h) in
    let parts : weight (from_depth n (front ++ group)) ≡ weight (from_depth n front) + weight (from_depth n group) = ap weight (from-append n front group) ∙ weight-append (from_depth n front) (from_depth n group) in
    let whole : weight (from_depth n (front ++ group) ++ flat cs) ≡ weight all = ap weight is in
    omega (arith, some, same, parts, whole, weight-append (from_depth n (front ++ group)) (flat cs), weight-pushed l under, length-from (n + 1) group)

-- what a search from the back has passed
pub record IsFollowed (n : ℕ) (l : List ℕ) (records front : List Record) : Type 0 where
  pub rest : List Record
  pub whole : records ≡ front ++ rest
  pub same : AllByRecursion (HasLabel n l) rest

pub front_is : (n : ℕ) (l : List ℕ) (rs front : List Record) → EndsWithout n l front → IsFollowed n l rs front → IsFront n l rs front
front_is n l rs front ends h = record { rest = h.rest; whole = h.whole; same = h.same; ended = ends }

-- the label at a depth, counted from the host
inside : (n count : ℕ) → n < count → count - 1 - n < count
inside n count lt = omega (arith, lt)

pub label_found : (name : Labels) (n : ℕ) (o : Option (Bor (List ℕ))) → n < length name → option_copied o ≡ slice_get name (length name - 1 - n) → IfSome o (λ l. drop n (reverse name) ≡ l.now ∷ drop (n + 1) (reverse name))
label_found name n None lt h = tt
label_found name n (Some l) lt h =
    let there = slice_get-get_or name (length name - 1 - n) [] (inside n (length name) lt) in
    let same : l.now ≡ get_or name (length name - 1 - n) [] = cc in
    let next : suc n ≡ n + 1 = omega arith in
    let long : n < length (reverse name) = subst (λ k. n < k) (sym (length-reverse name)) lt in
    drop-cons (reverse name) n [] long ∙ (λ i. (get_or-reverse name n [] lt ∙ sym same) i ∷ drop (next i) (reverse name))

pub label_none : (name : Labels) (n : ℕ) (o : Option (Bor (List ℕ))) → n < length name → option_copied o ≡ slice_get name (length name - 1 - n) → IfNone o (drop n (reverse name) ≡ [])
label_none name n None lt h = (let there = slice_get-get_or name (length name - 1 - n) [] (inside n (length name) lt) in absurd cc)
label_none name n (Some l) lt h = tt

-- the last records taken off: those that a search from the back has passed, and the last of all
pub all_labelled : (n : ℕ) (l : List ℕ) (rs : List Record) (r : Record) → AllByRecursion (HasLabel n l) rs → HasLabel n l r → AllByRecursion (HasLabel n l) (rs ++ r ∷ [])
all_labelled n l [] r h k = (k, tt)
all_labelled n l (x ∷ rs) r h k = (h.0, all_labelled n l rs r h.1 k)

pub taken_off : (n : ℕ) (l : List ℕ) (rs others front kept group : List Record) (r : Record) → Rising (from_depth n rs) → rs ≡ others ++ r ∷ [] → HasLabel n l r → IsFront n l others front → kept ≡ take (length front) rs → group ≡ drop (length front) rs → IsTakenOff n l rs kept group
taken_off n l rs others front kept group r order is has f keeps tails =
    let all = f.rest ++ r ∷ [] in
    let whole : rs ≡ front ++ all = is ∙ ap (λ z. z ++ r ∷ []) f.whole ∙ append_assoc front f.rest (r ∷ []) in
    let k : kept ≡ front = keeps ∙ ap (take (length front)) whole ∙ take-append_seam front all in
    let g : group ≡ all = tails ∙ ap (drop (length front)) whole ∙ drop-append_seam front all in
    let labelled = all_labelled n l f.rest r f.same has in
    record {
      whole = whole ∙ (λ i. sym k i ++ sym g i);
      some = subst (λ z. 0 < length z) (sym g) (last_some f.rest r);
      same = subst (AllByRecursion (HasLabel n l)) (sym g) labelled;
      ahead = subst (λ z. list_all (before l) (from_depth n z) ≡ true) (sym k) (first_ahead n l front f.rest r (subst (λ z. Rising (from_depth n z)) whole order) labelled f.ended);
    }
  where
    last_some : (xs : List Record) (r : Record) → 0 < length (xs ++ r ∷ [])
    last_some [] r = omega arith
    last_some (x ∷ xs) r = omega arith

    first_ahead : (n : ℕ) (l : List ℕ) (front rest : List Record) (r : Record) → Rising (from_depth n (front ++ (rest ++ r ∷ []))) → AllByRecursion (HasLabel n l) (rest ++ r ∷ []) → EndsWithout n l front → list_all (before l) (from_depth n front) ≡ true
    first_ahead n l front [] r order h ends = all_ahead n l front r [] order h.0 ends
    first_ahead n l front (x ∷ rest) r order h ends = all_ahead n l front x (rest ++ r ∷ []) order h.0 ends

-- one turn of the loop that takes groups off
pub record Holds (n : ℕ) (all left : List Record) (cs : List Child) : Type 0 where
  pub whole : from_depth n left ++ flat cs ≡ from_depth n all
  pub kept : AreChildren cs
  pub ahead : AheadOf cs (from_depth n left)
  pub order : Rising (from_depth n left)

pub turned : (n : ℕ) (all left front group : List Record) (l : List ℕ) (c : Child) (cs : List Child) → IsTakenOff n l left front group → c.label ≡ l → c.own ≡ from_depth (n + 1) group → 0 < length c.own → Holds n all left cs → Holds n all front (c ∷ cs)
turned n all left front group l c cs taken label own some h =
    let same : AllByRecursion (HasLabel n c.label) group = subst (λ m. AllByRecursion (HasLabel n m) group) (sym label) taken.same in
    record {
      whole = entries_more n front group c cs same own ∙ ap (λ z. from_depth n z ++ flat cs) (sym taken.whole) ∙ h.whole;
      kept = one_more n front group c cs some h.kept taken.some same (subst (λ z. AheadOf cs (from_depth n z)) taken.whole h.ahead);
      ahead = subst (λ m. list_all (before m) (from_depth n front) ≡ true) (sym label) taken.ahead;
      order = rising_front (from_depth n front) (from_depth n group) (subst Rising (ap (from_depth n) taken.whole ∙ from-append n front group) h.order);
    }

pub group_rising : (n : ℕ) (l : List ℕ) (left front group : List Record) → IsTakenOff n l left front group → Rising (from_depth n left) → Rising (from_depth (n + 1) group)
group_rising n l left front group taken order =
    rising_pushed l (from_depth (n + 1) group) (subst Rising (from-same n l group taken.same) (rising_back (from_depth n front) (from_depth n group) (subst Rising (ap (from_depth n) taken.whole ∙ from-append n front group) order)))

pub taken_falls : (n : ℕ) (l : List ℕ) (all left front group : List Record) (cs : List Child) → IsTakenOff n l left front group → from_depth n left ++ flat cs ≡ from_depth n all → weight (from_depth (n + 1) group) < weight (from_depth n all)
taken_falls n l all left front group cs taken is =
    group_falls n l front group cs (from_depth n all) taken.some taken.same (ap (λ z. from_depth n z ++ flat cs) (sym taken.whole) ∙ is)

pub fewer : (n : ℕ) (l : List ℕ) (left front group : List Record) → IsTakenOff n l left front group → length front < length left
fewer n l left front group taken = omega (arith, taken.some, ap length taken.whole, length-append front group)

-- parts of what is in order
-- the children that were made, the last one first
pub stacked_more : (xs : List Child) (x : Child) → reverse (xs ++ x ∷ []) ≡ x ∷ reverse xs
stacked_more xs x = reverse-append xs (x ∷ [])

pub turned_more : (n : ℕ) (all left front group : List Record) (l : List ℕ) (nodes new : List Child) (x : Child) → IsTakenOff n l left front group → x.label ≡ l → x.own ≡ from_depth (n + 1) group → 0 < length x.own → Holds n all left (reverse nodes) → new ≡ nodes ++ x ∷ [] → Holds n all front (reverse new)
turned_more n all left front group l nodes new x taken label own some h is =
    subst (Holds n all front) (sym (ap reverse is ∙ stacked_more nodes x)) (turned n all left front group l x (reverse nodes) taken label own some h)

-- the whole list, from the root
pub records_are : (n : ℕ) (rs : List Record) → path_records (from_depth n rs) ≡ rs
records_are n [] = refl
records_are n (r ∷ rs) = ap (λ z. r ∷ z) (records_are n rs)

pub at_root : (rs : List Record) → AreOwned (from_depth 0 rs)
at_root [] = tt
at_root (r ∷ rs) = (refl, at_root rs)

pub root_rising : (rs : List Record) → is_ordered rs ≡ true → Rising (from_depth 0 rs)
root_rising rs h = rising (from_depth 0 rs) (at_root rs) (subst Sorted (sym (records_are 0 rs)) (sorted_from rs h))

pub root_owned : (es : List PathRecord) (rs : List Record) → es ≡ from_depth 0 rs → are_owned es ≡ true
root_owned es rs is = ap are_owned is ∙ owned_test (from_depth 0 rs) (at_root rs)

pub root_records : (es : List PathRecord) (rs : List Record) → es ≡ from_depth 0 rs → path_records es ≡ rs
root_records es rs is = ap path_records is ∙ records_are 0 rs
