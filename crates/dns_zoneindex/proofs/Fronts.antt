-- How labels begin.
use Rattle.std.proofs.Common.{◌≡◌, ℕ, zero, suc, ◌+◌, ◌<◌, ◌≤◌, Bool, true, false, inl, inr, List, [], ◌∷◌, ◌++◌, get_or, length, take, drop, Some, None, refl, ap, sym, ◌∙◌, subst, arith, length-drop}
use Rattle.std.proofs.lemmas.Bool.{cases_order}
use Rattle.std.proofs.lemmas.List.{append-nil}
use Rattle.std.proofs.lemmas.Option.{slice_get_read}
use Rattle.std.specs.Prelude.{unwrap_or, Option}
use Rattle.std.specs.List.{slice_get}
use Rattle.std.specs.Cmp.{nat_cmp_is}
use Rattle.std.specs.FinMap.Entries.{by_order}
use Rattle.std.specs.Str.{bytes_eq}
use Rattle.std.specs.Ordering.{nat_cmp, ordering_then}
use Rattle.std.specs.declared.cmp.Ordering.TheVariants.{Less, Equal, Greater}
use Rattle.dns_zone.specs.Order.{bytes_same, bytes_itself}
use Rattle.dns_zone.specs.Sets.{true_or_false}
use Rattle.dns_zoneindex.specs.Assoc.{child_of}
use Rattle.dns_zoneindex.specs.Entries.{Child}
use Rattle.dns_zoneindex.specs.Children.{label_cmp, joined, first_label, last_of, AllChildren, AreChildren, AllFull, AllBegin, BeginAsSecond, IsGroup, IsWhole, AreAlike, IsSharedPrefix}
use Rattle.dns_zone.specs.Keys.{IsKey, first_equal}
use Rattle.dns_zoneindex.proofs.Keys.{one_more, key_equal}
use Rattle.dns_zoneindex.specs.Slots.{IsPlace, IsFoundAt, IsPlaceOfKey}
use Rattle.dns_zoneindex.proofs.Sides.{all_front, all_back, all_map, children_back}
use Rattle.dns_zoneindex.proofs.Slots.{child_at, joined_around, some_joined}
use Rattle.dns_zoneindex.proofs.Under.{labels_same}

abbrev head_of : List ℕ → ℕ
head_of [] = 0
head_of (x ∷ xs) = x

abbrev tail_of : List ℕ → List ℕ
tail_of [] = []
tail_of (x ∷ xs) = xs

-- the order of labels that begin alike is that of what is after that
pub order_after : (n : ℕ) (a b : List ℕ) → take n a ≡ take n b → label_cmp a b ≡ label_cmp (drop n a) (drop n b)
order_after zero a b e = refl
order_after (suc n) [] [] e = refl
order_after (suc n) [] (y ∷ ys) e = absurd cc
order_after (suc n) (x ∷ xs) [] e = absurd cc
order_after (suc n) (x ∷ xs) (y ∷ ys) e = first_equal x y xs ys (ap head_of e) ∙ order_after n xs ys (ap tail_of e)

lengths_after : (n : ℕ) (a b : List ℕ) → take n a ≡ take n b → nat_cmp (length (drop n a)) (length (drop n b)) ≡ nat_cmp (length a) (length b)
lengths_after zero a b e = refl
lengths_after (suc n) [] [] e = refl
lengths_after (suc n) [] (y ∷ ys) e = absurd cc
lengths_after (suc n) (x ∷ xs) [] e = absurd cc
lengths_after (suc n) (x ∷ xs) (y ∷ ys) e = lengths_after n xs ys (ap tail_of e) ∙ one_more (length xs) (length ys)

-- labels that begin alike and have one key after that, of which one goes no further
pub key_equal_after : (n key : ℕ) (a b : List ℕ) → take n a ≡ take n b → IsKey key (drop n a) → IsKey key (drop n b) → length a ≤ n + 8
    → nat_cmp (length a) (length b) ≡ label_cmp a b
key_equal_after n key a b e p q short =
    sym (lengths_after n a b e)
    ∙ key_equal key key (drop n a) (drop n b) p q refl (omega (arith, short, length-drop n a))
    ∙ sym (order_after n a b e)

less_head : (x y : ℕ) (xs ys : List ℕ) → label_cmp (x ∷ xs) (y ∷ ys) ≡ Less → x ≤ y
less_head x y xs ys h = elim (cases_order x y) [
  | inl e ↦ omega (arith, e)
  | inr (inl l) ↦ omega (arith, l)
  | inr (inr g) ↦
      (let above : label_cmp (x ∷ xs) (y ∷ ys) ≡ Greater = ap (λ o. ordering_then o (label_cmp xs ys)) (sym (nat_cmp_is x y Greater g)) in absurd cc)
]

-- a label between two that begin alike begins so too
between : (n : ℕ) (a x b : List ℕ) → label_cmp a x ≡ Less → label_cmp x b ≡ Less → take n a ≡ take n b → take n x ≡ take n a
between zero a x b l m e = refl
between (suc n) [] [] b l m e = absurd cc
between (suc n) [] (y ∷ xs) [] l m e = absurd cc
between (suc n) [] (y ∷ xs) (q ∷ qs) l m e = absurd cc
between (suc n) (p ∷ ps) [] b l m e = absurd cc
between (suc n) (p ∷ ps) (y ∷ xs) [] l m e = absurd cc
between (suc n) (p ∷ ps) (y ∷ xs) (q ∷ qs) l m e =
    let same : p ≡ q = ap head_of e in
    let low : p ≤ y = less_head p y ps xs l in
    let high : y ≤ q = less_head y q xs qs m in
    let is : y ≡ p = omega (arith, low, high, same) in
    let over : y ≡ q = omega (arith, is, same) in
    let rest = between n ps xs qs (sym (first_equal p y ps xs (sym is)) ∙ l) (sym (first_equal y q xs qs over) ∙ m) (ap tail_of e) in
    λ i. is i ∷ rest i

-- the last of children is one of them
last_holds : (P : Child → Type 0) (cs : List Child) (b : Child) → AllChildren P cs → last_of cs ≡ Some b → P b
last_holds P [] b a e = absurd cc
last_holds P (c ∷ []) b a e = subst P (ap (λ o. unwrap_or o c) e) a.0
last_holds P (c ∷ d ∷ cs) b a e = last_holds P (d ∷ cs) b a.1 e

all_between : (n : ℕ) (a : List ℕ) (b : Child) (cs : List Child) → AllChildren (λ c. label_cmp a c.label ≡ Less) cs → AreChildren cs
    → last_of cs ≡ Some b
    → take n a ≡ take n b.label
    → AllChildren (λ c. take n c.label ≡ take n a) cs
all_between n a b [] l k e s = tt
all_between n a b (c ∷ []) l k e s = (ap (λ (o : Option Child). take n (Child.label (unwrap_or o c))) e ∙ sym s, tt)
all_between n a b (c ∷ d ∷ cs) l k e s =
    (between n a c.label b.label l.0 (last_holds (λ y. label_cmp c.label y.label ≡ Less) (d ∷ cs) b k.1 e) s, all_between n a b (d ∷ cs) l.1 k.2 e s)

-- children are alike where the first and the last of them are
pub whole_between : (n : ℕ) (a b : Child) (cs : List Child) → AreChildren cs → slice_get cs 0 ≡ Some a → last_of cs ≡ Some b
    → take n a.label ≡ take n b.label
    → IsWhole n cs
whole_between n a b [] k f e s = absurd cc
whole_between n a b (c ∷ []) k f e s = (refl, tt)
whole_between n a b (c ∷ d ∷ cs) k f e s =
    let is : c ≡ a = ap (λ o. unwrap_or o c) f in
    (refl, all_between n c.label b (d ∷ cs) k.1 k.2 e (ap (λ (x : Child). take n x.label) is ∙ s))

-- the first children of slots
abbrev firsts : List (List Child) → List Child
firsts [] = []
firsts ([] ∷ slots) = firsts slots
firsts ((c ∷ s) ∷ slots) = c ∷ firsts slots

all_firsts : (P : Child → Type 0) (slots : List (List Child)) → AllChildren P (joined slots) → AllChildren P (firsts slots)
all_firsts P [] a = tt
all_firsts P ([] ∷ slots) a = all_firsts P slots a
all_firsts P ((c ∷ s) ∷ slots) a = (a.0, all_firsts P slots (all_back P s (joined slots) a.1))

children_firsts : (slots : List (List Child)) → AreChildren (joined slots) → AreChildren (firsts slots)
children_firsts [] k = tt
children_firsts ([] ∷ slots) k = children_firsts slots k
children_firsts ((c ∷ s) ∷ slots) k =
    (k.0, all_firsts _ slots (all_back _ s (joined slots) k.1), children_firsts slots (children_back s (joined slots) k.2))

begin_firsts : (n : ℕ) (q : List ℕ) (slots : List (List Child)) → AllFull slots → AllChildren (λ c. take n c.label ≡ take n q) (firsts slots) → AllBegin n q slots
begin_firsts n q [] f a = tt
begin_firsts n q ([] ∷ slots) f a = absurd (omega (arith, f.0))
begin_firsts n q ((c ∷ s) ∷ slots) f a = (sym a.0, begin_firsts n q slots f.1 a.1)

-- where no octets count
begin_none : (q : List ℕ) (slots : List (List Child)) → AllBegin 0 q slots
begin_none q [] = tt
begin_none q (s ∷ slots) = (refl, begin_none q slots)

pub no_begin : (q : List ℕ) (slots : List (List Child)) → AllBegin 0 q (drop 1 slots)
no_begin q slots = begin_none q (drop 1 slots)

second_none : (slots : List (List Child)) → BeginAsSecond 0 slots
second_none [] = tt
second_none (s ∷ []) = tt
second_none (s ∷ t ∷ slots) = begin_none (first_label t) (t ∷ slots)

whole_none : (cs : List Child) → IsWhole 0 cs
whole_none cs = all cs
  where
    all : (xs : List Child) → AllChildren (λ c. take 0 c.label ≡ take 0 (first_label cs)) xs
    all [] = tt
    all (x ∷ xs) = (refl, all xs)

pub beginning_none : (slots : List (List Child)) (whole : Bool) → IsSharedPrefix slots 0 whole
beginning_none slots whole = (second_none slots, λ w. whole_none (joined slots))

-- where the labels of all children begin alike
begin_whole : (n : ℕ) (q : List ℕ) (slots : List (List Child)) → AllFull slots → AllChildren (λ c. take n c.label ≡ take n q) (joined slots) → AllBegin n q slots
begin_whole n q slots f a = begin_firsts n q slots f (all_firsts _ slots a)

full_first : (t : List Child) (slots : List (List Child)) → 0 < length t → first_label (t ++ joined slots) ≡ first_label t
full_first [] slots f = absurd (omega (arith, f))
full_first (c ∷ t) slots f = refl

second_whole : (n : ℕ) (slots : List (List Child)) → AllFull slots → IsWhole n (joined slots) → BeginAsSecond n slots
second_whole n [] f w = tt
second_whole n (s ∷ []) f w = tt
second_whole n (s ∷ [] ∷ slots) f w = absurd (omega (arith, f.1.0))
second_whole n (s ∷ (c ∷ t) ∷ slots) f w =
    let later = all_back (λ x. take n x.label ≡ take n (first_label (s ++ joined ((c ∷ t) ∷ slots)))) s (joined ((c ∷ t) ∷ slots)) w in
    begin_whole n c.label ((c ∷ t) ∷ slots) f.1 (all_map _ (λ x. take n x.label ≡ take n c.label) (λ x e. e ∙ sym later.0) (joined ((c ∷ t) ∷ slots)) later)

-- the last child of slots is that of the last slot
last_back : (l m : List Child) → 0 < length m → last_of (l ++ m) ≡ last_of m
last_back [] m n = refl
last_back (x ∷ []) [] n = absurd (omega (arith, n))
last_back (x ∷ []) (y ∷ m) n = refl
last_back (x ∷ y ∷ l) m n = last_back (y ∷ l) m n

pub last_joined : (slots : List (List Child)) (p : ℕ) (s : List Child) → AllFull slots → suc p ≡ length slots → slice_get slots p ≡ Some s
    → last_of (joined slots) ≡ last_of s
last_joined [] p s f n e = absurd (omega (arith, n))
last_joined (t ∷ []) zero s f n e = ap last_of (append-nil t ∙ ap (λ o. unwrap_or o t) e)
last_joined (t ∷ []) (suc p) s f n e = absurd (omega (arith, n))
last_joined (t ∷ u ∷ slots) zero s f n e = absurd (omega (arith, n))
last_joined (t ∷ u ∷ slots) (suc p) s f n e =
    last_back t (joined (u ∷ slots)) (some_joined (u ∷ slots) f.1 (omega arith)) ∙ last_joined (u ∷ slots) p s f.1 (omega (arith, n)) e

pub first_joined : (slots : List (List Child)) (s : List Child) → AllFull slots → slice_get slots 0 ≡ Some s → slice_get (joined slots) 0 ≡ slice_get s 0
first_joined [] s f e = absurd cc
first_joined ([] ∷ slots) s f e = absurd (omega (arith, f.0))
first_joined ((c ∷ t) ∷ slots) s f e = ap (λ o. slice_get (unwrap_or o (c ∷ t)) 0) e

last_firsts : (slots : List (List Child)) (p : ℕ) (s : List Child) → AllFull slots → suc p ≡ length slots → slice_get slots p ≡ Some s
    → last_of (firsts slots) ≡ slice_get s 0
last_firsts [] p s f n e = absurd (omega (arith, n))
last_firsts ([] ∷ slots) p s f n e = absurd (omega (arith, f.0))
last_firsts ((c ∷ t) ∷ []) zero s f n e = ap (λ o. slice_get (unwrap_or o (c ∷ t)) 0) e
last_firsts ((c ∷ t) ∷ []) (suc p) s f n e = absurd (omega (arith, n))
last_firsts ((c ∷ t) ∷ u ∷ slots) zero s f n e = absurd (omega (arith, n))
last_firsts ((c ∷ t) ∷ [] ∷ slots) (suc p) s f n e = absurd (omega (arith, f.1.0))
last_firsts ((c ∷ t) ∷ (d ∷ u) ∷ slots) (suc p) s f n e = last_firsts ((d ∷ u) ∷ slots) p s f.1 (omega (arith, n)) e

-- the slots of a group whose first and last labels begin alike
pub beginning_whole : (n p : ℕ) (slots : List (List Child)) (s t : List Child) → AreChildren (joined slots) → AllFull slots
    → slice_get slots 0 ≡ Some s
    → suc p ≡ length slots
    → slice_get slots p ≡ Some t
    → AreAlike n (slice_get s 0) (last_of t)
    → IsSharedPrefix slots n true
beginning_whole n p slots s t k f e m l a = by (slice_get s 0) (last_of t) refl refl a
  where
    by : (x y : Option Child) → slice_get s 0 ≡ x → last_of t ≡ y → AreAlike n x y → IsSharedPrefix slots n true
    by None y g h a = subst (λ z. IsSharedPrefix slots z true) (sym a) (beginning_none slots true)
    by (Some x) None g h a = subst (λ z. IsSharedPrefix slots z true) (sym a) (beginning_none slots true)
    by (Some x) (Some y) g h a =
        let w = whole_between n x y (joined slots) k (first_joined slots s f e ∙ g) (last_joined slots p t f m l ∙ h) a in
        (second_whole n slots f w, λ same. w)

-- the same of the first labels of all but one
pub beginning_later : (n p : ℕ) (slots : List (List Child)) (s t : List Child) → AreChildren (joined slots) → AllFull slots
    → slice_get slots 1 ≡ Some s
    → suc p ≡ length slots
    → slice_get slots p ≡ Some t
    → AreAlike n (slice_get s 0) (slice_get t 0)
    → IsSharedPrefix slots n false
beginning_later n p [] s t k f e m l a = absurd cc
beginning_later n p (r ∷ []) s t k f e m l a = absurd cc
beginning_later n zero (r ∷ u ∷ slots) s t k f e m l a = absurd (omega (arith, m))
beginning_later n (suc p) (r ∷ [] ∷ slots) s t k f e m l a = absurd (omega (arith, f.1.0))
beginning_later n (suc p) (r ∷ (c ∷ u) ∷ slots) s t k f e m l a = by (slice_get s 0) (slice_get t 0) refl refl a
  where
    all : List (List Child)
    all = r ∷ (c ∷ u) ∷ slots

    rest : List (List Child)
    rest = (c ∷ u) ∷ slots

    never : {A : Type 0} → false ≡ true → A
    never w = absurd cc

    by : (x y : Option Child) → slice_get s 0 ≡ x → slice_get t 0 ≡ y → AreAlike n x y → IsSharedPrefix all n false
    by None y g h a = subst (λ z. IsSharedPrefix all z false) (sym a) (beginning_none all false)
    by (Some x) None g h a = subst (λ z. IsSharedPrefix all z false) (sym a) (beginning_none all false)
    by (Some x) (Some y) g h a =
        let first : slice_get (firsts rest) 0 ≡ Some x = ap (λ o. slice_get (unwrap_or o (c ∷ u)) 0) e ∙ g in
        let last : last_of (firsts rest) ≡ Some y = last_firsts rest p t f.1 (omega (arith, m)) l ∙ h in
        let w = whole_between n x y (firsts rest) (children_firsts rest (children_back r (joined rest) k)) first last a in
        (begin_firsts n c.label rest f.1 w, λ same. never same)

-- the child of a label that begins otherwise than all
child_none : (n : ℕ) (q f : List ℕ) (cs : List Child) → AllChildren (λ c. take n c.label ≡ f) cs → (take n q ≡ f → ⊥) → child_of q cs ≡ None
child_none n q f [] a differs = refl
child_none n q f (c ∷ cs) a differs = elim (label_cmp q c.label) as (λ o. label_cmp q c.label ≡ o → by_order o None (Some c) (child_of q cs) ≡ None) [
  | Less ↦ λ e. refl
  | Equal ↦ λ e. absurd (differs (ap (take n) (labels_same q c.label e) ∙ a.0))
  | Greater ↦ λ e. child_none n q f cs a.1 differs
] refl

begin_drop : (n : ℕ) (q : List ℕ) (slots : List (List Child)) → AllBegin n q slots → AllBegin n q (drop 1 slots)
begin_drop n q [] b = tt
begin_drop n q (s ∷ slots) b = b.1

pub found_place : (q : List ℕ) (slots : List (List Child)) (p : ℕ) → IsPlace q slots p → IsFoundAt q slots p
found_place q slots p h = record { there = h.there; found = λ s at. sym (child_at q slots p s at h) }

pub found_whole : (n : ℕ) (q : List ℕ) (slots : List (List Child)) (p : ℕ) → IsWhole n (joined slots) → AllFull slots → p < length slots
    → (AllBegin n q (drop 1 slots) → IsPlace q slots p)
    → IsFoundAt q slots p
found_whole n q slots p w f l k =
    elim (true_or_false (bytes_eq (take n q) front)) [
      | inl e ↦ found_place q slots p (k (begin_drop n q slots (begin_whole n q slots f (all_map _ (λ c. take n c.label ≡ take n q) (λ c h. h ∙ sym (bytes_same _ _ e)) (joined slots) w))))
      | inr e ↦ record {
        there = l;
        found = λ s at. child_none n q front s (part s at) (other e) ∙ sym (child_none n q front (joined slots) w (other e));
      }
    ]
  where
    front : List ℕ
    front = take n (first_label (joined slots))

    other : bytes_eq (take n q) front ≡ false → take n q ≡ front → ⊥
    other e h = (let same : bytes_eq (take n q) front ≡ true = ap (λ x. bytes_eq (take n q) x) (sym h) ∙ bytes_itself (take n q) in absurd cc)

    part : (s : List Child) → slice_get slots p ≡ Some s → AllChildren (λ c. take n c.label ≡ front) s
    part s at =
        all_front _ s (joined (drop (suc p) slots))
        (all_back _ (joined (take p slots)) (s ++ joined (drop (suc p) slots)) (subst (AllChildren (λ c. take n c.label ≡ front)) (joined_around slots p s at) w))

-- the slot of a position, as the code holds it
pub found_in : (q : List ℕ) (slots lent : List (List Child)) (p : ℕ) (s : List Child) → lent ≡ slots → IsFoundAt q lent p → s ≡ get_or slots p s
    → child_of q s ≡ child_of q (joined slots)
found_in q slots lent p s e h is =
    let h : IsFoundAt q slots p = subst (λ x. IsFoundAt q x p) e h in
    h.found s (slice_get_read slots (length slots) p s refl h.there is)

-- a label that begins as the second slot's first
pub begins_second : (n : ℕ) (q : List ℕ) (slots : List (List Child)) (s : List Child) (c : Child) → BeginAsSecond n slots → slice_get slots 1 ≡ Some s
    → slice_get s 0 ≡ Some c
    → take n q ≡ take n c.label
    → AllBegin n q (drop 1 slots)
begins_second n q [] s c b e f a = tt
begins_second n q (r ∷ []) s c b e f a = tt
begins_second n q (r ∷ t ∷ slots) s c b e f a =
    let is : t ≡ s = ap (λ o. unwrap_or o t) e in
    let front : take n q ≡ take n (first_label t) = a ∙ ap (take n) (label_of s f ∙ ap first_label (sym is)) in
    all_alike (t ∷ slots) front b
  where
    label_of : (s : List Child) → slice_get s 0 ≡ Some c → c.label ≡ first_label s
    label_of [] f = absurd cc
    label_of (d ∷ s) f = ap (λ (o : Option Child). Child.label (unwrap_or o d)) (sym f)

    all_alike : (xs : List (List Child)) → take n q ≡ take n (first_label t) → AllBegin n (first_label t) xs → AllBegin n q xs
    all_alike [] e b = tt
    all_alike (x ∷ xs) e b = (e ∙ b.0, all_alike xs e b.1)

pub alike_by : (n : ℕ) (a b x y : Option Child) → AreAlike n a b → a ≡ x → b ≡ y → AreAlike n x y
alike_by n a b x y h e f = subst (AreAlike n x) f (subst (λ z. AreAlike n z b) e h)

-- the same where the keys alone tell the position
pub found_alone : (q : List ℕ) (count key skip p : ℕ) (keys : List ℕ) (whole : Bool) (slots lent : List (List Child)) (s : List Child) → lent ≡ slots
    → IsGroup count slots keys skip whole
    → whole ≡ true
    → IsKey key (drop skip q)
    → p < length lent
    → IsPlaceOfKey keys key lent p
    → s ≡ get_or slots p s
    → child_of q s ≡ child_of q (joined slots)
found_alone q count key skip p keys whole slots lent s e g w k there place is =
    let place : IsPlaceOfKey keys key slots p = subst (λ x. IsPlaceOfKey keys key x p) e place in
    let there : p < length slots = subst (λ x. p < length x) e there in
    let found = found_whole skip q slots p (g.5.1 w) g.1 there (λ begin. place skip q g.4 g.1 g.0 k begin) in
    found_in q slots slots p s refl found is
