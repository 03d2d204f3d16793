-- Entries in order of their paths: what is before a path, at it, and after it.
use Rattle.std.proofs.Common.{◌≡◌, ℕ, Bool, true, false, cond, List, [], ◌∷◌, ◌++◌, map, refl, sym, ap, ◌∙◌, subst, append_assoc}
use Rattle.std.specs.Str.{bytes_eq}
use Rattle.std.specs.Ordering.{is_lt, is_gt, ordering_then}
use Rattle.std.specs.Cmp.{tied_itself}
use Rattle.std.specs.declared.cmp.Ordering.{Ordering}
use Rattle.std.specs.declared.cmp.Ordering.TheVariants.{Less, Equal, Greater}
use Rattle.std.proofs.lemmas.List.{map-append}
use Rattle.dns_names.specs.Name.{Labels}
use Rattle.dns_records.specs.Record.{Record}
use Rattle.dns_zone.specs.Order.{bytes_same, bytes_itself}
use Rattle.dns_zoneindex.specs.Entries.{PathRecord, here, pushed, under_label}
use Rattle.dns_zoneindex.specs.Children.{label_cmp}
use Rattle.dns_zoneindex.specs.Growth.{path_cmp, NotBefore, Rising}
use Rattle.dns_zoneindex.specs.Setting.{keep, before, behind, deeper, set_at}
use Rattle.dns_zoneindex.proofs.Sides.{label_total}
use Rattle.dns_zoneindex.proofs.Under.{labels_same, less_apart, greater_apart}

abbrev pub ahead : Labels → PathRecord → Bool
ahead path e = is_gt (path_cmp path e.path)

abbrev pub beyond : Labels → PathRecord → Bool
beyond path e = is_lt (path_cmp path e.path)

abbrev pub at : Labels → Record → PathRecord
at path r = record { path = path; record_there = r }

shaped : (e : PathRecord) (q : Labels) → e.path ≡ q → e ≡ at q e.record_there
shaped e q h = λ i. at (h i) e.record_there

pub head_not : (a b : Ordering) → is_gt (ordering_then a b) ≡ false → is_gt a ≡ false
head_not Less b h = refl
head_not Equal b h = refl
head_not Greater b h = h

itself_same : (l m : List ℕ) → l ≡ m → bytes_eq l m ≡ true
itself_same l m e = subst (λ x. bytes_eq l x ≡ true) e (bytes_itself l)

-- what is after an entry whose first label is the one, or a later one
not_ahead : (l m : List ℕ) (rest q : Labels) → label_cmp l m ≡ Equal → is_gt (path_cmp (m ∷ rest) q) ≡ false → (elim q [ [] ↦ true | k ∷ r ↦ is_gt (label_cmp l k) ]) ≡ false
not_ahead l m rest [] e h = h
not_ahead l m rest (k ∷ r) e h = ap is_gt (label_total.congr l m k e) ∙ head_not (label_cmp m k) (path_cmp rest r) h

none_ahead : (l m : List ℕ) (rest : Labels) (es : List PathRecord) → label_cmp l m ≡ Equal → NotBefore (m ∷ rest) es → keep (before l) es ≡ []
none_ahead l m rest [] e h = refl
none_ahead l m rest (f ∷ es) e h = ap (λ b. cond b (f ∷ keep (before l) es) (keep (before l) es)) (not_ahead l m rest f.path e h.0) ∙ none_ahead l m rest es e h.1

less_over : (l m k : List ℕ) (o : Ordering) → label_cmp l m ≡ Less → label_cmp m k ≡ o → is_gt o ≡ false → label_cmp l k ≡ Less
less_over l m k Less e f h = label_total.trans l m k e f
less_over l m k Equal e f h = subst (λ x. label_cmp l x ≡ Less) (labels_same m k f) e
less_over l m k Greater e f h = absurd cc

none_there : (l m : List ℕ) (rest : Labels) (es : List PathRecord) → label_cmp l m ≡ Less → NotBefore (m ∷ rest) es → under_label l es ≡ []
none_there l m rest [] e h = refl
none_there l m rest (f ∷ es) e h = elim (f.path) as (λ q. is_gt (path_cmp (m ∷ rest) q) ≡ false → ◌≡◌ {A = List PathRecord} (elim q [ [] ↦ under_label l es | k ∷ r ↦ cond (bytes_eq l k) (at r f.record_there ∷ under_label l es) (under_label l es) ]) []) [
  | [] ↦ λ g. none_there l m rest es e h.1
  | k ∷ r ↦ λ g. (let less = less_over l m k (label_cmp m k) e refl (head_not (label_cmp m k) (path_cmp rest r) g) in
      ap (λ b. cond b (at r f.record_there ∷ under_label l es) (under_label l es)) (less_apart l k less) ∙ none_there l m rest es e h.1)
] h.0

picked : (l : List ℕ) (b : Bool) (e f : PathRecord) (k s z : List PathRecord) → e ≡ pushed l f → k ≡ map (pushed l) s ++ z → cond b (e ∷ k) k ≡ map (pushed l) (cond b (f ∷ s) s) ++ z
picked l true e f k s z h g = λ i. h i ∷ g i
picked l false e f k s z h g = g

nothing : (xs : List PathRecord) → xs ++ [] ≡ xs
nothing [] = refl
nothing (x ∷ xs) = ap (λ z. x ∷ z) (nothing xs)

-- before a path: before its first label, and under that label before the rest of the path
one_ahead : (l : List ℕ) (p : Labels) (e : PathRecord) (m : List ℕ) (rest : Labels) (es : List PathRecord) → e.path ≡ m ∷ rest → NotBefore (m ∷ rest) es → (o : Ordering) → label_cmp l m ≡ o
    → keep (ahead (l ∷ p)) es ≡ keep (before l) es ++ map (pushed l) (keep (ahead p) (under_label l es))
    → cond (is_gt (ordering_then o (path_cmp p rest))) (e ∷ keep (ahead (l ∷ p)) es) (keep (ahead (l ∷ p)) es)
    ≡ cond (is_gt o) (e ∷ keep (before l) es) (keep (before l) es) ++ map (pushed l) (keep (ahead p) (cond (bytes_eq l m) (at rest e.record_there ∷ under_label l es) (under_label l es)))
one_ahead l p e m rest es is h Less k n = n ∙ ap (λ b. keep (before l) es ++ map (pushed l) (keep (ahead p) (cond b (at rest e.record_there ∷ under_label l es) (under_label l es)))) (sym (less_apart l m k))
one_ahead l p e m rest es is h Greater k n = ap (λ z. e ∷ z) n ∙ ap (λ b. (e ∷ keep (before l) es) ++ map (pushed l) (keep (ahead p) (cond b (at rest e.record_there ∷ under_label l es) (under_label l es)))) (sym (greater_apart l m k))
one_ahead l p e m rest es is h Equal k n =
    let same : l ≡ m = labels_same l m k in
    let none : keep (before l) es ≡ [] = none_ahead l m rest es k h in
    let f = at rest e.record_there in
    let s = keep (ahead p) (under_label l es) in
    let head : e ≡ pushed l f = shaped e (m ∷ rest) is ∙ (λ i. at (sym same i ∷ rest) e.record_there) in
    let tail : keep (ahead (l ∷ p)) es ≡ map (pushed l) s ++ [] = n ∙ ap (λ z. z ++ map (pushed l) s) none ∙ sym (nothing (map (pushed l) s)) in
    picked l (is_gt (path_cmp p rest)) e f (keep (ahead (l ∷ p)) es) s [] head tail
    ∙ nothing (map (pushed l) (cond (is_gt (path_cmp p rest)) (f ∷ s) s))
    ∙ (λ i. sym none i ++ map (pushed l) (keep (ahead p) (cond (sym (itself_same l m same) i) (f ∷ under_label l es) (under_label l es))))

keep_ahead : (l : List ℕ) (p : Labels) (es : List PathRecord) → Rising es → keep (ahead (l ∷ p)) es ≡ keep (before l) es ++ map (pushed l) (keep (ahead p) (under_label l es))
keep_ahead l p [] h = refl
keep_ahead l p (e ∷ es) h = elim (e.path) as (λ q. e.path ≡ q → NotBefore q es → cond (is_gt (path_cmp (l ∷ p) q)) (e ∷ keep (ahead (l ∷ p)) es) (keep (ahead (l ∷ p)) es)
    ≡ cond (elim q [ [] ↦ true | m ∷ rest ↦ is_gt (label_cmp l m) ]) (e ∷ keep (before l) es) (keep (before l) es) ++ map (pushed l) (keep (ahead p) (elim q [ [] ↦ under_label l es | m ∷ rest ↦ cond (bytes_eq l m) (at rest e.record_there ∷ under_label l es) (under_label l es) ]))) [
      | [] ↦ λ is g. ap (λ z. e ∷ z) (keep_ahead l p es h.1)
      | m ∷ rest ↦ λ is g. one_ahead l p e m rest es is g (label_cmp l m) refl (keep_ahead l p es h.1)
    ] refl h.0

-- after a path: under its first label after the rest of the path, and after that label
one_beyond : (l : List ℕ) (p : Labels) (e : PathRecord) (m : List ℕ) (rest : Labels) (es : List PathRecord) → e.path ≡ m ∷ rest → NotBefore (m ∷ rest) es → (o : Ordering) → label_cmp l m ≡ o
    → keep (beyond (l ∷ p)) es ≡ map (pushed l) (keep (beyond p) (under_label l es)) ++ keep (behind l) es
    → cond (is_lt (ordering_then o (path_cmp p rest))) (e ∷ keep (beyond (l ∷ p)) es) (keep (beyond (l ∷ p)) es)
    ≡ map (pushed l) (keep (beyond p) (cond (bytes_eq l m) (at rest e.record_there ∷ under_label l es) (under_label l es))) ++ cond (is_lt o) (e ∷ keep (behind l) es) (keep (behind l) es)
one_beyond l p e m rest es is h Less k n =
    let none : under_label l es ≡ [] = none_there l m rest es k h in
    let tail : keep (beyond (l ∷ p)) es ≡ keep (behind l) es = n ∙ ap (λ z. map (pushed l) (keep (beyond p) z) ++ keep (behind l) es) none in
    ap (λ z. e ∷ z) tail
    ∙ ap (λ z. map (pushed l) (keep (beyond p) z) ++ (e ∷ keep (behind l) es)) (sym none)
    ∙ ap (λ b. map (pushed l) (keep (beyond p) (cond b (at rest e.record_there ∷ under_label l es) (under_label l es))) ++ (e ∷ keep (behind l) es)) (sym (less_apart l m k))
one_beyond l p e m rest es is h Greater k n = n ∙ ap (λ b. map (pushed l) (keep (beyond p) (cond b (at rest e.record_there ∷ under_label l es) (under_label l es))) ++ keep (behind l) es) (sym (greater_apart l m k))
one_beyond l p e m rest es is h Equal k n =
    let same : l ≡ m = labels_same l m k in
    let f = at rest e.record_there in
    let s = keep (beyond p) (under_label l es) in
    let head : e ≡ pushed l f = shaped e (m ∷ rest) is ∙ (λ i. at (sym same i ∷ rest) e.record_there) in
    picked l (is_lt (path_cmp p rest)) e f (keep (beyond (l ∷ p)) es) s (keep (behind l) es) head n
    ∙ ap (λ b. map (pushed l) (keep (beyond p) (cond b (f ∷ under_label l es) (under_label l es))) ++ keep (behind l) es) (sym (itself_same l m same))

keep_beyond : (l : List ℕ) (p : Labels) (es : List PathRecord) → Rising es → keep (beyond (l ∷ p)) es ≡ map (pushed l) (keep (beyond p) (under_label l es)) ++ keep (behind l) es
keep_beyond l p [] h = refl
keep_beyond l p (e ∷ es) h = elim (e.path) as (λ q. e.path ≡ q → NotBefore q es → cond (is_lt (path_cmp (l ∷ p) q)) (e ∷ keep (beyond (l ∷ p)) es) (keep (beyond (l ∷ p)) es)
    ≡ map (pushed l) (keep (beyond p) (elim q [ [] ↦ under_label l es | m ∷ rest ↦ cond (bytes_eq l m) (at rest e.record_there ∷ under_label l es) (under_label l es) ])) ++ cond (elim q [ [] ↦ false | m ∷ rest ↦ is_lt (label_cmp l m) ]) (e ∷ keep (behind l) es) (keep (behind l) es)) [
      | [] ↦ λ is g. keep_beyond l p es h.1
      | m ∷ rest ↦ λ is g. one_beyond l p e m rest es is g (label_cmp l m) refl (keep_beyond l p es h.1)
    ] refl h.0

-- what is under a label is in order too
rest_not : (l m k : List ℕ) (rest r : Labels) → l ≡ m → l ≡ k → is_gt (path_cmp (m ∷ rest) (k ∷ r)) ≡ false → is_gt (path_cmp rest r) ≡ false
rest_not l m k rest r e f h = ap (λ o. is_gt (ordering_then o (path_cmp rest r))) (sym (subst (λ x. label_cmp m x ≡ Equal) (sym e ∙ f) (itself m))) ∙ h
  where
    itself : (x : List ℕ) → label_cmp x x ≡ Equal
    itself x = tied_itself label_total x

not_before_step : (l m : List ℕ) (rest : Labels) (es : List PathRecord) → l ≡ m → NotBefore (m ∷ rest) es → NotBefore rest (under_label l es)
not_before_step l m rest [] e h = tt
not_before_step l m rest (f ∷ es) e h = elim (f.path) as (λ q. is_gt (path_cmp (m ∷ rest) q) ≡ false → NotBefore rest (elim q [ [] ↦ under_label l es | k ∷ r ↦ cond (bytes_eq l k) (at r f.record_there ∷ under_label l es) (under_label l es) ])) [
  | [] ↦ λ g. not_before_step l m rest es e h.1
  | k ∷ r ↦ λ g. one (bytes_eq l k) refl r (λ same. rest_not l m k rest r e (bytes_same l k same) g) (not_before_step l m rest es e h.1)
] h.0
  where
    one : (b : Bool) {x : Bool} → x ≡ b → (r : Labels) → (x ≡ true → is_gt (path_cmp rest r) ≡ false) → NotBefore rest (under_label l es) → NotBefore rest (cond b (at r f.record_there ∷ under_label l es) (under_label l es))
    one true is r g n = (g is, n)
    one false is r g n = n

pub rising_step : (l : List ℕ) (es : List PathRecord) → Rising es → Rising (under_label l es)
rising_step l [] h = tt
rising_step l (e ∷ es) h = elim (e.path) as (λ q. NotBefore q es → Rising (elim q [ [] ↦ under_label l es | m ∷ rest ↦ cond (bytes_eq l m) (at rest e.record_there ∷ under_label l es) (under_label l es) ])) [
  | [] ↦ λ g. rising_step l es h.1
  | m ∷ rest ↦ λ g. one (bytes_eq l m) refl rest (λ same. not_before_step l m rest es (bytes_same l m same) g) (rising_step l es h.1)
] h.0
  where
    one : (b : Bool) {x : Bool} → x ≡ b → (rest : Labels) → (x ≡ true → NotBefore rest (under_label l es)) → Rising (under_label l es) → Rising (cond b (at rest e.record_there ∷ under_label l es) (under_label l es))
    one true is rest g n = (g is, n)
    one false is rest g n = n

-- the root
none_above : (es : List PathRecord) → keep (ahead []) es ≡ []
none_above [] = refl
none_above (e ∷ es) = elim (e.path) as (λ q. cond (is_gt (path_cmp [] q)) (e ∷ keep (ahead []) es) (keep (ahead []) es) ≡ []) [
  | [] ↦ none_above es
  | m ∷ rest ↦ none_above es
]

all_below : (es : List PathRecord) → keep deeper es ≡ keep (beyond []) es
all_below [] = refl
all_below (e ∷ es) = elim (e.path) as (λ q. cond (elim q [ [] ↦ false | m ∷ rest ↦ true ]) (e ∷ keep deeper es) (keep deeper es) ≡ cond (is_lt (path_cmp [] q)) (e ∷ keep (beyond []) es) (keep (beyond []) es)) [
  | [] ↦ all_below es
  | m ∷ rest ↦ ap (λ z. e ∷ z) (all_below es)
]

pushed_at : (l : List ℕ) (p : Labels) (rs : List Record) → map (pushed l) (map (at p) rs) ≡ map (at (l ∷ p)) rs
pushed_at l p [] = refl
pushed_at l p (r ∷ rs) = ap (λ z. at (l ∷ p) r ∷ z) (pushed_at l p rs)

regrouped : (a x r y b : List PathRecord) → a ++ ((x ++ (r ++ y)) ++ b) ≡ (a ++ x) ++ (r ++ (y ++ b))
regrouped a x r y b = simp append_assoc

-- other records at a path: those before it, the new ones, those after it
pub set_split : (path : Labels) (rs : List Record) (es : List PathRecord) → Rising es → set_at path rs es ≡ keep (ahead path) es ++ (map (at path) rs ++ keep (beyond path) es)
set_split [] rs es h = λ i. sym (none_above es) i ++ (map here rs ++ all_below es i)
set_split (l ∷ p) rs es h =
    let s = under_label l es in
    let a = keep (before l) es in
    let b = keep (behind l) es in
    let x = keep (ahead p) s in
    let y = keep (beyond p) s in
    let inner : map (pushed l) (x ++ (map (at p) rs ++ y)) ≡ map (pushed l) x ++ (map (at (l ∷ p)) rs ++ map (pushed l) y) =
    map-append (pushed l) x (map (at p) rs ++ y) ∙ ap (λ z. map (pushed l) x ++ z) (map-append (pushed l) (map (at p) rs) y ∙ ap (λ z. z ++ map (pushed l) y) (pushed_at l p rs)) in
    ap (λ z. a ++ (map (pushed l) z ++ b)) (set_split p rs s (rising_step l es h))
    ∙ ap (λ z. a ++ (z ++ b)) inner
    ∙ regrouped a (map (pushed l) x) (map (at (l ∷ p)) rs) (map (pushed l) y) b
    ∙ (λ i. sym (keep_ahead l p es h) i ++ (map (at (l ∷ p)) rs ++ sym (keep_beyond l p es h) i))
