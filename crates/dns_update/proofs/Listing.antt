-- The records that prerequisites list, gathered one by one and counted.
use Rattle.std.proofs.Common.{◌≡◌, ℕ, zero, suc, ◌+◌, ◌<◌, Bool, true, false, not, ◌&&◌, ◌||◌, ◌⊎◌, inl, inr, List, [], ◌∷◌, Option, Some, None, length, take, get_or, refl, sym, ap, subst, ◌∙◌, arith, cond}
use Rattle.std.specs.Prelude.{filter, ◌==◌, is_some, if◌then◌else◌}
use denote.Ref.{Bor}
use Rattle.std.specs.List.{list_any, list_all, find}
use Rattle.std.specs.Option.{option_copied}
use Rattle.std.specs.Cmp.{both_ways, alike_right}
use Rattle.std.specs.Ordering.{is_eq}
use Rattle.std.specs.declared.cmp.Ordering.TheVariants.{Equal}
use Rattle.dns_names.specs.Name.{names_eq}
use Rattle.dns_records.specs.Types.{class_in}
use Rattle.dns_records.specs.Record.{Record, record_cmp}
use Rattle.dns_zone.specs.Records.{alike, contains, has, put, rrset, same}
use Rattle.dns_zone.specs.Order.{record_total, number_itself, same_is, both_true}
use Rattle.dns_zone.specs.Sets.{ties, found, Sorted, true_or_false, either_true, same_sets, joins, sorted_put, sorted_filter, only, found_put, found_filter, found_tied, found_contains}
use Rattle.dns_zone.specs.Twice.{alike_is}
use Rattle.dns_zone.proofs.Kept.{numbers_same, kept_most}
use Rattle.dns_changes.proofs.Steps.{has_is}
use Rattle.dns_changes.proofs.Touched.{filter_by}
use Rattle.dns_wire.specs.Message.{ResourceRecord}
use Rattle.dns_update.specs.ResourceRecord.{as_record}
use Rattle.dns_update.specs.Prerequisites.{lists, is_rrset, are_rrsets}
use Rattle.dns_update.specs.Listed.{listed, is_counted, is_met}
use Rattle.dns_zone.proofs.Placing.{find_by}

found_alike : (r : Record) (xs : List Record) → found r xs ≡ find (alike r) xs
found_alike r xs = find_by (ties r) (alike r) (alike_is r) xs

pub has_found : (r : Record) (xs : List Record) (o : Option Record) → o ≡ find (alike r) xs → is_some o ≡ has r xs
has_found r xs o e = ap is_some e ∙ ap is_some (sym (found_alike r xs)) ∙ sym (has_is r xs)

pub some_copied : (o : Option (Bor Record)) → is_some o ≡ is_some (option_copied o)
some_copied None = refl
some_copied (Some r) = refl

or_true : (b : Bool) → (b || true) ≡ true
or_true true = refl
or_true false = refl

or_false : (b : Bool) → (b || false) ≡ b
or_false true = refl
or_false false = refl

-- ---- one item more
abbrev either : (Record → Bool) → ResourceRecord → Record → Bool
either p i r = p r || lists r i

more_at : (p : Record → Bool) (i : ResourceRecord) (g : Record) (xs : List Record) → Sorted xs → (i.class == class_in) ≡ true → found (as_record i) xs ≡ Some g → (q : Record) (t : Bool) (o : Option Record) → ties q g ≡ t → found q xs ≡ o
    → cond t (Some g) (only p o) ≡ only (either p i) o
more_at p i g xs h c e q true o t f =
    let tied = (found_contains (as_record i) g xs e).0 in
    let is : o ≡ Some g = sym f ∙ found_tied q g t xs ∙ sym (found_tied (as_record i) g tied xs) ∙ e in
    let listed_it : lists g i ≡ true = (λ j. c j && alike (as_record i) g) ∙ sym (alike_is (as_record i) g) ∙ tied in
    let passes : either p i g ≡ true = ap (λ b. p g || b) listed_it ∙ or_true (p g) in
    sym (ap (only (either p i)) is ∙ ap (λ b. cond b (Some g) None) passes)
more_at p i g xs h c e q false None t f = refl
more_at p i g xs h c e q false (Some a) t f =
    let there = found_contains q a xs f in
    let tied = (found_contains (as_record i) g xs e).0 in
    let other : alike (as_record i) a ≡ false = elim (true_or_false (alike (as_record i) a)) [
      | inr n ↦ n
      | inl y ↦ (let one : ties (as_record i) a ≡ true = alike_is (as_record i) a ∙ y in
          let near : record_cmp a g ≡ Equal = joins (as_record i) a g one tied in
          let same_found : ties q g ≡ true = sym (ties_right q a g near) ∙ there.0 in absurd cc)
    ] in
    let unlisted : lists a i ≡ false = (λ j. c j && other j) in
    ap (λ b. cond b (Some a) None) (sym (or_false (p a)) ∙ sym (ap (λ b. p a || b) unlisted))
  where
    ties_right : (x a b : Record) → record_cmp a b ≡ Equal → ties x a ≡ ties x b
    ties_right x a b n = ap is_eq (alike_right record_total a b x n)

pub more_listed : (p : Record → Bool) (i : ResourceRecord) (g : Record) (xs : List Record) → Sorted xs → (i.class == class_in) ≡ true → find (alike (as_record i)) xs ≡ Some g → put g (filter p xs) ≡ filter (either p i) xs
more_listed p i g xs h c e =
    let f : found (as_record i) xs ≡ Some g = found_alike (as_record i) xs ∙ e in
    same_sets (put g (filter p xs)) (filter (either p i) xs) (sorted_put g (filter p xs) (sorted_filter p xs h)) (sorted_filter (either p i) xs h)
    (λ q. found_put q g (filter p xs) ∙ ap (cond (ties q g) (Some g)) (found_filter q p xs h) ∙ more_at p i g xs h c f q (ties q g) (found q xs) refl refl ∙ sym (found_filter q (either p i) xs h))

none_alike : (r : Record) (xs : List Record) → find (alike r) xs ≡ None → (s : Record) → contains xs s ≡ true → alike r s ≡ false
none_alike r [] e s c = absurd cc
none_alike r (x ∷ xs) e s c = at (alike r x) refl e (either_true (same s x) (contains xs s) c) (λ f t. none_alike r xs f s t)
  where
    at : (b : Bool) → alike r x ≡ b → cond b (Some x) (find (alike r) xs) ≡ None → (same s x ≡ true) ⊎ (contains xs s ≡ true) → (find (alike r) xs ≡ None → contains xs s ≡ true → alike r s ≡ false) → alike r s ≡ false
    at true f g h rest = absurd cc
    at false f g (inl t) rest = subst (λ (y : Record). alike r y ≡ false) (sym (same_is s x t)) f
    at false f g (inr t) rest = rest g t

pub none_listed : (p : Record → Bool) (i : ResourceRecord) (xs : List Record) → (if i.class == class_in then find (alike (as_record i)) xs else None) ≡ None → filter p xs ≡ filter (either p i) xs
none_listed p i xs e = filter_by p (either p i) xs (λ r c. sym (ap (λ b. p r || b) (at (i.class == class_in) refl e r c) ∙ or_false (p r)))
  where
    at : (b : Bool) → (i.class == class_in) ≡ b → (if b then find (alike (as_record i)) xs else None) ≡ None → (r : Record) → contains xs r ≡ true → lists r i ≡ false
    at true f g r c = (λ j. f j && none_alike (as_record i) xs g r c j)
    at false f g r c = (λ j. f j && alike (as_record i) r)

-- ---- the loop
any_more : (f : ResourceRecord → Bool) (items : List ResourceRecord) (i : ℕ) (x : ResourceRecord) → i < length items → x ≡ get_or items i x → list_any f (take (i + 1) items) ≡ (list_any f (take i items) || f x)
any_more f [] i x lt is = absurd (omega arith)
any_more f (y ∷ items) zero x lt is = or_false (f y) ∙ ap f (sym is)
any_more f (y ∷ items) (suc i) x lt is =
    let next : suc i + 1 ≡ suc (i + 1) = omega arith in
    ap (λ (n : ℕ). list_any f (take n (y ∷ items))) next ∙ ap (λ b. f y || b) (any_more f items i x (omega arith) is) ∙ joined (f y) (list_any f (take i items)) (f x)
  where
    joined : (a b d : Bool) → (a || (b || d)) ≡ ((a || b) || d)
    joined true b d = refl
    joined false b d = refl

each_more : (xs : List Record) (items : List ResourceRecord) (i : ℕ) (x : ResourceRecord) → i < length items → x ≡ get_or items i x → filter (either (λ r. list_any (lists r) (take i items)) x) xs ≡ listed xs (take (i + 1) items)
each_more [] items i x lt is = refl
each_more (y ∷ xs) items i x lt is = let head = any_more (lists y) items i x lt is in let rest = each_more xs items i x lt is in λ j. cond (sym head j) (y ∷ rest j) (rest j)

pub step_some : (xs set next : List Record) (items : List ResourceRecord) (i : ℕ) (x : ResourceRecord) (g : Record) → Sorted xs → i < length items → x ≡ get_or items i x → Some g ≡ (if x.class == class_in then find (alike (as_record x)) xs else None)
    → set ≡ listed xs (take i items) → next ≡ put g set → next ≡ listed xs (take (i + 1) items)
step_some xs set next items i x g h lt is e s n = n ∙ ap (put g) s ∙ at (x.class == class_in) refl e ∙ each_more xs items i x lt is
  where
    at : (b : Bool) → (x.class == class_in) ≡ b → Some g ≡ (if b then find (alike (as_record x)) xs else None) → put g (listed xs (take i items)) ≡ filter (either (λ r. list_any (lists r) (take i items)) x) xs
    at true f e' = more_listed (λ r. list_any (lists r) (take i items)) x g xs h f (sym e')
    at false f e' = absurd cc

pub step_none : (xs set : List Record) (items : List ResourceRecord) (i : ℕ) (x : ResourceRecord) → i < length items → x ≡ get_or items i x → None ≡ (if x.class == class_in then find (alike (as_record x)) xs else None)
    → set ≡ listed xs (take i items) → set ≡ listed xs (take (i + 1) items)
step_none xs set items i x lt is e s = s ∙ none_listed (λ r. list_any (lists r) (take i items)) x xs (sym e) ∙ each_more xs items i x lt is

pub nothing_listed : (xs : List Record) → listed xs [] ≡ []
nothing_listed [] = refl
nothing_listed (x ∷ xs) = nothing_listed xs

-- ---- as many as there are
kept_all : (p : Record → Bool) (xs : List Record) → list_all p xs ≡ true → filter p xs ≡ xs
kept_all p [] e = refl
kept_all p (x ∷ xs) e = let both = both_true (p x) (list_all p xs) e in let rest = kept_all p xs both.1 in λ j. cond (both.0 j) (x ∷ rest j) (rest j)

all_kept : (p : Record → Bool) (xs : List Record) → length (filter p xs) ≡ length xs → list_all p xs ≡ true
all_kept p [] e = refl
all_kept p (x ∷ xs) e = at (p x) refl e (all_kept p xs)
  where
    at : (b : Bool) → p x ≡ b → length (cond b (x ∷ filter p xs) (filter p xs)) ≡ suc (length xs) → (length (filter p xs) ≡ length xs → list_all p xs ≡ true) → list_all p (x ∷ xs) ≡ true
    at true f g rest = (let fewer : length (filter p xs) ≡ length xs = omega arith in λ j. f j && rest fewer j)
    at false f g rest = (let most = kept_most p xs in absurd (omega arith))

as_many : (p : Record → Bool) (xs : List Record) → (length (filter p xs) == length xs) ≡ list_all p xs
as_many p xs = both_ways (length (filter p xs) == length xs) (list_all p xs)
    (λ e. all_kept p xs (numbers_same (length (filter p xs)) (length xs) e))
    (λ e. ap (λ (ys : List Record). length ys == length xs) (kept_all p xs e) ∙ number_itself (length xs))

swapped : (p q : Record → Bool) (xs : List Record) → filter q (filter p xs) ≡ filter p (filter q xs)
swapped p q [] = refl
swapped p q (x ∷ xs) = at (p x) (q x) refl refl (swapped p q xs)
  where
    at : (a b : Bool) → p x ≡ a → q x ≡ b → filter q (filter p xs) ≡ filter p (filter q xs) → filter q (cond a (x ∷ filter p xs) (filter p xs)) ≡ filter p (cond b (x ∷ filter q xs) (filter q xs))
    at true true f g rest = (λ j. cond (g j) (x ∷ rest j) (rest j)) ∙ (λ j. cond (sym f j) (x ∷ filter p (filter q xs)) (filter p (filter q xs)))
    at true false f g rest = (λ j. cond (g j) (x ∷ rest j) (rest j))
    at false true f g rest = rest ∙ (λ j. cond (sym f j) (x ∷ filter p (filter q xs)) (filter p (filter q xs)))
    at false false f g rest = rest

counted : (xs : List Record) (items : List ResourceRecord) (i : ResourceRecord) → is_counted (listed xs items) xs i ≡ is_rrset xs items i
counted xs items i =
    let p : Record → Bool = λ r. list_any (lists r) items in
    let of_it : Record → Bool = λ r. names_eq r.owner i.owner && r.rtype == i.rtype in
    ap (λ b. has (as_record i) xs && b) (ap (λ (ys : List Record). length ys == length (rrset xs i.owner i.rtype)) (swapped p of_it xs) ∙ as_many p (rrset xs i.owner i.rtype))

all_counted : (xs : List Record) (items rest : List ResourceRecord) → list_all (is_met (listed xs items) xs) rest ≡ list_all (λ i. not (i.class == class_in) || is_rrset xs items i) rest
all_counted xs items [] = refl
all_counted xs items (i ∷ rest) = λ j. (not (i.class == class_in) || counted xs items i j) && all_counted xs items rest j

-- each is met by what is listed
pub all_met : (xs set : List Record) (items : List ResourceRecord) → set ≡ listed xs items → list_all (is_met set xs) items ≡ are_rrsets xs items
all_met xs set items e = ap (λ (ys : List Record). list_all (is_met ys xs) items) e ∙ all_counted xs items items
