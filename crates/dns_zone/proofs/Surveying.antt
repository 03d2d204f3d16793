-- One pass over the records of a set.
use Rattle.std.proofs.Common.{◌≡◌, ℕ, zero, suc, ◌+◌, ◌<◌, Bool, true, false, List, [], ◌∷◌, length, drop, refl, sym, ap, subst, ◌∙◌, arith, cond}
use Rattle.std.specs.Prelude.{min, nat_lt, ◌&&◌, ◌||◌, Some, if◌then◌else◌}
use Rattle.std.specs.List.{find}
use Rattle.std.specs.Ordering.{is_lt, ordering_reverse}
use Rattle.std.specs.Cmp.{both_ways, tied_itself}
use Rattle.std.specs.declared.cmp.Ordering.{Ordering}
use Rattle.std.specs.declared.cmp.Ordering.TheVariants.{Less, Greater}
use borrow.Author.Tests.{ltb-true, lt-ltb}
use Rattle.dns_records.specs.Record.{Record, record_cmp}
use Rattle.dns_zone.specs.Order.{record_total}
use Rattle.dns_zone.specs.Sets.{Sorted, Below}
use Rattle.dns_zone.specs.Survey.{records_after}

-- a count that stops one above its limit
pub capped : (limit c m : ℕ) → nat_lt limit (c + suc m) ≡ nat_lt limit (min c limit + 1 + m)
capped limit c m = both_ways (nat_lt limit (c + suc m)) (nat_lt limit (min c limit + 1 + m))
    (λ e. (let h : limit < c + suc m = ltb-true limit (c + suc m) e in lt-ltb limit (min c limit + 1 + m) (omega arith)))
    (λ e. (let h : limit < min c limit + 1 + m = ltb-true limit (min c limit + 1 + m) e in lt-ltb limit (c + suc m) (omega arith)))

pub soas_step : (b : Bool) (c : ℕ) (r : Record) (ys : List Record) → nat_lt 1 ((if b then min c 1 + 1 else c) + length ys) ≡ nat_lt 1 (c + length (cond b (r ∷ ys) ys))
soas_step true c r ys = sym (capped 1 c (length ys))
soas_step false c r ys = refl

pub and_assoc : (a b c : Bool) → ((a && b) && c) ≡ (a && (b && c))
and_assoc true b c = refl
and_assoc false b c = refl

pub or_assoc : (a b c : Bool) → ((a || b) || c) ≡ (a || (b || c))
or_assoc true b c = refl
or_assoc false b c = refl

-- the records after one, in order
found_head : (r x : Record) (xs : List Record) (b : Bool) (y : Record) → cond b (Some x) (find (λ s. is_lt (record_cmp r s)) xs) ≡ Some y → (find (λ s. is_lt (record_cmp r s)) xs ≡ Some y → (tail : List Record) × (records_after (Some r) xs ≡ y ∷ tail)) → (tail : List Record) × (cond b (x ∷ xs) (records_after (Some r) xs) ≡ y ∷ tail)
found_head r x xs true y e inner = let same : x ≡ y = cc in (xs, ap (λ (s : Record). s ∷ xs) same)
found_head r x xs false y e inner = inner e

behind_below : (r : Record) (xs : List Record) → Below r xs → records_after (Some r) xs ≡ xs
behind_below r [] h = refl
behind_below r (x ∷ xs) h = ap (λ (o : Ordering). cond (is_lt o) (x ∷ xs) (records_after (Some r) xs)) h.0

below_dropped : (x : Record) (xs : List Record) (k : ℕ) (r : Record) (tail : List Record) → Below x xs → drop k xs ≡ r ∷ tail → record_cmp x r ≡ Less
below_dropped x [] zero r tail h e = absurd cc
below_dropped x [] (suc k) r tail h e = absurd cc
below_dropped x (y ∷ ys) zero r tail h e = let same : y ≡ r = cc in subst (λ (s : Record). record_cmp x s ≡ Less) same h.0
below_dropped x (y ∷ ys) (suc k) r tail h e = below_dropped x ys k r tail h.1 e

pub behind_at : (xs : List Record) (k : ℕ) (r : Record) (tail : List Record) → Sorted xs → drop k xs ≡ r ∷ tail → records_after (Some r) xs ≡ tail
behind_at [] zero r tail h e = absurd cc
behind_at [] (suc k) r tail h e = absurd cc
behind_at (x ∷ xs) zero r tail h e =
    let same : x ≡ r = cc in
    let rest : xs ≡ tail = cc in
    ap (λ (s : Record). records_after (Some s) (x ∷ xs)) (sym same) ∙ ap (λ (o : Ordering). cond (is_lt o) (x ∷ xs) (records_after (Some x) xs)) (tied_itself record_total x) ∙ behind_below x xs h.0 ∙ rest
behind_at (x ∷ xs) (suc k) r tail h e =
    let less = below_dropped x xs k r tail h.0 e in
    let past : record_cmp r x ≡ Greater = record_total.antisymm r x ∙ ap ordering_reverse less in
    ap (λ (o : Ordering). cond (is_lt o) (x ∷ xs) (records_after (Some r) xs)) past ∙ behind_at xs k r tail h.1 e

pub dropped_next : (xs : List Record) (k : ℕ) (r : Record) (tail : List Record) → drop k xs ≡ r ∷ tail → drop (k + 1) xs ≡ tail
dropped_next [] zero r tail e = absurd cc
dropped_next [] (suc k) r tail e = absurd cc
dropped_next (x ∷ xs) zero r tail e = cc
dropped_next (x ∷ xs) (suc k) r tail e = let one : suc k + 1 ≡ suc (k + 1) = omega arith in ap (λ (n : ℕ). drop n (x ∷ xs)) one ∙ dropped_next xs k r tail e
