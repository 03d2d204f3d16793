-- The SOAs of a set while changes are applied to it.
use Rattle.std.proofs.Common.{◌≡◌, Bool, true, false, not, ◌||◌, List, [], ◌∷◌, refl, sym, ap, subst, ◌∙◌, cond}
use Rattle.std.specs.Prelude.{ℕ, ◌==◌, filter}
use Rattle.std.specs.FinMap.Entries.{by_order}
use Rattle.std.specs.Ordering.{is_eq, ordering_reverse}
use Rattle.std.specs.declared.cmp.Ordering.{Ordering}
use Rattle.std.specs.declared.cmp.Ordering.TheVariants.{Less, Equal, Greater}
use Rattle.dns_records.specs.Record.{Record, record_cmp}
use Rattle.dns_records.specs.Types.{type_soa}
use Rattle.dns_zone.specs.Records.{put, without, has, contains, same}
use Rattle.dns_zone.specs.Order.{record_total, tied_key, same_itself}
use Rattle.dns_zone.specs.Sets.{equal_is}
use Rattle.dns_zone.specs.Zone.{Zone, IsZone, soas}
use Rattle.dns_zone.proofs.OneSoa.{commute, zone_soa}
use Rattle.dns_changes.specs.Change.{is_soa}
use Rattle.dns_secondary.specs.Taken.{AreOthers}

tied_order : (o : Ordering) → o ≡ ordering_reverse o → is_eq o ≡ true
tied_order Less e = absurd cc
tied_order Equal e = refl
tied_order Greater e = absurd cc

pub tied_itself : (r : Record) → is_eq (record_cmp r r) ≡ true
tied_itself r = tied_order (record_cmp r r) (record_total.antisymm r r)

-- records of two types are not tied
pub apart : (a b : Record) → (is_soa a ≡ is_soa b → ⊥) → is_eq (record_cmp a b) ≡ false
apart a b other = at (is_eq (record_cmp a b)) refl
  where
    at : (t : Bool) → is_eq (record_cmp a b) ≡ t → t ≡ false
    at false e = refl
    at true e = absurd (other (ap (λ (t : ℕ). t == type_soa) (tied_key a b (equal_is (record_cmp a b) e)).rtype))

module _ (test : Record → Bool) where
  kept : (b : Bool) (x : Record) (xs : List Record) → is_soa x ≡ false → AreOthers xs → AreOthers (cond b (x ∷ xs) xs)
  kept true x xs o h = (o, h)
  kept false x xs o h = h

  pub others_filter : (xs : List Record) → AreOthers xs → AreOthers (filter test xs)
  others_filter [] h = tt
  others_filter (x ∷ xs) h = kept (test x) x (filter test xs) h.0 (others_filter xs h.1)

  -- of those that pass a test
  tail_kept : (b : Bool) (x : Record) (xs : List Record) → AreOthers (cond b (x ∷ xs) xs) → AreOthers xs
  tail_kept true x xs h = h.1
  tail_kept false x xs h = h

  both_kept : (b : Bool) (x : Record) (xs ys : List Record) → AreOthers (cond b (x ∷ xs) xs) → AreOthers ys → AreOthers (cond b (x ∷ ys) ys)
  both_kept true x xs ys h k = (h.0, k)
  both_kept false x xs ys h k = k

  put_kept_at : (r x : Record) (xs : List Record) (order : Ordering) → is_soa r ≡ false → AreOthers (filter test (x ∷ xs)) → AreOthers (filter test (put r xs))
      → AreOthers (filter test (by_order order (r ∷ x ∷ xs) (r ∷ xs) (x ∷ put r xs)))
  put_kept_at r x xs Less o h k = kept (test r) r (filter test (x ∷ xs)) o h
  put_kept_at r x xs Equal o h k = kept (test r) r (filter test xs) o (tail_kept (test x) x (filter test xs) h)
  put_kept_at r x xs Greater o h k = both_kept (test x) x (filter test xs) (filter test (put r xs)) h k

  put_kept : (r : Record) (xs : List Record) → is_soa r ≡ false → AreOthers (filter test xs) → AreOthers (filter test (put r xs))
  put_kept r [] o h = kept (test r) r [] o tt
  put_kept r (x ∷ xs) o h = put_kept_at r x xs (record_cmp r x) o h (put_kept r xs o (tail_kept (test x) x (filter test xs) h))

  dropped : (r : Record) (xs : List Record) → test r ≡ false → AreOthers (filter test xs) → AreOthers (filter test (r ∷ xs))
  dropped r xs out h = subst (λ b. AreOthers (cond b (r ∷ filter test xs) (filter test xs))) (sym out) h

  put_dropped_at : (r x : Record) (xs : List Record) (order : Ordering) → test r ≡ false → AreOthers (x ∷ xs) → AreOthers (filter test (put r xs))
      → AreOthers (filter test (by_order order (r ∷ x ∷ xs) (r ∷ xs) (x ∷ put r xs)))
  put_dropped_at r x xs Less out h k = dropped r (x ∷ xs) out (others_filter (x ∷ xs) h)
  put_dropped_at r x xs Equal out h k = dropped r xs out (others_filter xs h.1)
  put_dropped_at r x xs Greater out h k = kept (test x) x (filter test (put r xs)) h.0 k

  put_dropped : (r : Record) (xs : List Record) → test r ≡ false → AreOthers xs → AreOthers (filter test (put r xs))
  put_dropped r [] out h = dropped r [] out tt
  put_dropped r (x ∷ xs) out h = put_dropped_at r x xs (record_cmp r x) out h (put_dropped r xs out h.1)

-- a record that is no SOA comes
pub others_put : (q r : Record) (xs : List Record) → is_soa r ≡ false → AreOthers (without q xs) → AreOthers (without q (put r xs))
others_put q r xs o h = put_kept (λ s. not (is_eq (record_cmp q s))) r xs o h

-- the one that came goes
pub others_put_new : (r : Record) (xs : List Record) → AreOthers xs → AreOthers (without r (put r xs))
others_put_new r xs h = put_dropped (λ s. not (is_eq (record_cmp r s))) r xs (ap not (tied_itself r)) h

-- no SOA is there
pub has_none : (soa : Record) (xs : List Record) → is_soa soa ≡ true → AreOthers xs → has soa xs ≡ false
has_none soa [] is h = refl
has_none soa (x ∷ xs) is h =
    let other = apart soa x (λ e. (let one = is in let two = h.0 in absurd cc)) in
    ap (λ b. b || has soa xs) other ∙ has_none soa xs is h.1

or_right : (a b : Bool) → b ≡ true → (a || b) ≡ true
or_right true b e = refl
or_right false b e = e

-- what comes is there
new_at : (r x : Record) (xs : List Record) (order : Ordering) → contains (put r xs) r ≡ true → contains (by_order order (r ∷ x ∷ xs) (r ∷ xs) (x ∷ put r xs)) r ≡ true
new_at r x xs Less h = ap (λ b. b || contains (x ∷ xs) r) (same_itself r)
new_at r x xs Equal h = ap (λ b. b || contains xs r) (same_itself r)
new_at r x xs Greater h = or_right (same r x) (contains (put r xs) r) h

pub contains_new : (r : Record) (xs : List Record) → contains (put r xs) r ≡ true
contains_new r [] = ap (λ b. b || false) (same_itself r)
contains_new r (x ∷ xs) = new_at r x xs (record_cmp r x) (contains_new r xs)

none_of : (a b : Bool) → (a || b) ≡ false → (a ≡ false) × (b ≡ false)
none_of true b e = absurd cc
none_of false b e = (refl, e)

either : (a b d : Bool) → (b ≡ true → d ≡ true) → (a || b) ≡ true → (a || d) ≡ true
either true b d f e = refl
either false b d f e = f e

-- what was there is there still, where another comes
on_at : (q r x : Record) (xs : List Record) (order : Ordering) → record_cmp r x ≡ order → has r (x ∷ xs) ≡ false → contains (x ∷ xs) q ≡ true
    → (contains xs q ≡ true → contains (put r xs) q ≡ true) → contains (by_order order (r ∷ x ∷ xs) (r ∷ xs) (x ∷ put r xs)) q ≡ true
on_at q r x xs Less e free h more = or_right (same q r) (contains (x ∷ xs) q) h
on_at q r x xs Equal e free h more = (let tied = ap is_eq e in let none = (none_of (is_eq (record_cmp r x)) (has r xs) free).0 in absurd cc)
on_at q r x xs Greater e free h more = either (same q x) (contains xs q) (contains (put r xs) q) more h

pub contains_on : (q r : Record) (xs : List Record) → has r xs ≡ false → contains xs q ≡ true → contains (put r xs) q ≡ true
contains_on q r [] free h = absurd cc
contains_on q r (x ∷ xs) free h =
    on_at q r x xs (record_cmp r x) refl free h (contains_on q r xs (none_of (is_eq (record_cmp r x)) (has r xs) free).1)

none_kept_at : (x : Record) (xs : List Record) (b : Bool) → is_soa x ≡ b → cond b (x ∷ soas xs) (soas xs) ≡ [] → (soas xs ≡ [] → AreOthers xs) → AreOthers (x ∷ xs)
none_kept_at x xs true f e more = absurd cc
none_kept_at x xs false f e more = (f, more e)

none_kept : (xs : List Record) → soas xs ≡ [] → AreOthers xs
none_kept [] e = tt
none_kept (x ∷ xs) e = none_kept_at x xs (is_soa x) refl e (none_kept xs)

-- the zone but for its SOA
pub others_of_zone : (z : Zone) (first : Record) (more : List Record) → IsZone z → soas z.records ≡ first ∷ more → AreOthers (without first z.records)
others_of_zone z first more valid is =
    let h = zone_soa z valid in
    let one : first ∷ more ≡ h.soa ∷ [] = sym is ∙ h.one in
    let same_soa : first ≡ h.soa = cc in
    let alone : soas z.records ≡ first ∷ [] = h.one ∙ ap (λ (r : Record). r ∷ []) (sym same_soa) in
    let left : soas (without first z.records) ≡ [] =
    commute is_soa (λ s. not (is_eq (record_cmp first s))) z.records
    ∙ ap (without first) alone
    ∙ ap (λ b. cond b (first ∷ []) []) (ap not (tied_itself first)) in
    none_kept (without first z.records) left
