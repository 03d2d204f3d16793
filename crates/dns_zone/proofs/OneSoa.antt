-- The one SOA of a zone.
use Rattle.std.proofs.Common.{◌≡◌, ℕ, suc, ◌≤◌, Bool, true, false, not, ◌&&◌, ◌||◌, List, [], ◌∷◌, Option, Some, None, length, refl, sym, ap, subst, ◌∙◌, arith, cond}
use Rattle.std.specs.Prelude.{filter, ◌==◌, nat_lt, if◌then◌else◌}
use Rattle.std.specs.List.{list_any, list_all}
use Rattle.std.proofs.lemmas.Bool.Decides.{nat_tests}
use Rattle.dns_names.specs.Name.{Labels, names_eq, under}
use Rattle.dns_records.specs.Types.{type_ns, type_soa}
use Rattle.dns_records.specs.Record.{Record}
use Rattle.dns_zone.specs.Records.{rrset, owns_type}
use Rattle.dns_zone.specs.Zone.{Zone, IsZone, zone_fault, soas, has_twice, has_cname_and_other, is_wildcard}
use Rattle.dns_zone.specs.Order.{names_same, names_itself}
use Rattle.dns_zone.specs.Twice.{any_by}
use Rattle.dns_zone.specs.Soa.{HasSoa}
use Rattle.dns_zone.proofs.Kept.{any_kept}

abbrev pub is_soa : Record → Bool
is_soa r = r.rtype == type_soa

pub commute : (p q : Record → Bool) (xs : List Record) → filter p (filter q xs) ≡ filter q (filter p xs)
commute p q [] = refl
commute p q (x ∷ xs) = at (p x) (q x) refl refl (commute p q xs)
  where
    at : (b d : Bool) → p x ≡ b → q x ≡ d → filter p (filter q xs) ≡ filter q (filter p xs) → filter p (cond d (x ∷ filter q xs) (filter q xs)) ≡ filter q (cond b (x ∷ filter p xs) (filter p xs))
    at true true e f rest = ap (λ c. cond c (x ∷ filter p (filter q xs)) (filter p (filter q xs))) e ∙ ap (λ (ys : List Record). x ∷ ys) rest ∙ sym (ap (λ c. cond c (x ∷ filter q (filter p xs)) (filter q (filter p xs))) f)
    at true false e f rest = rest ∙ sym (ap (λ c. cond c (x ∷ filter q (filter p xs)) (filter q (filter p xs))) f)
    at false true e f rest = ap (λ c. cond c (x ∷ filter p (filter q xs)) (filter p (filter q xs))) e ∙ rest
    at false false e f rest = rest

pub both_kept : (p q : Record → Bool) (xs : List Record) → filter (λ x. p x && q x) xs ≡ filter p (filter q xs)
both_kept p q [] = refl
both_kept p q (x ∷ xs) = at (p x) (q x) refl (both_kept p q xs)
  where
    at : (b d : Bool) → p x ≡ b → filter (λ x. p x && q x) xs ≡ filter p (filter q xs) → cond (b && d) (x ∷ filter (λ x. p x && q x) xs) (filter (λ x. p x && q x) xs) ≡ filter p (cond d (x ∷ filter q xs) (filter q xs))
    at true true e rest = ap (λ (ys : List Record). x ∷ ys) rest ∙ sym (ap (λ b. cond b (x ∷ filter p (filter q xs)) (filter p (filter q xs))) e)
    at true false e rest = rest
    at false true e rest = rest ∙ sym (ap (λ b. cond b (x ∷ filter p (filter q xs)) (filter p (filter q xs))) e)
    at false false e rest = rest

-- what passes a test passes it
kept_passes : (p : Record → Bool) (xs : List Record) (s : Record) (rest : List Record) → filter p xs ≡ s ∷ rest → p s ≡ true
kept_passes p [] s rest e = absurd cc
kept_passes p (x ∷ xs) s rest e = at (p x) refl e (kept_passes p xs s rest)
  where
    at : (b : Bool) → p x ≡ b → cond b (x ∷ filter p xs) (filter p xs) ≡ s ∷ rest → (filter p xs ≡ s ∷ rest → p s ≡ true) → p s ≡ true
    at true f e next = (let same : x ≡ s = cc in ap p (sym same) ∙ f)
    at false f e next = next e

module _ (apex : Labels) where
  pub is_one : (xs : List Record) (h : HasSoa apex xs) → is_soa h.soa ≡ true
  is_one xs h = kept_passes is_soa xs h.soa [] h.one

  -- the SOA is the apex's
  pub soa_here : (xs : List Record) (h : HasSoa apex xs) → rrset xs apex type_soa ≡ h.soa ∷ []
  soa_here xs h = split xs ∙ ap (filter (λ r. names_eq r.owner apex)) h.one ∙ ap (λ b. cond b (h.soa ∷ []) []) (ap (λ n. names_eq n apex) h.owner ∙ names_itself apex)
    where
      split : (ys : List Record) → rrset ys apex type_soa ≡ filter (λ r. names_eq r.owner apex) (soas ys)
      split ys = both_kept (λ r. names_eq r.owner apex) is_soa ys

-- ---- a valid zone has one
pub past : {A : Type 0} (b : Bool) (x : A) (rest : Option A) → (if b then Some x else rest) ≡ None → (b ≡ false) × (rest ≡ None)
past true x rest e = absurd cc
past false x rest e = (refl, e)

pub untrue : (b : Bool) → not b ≡ false → b ≡ true
untrue true e = refl
untrue false e = absurd cc

-- what a valid zone is, condition by condition
pub record Conditions (apex : Labels) (xs : List Record) : Type 0 where
  pub soa : owns_type xs apex type_soa ≡ true
  pub one : nat_lt 1 (length (soas xs)) ≡ false
  pub ns : owns_type xs apex type_ns ≡ true
  pub inside : list_all (λ r. under r.owner apex) xs ≡ true
  pub alone : has_cname_and_other xs ≡ false
  pub servers : list_any (λ r. r.rtype == type_ns && is_wildcard r.owner) xs ≡ false
  pub few : nat_lt 65536 (length xs) ≡ false

pub conditions : (apex : Labels) (xs : List Record) → zone_fault apex xs ≡ None → Conditions apex xs
conditions apex xs e =
    let one = past (not (owns_type xs apex type_soa)) _ _ e in
    let two = past (nat_lt 1 (length (soas xs))) _ _ one.1 in
    let three = past (not (owns_type xs apex type_ns)) _ _ two.1 in
    let four = past (not (list_all (λ r. under r.owner apex) xs)) _ _ three.1 in
    let five = past (has_twice xs) _ _ four.1 in
    let six = past (has_cname_and_other xs) _ _ five.1 in
    let seven = past (list_any (λ r. r.rtype == type_ns && is_wildcard r.owner) xs) _ _ six.1 in
    let eight = past (nat_lt 65536 (length xs)) _ _ seven.1 in
    record { soa = untrue _ one.0; one = two.0; ns = untrue _ three.0; inside = untrue _ four.0; alone = six.0; servers = seven.0; few = eight.0 }

-- a valid zone has at most 65,536 records
pub zone_few : (z : Zone) → IsZone z → length z.records ≤ 65536
zone_few z h = let last = (conditions z.apex z.records h.valid).few in grind (arith, nat_tests, last)

pub zone_soa : (z : Zone) → IsZone z → HasSoa z.apex z.records
zone_soa z h = first (soas z.records) refl any
  where
    any : list_any (λ r. names_eq r.owner z.apex) (soas z.records) ≡ true
    any = any_kept (λ r. names_eq r.owner z.apex) is_soa z.records ∙ any_by _ (λ r. names_eq r.owner z.apex && r.rtype == type_soa) (λ r. turned (is_soa r) (names_eq r.owner z.apex)) z.records ∙ (conditions z.apex z.records h.valid).soa
      where
        turned : (a b : Bool) → (a && b) ≡ (b && a)
        turned true true = refl
        turned true false = refl
        turned false true = refl
        turned false false = refl

    alone : (b : Bool) → (b || false) ≡ true → b ≡ true
    alone true f = refl
    alone false f = f

    first : (ss : List Record) → soas z.records ≡ ss → list_any (λ r. names_eq r.owner z.apex) ss ≡ true → HasSoa z.apex z.records
    first [] e f = absurd cc
    first (s ∷ []) e f = record { soa = s; one = e; owner = names_same s.owner z.apex (alone _ f) }
    first (s ∷ t ∷ rest) e f =
        let few = (conditions z.apex z.records h.valid).one in
        let many : nat_lt 1 (length (soas z.records)) ≡ true = ap (λ (ys : List Record). nat_lt 1 (length ys)) e ∙ over (length rest) in absurd cc
      where
        over : (n : ℕ) → nat_lt 1 (suc (suc n)) ≡ true
        over n = grind (arith, nat_tests)

pub has_soa_at : (a b : Labels) (xs ys : List Record) → a ≡ b → xs ≡ ys → HasSoa a xs → HasSoa b ys
has_soa_at a b xs ys e f h = subst (λ (n : Labels). HasSoa n ys) e (subst (HasSoa a) f h)
