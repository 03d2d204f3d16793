-- A change that applies to a set is a sequence that leads from it.
use Rattle.std.proofs.Common.{◌≡◌, Bool, true, false, not, ◌||◌, List, [], ◌∷◌, Option, Some, None, refl, sym, subst, ◌∙◌}
use Rattle.std.specs.Prelude.{if◌then◌else◌}
use Rattle.std.specs.List.{list_any, list_all}
use Rattle.dns_records.specs.Record.{Record}
use Rattle.dns_zone.specs.Records.{put, without, has, contains, is_ordered, united}
use Rattle.dns_zone.specs.Zone.{has_twice}
use Rattle.dns_zone.specs.Order.{both_true}
use Rattle.dns_zone.specs.Sets.{Sorted, sorted_from, sorted_put, sorted_filter}
use Rattle.dns_changes.specs.Change.{Change, is_soa, is_formed, are_present, are_new, removed_from}
use Rattle.dns_changes.specs.Laws.{LeadsTo}
use Rattle.dns_changes.specs.declared.ChangeError.{ChangeError}
use Rattle.dns_changes.proofs.Formed.{form_parts}
use Rattle.dns_changes.proofs.Steps.{present_next, removed_next, removed_none, new_next, united_next}
use Rattle.dns_secondary.specs.Taken.{AreOthers, Removes, Adds, Applies}

is_false : (b : Bool) → not b ≡ true → b ≡ false
is_false true e = absurd cc
is_false false e = refl

is_true : (b : Bool) → not b ≡ false → b ≡ true
is_true true e = refl
is_true false e = absurd cc

either_false : (a b : Bool) → (a || b) ≡ false → (a ≡ false) × (b ≡ false)
either_false true b e = absurd cc
either_false false b e = (refl, e)

passes : (b : Bool) (e : ChangeError) (x : Option ChangeError) → (if b then Some e else x) ≡ None → (b ≡ false) × (x ≡ None)
passes true e x h = absurd cc
passes false e x h = (refl, h)

removes_of : (set gone : List Record) → Sorted set → are_present set gone ≡ true → Removes set gone (removed_from set gone)
removes_of set [] sorted h = removed_none set
removes_of set (r ∷ gone) sorted h =
    let all = (both_true (list_all (contains set) (r ∷ gone)) (not (has_twice (r ∷ gone))) h).0 in
    let there : contains set r ≡ true = (both_true (contains set r) (list_all (contains set) gone) all).0 in
    let more = removes_of (without r set) gone (sorted_filter _ set sorted) (sym (present_next set r gone there) ∙ h) in
    (there, subst (λ (left : List Record). Removes (without r set) gone left) (sym (removed_next set r gone sorted there)) more)

adds_of : (set come : List Record) → Sorted set → are_new set come ≡ true → Adds set come (united set come)
adds_of set [] sorted h = refl
adds_of set (r ∷ come) sorted h =
    let none = is_false (list_any (λ s. has s set) (r ∷ come)) (both_true (not (list_any (λ s. has s set) (r ∷ come))) (not (has_twice (r ∷ come))) h).0 in
    let free : has r set ≡ false = (either_false (has r set) (list_any (λ s. has s set) come) none).0 in
    let more = adds_of (put r set) come (sorted_put r set sorted) (sym (new_next set r come free) ∙ h) in
    (free, subst (λ (whole : List Record). Adds (put r set) come whole) (sym (united_next set r come sorted h)) more)

others_of : (rs : List Record) → list_any is_soa rs ≡ false → AreOthers rs
others_of [] e = tt
others_of (r ∷ rs) e = (let both = either_false (is_soa r) (list_any is_soa rs) e in (both.0, others_of rs both.1))

pub applies_of : (c : Change) (set result : List Record)
    → is_ordered set ≡ true
    → is_formed c ≡ true
    → LeadsTo c set result
    → Applies c set result
applies_of c set result ordered formed h =
    let sorted = sorted_from set ordered in
    let old = passes (not (contains set c.old_soa)) _ _ h.fits in
    let present = passes (not (are_present set (c.old_soa ∷ c.removed))) _ _ old.1 in
    let new = passes (not (are_new (removed_from set (c.old_soa ∷ c.removed)) (c.new_soa ∷ c.added))) _ _ present.1 in
    let left = removed_from set (c.old_soa ∷ c.removed) in
    let parts = form_parts c formed in
    let comes = adds_of left (c.new_soa ∷ c.added) (sorted_filter _ set sorted) (is_true _ new.0) in
    record {
      old_soa = parts.old_soa;
      new_soa = parts.new_soa;
      no_soas_go = others_of c.removed parts.gone;
      no_soas_come = others_of c.added parts.come;
      left = left;
      goes = removes_of set (c.old_soa ∷ c.removed) sorted (is_true _ present.0);
      comes = subst (λ (whole : List Record). Adds left (c.new_soa ∷ c.added) whole) h.result comes;
    }
