-- The form of a change, part by part; and the change between two sets has it.
use Rattle.std.proofs.Common.{◌≡◌, Bool, true, false, not, ◌&&◌, ◌||◌, List, [], ◌∷◌, refl, ap, ◌∙◌, cond}
use Rattle.std.specs.Prelude.{filter}
use Rattle.std.specs.List.{list_any}
use Rattle.dns_records.specs.Record.{Record}
use Rattle.dns_zone.specs.Records.{is_ordered, contains}
use Rattle.dns_zone.specs.Zone.{soas}
use Rattle.dns_zone.specs.Order.{both_true}
use Rattle.dns_zone.specs.Sets.{Sorted, sorted_from, sorted_filter, filter_contains}
use Rattle.dns_zone.proofs.Alone.{none_of, refuted}
use Rattle.dns_zone.proofs.Listed.{ordered_from}
use Rattle.dns_changes.specs.Applied.{not_true, one_in}
use Rattle.dns_changes.specs.Change.{Change, is_formed, is_lone, is_soa, only_in}

-- ---- part by part
pub record FormParts (c : Change) : Type 0 where
  pub old_soa : is_soa c.old_soa ≡ true
  pub new_soa : is_soa c.new_soa ≡ true
  pub gone : list_any is_soa c.removed ≡ false
  pub come : list_any is_soa c.added ≡ false
  pub removed : Sorted c.removed
  pub added : Sorted c.added
  pub apart : list_any (contains c.removed) c.added ≡ false

pub form_parts : (c : Change) → is_formed c ≡ true → FormParts c
form_parts c formed =
    let old = is_soa c.old_soa in
    let new = is_soa c.new_soa in
    let gone = not (list_any is_soa c.removed) in
    let come = not (list_any is_soa c.added) in
    let none = not (list_any (contains c.removed) c.added) in
    let six = both_true (old && new && gone && come && is_ordered c.removed && is_ordered c.added) none formed in
    let five = both_true (old && new && gone && come && is_ordered c.removed) (is_ordered c.added) six.0 in
    let four = both_true (old && new && gone && come) (is_ordered c.removed) five.0 in
    let three = both_true (old && new && gone) come four.0 in
    let two = both_true (old && new) gone three.0 in
    let one = both_true old new two.0 in
    record {
      old_soa = one.0;
      new_soa = one.1;
      gone = not_true (list_any is_soa c.removed) two.1;
      come = not_true (list_any is_soa c.added) three.1;
      removed = sorted_from c.removed four.1;
      added = sorted_from c.added five.1;
      apart = not_true (list_any (contains c.removed) c.added) six.1;
    }

-- ---- the change between two sets

one_lone : (others : List Record) (x : Record) (xs : List Record) (b d : Bool) → is_soa x ≡ b → list_any is_soa (filter (is_lone others) xs) ≡ false
    → list_any is_soa (cond (not b && d) (x ∷ filter (is_lone others) xs) (filter (is_lone others) xs)) ≡ false
one_lone others x xs true d e rest = rest
one_lone others x xs false true e rest = (λ i. e i || rest i)
one_lone others x xs false false e rest = rest

none_lone : (others xs : List Record) → list_any is_soa (only_in xs others) ≡ false
none_lone others [] = refl
none_lone others (x ∷ xs) = one_lone others x xs (is_soa x) (not (contains others x)) refl (none_lone others xs)

rise_lone : (others xs : List Record) → is_ordered xs ≡ true → is_ordered (only_in xs others) ≡ true
rise_lone others xs h = ordered_from (only_in xs others) (sorted_filter (is_lone others) xs (sorted_from xs h))

-- what comes is in the set after, and what goes is not
goes_not : (before after : List Record) (r : Record) → contains (only_in after before) r ≡ true → contains (only_in before after) r ≡ false
goes_not before after r comes = by_cases (contains (only_in before after) r) refl
  where
    there : contains after r ≡ true
    there = (filter_contains r (is_lone before) after comes).1

    by_cases : (b : Bool) → contains (only_in before after) r ≡ b → b ≡ false
    by_cases false e = refl
    by_cases true e =
        let lone = (filter_contains r (is_lone after) before e).0 in
        let out = (both_true (not (is_soa r)) (not (contains after r)) lone).1 in
        refuted (contains after r) there (not_true (contains after r) out)

apart : (before after : List Record) → list_any (contains (only_in before after)) (only_in after before) ≡ false
apart before after = none_of (contains (only_in before after)) (only_in after before) (goes_not before after)

pub formed : (before after : List Record) (old new : Record) (removed added : List Record) → is_ordered before ≡ true → is_ordered after ≡ true → soas before ≡ old ∷ [] → soas after ≡ new ∷ []
    → removed ≡ only_in before after → added ≡ only_in after before → is_formed (record { old_soa = old; removed = removed; new_soa = new; added = added }) ≡ true
formed before after old new removed added h k e f r s = λ i.
    (one_in before old e).0 i && (one_in after new f).0 i && not (no_soa before after removed r i) && not (no_soa after before added s i) && rises before after removed h r i && rises after before added k s i
    && not (none_both i)
  where
    no_soa : (xs others rs : List Record) → rs ≡ only_in xs others → list_any is_soa rs ≡ false
    no_soa xs others rs e' = ap (list_any is_soa) e' ∙ none_lone others xs

    rises : (xs others rs : List Record) → is_ordered xs ≡ true → rs ≡ only_in xs others → is_ordered rs ≡ true
    rises xs others rs o e' = ap is_ordered e' ∙ rise_lone others xs o

    none_both : list_any (contains removed) added ≡ false
    none_both = ap (λ (rs : List Record). list_any (contains rs) added) r ∙ ap (list_any (contains (only_in before after))) s ∙ apart before after
