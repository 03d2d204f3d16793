-- What holds of the set with one record put in or taken out.
use Rattle.std.proofs.Common.{◌≡◌, true, List, refl, sym, ap, subst, ◌∙◌, reverse}
use Rattle.std.specs.Prelude.{Result, Ok, Err, OnOk, OnErr}
use Rattle.std.specs.List.{AllByRecursion}
use Rattle.std.proofs.Math.Logic.{∥∥₁_map}
use Rattle.dns_names.specs.Name.{Labels}
use Rattle.dns_records.specs.Record.{Record, IsRecord}
use Rattle.dns_zone.specs.Records.{is_ordered, are_of, put, without, others, records_at, united}
use Rattle.dns_zone.specs.Sets.{sorted_from}
use Rattle.dns_zone.proofs.Replaced.{all_from, united_parted, replaced_ordered, replaced_valid}
use Rattle.dns_zone.proofs.Listed.{put_ordered, put_valid, without_ordered, without_valid}
use Rattle.dns_zoneindex.specs.Entries.{PathRecord}
use Rattle.dns_zoneindex.specs.Owned.{path_records, are_owned}
use Rattle.dns_zoneindex.specs.Setting.{set_at}
use Rattle.dns_zoneindex.proofs.Owned.{owned_from, owned_test, set_owned, set_records, set_put, set_without, all_at, all_put, all_without}

pub record Follows (es : List PathRecord) (xs : List Record) : Type 0 where
  pub at_owner : are_owned es ≡ true
  pub in_order : is_ordered (path_records es) ≡ true
  pub valid : ∥ AllByRecursion IsRecord (path_records es) ∥₁
  pub is : path_records es ≡ xs

put_in : (r : Record) (es : List PathRecord) → are_owned es ≡ true → is_ordered (path_records es) ≡ true → ∥ AllByRecursion IsRecord (path_records es) ∥₁ → IsRecord r
    → Follows (set_at (reverse r.owner) (put r (records_at (path_records es) r.owner)) es) (put r (path_records es))
put_in r es at_owner order valid one =
    let h = owned_from es at_owner in
    let s = sorted_from (path_records es) order in
    let rs = put r (records_at (path_records es) r.owner) in
    let new = set_at (reverse r.owner) rs es in
    let is : path_records new ≡ put r (path_records es) = set_put r es h s in
    record {
      at_owner = owned_test new (set_owned r.owner rs es h s (all_put r.owner r (records_at (path_records es) r.owner) refl (all_at r.owner (path_records es))));
      in_order = subst (λ (x : List Record). is_ordered x ≡ true) (sym is) (put_ordered r (path_records es) order);
      valid = ∥∥₁_map valid (λ v. subst (AllByRecursion IsRecord) (sym is) (put_valid r (path_records es) one v));
      is = is;
    }

taken_out : (r : Record) (es : List PathRecord) → are_owned es ≡ true → is_ordered (path_records es) ≡ true → ∥ AllByRecursion IsRecord (path_records es) ∥₁
    → Follows (set_at (reverse r.owner) (without r (records_at (path_records es) r.owner)) es) (without r (path_records es))
taken_out r es at_owner order valid =
    let h = owned_from es at_owner in
    let s = sorted_from (path_records es) order in
    let rs = without r (records_at (path_records es) r.owner) in
    let new = set_at (reverse r.owner) rs es in
    let is : path_records new ≡ without r (path_records es) = set_without r es h s in
    record {
      at_owner = owned_test new (set_owned r.owner rs es h s (all_without r.owner r (records_at (path_records es) r.owner) (all_at r.owner (path_records es))));
      in_order = subst (λ (x : List Record). is_ordered x ≡ true) (sym is) (without_ordered r (path_records es) order);
      valid = ∥∥₁_map valid (λ v. subst (AllByRecursion IsRecord) (sym is) (without_valid r (path_records es) v));
      is = is;
    }

-- the name is that of the record, and its records are those that it owns
pub put_follows : (r : Record) (asked written : Labels) (es : List PathRecord) (held rs : List Record) → are_owned es ≡ true → is_ordered (path_records es) ≡ true → ∥ AllByRecursion IsRecord (path_records es) ∥₁ → IsRecord r
    → asked ≡ r.owner → written ≡ r.owner → held ≡ records_at (path_records es) asked → rs ≡ put r held → Follows (set_at (reverse written) rs es) (put r (path_records es))
put_follows r asked written es held rs at_owner order valid one a w h p =
    let is : rs ≡ put r (records_at (path_records es) r.owner) = p ∙ ap (put r) (h ∙ ap (records_at (path_records es)) a) in
    subst (λ (x : List PathRecord). Follows x (put r (path_records es))) (λ i. set_at (reverse (sym w i)) (sym is i) es) (put_in r es at_owner order valid one)

pub without_follows : (r : Record) (asked : Labels) (es : List PathRecord) (held rs : List Record) → are_owned es ≡ true → is_ordered (path_records es) ≡ true → ∥ AllByRecursion IsRecord (path_records es) ∥₁
    → asked ≡ r.owner → held ≡ records_at (path_records es) asked → rs ≡ without r held → Follows (set_at (reverse asked) rs es) (without r (path_records es))
without_follows r asked es held rs at_owner order valid a h p =
    let is : rs ≡ without r (records_at (path_records es) r.owner) = p ∙ ap (without r) (h ∙ ap (records_at (path_records es)) a) in
    subst (λ (x : List PathRecord). Follows x (without r (path_records es))) (λ i. set_at (reverse (sym a i)) (sym is i) es) (taken_out r es at_owner order valid)

-- other records of a name in place of those that it had
pub replaced : (name : Labels) (rs : List Record) (es : List PathRecord) → are_owned es ≡ true → is_ordered (path_records es) ≡ true → ∥ AllByRecursion IsRecord (path_records es) ∥₁
    → is_ordered rs ≡ true → are_of name rs ≡ true → AllByRecursion IsRecord rs → Follows (set_at (reverse name) rs es) (united (others (path_records es) name) rs)
replaced name rs es at_owner order valid o a each =
    let h = owned_from es at_owner in
    let s = sorted_from (path_records es) order in
    let all = all_from name rs a in
    let new = set_at (reverse name) rs es in
    let is : path_records new ≡ united (others (path_records es) name) rs = set_records name rs es h s ∙ sym (united_parted name (path_records es) rs s (sorted_from rs o) all) in
    record {
      at_owner = owned_test new (set_owned name rs es h s all);
      in_order = subst (λ (x : List Record). is_ordered x ≡ true) (sym is) (replaced_ordered name (path_records es) rs order);
      valid = ∥∥₁_map valid (λ v. subst (AllByRecursion IsRecord) (sym is) (replaced_valid name (path_records es) rs v each));
      is = is;
    }

-- what holds of the new tree and of the old one holds after the call
pub either : {T E : Type 0} (P : List PathRecord → Type 0) (r : Result T E) (new there es : List PathRecord) → OnOk r (new ≡ there) → OnErr r (new ≡ es) → P there → P es → P new
either P (Ok t) new there es a b f g = subst P (sym a) f
either P (Err e) new there es a b f g = subst P (sym b) g

pub on_ok : {T E : Type 0} (r : Result T E) (new there : List PathRecord) (xs : List Record) → OnOk r (new ≡ there) → path_records there ≡ xs → OnOk r (path_records new ≡ xs)
on_ok (Ok t) new there xs a f = ap path_records a ∙ f
on_ok (Err e) new there xs a f = a
