use Rattle.std.proofs.Common.{◌≡◌, rules, map, List, sym, ap, subst, ◌∙◌, IsPermutation}
use Rattle.std.specs.List.{All}
use Rattle.std.specs.List.Sorted.{IsSorted}
use Rattle.std.specs.Ordering.{is_lt}
use Rattle.std.proofs.lemmas.Fn.{always_returns_same}
use Rattle.std.proofs.lemmas.List.Sorted.{IsPermutation-map, All-permutation}
use Rattle.dns_records.specs.Record.{Record, record_cmp}
use Rattle.dns_zone.specs.SortKey.{HasSortKey, keyed_cmp}
use Rattle.dns_zone.specs.declared.sorting.Keyed.{Keyed}
use Rattle.dns_zone.proofs.SortKeys.{keyed_strict, sorted_by_keys}
use Rattle.dns_zone.proofs.sorting.sort.Goals as goal

pub returns-clause-sorted : goal.returns-clause-sorted
returns-clause-sorted c =
    let before = c.in_ok-keyed.keyed.items in
    let after = c.sort_unstable_by.new.self.items in
    let keys : All (HasSortKey c.args.apex.now) after =
    All-permutation (HasSortKey c.args.apex.now) before after c.sort_unstable_by.ensures.permutation c.in_ok-keyed.ensures.keys in
    let up =
    c.sort_unstable_by.ensures.sorted (λ x y. is_lt (keyed_cmp x y)) keyed_strict (always_returns_same _ _ _ (λ a r f' k. search rules)) in
    let is : c.in_ok-records.field-0.items ≡ map (λ (k : Keyed). k.value) after =
    c.in_ok-records.ensures ∙ ap (λ (x : List Keyed). map (λ (k : Keyed). k.value) x) c.deref-2.ensures.value in
    subst (λ (x : List Record). IsSorted record_cmp x) (sym is) (sorted_by_keys c.args.apex.now after keys up)

pub returns-clause-same : goal.returns-clause-same
returns-clause-same c =
    let before = c.in_ok-keyed.keyed.items in
    let after = c.sort_unstable_by.new.self.items in
    let is : c.in_ok-records.field-0.items ≡ map (λ (k : Keyed). k.value) after =
    c.in_ok-records.ensures ∙ ap (λ (x : List Keyed). map (λ (k : Keyed). k.value) x) c.deref-2.ensures.value in
    let was : map (λ (k : Keyed). k.value) before ≡ c.args.records.now.items = c.in_ok-keyed.ensures.values ∙ c.deref.ensures.value in
    let moved = IsPermutation-map (λ (k : Keyed). k.value) before after c.sort_unstable_by.ensures.permutation in
    subst (λ (x : List Record). IsPermutation c.args.records.now.items x) (sym is)
    (subst (λ (x : List Record). IsPermutation x (map (λ (k : Keyed). k.value) after)) was moved)
