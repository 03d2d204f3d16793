-- A change that makes a version of another is the change between the two, where no record goes and comes.
use Rattle.std.proofs.Common.{◌≡◌, Bool, true, false, not, ◌&&◌, ◌||◌, inl, inr, List, [], ◌∷◌, Some, None, refl, sym, ap, subst, ◌∙◌}
use Rattle.std.specs.Prelude.{Option, cond, filter}
use Rattle.std.specs.List.{list_any, list_all}
use Rattle.dns_names.specs.Name.{Labels}
use Rattle.dns_records.specs.Record.{Record}
use Rattle.dns_zone.specs.Records.{contains, same, has}
use Rattle.dns_zone.specs.Zone.{IsZone, soas}
use Rattle.dns_zone.specs.Order.{both_true, same_is, same_itself}
use Rattle.dns_zone.specs.Sets.{Sorted, ties, found, only, or_else, true_or_false, either_true, sorted_from, sorted_filter, found_tied, found_filter, found_united, found_contains, contains_found, same_sets}
use Rattle.dns_zone.proofs.OneSoa.{past, untrue, zone_soa}
use Rattle.dns_zone.proofs.Alone.{later, refuted, of_all, of_none}
use Rattle.dns_changes.specs.Applied.{not_true, one_is, soa_tied}
use Rattle.dns_changes.specs.Change.{Change, IsChange, applied, are_new, are_present, change_fault, is_formed, is_lone, is_soa, removed_from}
use Rattle.dns_changes.proofs.Formed.{FormParts, form_parts}

found_none : (q : Record) (xs : List Record) → list_any (ties q) xs ≡ false → found q xs ≡ None
found_none q [] e = refl
found_none q (x ∷ xs) e = elim (true_or_false (ties q x)) [
  | inl t ↦ (let both : true ≡ false = sym (ap (λ b. b || list_any (ties q) xs) t) ∙ e in absurd cc)
  | inr t ↦ ap (λ b. cond b (Some x) (found q xs)) t ∙ found_none q xs (sym (ap (λ b. b || list_any (ties q) xs) t) ∙ e)
]

itself : (x : Record) → ties x x ≡ true
itself x = (found_contains x x (x ∷ []) (contains_found x (x ∷ []) (tt, tt) (ap (λ b. b || false) (same_itself x)))).0

lone_not : (a b : Bool) → b ≡ true → (not a && not b) ≡ false
lone_not true b e = refl
lone_not false b e = ap not e

module _ (before after : List Record) (c : Change) (hb : Sorted before) (ha : Sorted after) (old new : Record) (one_old : soas before ≡ old ∷ []) (one_new : soas after ≡ new ∷ [])
    (formed : is_formed c ≡ true) (fits : change_fault c before ≡ None) (makes : applied c before ≡ after) where
  abbrev stays : Record → Bool
  stays r = not (contains (c.old_soa ∷ c.removed) r)

  parts : FormParts c
  parts = form_parts c formed

  old_there : contains before c.old_soa ≡ true
  old_there = untrue (contains before c.old_soa) (past (not (contains before c.old_soa)) _ _ fits).0

  all_there : list_all (contains before) (c.old_soa ∷ c.removed) ≡ true
  all_there =
      let first = past (not (contains before c.old_soa)) _ _ fits in
      let second = past (not (are_present before (c.old_soa ∷ c.removed))) _ _ first.1 in
      (both_true (list_all (contains before) (c.old_soa ∷ c.removed)) _ (untrue (are_present before (c.old_soa ∷ c.removed)) second.0)).0

  none_has : list_any (λ r. has r (removed_from before (c.old_soa ∷ c.removed))) (c.new_soa ∷ c.added) ≡ false
  none_has =
      let first = past (not (contains before c.old_soa)) _ _ fits in
      let second = past (not (are_present before (c.old_soa ∷ c.removed))) _ _ first.1 in
      let third = past (not (are_new (removed_from before (c.old_soa ∷ c.removed)) (c.new_soa ∷ c.added))) _ _ second.1 in
      let fresh = untrue (are_new (removed_from before (c.old_soa ∷ c.removed)) (c.new_soa ∷ c.added)) third.0 in
      not_true (list_any (λ r. has r (removed_from before (c.old_soa ∷ c.removed))) (c.new_soa ∷ c.added))
      (both_true (not (list_any (λ r. has r (removed_from before (c.old_soa ∷ c.removed))) (c.new_soa ∷ c.added))) _ fresh).0

  there : (r : Record) → contains c.removed r ≡ true → contains before r ≡ true
  there r e = of_all (contains before) (c.old_soa ∷ c.removed) all_there r (later (same r c.old_soa) (contains c.removed r) e)

  plain_gone : (r : Record) → contains c.removed r ≡ true → is_soa r ≡ false
  plain_gone r e = of_none is_soa c.removed parts.gone r e

  plain_come : (r : Record) → contains c.added r ≡ true → is_soa r ≡ false
  plain_come r e = of_none is_soa c.added parts.come r e

  not_gone : (r : Record) → contains c.added r ≡ true → contains c.removed r ≡ false
  not_gone r e = of_none (contains c.removed) c.added parts.apart r e

  unfound_left : (b : Record) → contains (c.new_soa ∷ c.added) b ≡ true → found b (removed_from before (c.old_soa ∷ c.removed)) ≡ None
  unfound_left b e = found_none b (removed_from before (c.old_soa ∷ c.removed)) (of_none (λ r. has r (removed_from before (c.old_soa ∷ c.removed))) (c.new_soa ∷ c.added) none_has b e)

  by_parts : (q : Record) → found q after ≡ or_else (found q (c.new_soa ∷ c.added)) (found q (removed_from before (c.old_soa ∷ c.removed)))
  by_parts q = ap (found q) (sym makes) ∙ found_united q (removed_from before (c.old_soa ∷ c.removed)) (c.new_soa ∷ c.added)

  -- what comes is there
  came : (q b : Record) → ties q b ≡ true → contains c.added b ≡ true → found q after ≡ Some b
  came q b t e =
      let self = contains_found b c.added parts.added e in
      let mine = (found_contains b b c.added self).0 in
      let other : ties b c.new_soa ≡ false = elim (true_or_false (ties b c.new_soa)) [
        | inr f ↦ f
        | inl s ↦ refuted (is_soa b) (soa_tied b c.new_soa b s mine parts.new_soa) (plain_come b e)
      ] in
      found_tied q b t after ∙ by_parts b
      ∙ ap (λ d. or_else (cond d (Some c.new_soa) (found b c.added)) (found b (removed_from before (c.old_soa ∷ c.removed)))) other
      ∙ ap (λ x. or_else x (found b (removed_from before (c.old_soa ∷ c.removed)))) self

  new_there : contains after c.new_soa ≡ true
  new_there =
      let at : found c.new_soa after ≡ Some c.new_soa =
      by_parts c.new_soa ∙ ap (λ d. or_else (cond d (Some c.new_soa) (found c.new_soa c.added)) (found c.new_soa (removed_from before (c.old_soa ∷ c.removed)))) (itself c.new_soa) in
      (found_contains c.new_soa c.new_soa after at).1

  -- what isn't removed stays
  stays_so : (a : Record) → is_soa a ≡ false → contains c.removed a ≡ false → stays a ≡ true
  stays_so a i e = elim (true_or_false (same a c.old_soa)) [
    | inr f ↦ (λ j. not (f j || e j))
    | inl s ↦ refuted (is_soa a) (subst (λ r. is_soa r ≡ true) (sym (same_is a c.old_soa s)) parts.old_soa) i
  ]

  kept_left : (a : Record) → contains before a ≡ true → is_soa a ≡ false → contains c.removed a ≡ false → found a (removed_from before (c.old_soa ∷ c.removed)) ≡ Some a
  kept_left a e i g = found_filter a stays before hb ∙ ap (only stays) (contains_found a before hb e) ∙ ap (λ d. cond d (Some a) None) (stays_so a i g)

  none_comes : (a : Record) → found a (removed_from before (c.old_soa ∷ c.removed)) ≡ Some a → (x : Option Record) → found a (c.new_soa ∷ c.added) ≡ x → x ≡ None
  none_comes a is None e = refl
  none_comes a is (Some b) e =
      let both = found_contains a b (c.new_soa ∷ c.added) e in
      let none : Some a ≡ None = sym is ∙ found_tied a b both.0 (removed_from before (c.old_soa ∷ c.removed)) ∙ unfound_left b both.1 in absurd cc

  kept_after : (a : Record) → contains before a ≡ true → is_soa a ≡ false → contains c.removed a ≡ false → contains after a ≡ true
  kept_after a e i g =
      let is = kept_left a e i g in
      let none = none_comes a is (found a (c.new_soa ∷ c.added)) refl in
      let at : found a after ≡ Some a = by_parts a ∙ ap (λ x. or_else x (found a (removed_from before (c.old_soa ∷ c.removed)))) none ∙ is in
      (found_contains a a after at).1

  -- what is removed isn't there
  gone_found : (a : Record) → contains c.removed a ≡ true → found a after ≡ Some a → (x : Option Record) → found a (c.new_soa ∷ c.added) ≡ x → ⊥
  gone_found a e at None f =
      let went : stays a ≡ false = ap not (later (same a c.old_soa) (contains c.removed a) e) in
      let none : found a (removed_from before (c.old_soa ∷ c.removed)) ≡ None = found_filter a stays before hb ∙ ap (only stays) (contains_found a before hb (there a e)) ∙ ap (λ d. cond d (Some a) None) went in
      let nothing : Some a ≡ None = sym at ∙ by_parts a ∙ ap (λ x. or_else x (found a (removed_from before (c.old_soa ∷ c.removed)))) f ∙ none in absurd cc
  gone_found a e at (Some b) f =
      let both = found_contains a b (c.new_soa ∷ c.added) f in
      let first : Some b ≡ Some a = sym (by_parts a ∙ ap (λ x. or_else x (found a (removed_from before (c.old_soa ∷ c.removed)))) f) ∙ at in
      let is : b ≡ a = cc in
      let comes = subst (λ r. contains (c.new_soa ∷ c.added) r ≡ true) is both.1 in
      elim (either_true (same a c.new_soa) (contains c.added a) comes) [
        | inl s ↦ refuted (is_soa a) (subst (λ r. is_soa r ≡ true) (sym (same_is a c.new_soa s)) parts.new_soa) (plain_gone a e)
        | inr s ↦ refuted (contains c.removed a) e (not_gone a s)
      ]

  gone_after : (a : Record) → contains c.removed a ≡ true → contains after a ≡ false
  gone_after a e = elim (true_or_false (contains after a)) [
    | inr f ↦ f
    | inl t ↦ absurd (gone_found a e (contains_found a after ha t) (found a (c.new_soa ∷ c.added)) refl)
  ]

  not_lone : (a : Record) → contains before a ≡ true → contains c.removed a ≡ false → is_lone after a ≡ false
  not_lone a e g = elim (true_or_false (is_soa a)) [
    | inl i ↦ ap (λ d. not d && not (contains after a)) i
    | inr i ↦ lone_not (is_soa a) (contains after a) (kept_after a e i g)
  ]

  removed_at : (q : Record) (x y : Option Record) → found q c.removed ≡ x → found q before ≡ y → x ≡ only (is_lone after) y
  removed_at q None None e f = refl
  removed_at q None (Some a) e f =
      let both = found_contains q a before f in
      let kept : contains c.removed a ≡ false = elim (true_or_false (contains c.removed a)) [
        | inr g ↦ g
        | inl g ↦ (let at : found q c.removed ≡ Some a = found_tied q a both.0 c.removed ∙ contains_found a c.removed parts.removed g in absurd cc)
      ] in
      sym (ap (λ d. cond d (Some a) None) (not_lone a both.1 kept))
  removed_at q (Some a) y e f =
      let both = found_contains q a c.removed e in
      let is : y ≡ Some a = sym f ∙ found_tied q a both.0 before ∙ contains_found a before hb (there a both.1) in
      let plain = plain_gone a both.1 in
      let absent = gone_after a both.1 in
      let lone : is_lone after a ≡ true = λ j. not (plain j) && not (absent j) in
      sym (ap (only (is_lone after)) is ∙ ap (λ d. cond d (Some a) None) lone)

  from_before : (q b : Record) (y : Option Record) → found q before ≡ y → only stays y ≡ Some b → contains before b ≡ true
  from_before q b None e f = absurd cc
  from_before q b (Some a) e f = elim (true_or_false (stays a)) [
    | inl t ↦
        (let at : Some a ≡ Some b = sym (ap (λ d. cond d (Some a) None) t) ∙ f in
        let is : a ≡ b = cc in
        subst (λ r. contains before r ≡ true) is (found_contains q a before e).1)
    | inr t ↦ (let at : Some b ≡ None = sym f ∙ ap (λ d. cond d (Some a) None) t in absurd cc)
  ]

  came_from : (q b : Record) → found q c.added ≡ None → found q after ≡ Some b → is_lone before b ≡ false
  came_from q b e f = elim (true_or_false (ties q c.new_soa)) [
    | inl t ↦
        (let at : found q after ≡ Some c.new_soa = by_parts q ∙ ap (λ d. or_else (cond d (Some c.new_soa) (found q c.added)) (found q (removed_from before (c.old_soa ∷ c.removed)))) t in
        let is : b ≡ c.new_soa = cc in
        ap (λ d. not d && not (contains before b)) (subst (λ r. is_soa r ≡ true) (sym is) parts.new_soa))
    | inr t ↦
        (let at : found q after ≡ only stays (found q before) =
        by_parts q ∙ (λ j. or_else (cond (t j) (Some c.new_soa) (e j)) (found q (removed_from before (c.old_soa ∷ c.removed)))) ∙ found_filter q stays before hb in
        lone_not (is_soa b) (contains before b) (from_before q b (found q before) refl (sym at ∙ f)))
  ]

  added_at : (q : Record) (x y : Option Record) → found q c.added ≡ x → found q after ≡ y → x ≡ only (is_lone before) y
  added_at q None None e f = refl
  added_at q None (Some b) e f = sym (ap (λ d. cond d (Some b) None) (came_from q b e f))
  added_at q (Some b) y e f =
      let both = found_contains q b c.added e in
      let is : y ≡ Some b = sym f ∙ came q b both.0 both.1 in
      let plain = plain_come b both.1 in
      let absent : contains before b ≡ false = elim (true_or_false (contains before b)) [
        | inr g ↦ g
        | inl g ↦ (let one = kept_left b g plain (not_gone b both.1) in let two = unfound_left b (later (same b c.new_soa) (contains c.added b) both.1) in absurd cc)
      ] in
      let lone : is_lone before b ≡ true = λ j. not (plain j) && not (absent j) in
      sym (ap (only (is_lone before)) is ∙ ap (λ d. cond d (Some b) None) lone)

  is_change : IsChange before after c
  is_change = record {
    old_soa = one_old ∙ ap (λ (r : Record). r ∷ []) (sym (one_is before old c.old_soa one_old old_there parts.old_soa));
    new_soa = one_new ∙ ap (λ (r : Record). r ∷ []) (sym (one_is after new c.new_soa one_new new_there parts.new_soa));
    removed = same_sets c.removed (filter (is_lone after) before) parts.removed (sorted_filter (is_lone after) before hb)
        (λ q. removed_at q (found q c.removed) (found q before) refl refl ∙ sym (found_filter q (is_lone after) before hb));
    added = same_sets c.added (filter (is_lone before) after) parts.added (sorted_filter (is_lone before) after ha)
        (λ q. added_at q (found q c.added) (found q after) refl refl ∙ sym (found_filter q (is_lone before) after ha));
  }

pub made_is : (apex : Labels) (before after : List Record) (c : Change)
    → IsZone (record { apex = apex; records = before }) → IsZone (record { apex = apex; records = after })
    → is_formed c ≡ true → change_fault c before ≡ None → applied c before ≡ after → IsChange before after c
made_is apex before after c valid next formed fits makes =
    let one = zone_soa (record { apex = apex; records = before }) valid in
    let two = zone_soa (record { apex = apex; records = after }) next in
    is_change before after c (sorted_from before valid.ordered) (sorted_from after next.ordered) one.soa two.soa one.one two.one formed fits makes
