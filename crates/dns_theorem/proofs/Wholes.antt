-- The full form gives the version.
use Rattle.std.proofs.Common.{◌≡◌, ◌≢◌, Bool, true, false, not, ◌||◌, inl, inr, List, [], ◌∷◌, ◌++◌, Option, Some, None, refl, sym, ap, subst, ◌∙◌}
use Rattle.std.specs.Prelude.{◌&&◌, cond, is_some}
use Rattle.dns_names.specs.Name.{Labels, names_eq}
use Rattle.dns_records.specs.Record.{Record, record_cmp}
use Rattle.dns_zone.specs.Order.{same_itself, names_itself}
use Rattle.dns_zone.specs.Records.{has, put, contains}
use Rattle.dns_zone.specs.Sets.{ties, found, Sorted, sorted_from, true_or_false, same_sets, sorted_put, sorted_filter, only, found_filter, or_else, found_put, found_contains, found_tied, contains_found, not_found, below_tied, equal_is}
use Rattle.dns_zone.specs.Soa.{HasSoa}
use Rattle.dns_zone.specs.Zone.{IsZone, soas}
use Rattle.dns_zone.proofs.OneSoa.{is_one}
use Rattle.dns_changes.specs.Applied.{one_is, one_in, soa_tied, not_true}
use Rattle.dns_changes.specs.Change.{is_soa}
use Rattle.dns_changes.proofs.Steps.{has_is}
use Rattle.dns_transfer.specs.Records.{all_but_soa}
use Rattle.dns_secondary.specs.Taken.{AreOthers, Collects, IsSoaAt, IsWholeZone}

pub record IsJoined (set rs : List Record) : Type 0 where
  pub result : List Record
  pub read : Collects set rs result
  pub sorted : Sorted result
  pub each : (q : Record) → found q result ≡ or_else (found q set) (found q rs)

else_none : (x : Option Record) → x ≡ or_else x None
else_none None = refl
else_none (Some r) = refl

-- records in order, none of which ties with one of the set, are put in one by one
collected_all : (set rs : List Record) → Sorted set → Sorted rs → ((q : Record) → found q rs ≢ None → found q set ≡ None) → IsJoined set rs
collected_all set [] hs hr h = record { result = set; read = refl; sorted = hs; each = λ q. else_none (found q set) }
collected_all set (r ∷ rs) hs hr h =
    let itself : found r (r ∷ rs) ≡ Some r = contains_found r (r ∷ rs) hr (ap (λ b. b || contains rs r) (same_itself r)) in
    let free : found r set ≡ None = h r (λ e. absurd cc) in
    let one : has r set ≡ false = has_is r set ∙ ap is_some free in
    let apart_from : (q : Record) → found q rs ≢ None → ties q r ≡ false = λ q some. elim (true_or_false (ties q r)) [
      | inr f ↦ f
      | inl t ↦ absurd (some (not_found q rs (below_tied q r rs (equal_is (record_cmp q r) t) hr.0)))
    ] in
    let more = collected_all (put r set) rs (sorted_put r set hs) hr.1
    (λ q some. found_put q r set ∙ ap (λ b. cond b (Some r) (found q set)) (apart_from q some)
    ∙ h q (λ e. some (sym (ap (λ b. cond b (Some r) (found q rs)) (apart_from q some)) ∙ e))) in
    record {
      result = more.result;
      read = inl (one, more.read);
      sorted = more.sorted;
      each = λ q. more.each q ∙ ap (λ x. or_else x (found q rs)) (found_put q r set) ∙ elim (true_or_false (ties q r)) [
        | inl t ↦
            (let none : found q set ≡ None = h q (λ e. (let at : found q (r ∷ rs) ≡ Some r = ap (λ b. cond b (Some r) (found q rs)) t in absurd cc)) in
            ap (λ b. or_else (cond b (Some r) (found q set)) (found q rs)) t
            ∙ sym (ap (λ x. or_else x (cond (ties q r) (Some r) (found q rs))) none ∙ ap (λ b. cond b (Some r) (found q rs)) t))
        | inr t ↦ ap (λ b. or_else (cond b (Some r) (found q set)) (found q rs)) t ∙ sym (ap (λ b. or_else (found q set) (cond b (Some r) (found q rs))) t)
      ];
    }

abbrev is_other : Record → Bool
is_other r = not (is_soa r)

module _ (v : List Record) (soa : Record) (one : soas v ≡ soa ∷ []) (leading : is_soa soa ≡ true) (sorted : Sorted v) where
  only_other : (q : Record) (x : Option Record) → found q v ≡ x → only is_other x ≢ None → ties q soa ≡ false
  only_other q None e some = absurd (some refl)
  only_other q (Some b) e some = elim (true_or_false (ties q soa)) [
    | inr f ↦ f
    | inl t ↦ (let is = soa_tied q soa b t (found_contains q b v e).0 leading in absurd (some (ap (λ d. cond (not d) (Some b) None) is)))
  ]

  free : (q : Record) → found q (all_but_soa v) ≢ None → found q (soa ∷ []) ≡ None
  free q some = ap (λ b. cond b (Some soa) None) (only_other q (found q v) refl (λ e. some (found_filter q is_other v sorted ∙ e)))

  joined_at : (q : Record) (x : Option Record) → found q v ≡ x → or_else (found q (soa ∷ [])) (only is_other x) ≡ x
  joined_at q None e = elim (true_or_false (ties q soa)) [
    | inr t ↦ ap (λ b. or_else (cond b (Some soa) None) None) t
    | inl t ↦ (let at = found_tied q soa t v in let there = contains_found soa v sorted (one_in v soa one).1 in absurd cc)
  ]
  joined_at q (Some b) e = elim (true_or_false (is_soa b)) [
    | inl i ↦
        (let there = found_contains q b v e in
        let is = one_is v soa b one there.1 i in
        let t : ties q soa ≡ true = subst (λ r. ties q r ≡ true) is there.0 in
        ap (λ d. or_else (cond d (Some soa) None) (only is_other (Some b))) t ∙ ap (λ (r : Record). Some r) (sym is))
    | inr i ↦
        (let keeps : only is_other (Some b) ≡ Some b = ap (λ d. cond (not d) (Some b) None) i in
        let t : ties q soa ≡ false = only_other q (Some b) e (λ n. absurd cc) in
        ap (λ d. or_else (cond d (Some soa) None) (only is_other (Some b))) t ∙ keeps)
  ]

  pub whole : Collects (soa ∷ []) (all_but_soa v) v
  whole =
      let all = collected_all (soa ∷ []) (all_but_soa v) (tt, tt) (sorted_filter is_other v sorted) free in
      let is : all.result ≡ v = same_sets all.result v all.sorted sorted
      (λ q. all.each q ∙ ap (or_else (found q (soa ∷ []))) (found_filter q is_other v sorted) ∙ joined_at q (found q v) refl) in
      subst (λ (xs : List Record). Collects (soa ∷ []) (all_but_soa v) xs) is all.read

others_only : (xs : List Record) → AreOthers (all_but_soa xs)
others_only [] = tt
others_only (x ∷ xs) =
    elim (not (is_soa x)) as (λ b. not (is_soa x) ≡ b → AreOthers (cond b (x ∷ all_but_soa xs) (all_but_soa xs))) [
      | true ↦ λ e. (not_true (is_soa x) e, others_only xs)
      | false ↦ λ e. others_only xs
    ] refl

pub soa_at : (apex : Labels) (xs : List Record) (h : HasSoa apex xs) → IsSoaAt apex h.soa
soa_at apex xs h = λ i. is_one apex xs h i && owned i
  where
    owned : names_eq (h.soa).owner apex ≡ true
    owned = ap (λ n. names_eq n apex) h.owner ∙ names_itself apex

pub is_whole : (apex : Labels) (v : List Record) (h : HasSoa apex v) → IsZone (record { apex = apex; records = v }) → IsWholeZone apex (h.soa ∷ all_but_soa v ++ h.soa ∷ []) v
is_whole apex v h z = record {
  form = record {
    soa = h.soa;
    others = all_but_soa v;
    framed = refl;
    at_apex = soa_at apex v h;
    no_soas = others_only v;
    all = whole v h.soa h.one (is_one apex v h) (sorted_from v z.ordered);
  };
  valid = z;
}
