-- The change between two zones, and when there is none.
use Rattle.std.proofs.Common.{◌≡◌, ◌≤◌, ◌<◌, ◌^◌, Bool, true, false, not, ◌&&◌, ◌||◌, List, [], ◌∷◌, length, cond, refl, sym, ap, subst, ◌∙◌, arith}
use Rattle.std.specs.Prelude.{◌==◌, None}
use Rattle.std.proofs.lemmas.Bool.Decides.{nat_tests}
use Rattle.std.proofs.lemmas.List.Filters.{length-filter_both}
use Rattle.dns_names.specs.Name.{Labels}
use Rattle.dns_records.specs.Record.{Record}
use Rattle.dns_zone.specs.Order.{same_itself}
use Rattle.dns_zone.specs.Records.{contains, is_ordered, same}
use Rattle.dns_zone.specs.Zone.{soas, zone_fault}
use Rattle.dns_changes.specs.Applied.{change_is_one, change_leads}
use Rattle.dns_changes.specs.Change.{Change, IsChange, applied, is_lone, is_soa, only_in}

later : (b c : Bool) → c ≡ true → (b || c) ≡ true
later true c e = refl
later false c e = e

not_lone : (s : Bool) → (not s && not true) ≡ false
not_lone true = refl
not_lone false = refl

lone_none : (xs ys : List Record) → ((r : Record) → contains xs r ≡ true → contains ys r ≡ true) → only_in xs ys ≡ []
lone_none [] ys h = refl
lone_none (x ∷ xs) ys h =
    let there : contains ys x ≡ true = h x (ap (λ b. b || contains xs x) (same_itself x)) in
    let out : is_lone ys x ≡ false = ap (λ b. not (is_soa x) && not b) there ∙ not_lone (is_soa x) in
    ap (λ b. cond b (x ∷ only_in xs ys) (only_in xs ys)) out ∙ lone_none xs ys (λ r e. h r (later (same r x) (contains xs r) e))

none_in_itself : (xs : List Record) → only_in xs xs ≡ []
none_in_itself xs = lone_none xs xs (λ r e. e)

abbrev none_of : Record → Change
none_of soa = record { old_soa = soa; removed = []; new_soa = soa; added = [] }

-- The change from a version to itself.
itself : (xs : List Record) (s : Record) → soas xs ≡ s ∷ [] → IsChange xs xs (none_of s)
itself xs s e = record { old_soa = e; new_soa = e; removed = sym (none_in_itself xs); added = sym (none_in_itself xs) }

-- A change of nothing leads to the same records.
pub same_after : (before after : List Record) (c : Change) → is_ordered before ≡ true → is_ordered after ≡ true → IsChange before after c → c.removed ≡ [] → c.added ≡ [] → c.old_soa ≡ c.new_soa → after ≡ before
same_after before after c ob oa h r a s =
    let is : c ≡ none_of c.old_soa = λ i. record { old_soa = c.old_soa; removed = r i; new_soa = sym s i; added = a i } in
    sym (change_leads before after c ob oa h).result ∙ ap (λ (d : Change). applied d before) is ∙ (change_leads before before (none_of c.old_soa) ob ob (itself before c.old_soa h.old_soa)).result

pub record IsNothing (c : Change) : Type 0 where
  pub removed : c.removed ≡ []
  pub added : c.added ≡ []
  pub soa : c.old_soa ≡ c.new_soa

-- ... and the change to the same records is one of nothing.
pub nothing_changed : (before after : List Record) (c : Change) → IsChange before after c → after ≡ before → IsNothing c
nothing_changed before after c h e =
    let own : IsChange before before c = subst (λ (ys : List Record). IsChange before ys c) e h in
    let is : c ≡ none_of c.old_soa = change_is_one before before c (none_of c.old_soa) own (itself before c.old_soa own.old_soa) in
    record { removed = ap (λ (d : Change). d.removed) is; added = ap (λ (d : Change). d.added) is; soa = sym (ap (λ (d : Change). d.new_soa) is) }

-- A zone has few records.
pub zone_few : (apex : Labels) (records : List Record) → zone_fault apex records ≡ None → length records ≤ 65536
zone_few apex records valid = grind (arith, nat_tests, valid)

pub few_lone : (xs ys : List Record) → length xs ≤ 65536 → length (only_in xs ys) < 2 ^ 32
few_lone xs ys few = omega (arith, few, length-filter_both (is_lone ys) (λ r. not (is_lone ys r)) (λ r. refl) xs)

pub empty_is : (xs : List Record) → (length xs == 0) ≡ true → xs ≡ []
empty_is [] e = refl
empty_is (x ∷ xs) e = absurd (grind (arith, nat_tests))

pub not_empty : (xs : List Record) → (length xs == 0) ≡ false → xs ≡ [] → ⊥
not_empty xs e none = let is : (length xs == 0) ≡ true = ap (λ (ys : List Record). length ys == 0) none in absurd cc
