-- Records put in until there are too many, and hosts whose addresses are there.
use Rattle.std.proofs.Common.{◌≡◌, ◌⊎◌, inl, inr, ℕ, zero, suc, ◌<◌, ◌≤◌, Bool, true, false, ◌||◌, List, [], ◌∷◌, ◌++◌, length, take, drop, refl, sym, ap, subst, ◌∙◌, arith, append_assoc}
use Rattle.std.specs.Prelude.{Option, Some, None, is_some, not, ◌&&◌, ◌==◌}
use Rattle.std.proofs.lemmas.Bool.Decides.{nat_tests}
use Rattle.std.specs.List.{list_any, flat_map}
use Rattle.std.proofs.lemmas.Grind.{flat_map-append}
use Rattle.std.proofs.lemmas.List.{append-nil, drop_all, length-append, map-append, take-append-drop}
use Rattle.std.proofs.lemmas.List.Folds.{list_any-append}
use Rattle.dns_names.specs.Name.{Labels, names_eq}
use Rattle.dns_records.specs.Record.{Record, host_of}
use Rattle.dns_records.specs.Types.{type_a, type_aaaa}
use Rattle.dns_zone.specs.Order.{both_true, names_same, same_is, same_itself}
use Rattle.dns_zone.specs.Sets.{contains_found, either_true, filter_contains, not_found, sorted_filter, sorted_from, Sorted}
use Rattle.dns_zone.specs.Records.{is_ordered, same, rrset}
use Rattle.dns_zone.specs.Zone.{Zone}
use Rattle.dns_lookup.specs.Lookup.{Found}
use Rattle.dns_answer.specs.Sections.{Shown, additional_of, addresses_for, answer_of, authority_of, from_zone, records_of, unseen}
use Rattle.dns_answer.specs.Added.{AddsUnseen, AddsUpTo, AreSectionsUpTo, record_count}
use Rattle.dns_answer.specs.Known.{all_stand, is_address, none_stands, stood, AreHosts, AreKnown, AreOwners, HasNoAddressOf}
use Rattle.dns_answer.specs.declared.sections.Sections.{Sections}
use Rattle.dns_answer.proofs.Adding.{adds_none, adds_then, chosen, gathered, moved, no_host, opened, unseen_append}

-- no record goes
pub count_rises : (a b : Sections) (xs : List Record) → AddsUnseen a b xs → record_count a ≤ record_count b
count_rises a b xs h =
    let u = unseen (stood a) xs in
    omega (arith, ap length h.answer, ap length h.authority, ap length h.additional, length-append a.additional.items u)

pub up_to_none : (most : ℕ) (s : Sections) → AddsUpTo most s s []
up_to_none most s = record { first = []; rest = []; split = refl; added = adds_none s; stopped = inl refl; idle = λ h. refl }

-- all, where there were not more
pub up_to_all : (most : ℕ) (a b : Sections) (xs : List Record) → (most < record_count a → ⊥) → AddsUnseen a b xs → AddsUpTo most a b xs
up_to_all most a b xs room h = record { first = xs; rest = []; split = sym (append-nil xs); added = h; stopped = inl refl; idle = λ over. absurd (room over) }

-- what is left out after too many
pub up_to_more : (most : ℕ) (a b : Sections) (xs ys : List Record) → most < record_count b → AddsUpTo most a b xs → AddsUpTo most a b (xs ++ ys)
up_to_more most a b xs ys over h = record {
  first = h.first;
  rest = h.rest ++ ys;
  split = ap (λ (zs : List Record). zs ++ ys) h.split ∙ append_assoc h.first h.rest ys;
  added = h.added;
  stopped = inr over;
  idle = h.idle;
}

-- one step after another
pub up_to_then : (most : ℕ) (a b c : Sections) (xs ys : List Record) → AddsUpTo most a b xs → AddsUpTo most b c ys → AddsUpTo most a c (xs ++ ys)
up_to_then most a b c xs ys one two = elim one.stopped [ inl none ↦ goes_on none | inr over ↦ stops over ]
  where
    goes_on : one.rest ≡ [] → AddsUpTo most a c (xs ++ ys)
    goes_on none =
        let whole : xs ≡ one.first = one.split ∙ ap (λ (zs : List Record). one.first ++ zs) none ∙ append-nil one.first in
        record {
          first = one.first ++ two.first;
          rest = two.rest;
          split = (λ i. whole i ++ two.split i) ∙ sym (append_assoc one.first two.first two.rest);
          added = adds_then a b c one.first two.first one.added two.added;
          stopped = two.stopped;
          idle = λ over. (let later : most < record_count b = omega (arith, count_rises a b one.first one.added, over) in λ i. one.idle over i ++ two.idle later i);
        }

    stops : most < record_count b → AddsUpTo most a c (xs ++ ys)
    stops over =
        let nothing : AddsUnseen b c [] = subst (λ (zs : List Record). AddsUnseen b c zs) (two.idle over) two.added in
        record {
          first = one.first;
          rest = one.rest ++ ys;
          split = ap (λ (zs : List Record). zs ++ ys) one.split ∙ append_assoc one.first one.rest ys;
          added = subst (λ (zs : List Record). AddsUnseen a c zs) (append-nil one.first) (adds_then a b c one.first [] one.added nothing);
          stopped = inr (omega (arith, count_rises b c [] nothing, over));
          idle = one.idle;
        }

-- records that are there
or_left : (b c : Bool) → b ≡ true → (b || c) ≡ true
or_left b c e = ap (λ (x : Bool). x || c) e

any_more : (q : Record) (s t : List Record) → list_any (same q) s ≡ true → list_any (same q) (s ++ t) ≡ true
any_more q s t e = list_any-append (same q) s t ∙ or_left (list_any (same q) s) (list_any (same q) t) e

stand_more : (s t xs : List Record) → all_stand s xs ≡ true → all_stand (s ++ t) xs ≡ true
stand_more s t [] e = refl
stand_more s t (r ∷ xs) e =
    let both = both_true (list_any (same r) s) (all_stand s xs) e in
    λ i. any_more r s t both.0 i && stand_more s t xs both.1 i

stand_same : (s t : List Record) → ((q : Record) → list_any (same q) s ≡ list_any (same q) t) → (xs : List Record) → all_stand s xs ≡ all_stand t xs
stand_same s t h [] = refl
stand_same s t h (r ∷ xs) = λ i. h r i && stand_same s t h xs i

chosen_stand : (s xs : List Record) (r : Record) (b : Bool) → list_any (same r) s ≡ b → all_stand (s ++ unseen s xs) xs ≡ true → all_stand ((r ∷ s) ++ unseen (r ∷ s) xs) xs ≡ true → all_stand (s ++ unseen s (r ∷ xs)) (r ∷ xs) ≡ true
chosen_stand s xs r true e here there =
    let u : unseen s (r ∷ xs) ≡ unseen s xs = opened s r xs ∙ ap (λ (b : Bool). chosen b (unseen s xs) (r ∷ unseen (r ∷ s) xs)) e in
    ap (λ (zs : List Record). all_stand (s ++ zs) (r ∷ xs)) u ∙ (λ i. any_more r s (unseen s xs) e i && here i)
chosen_stand s xs r false e here there =
    let v = unseen (r ∷ s) xs in
    let u : unseen s (r ∷ xs) ≡ r ∷ v = opened s r xs ∙ ap (λ (b : Bool). chosen b (unseen s xs) (r ∷ v)) e in
    let head : list_any (same r) (s ++ r ∷ v) ≡ true = sym (moved r r s v) ∙ or_left (same r r) (list_any (same r) (s ++ v)) (same_itself r) in
    let tail : all_stand (s ++ r ∷ v) xs ≡ true = sym (stand_same ((r ∷ s) ++ v) (s ++ r ∷ v) (λ q. moved q r s v) xs) ∙ there in
    ap (λ (zs : List Record). all_stand (s ++ zs) (r ∷ xs)) u ∙ (λ i. head i && tail i)

stand_all : (s xs : List Record) → all_stand (s ++ unseen s xs) xs ≡ true
stand_all s [] = refl
stand_all s (r ∷ xs) = chosen_stand s xs r (list_any (same r) s) refl (stand_all s xs) (stand_all (r ∷ s) xs)

stood_after : (a b : Sections) (xs : List Record) → AddsUnseen a b xs → stood b ≡ stood a ++ unseen (stood a) xs
stood_after a b xs h = (λ i. (h.answer i ++ h.authority i) ++ h.additional i) ∙ sym (append_assoc (a.answer.items ++ a.authority.items) a.additional.items (unseen (stood a) xs))

-- what was put in is there, and what was there stays
stands_after : (a b : Sections) (xs : List Record) → AddsUnseen a b xs → all_stand (stood b) xs ≡ true
stands_after a b xs h = ap (λ (s : List Record). all_stand s xs) (stood_after a b xs h) ∙ stand_all (stood a) xs

stands_on : (a b : Sections) (xs ys : List Record) → AddsUnseen a b ys → all_stand (stood a) xs ≡ true → all_stand (stood b) xs ≡ true
stands_on a b xs ys h e = ap (λ (s : List Record). all_stand s xs) (stood_after a b ys h) ∙ stand_more (stood a) (unseen (stood a) ys) xs e

pub known_on : (most : ℕ) (z : Zone) (known : List Labels) (a b : Sections) (ys : List Record) → AddsUpTo most a b ys → AreKnown z known a → AreKnown z known b
known_on most z known a b ys h are host e = stands_on a b (rrset z.records host type_a ++ rrset z.records host type_aaaa) h.first h.added (are host e)

-- a name put in a set of names
abbrev pub IsPutIn : List Labels → Labels → List Labels → Type 0
IsPutIn old host new = (other : Labels) → list_any (names_eq other) new ≡ (names_eq other host || list_any (names_eq other) old)

-- one host more
known_more : (most : ℕ) (z : Zone) (known more : List Labels) (host : Labels) (a b : Sections) → IsPutIn known host more → (most < record_count b → ⊥) → AddsUpTo most a b (rrset z.records host type_a ++ rrset z.records host type_aaaa) → AreKnown z known a → AreKnown z more b
known_more most z known more host a b put room h are other e =
    let addresses = rrset z.records host type_a ++ rrset z.records host type_aaaa in
    elim (either_true (names_eq other host) (list_any (names_eq other) known) (sym (put other) ∙ e)) [
      | inr old ↦ known_on most z known a b addresses h are other old
      | inl new ↦
          (let is : other ≡ host = names_same other host new in
          let none : h.rest ≡ [] = elim h.stopped [ inl e ↦ e | inr over ↦ absurd (room over) ] in
          let whole : addresses ≡ h.first = h.split ∙ ap (λ (zs : List Record). h.first ++ zs) none ∙ append-nil h.first in
          let there : all_stand (stood b) addresses ≡ true = ap (all_stand (stood b)) whole ∙ stands_after a b h.first h.added in
          subst (λ (n : Labels). all_stand (stood b) (rrset z.records n type_a ++ rrset z.records n type_aaaa) ≡ true) (sym is) there)
    ]

-- what is there was there before, or was put in
or_right : (a b : Bool) → b ≡ true → (a || b) ≡ true
or_right true b e = refl
or_right false b e = e

unseen_among : (s xs : List Record) (q : Record) → list_any (same q) (unseen s xs) ≡ true → list_any (same q) xs ≡ true
unseen_among s [] q e = absurd cc
unseen_among s (r ∷ xs) q e = of_test (list_any (same r) s) (unseen_among s xs q) (unseen_among (r ∷ s) xs q) (sym (ap (list_any (same q)) (opened s r xs)) ∙ e)
  where
    of_test : (b : Bool) → (list_any (same q) (unseen s xs) ≡ true → list_any (same q) xs ≡ true) → (list_any (same q) (unseen (r ∷ s) xs) ≡ true → list_any (same q) xs ≡ true) → list_any (same q) (chosen b (unseen s xs) (r ∷ unseen (r ∷ s) xs)) ≡ true → list_any (same q) (r ∷ xs) ≡ true
    of_test true one two f = or_right (same q r) (list_any (same q) xs) (one f)
    of_test false one two f = elim (either_true (same q r) (list_any (same q) (unseen (r ∷ s) xs)) f) [
      | inl here ↦ or_left (same q r) (list_any (same q) xs) here
      | inr there ↦ or_right (same q r) (list_any (same q) xs) (two there)
    ]

pub came : (most : ℕ) (a b : Sections) (xs : List Record) (q : Record) → AddsUpTo most a b xs → list_any (same q) (stood b) ≡ true → (list_any (same q) (stood a) ≡ true) ⊎ (list_any (same q) xs ≡ true)
came most a b xs q h e =
    elim (either_true (list_any (same q) (stood a)) (list_any (same q) (unseen (stood a) h.first)) (sym (list_any-append (same q) (stood a) (unseen (stood a) h.first)) ∙ sym (ap (list_any (same q)) (stood_after a b h.first h.added)) ∙ e)) [
      | inl old ↦ inl old
      | inr new ↦ inr (ap (list_any (same q)) h.split ∙ list_any-append (same q) h.first h.rest ∙ or_left (list_any (same q) h.first) (list_any (same q) h.rest) (unseen_among (stood a) h.first q new))
    ]

-- an address of a host is of its name
of_host : (records : List Record) (host : Labels) (q : Record) → list_any (same q) (rrset records host type_a ++ rrset records host type_aaaa) ≡ true → names_eq q.owner host ≡ true
of_host records host q e = elim (either_true _ _ (sym (list_any-append (same q) (rrset records host type_a) (rrset records host type_aaaa)) ∙ e)) [
  | inl one ↦ (both_true (names_eq q.owner host) (q.rtype == type_a) (filter_contains q (λ (r : Record). names_eq r.owner host && r.rtype == type_a) records one).0).0
  | inr two ↦ (both_true (names_eq q.owner host) (q.rtype == type_aaaa) (filter_contains q (λ (r : Record). names_eq r.owner host && r.rtype == type_aaaa) records two).0).0
]

either_more : (o k n : Bool) → (o || k) ≡ true → (o || (n || k)) ≡ true
either_more true k n e = refl
either_more false true true e = refl
either_more false true false e = refl
either_more false false n e = absurd cc

new_owner : (o k n : Bool) → n ≡ true → (o || (n || k)) ≡ true
new_owner true k n e = refl
new_owner false k n e = or_left n k e

-- the hosts with one more, whose addresses were put in
pub hosts_more : (most : ℕ) (z : Zone) (owners known more : List Labels) (host : Labels) (a b : Sections) → (most < record_count a → ⊥) → IsPutIn known host more → AddsUpTo most a b (rrset z.records host type_a ++ rrset z.records host type_aaaa) → AreHosts most z owners known a → AreHosts most z owners more b
hosts_more most z owners known more host a b room put h are = record {
  all = λ room-b. known_more most z known more host a b put room-b h (are.all room);
  alone = λ r address e. (
      let o = list_any (names_eq r.owner) owners in
      ap (λ (n : Bool). o || n) (put r.owner)
      ∙ elim (came most a b _ r h e) [
        | inl old ↦ either_more o (list_any (names_eq r.owner) known) (names_eq r.owner host) (are.alone r address old)
        | inr new ↦ new_owner o (list_any (names_eq r.owner) known) (names_eq r.owner host) (of_host z.records host r new)
      ]);
}

-- a host that is known stays one
pub hosts_same : (most : ℕ) (z : Zone) (owners known more : List Labels) (host : Labels) (s : Sections) → list_any (names_eq host) known ≡ true → IsPutIn known host more → AreHosts most z owners known s → AreHosts most z owners more s
hosts_same most z owners known more host s among put are =
    let same_names : (other : Labels) → list_any (names_eq other) more ≡ list_any (names_eq other) known = λ other. put other ∙ absorbed other (names_eq other host) refl in
    record {
      all = λ room other e. are.all room other (sym (same_names other) ∙ e);
      alone = λ r address e. ap (λ (n : Bool). list_any (names_eq r.owner) owners || n) (same_names r.owner) ∙ are.alone r address e;
    }
  where
    absorbed : (other : Labels) (b : Bool) → names_eq other host ≡ b → (b || list_any (names_eq other) known) ≡ list_any (names_eq other) known
    absorbed other true e = sym (ap (λ (n : Labels). list_any (names_eq n) known) (names_same other host e) ∙ among)
    absorbed other false e = refl

-- records in order of which none is there
pub none_stand_of : (s xs : List Record) → Sorted xs → ((q : Record) → list_any (same q) xs ≡ true → list_any (same q) s ≡ false) → none_stands s xs ≡ true
none_stand_of s [] h f = refl
none_stand_of s (r ∷ xs) h f =
    let head : list_any (same r) s ≡ false = f r (or_left (same r r) (list_any (same r) xs) (same_itself r)) in
    let rest = none_stand_of (r ∷ s) xs h.1 (λ q e. behind q e (same q r) refl) in
    λ i. not (head i) && rest i
  where
    behind : (q : Record) → list_any (same q) xs ≡ true → (b : Bool) → same q r ≡ b → (same q r || list_any (same q) s) ≡ false
    behind q e true twice =
        let is = same_is q r twice in
        let there : list_any (same r) xs ≡ true = subst (λ (x : Record). list_any (same x) xs ≡ true) is e in
        let here = contains_found r xs h.1 there in
        let none = not_found r xs h.0 in
        absurd cc
    behind q e false once = (λ i. once i || list_any (same q) s) ∙ f q (or_right (same q r) (list_any (same q) xs) e)

-- what is nowhere goes to the end as it is
all_unseen : (s xs : List Record) → none_stands s xs ≡ true → unseen s xs ≡ xs
all_unseen s [] e = refl
all_unseen s (r ∷ xs) e =
    let both = both_true (not (list_any (same r) s)) (none_stands (r ∷ s) xs) e in
    let none : list_any (same r) s ≡ false = flipped (list_any (same r) s) both.0 in
    opened s r xs ∙ (λ i. chosen (none i) (unseen s xs) (r ∷ all_unseen (r ∷ s) xs both.1 i))
  where
    flipped : (b : Bool) → not b ≡ true → b ≡ false
    flipped true e = absurd cc
    flipped false e = refl

none_of_first : (s xs : List Record) (i : ℕ) → none_stands s xs ≡ true → none_stands s (take i xs) ≡ true
none_of_first s xs zero e = refl
none_of_first s [] (suc i) e = refl
none_of_first s (r ∷ xs) (suc i) e =
    let both = both_true (not (list_any (same r) s)) (none_stands (r ∷ s) xs) e in
    λ j. both.0 j && none_of_first (r ∷ s) xs i both.1 j

pub added_new : (a b : Sections) (xs : List Record) (i : ℕ) → none_stands (stood a) xs ≡ true → b.answer.items ≡ a.answer.items → b.authority.items ≡ a.authority.items → b.additional.items ≡ a.additional.items ++ take i xs → AddsUnseen a b (take i xs)
added_new a b xs i none answer authority additional = record {
  answer = answer;
  authority = authority;
  additional = additional ∙ ap (λ (ys : List Record). a.additional.items ++ ys) (sym (all_unseen (stood a) (take i xs) (none_of_first (stood a) xs i none)));
}

pub up_to_new : (most : ℕ) (a b : Sections) (xs : List Record) (i : ℕ) → none_stands (stood a) xs ≡ true → b.answer.items ≡ a.answer.items → b.authority.items ≡ a.authority.items → b.additional.items ≡ a.additional.items ++ take i xs → (most < record_count a → i ≡ 0) → (length xs ≤ i) ⊎ (most < record_count b) → AddsUpTo most a b xs
up_to_new most a b xs i none answer authority additional idle stop = record {
  first = take i xs;
  rest = drop i xs;
  split = sym (take-append-drop i xs);
  added = added_new a b xs i none answer authority additional;
  stopped = elim stop [ inl all ↦ inl (drop_all i xs all) | inr over ↦ inr over ];
  idle = λ over. ap (λ (n : ℕ). take n xs) (idle over);
}

-- the addresses of one type at a host of which none is there
sorted_rrset : (records : List Record) (host : Labels) (t : ℕ) → is_ordered records ≡ true → Sorted (rrset records host t)
sorted_rrset records host t ordered = sorted_filter (λ (r : Record). names_eq r.owner host && r.rtype == t) records (sorted_from records ordered)

of_rrset : (records : List Record) (host : Labels) (t : ℕ) (q : Record) → list_any (same q) (rrset records host t) ≡ true → (q.owner ≡ host) × ((q.rtype == t) ≡ true)
of_rrset records host t q e =
    let both = both_true (names_eq q.owner host) (q.rtype == t) (filter_contains q (λ (r : Record). names_eq r.owner host && r.rtype == t) records e).0 in
    (names_same q.owner host both.0, both.1)

pub first_new : (s : Sections) (records : List Record) (host : Labels) → is_ordered records ≡ true → HasNoAddressOf host s → none_stands (stood s) (rrset records host type_a) ≡ true
first_new s records host ordered none =
    none_stand_of (stood s) (rrset records host type_a) (sorted_rrset records host type_a ordered) (λ q e.
    let of = of_rrset records host type_a q e in
    none q (or_left (q.rtype == type_a) (q.rtype == type_aaaa) of.1) of.0)

pub second_new : (most : ℕ) (a b : Sections) (records : List Record) (host : Labels) → is_ordered records ≡ true → HasNoAddressOf host a → AddsUpTo most a b (rrset records host type_a) → none_stands (stood b) (rrset records host type_aaaa) ≡ true
second_new most a b records host ordered none h = none_stand_of (stood b) (rrset records host type_aaaa) (sorted_rrset records host type_aaaa ordered) (λ q e. of_test q (of_rrset records host type_aaaa q e) (list_any (same q) (stood b)) refl)
  where
    of_test : (q : Record) → (q.owner ≡ host) × ((q.rtype == type_aaaa) ≡ true) → (t : Bool) → list_any (same q) (stood b) ≡ t → list_any (same q) (stood b) ≡ false
    of_test q of false e = e
    of_test q of true e = elim (came most a b (rrset records host type_a) q h e) [
      | inl old ↦ (let gone = none q (or_right (q.rtype == type_a) (q.rtype == type_aaaa) of.1) of.0 in absurd cc)
      | inr new ↦ (let a = (of_rrset records host type_a q new).1 in let b = of.1 in absurd (grind (arith, nat_tests, a, b)))
    ]

-- no host is known yet
pub hosts_none : (most : ℕ) (z : Zone) (owners : List Labels) (s : Sections) → AreOwners owners (stood s) → AreHosts most z owners [] s
hosts_none most z owners s h = record {
  all = λ room host e. absurd cc;
  alone = λ r address e. or_left (list_any (names_eq r.owner) owners) false (h r address e);
}

pub no_hosts : (z : Zone) (rs : List Record) → list_any (λ (r : Record). is_some (host_of r)) rs ≡ false → flat_map addresses_for (from_zone z rs) ≡ []
no_hosts z [] e = refl
no_hosts z (r ∷ rs) e =
    let both = both_false (is_some (host_of r)) (list_any (λ (x : Record). is_some (host_of x)) rs) e in
    λ i. no_host z r (none_of (host_of r) both.0) i ++ no_hosts z rs both.1 i
  where
    both_false : (a b : Bool) → (a || b) ≡ false → (a ≡ false) × (b ≡ false)
    both_false true b e = absurd cc
    both_false false b e = (refl, e)

    none_of : (o : Option Labels) → is_some o ≡ false → None ≡ o
    none_of None e = refl
    none_of (Some host) e = absurd cc

-- a known host adds nothing
none_unseen : (s xs : List Record) → all_stand s xs ≡ true → unseen s xs ≡ []
none_unseen s [] e = refl
none_unseen s (r ∷ xs) e =
    let both = both_true (list_any (same r) s) (all_stand s xs) e in
    opened s r xs ∙ ap (λ (b : Bool). chosen b (unseen s xs) (r ∷ unseen (r ∷ s) xs)) both.0 ∙ none_unseen s xs both.1

pub adds_known : (z : Zone) (known : List Labels) (host : Labels) (s : Sections) → AreKnown z known s → list_any (names_eq host) known ≡ true → AddsUnseen s s (rrset z.records host type_a ++ rrset z.records host type_aaaa)
adds_known z known host s are e =
    let none = none_unseen (stood s) (rrset z.records host type_a ++ rrset z.records host type_aaaa) (are host e) in
    record { answer = refl; authority = refl; additional = sym (append-nil s.additional.items) ∙ ap (λ (xs : List Record). s.additional.items ++ xs) (sym none) }

-- both kinds of addresses after both sections
pub gathered_up_to : (most t : ℕ) (fs : List Found) (bare s : Sections) → bare.answer.items ≡ records_of (answer_of t fs) → bare.authority.items ≡ records_of (authority_of fs) → bare.additional.items ≡ []
    → AddsUpTo most bare s (flat_map addresses_for (answer_of t fs) ++ flat_map addresses_for (authority_of fs)) → AreSectionsUpTo most t fs s
gathered_up_to most t fs bare s answer authority none up =
    let hosts = flat_map addresses_for (answer_of t fs) ++ flat_map addresses_for (authority_of fs) in
    let first = records_of (answer_of t fs) in
    let second = records_of (authority_of fs) in
    let seen : (first ++ second) ++ [] ≡ records_of (answer_of t fs ++ authority_of fs) = append-nil (first ++ second) ∙ sym (map-append (λ (s : Shown). s.shown) (answer_of t fs) (authority_of fs)) in
    let u = unseen (stood bare) up.first in
    let all : additional_of (answer_of t fs ++ authority_of fs) ≡ u ++ unseen (stood bare ++ u) up.rest =
    (λ i. unseen (sym seen i) (flat_map-append addresses_for (answer_of t fs) (authority_of fs) i))
    ∙ (λ i. unseen ((sym answer i ++ sym authority i) ++ sym none i) (up.split i))
    ∙ unseen_append (stood bare) up.first up.rest in
    let here : s.additional.items ≡ u = up.added.additional ∙ ap (λ (xs : List Record). xs ++ u) none in
    record {
      answer = up.added.answer ∙ answer;
      authority = up.added.authority ∙ authority;
      whole = λ few. (
          let over_none : up.rest ≡ [] = elim up.stopped [ inl e ↦ e | inr over ↦ absurd (omega (arith, few, over)) ] in
          let exact : hosts ≡ up.first = up.split ∙ ap (λ (xs : List Record). up.first ++ xs) over_none ∙ append-nil up.first in
          gathered t fs bare s answer authority none (subst (λ (xs : List Record). AddsUnseen bare s xs) (sym exact) up.added));
      more = λ over. omega (arith, over, ap length (up.added.answer ∙ answer), ap length (up.added.authority ∙ authority), ap length here, ap length all, length-append u (unseen (stood bare ++ u) up.rest));
    }

-- where no address is, none is like an address
pub no_address : (seen : List Record) (r : Record) → list_any is_address seen ≡ false → is_address r ≡ true → list_any (same r) seen ≡ false
no_address [] r none here = refl
no_address (x ∷ xs) r none here = go (same r x) refl (is_address x) refl (λ rest. no_address xs r rest here)
  where
    go : (b : Bool) → same r x ≡ b → (a : Bool) → is_address x ≡ a → (list_any is_address xs ≡ false → list_any (same r) xs ≡ false) → list_any (same r) (x ∷ xs) ≡ false
    go b is true address later = let bad : true ≡ false = sym (ap (λ (t : Bool). t || list_any is_address xs) address) ∙ none in absurd cc
    go true is false other later = let bad : true ≡ false = sym here ∙ ap is_address (same_is r x is) ∙ other in absurd cc
    go false is false other later =
        ap (λ (t : Bool). t || list_any (same r) xs) is
        ∙ later (sym (ap (λ (t : Bool). t || list_any is_address xs) other) ∙ none)
