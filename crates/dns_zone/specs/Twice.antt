-- Records of one owner, type and data, by the test and by the order.
use Rattle.std.proofs.Common.{◌≡◌, inl, inr, Bool, true, false, List, [], ◌∷◌, refl, sym, ap, ◌∙◌, arith}
use Rattle.std.specs.Prelude.{◌&&◌, ◌||◌, ◌==◌}
use Rattle.std.specs.List.{list_any}
use Rattle.std.specs.Str.{bytes_eq}
use Rattle.std.specs.Cmp.{both_ways, tied_itself}
use Rattle.std.specs.Cmp.Lexicographic.{slice_cmp}
use Rattle.std.specs.Ordering.{is_eq, nat_cmp, ordering_then, ordering_reverse}
use Rattle.std.specs.declared.cmp.Ordering.TheVariants.{Equal}
use Rattle.std.proofs.lemmas.Bool.Decides.{nat_tests}
use Rattle.dns_names.specs.Name.{names_eq, name_cmp}
use Rattle.dns_records.specs.Record.{Record, record_cmp}
use Rattle.dns_zone.specs.Records.{alike}
use Rattle.dns_zone.specs.Zone.{has_twice}
use Rattle.dns_zone.specs.Order.{record_total, names_same, names_itself, number_itself, bytes_same}
use Rattle.dns_zone.specs.Order.{bytes_itself, both_true, tied_key}
use Rattle.dns_zone.specs.Sets.{Sorted, Below, equal_is, true_or_false}

pub alike_tied : (a b : Record) → alike a b ≡ true → record_cmp a b ≡ Equal
alike_tied a b e =
    let two = both_true (names_eq a.owner b.owner && a.rtype == b.rtype) (bytes_eq a.rdata b.rdata) e in
    let three = both_true (names_eq a.owner b.owner) (a.rtype == b.rtype) two.0 in
    let owner = names_same a.owner b.owner three.0 in
    let rtype : a.rtype ≡ b.rtype = grind (arith, nat_tests, three.1) in
    let rdata = bytes_same a.rdata b.rdata two.1 in
    (λ i. ordering_then (name_cmp a.owner (sym owner i)) (ordering_then (nat_cmp a.rtype (sym rtype i))
    (slice_cmp nat_cmp a.rdata (sym rdata i)))) ∙ tied_itself record_total a

pub none_alike : (x : Record) (xs : List Record) → Below x xs → list_any (alike x) xs ≡ false
none_alike x [] h = refl
none_alike x (y ∷ ys) h =
    let apart : alike x y ≡ false =
    elim (true_or_false (alike x y))
    [ inl e ↦ (let tied = alike_tied x y e in let less = h.0 in absurd cc) | inr e ↦ e ] in
    ap (λ (b : Bool). b || list_any (alike x) ys) apart ∙ none_alike x ys h.1

-- no record of a list in order occurs twice in it
pub once : (xs : List Record) → Sorted xs → has_twice xs ≡ false
once [] h = refl
once (x ∷ xs) h = ap (λ (b : Bool). b || has_twice xs) (none_alike x xs h.0) ∙ once xs h.1

pub tied_alike : (a b : Record) → record_cmp a b ≡ Equal → alike a b ≡ true
tied_alike a b e =
    let key = tied_key a b e in
    let self : alike a a ≡ true =
    rw (names_itself a.owner, number_itself a.rtype, bytes_itself a.rdata) refl in
    (λ i. names_eq a.owner (sym key.owner i) && a.rtype == sym key.rtype i
    && bytes_eq a.rdata (sym key.rdata i)) ∙ self

-- the two tests are one
pub alike_is : (a b : Record) → is_eq (record_cmp a b) ≡ alike a b
alike_is a b =
    both_ways (is_eq (record_cmp a b)) (alike a b) (λ e. tied_alike a b (equal_is (record_cmp a b) e))
    (λ e. ap is_eq (alike_tied a b e))

alike_back : (a b : Record) → alike a b ≡ true → alike b a ≡ true
alike_back a b e = tied_alike b a (record_total.antisymm b a ∙ ap ordering_reverse (alike_tied a b e))

pub alike_flips : (a b : Record) → alike a b ≡ alike b a
alike_flips a b = both_ways (alike a b) (alike b a) (alike_back a b) (alike_back b a)

-- tests that agree
pub any_by : (p q : Record → Bool) → ((r : Record) → p r ≡ q r) → (xs : List Record)
    → list_any p xs ≡ list_any q xs
any_by p q h [] = refl
any_by p q h (x ∷ xs) = λ i. h x i || any_by p q h xs i
