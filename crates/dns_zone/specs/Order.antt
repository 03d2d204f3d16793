-- The order of records, and tests of records that are the same.
use Rattle.std.proofs.Common.{◌≡◌, ℕ, Bool, true, false, ◌&&◌, List, [], ◌∷◌, refl, sym, ap, ◌∙◌, arith}
use Rattle.std.proofs.Common.{reverse}
use Rattle.std.specs.Prelude.{◌==◌, nat_eq}
use Rattle.std.specs.Ordering.{nat_cmp, ordering_then}
use Rattle.std.specs.declared.cmp.Ordering.{Ordering}
use Rattle.std.specs.declared.cmp.Ordering.TheVariants.{Less, Equal, Greater}
use Rattle.std.specs.Cmp.{IsTotalOrder, on_total, then_total, nat_cmp_total}
use Rattle.std.specs.Cmp.Lexicographic.{lists_total, nat_list_cmp_total}
use Rattle.std.specs.FinMap.{nat_cmp-IsAntisymmetric, slice_cmp-IsAntisymmetric}
use Rattle.std.proofs.lemmas.List.{reverse-reverse}
use Rattle.std.specs.Str.{bytes_eq}
use Rattle.std.proofs.lemmas.Bool.Decides.{nat_tests}
use Rattle.dns_names.specs.Name.{Labels, names_eq, name_cmp}
use Rattle.dns_names.specs.Compare.{name_cmp-total}
use Rattle.dns_records.specs.Record.{Record, record_cmp}
use Rattle.dns_zone.specs.Records.{alike, same}

pub name_total : IsTotalOrder name_cmp
name_total = name_cmp-total

pub record_total : IsTotalOrder record_cmp
record_total =
    then_total (on_total (λ (r : Record). reverse r.owner) (lists_total nat_list_cmp_total))
    (then_total (on_total (λ (r : Record). r.rtype) nat_cmp_total)
    (on_total (λ (r : Record). r.rdata) nat_list_cmp_total))

first_equal : (a b : Ordering) → ordering_then a b ≡ Equal → (a ≡ Equal) × (b ≡ Equal)
first_equal Less b e = absurd cc
first_equal Equal b e = (refl, e)
first_equal Greater b e = absurd cc

pub record SameKey (a b : Record) : Type 0 where
  pub owner : a.owner ≡ b.owner
  pub rtype : a.rtype ≡ b.rtype
  pub rdata : a.rdata ≡ b.rdata

pub tied_key : (a b : Record) → record_cmp a b ≡ Equal → SameKey a b
tied_key a b e =
    let one = first_equal (name_cmp a.owner b.owner) _ e in
    let two = first_equal (nat_cmp a.rtype b.rtype) _ one.1 in
    let reversed : reverse a.owner ≡ reverse b.owner =
    slice_cmp-IsAntisymmetric (slice_cmp-IsAntisymmetric nat_cmp-IsAntisymmetric) _ _ one.0 in
    record {
      owner = sym (reverse-reverse a.owner) ∙ ap reverse reversed ∙ reverse-reverse b.owner;
      rtype = nat_cmp-IsAntisymmetric _ _ two.0;
      rdata = slice_cmp-IsAntisymmetric nat_cmp-IsAntisymmetric _ _ two.1;
    }

pub both_true : (a b : Bool) → (a && b) ≡ true → (a ≡ true) × (b ≡ true)
both_true true b e = (refl, e)
both_true false b e = absurd cc

pub bytes_same : (xs ys : List ℕ) → bytes_eq xs ys ≡ true → xs ≡ ys
bytes_same [] [] e = refl
bytes_same [] (y ∷ ys) e = absurd cc
bytes_same (x ∷ xs) [] e = absurd cc
bytes_same (x ∷ xs) (y ∷ ys) e =
    let both = both_true (nat_eq x y) (bytes_eq xs ys) e in
    let head : x ≡ y = grind (arith, nat_tests) in
    let tail = bytes_same xs ys both.1 in cc

pub names_same : (a b : Labels) → names_eq a b ≡ true → a ≡ b
names_same [] [] e = refl
names_same [] (b ∷ bs) e = absurd cc
names_same (a ∷ rest) [] e = absurd cc
names_same (a ∷ rest) (b ∷ bs) e =
    let both = both_true (bytes_eq a b) (names_eq rest bs) e in
    let head = bytes_same a b both.0 in
    let tail = names_same rest bs both.1 in cc

-- equal by the test, equal
pub same_is : (a b : Record) → same a b ≡ true → a ≡ b
same_is a b e =
    let one = both_true (alike a b) (a.ttl == b.ttl) e in
    let two = both_true (names_eq a.owner b.owner && a.rtype == b.rtype) (bytes_eq a.rdata b.rdata) one.0 in
    let three = both_true (names_eq a.owner b.owner) (a.rtype == b.rtype) two.0 in
    let owner = names_same a.owner b.owner three.0 in
    let rtype : a.rtype ≡ b.rtype = grind (arith, nat_tests, three.1) in
    let ttl : a.ttl ≡ b.ttl = grind (arith, nat_tests, one.1) in
    let rdata = bytes_same a.rdata b.rdata two.1 in
    λ i. record { owner = owner i; rtype = rtype i; ttl = ttl i; rdata = rdata i }

pub number_itself : (n : ℕ) → (n == n) ≡ true
number_itself n = grind (arith, nat_tests)

pub bytes_itself : (xs : List ℕ) → bytes_eq xs xs ≡ true
bytes_itself [] = refl
bytes_itself (x ∷ xs) = rw (number_itself x) (bytes_itself xs)

pub names_itself : (a : Labels) → names_eq a a ≡ true
names_itself [] = refl
names_itself (a ∷ rest) = rw (bytes_itself a) (names_itself rest)

pub same_itself : (r : Record) → same r r ≡ true
same_itself r =
    rw (names_itself r.owner, number_itself r.rtype, bytes_itself r.rdata, number_itself r.ttl) refl
