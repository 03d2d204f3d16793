-- The target of an alias, and the names that were searched before it.
use Rattle.std.proofs.Common.{◌≡◌, ℕ, suc, ◌+◌, ◌<◌, Bool, true, false, ◌||◌, List, [], ◌∷◌, ◌++◌, length, get_or, drop, refl, sym, ap, subst, ◌∙◌, arith, cond}
use Rattle.std.specs.Prelude.{Option, Some, None, ◌&&◌, ◌==◌, slice_get}
use Rattle.std.specs.List.{list_any}
use Rattle.std.proofs.Math.Seq.{drop-cons}
use Rattle.std.proofs.lemmas.Bool.Decides.{nat_tests}
use Rattle.dns_names.specs.Name.{Labels, names_eq}
use Rattle.dns_records.specs.Record.{Record}
use Rattle.dns_zone.specs.Records.{rrset}
use Rattle.dns_zone.specs.Zone.{Zone}
use Rattle.dns_lookup.specs.Lookup.{Outcome, Alias, outcome, next_name, alias_at}
use Rattle.dns_lookup.specs.Lookup as lookup
use Rattle.dns_lookup.specs.Represented.{names_searched}
use Rattle.dns_lookup.specs.declared.chain.Found.{Found}

abbrev next_at : Zone → List Labels → Outcome → Option Labels
next_at z seen o = next_name (record { zone = z; name = []; outcome = o }) seen

-- the target of an alias, unless it was searched
pub alias_next : (f : lookup.Found) (seen : List Labels) (at target : Labels) → f.outcome ≡ Alias at → target ≡ alias_at f.zone at → next_name f seen ≡ cond (list_any (names_eq target) seen) None (Some target)
alias_next f seen at target e is = ap (next_at f.zone seen) e ∙ ap (λ (n : Labels). cond (list_any (names_eq n) seen) None (Some n)) (sym is)

-- one name further along those that were searched
named_here : (found : List Found) (i : ℕ) (one : Found) → i < length found → one ≡ get_or found i one → drop i found ≡ one ∷ drop (i + 1) found
named_here found i one inside is =
    let next : i + 1 ≡ suc i = omega arith in
    drop-cons found i one inside ∙ ap (λ (x : Found). x ∷ drop (suc i) found) (sym is) ∙ ap (λ (n : ℕ). one ∷ drop n found) (sym next)

pub among_next : (name : Labels) (found : List Found) (i : ℕ) (one : Found) → i < length found → one ≡ get_or found i one → names_eq name one.name ≡ false → list_any (names_eq name) (names_searched (drop i found)) ≡ list_any (names_eq name) (names_searched (drop (i + 1) found))
among_next name found i one inside is other =
    ap (λ (fs : List Found). list_any (names_eq name) (names_searched fs)) (named_here found i one inside is) ∙ ap (λ (b : Bool). b || list_any (names_eq name) (names_searched (drop (i + 1) found))) other

pub among_here : (name : Labels) (found : List Found) (i : ℕ) (one : Found) → i < length found → one ≡ get_or found i one → names_eq name one.name ≡ true → list_any (names_eq name) (names_searched (drop i found)) ≡ true
among_here name found i one inside is same =
    ap (λ (fs : List Found). list_any (names_eq name) (names_searched fs)) (named_here found i one inside is) ∙ ap (λ (b : Bool). b || list_any (names_eq name) (names_searched (drop (i + 1) found))) same

-- the first record of an RRset has its type
first_of_type : (x : Record) (xs : List Record) (t : ℕ) (r : Record) (a b : Bool) → (x.rtype == t) ≡ b → (slice_get xs 0 ≡ Some r → r.rtype ≡ t) → slice_get (cond (a && b) (x ∷ xs) xs) 0 ≡ Some r → r.rtype ≡ t
first_of_type x xs t r true true is rest h = (let same : x ≡ r = cc in subst (λ (s : Record). s.rtype ≡ t) same (grind (arith, nat_tests)))
first_of_type x xs t r true false is rest h = rest h
first_of_type x xs t r false b is rest h = rest h

pub first_typed : (records : List Record) (name : Labels) (t : ℕ) (r : Record) → slice_get (rrset records name t) 0 ≡ Some r → r.rtype ≡ t
first_typed [] name t r e = absurd cc
first_typed (x ∷ xs) name t r e = first_of_type x (rrset xs name t) t r (names_eq x.owner name) (x.rtype == t) refl (first_typed xs name t r) e

-- without a first record there is none
pub none_first : (records : List Record) → slice_get records 0 ≡ None → (length records == 0) ≡ true
none_first [] e = refl
none_first (x ∷ xs) e = absurd cc

-- the last of a list counts like any other
pub any_last : (p : Labels → Bool) (names : List Labels) (last : Labels) → list_any p (names ++ last ∷ []) ≡ (p last || list_any p names)
any_last p [] last = refl
any_last p (n ∷ ns) last = ap (λ (b : Bool). p n || b) (any_last p ns last) ∙ turned (p n) (p last) (list_any p ns)
  where
    turned : (a b c : Bool) → (a || (b || c)) ≡ (b || (a || c))
    turned true true c = refl
    turned true false c = refl
    turned false b c = refl
