-- What is known of names that the code reports.
use Rattle.std.proofs.Common.{◌≡◌, ℕ, zero, suc, ◌+◌, ◌<◌, List, [], ◌∷◌, ◌++◌, length, get_or, take, refl}
use Rattle.std.proofs.Common.{sym, ap, subst, ◌∙◌, arith}
use Rattle.dns_names.specs.Name.{Labels}
use Rattle.dns_zone.specs.Zone.{Zone}
use Rattle.std.specs.Prelude.{Option, Some, None}
use Rattle.dns_lookup.specs.Lookup.{Outcome, Referral, Alias, Answers, NoData, NameError}
use Rattle.dns_lookup.specs.Lookup.{chain, next_name, outcome, resolve, zone_of}
use Rattle.dns_lookup.specs.Lent.{IsFirst}
use Rattle.dns_lookup.specs.Lookup as lookup
use Rattle.dns_lookup.specs.Represented.{IsKind, Represents, RepresentAll}
use Rattle.dns_lookup.specs.declared.chain.Found.{Found}
use Rattle.dns_lookup.specs.declared.outcome.Kind.{Kind}
use Rattle.dns_lookup.specs.declared.outcome.Kind.TheVariants as kinds

-- A kind and a node as an outcome.
abbrev pub outcome_of : Kind → Labels → Outcome
outcome_of kinds.Referral at = Referral at
outcome_of kinds.Alias at = Alias at
outcome_of kinds.Answers at = Answers at
outcome_of kinds.NoData at = NoData at
outcome_of kinds.NameError at = NameError

pub represented_is : (o : Outcome) (name : Labels) (kind : Kind) (at : Labels) → IsKind o name kind at
    → o ≡ outcome_of kind at
represented_is (Referral c) name kind at h = λ i. outcome_of (sym h.0 i) (sym h.1 i)
represented_is (Alias n) name kind at h = λ i. outcome_of (sym h.0 i) (sym h.1 i)
represented_is (Answers n) name kind at h = λ i. outcome_of (sym h.0 i) (sym h.1 i)
represented_is (NoData n) name kind at h = λ i. outcome_of (sym h.0 i) (sym h.1 i)
represented_is NameError name kind at h = λ i. outcome_of (sym h.0 i) at

-- as many are returned as were found
pub represented_length : (zones : List Zone) (fs : List lookup.Found) (returned : List Found)
    → RepresentAll zones fs returned → length fs ≡ length returned
represented_length zones [] [] h = refl
represented_length zones (f ∷ fs) (one ∷ returned) h = ap suc (represented_length zones fs returned h.1)
represented_length zones [] (one ∷ returned) h = absurd h
represented_length zones (f ∷ fs) [] h = absurd h

-- one of them, with those before it
pub record RepresentedAt (zones : List Zone) (fs : List lookup.Found) (i : ℕ) (one : Found) : Type 0 where
  pub found : lookup.Found
  pub is : Represents zones found one
  pub next : take (i + 1) fs ≡ take i fs ++ found ∷ []

pub represented_at : (zones : List Zone) (fs : List lookup.Found) (returned : List Found)
    (i : ℕ) (one : Found)
    → RepresentAll zones fs returned
    → i < length returned
    → one ≡ get_or returned i one
    → RepresentedAt zones fs i one
represented_at zones [] [] i one h inside e = absurd (omega (arith, inside))
represented_at zones [] (t ∷ returned) i one h inside e = absurd h
represented_at zones (f ∷ fs) [] i one h inside e = absurd h
represented_at zones (f ∷ fs) (t ∷ returned) zero one h inside e =
    record { found = f; is = subst (λ (x : Found). Represents zones f x) (sym e) h.0; next = refl }
represented_at zones (f ∷ fs) (t ∷ returned) (suc i) one h inside e =
    let rest = represented_at zones fs returned i one h.1 (omega (arith, inside)) e in
    let up : suc i + 1 ≡ suc (i + 1) = omega arith in
    record {
      found = rest.found;
      is = rest.is;
      next = ap (λ (n : ℕ). take n (f ∷ fs)) up
          ∙ ap (λ (xs : List lookup.Found). f ∷ xs) rest.next;
    }

-- a name that finds what was asked for is all that the question finds
abbrev after_first : List Zone → ℕ → lookup.Found → Option Labels → List lookup.Found
after_first zones t f next =
    f ∷ elim next [ None ↦ [] | Some target ↦ chain 7 zones ([] ++ f.name ∷ []) target t ]

no_alias : (f : lookup.Found) (kind : Kind) (at : Labels) (seen : List Labels)
    → f.outcome ≡ outcome_of kind at
    → kind ≡ kinds.Answers
    → next_name f seen ≡ None
no_alias f kind at seen is answers =
    ap (λ (o : Outcome). next_name (record f { outcome = o }) seen)
    (is ∙ ap (λ (k : Kind). outcome_of k at) answers)

abbrev first_in : Labels → ℕ → Zone → lookup.Found
first_in name t z = record { zone = z; name = name; outcome = outcome z name t }

abbrev by_zone : List Zone → Labels → ℕ → Option Zone → List lookup.Found
by_zone zones name t o = elim o [
  | None ↦ []
  | Some z ↦ after_first zones t (first_in name t z) (next_name (first_in name t z) ([] ++ name ∷ []))
]

pub alone : (zones : List Zone) (t : ℕ) (first : Found)
    → IsFirst zones t first
    → first.kind ≡ kinds.Answers
    → RepresentAll zones (resolve zones first.name t) (first ∷ [])
alone zones t first h answers =
    let f = first_in first.name t h.zone in
    let is = represented_is f.outcome f.name first.kind first.node h.represents.kind in
    let none = no_alias f first.kind first.node ([] ++ first.name ∷ []) is answers in
    let all : resolve zones first.name t ≡ f ∷ [] =
    ap (by_zone zones first.name t) h.closest ∙ ap (after_first zones t f) none in
    subst (λ (fs : List lookup.Found). RepresentAll zones fs (first ∷ [])) (sym all) (h.represents, tt)
