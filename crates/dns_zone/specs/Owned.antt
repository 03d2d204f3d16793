-- Whether a name owns a record, by the list of what it owns.
use Rattle.std.specs.Prelude.{◌≡◌, ℕ, suc, Bool, true, false, cond, not, ◌&&◌, ◌||◌, ◌==◌, List, [], ◌∷◌}
use Rattle.std.specs.Prelude.{length, filter}
use Rattle.std.specs.List.{list_any}
use Rattle.std.proofs.Common.{refl, arith}
use Rattle.std.proofs.lemmas.Bool.Decides.{nat_tests}
use Rattle.dns_names.specs.Name.{Labels, names_eq}
use Rattle.dns_records.specs.Record.{Record}
use Rattle.dns_zone.specs.Records.{records_at, rrset, owns, owns_type}

above_zero : (n : ℕ) → (suc n == 0) ≡ false
above_zero n = grind (arith, nat_tests)

none_counted : (p : Record → Bool) (x : Record) (xs : List Record) (b : Bool)
    → (length (filter p xs) == 0) ≡ not (list_any p xs)
    → (length (cond b (x ∷ filter p xs) (filter p xs)) == 0) ≡ not (b || list_any p xs)
none_counted p x xs true rest = above_zero (length (filter p xs))
none_counted p x xs false rest = rest

-- none is kept by a test exactly where none passes it
pub none_passes : (p : Record → Bool) (xs : List Record) → (length (filter p xs) == 0) ≡ not (list_any p xs)
none_passes p [] = refl
none_passes p (x ∷ xs) = none_counted p x xs (p x) (none_passes p xs)

pub owns_none : (xs : List Record) (name : Labels) → (length (records_at xs name) == 0) ≡ not (owns xs name)
owns_none xs name = none_passes (λ r. names_eq r.owner name) xs

pub owns_no_type : (xs : List Record) (name : Labels) (t : ℕ)
    → (length (rrset xs name t) == 0) ≡ not (owns_type xs name t)
owns_no_type xs name t = none_passes (λ r. names_eq r.owner name && r.rtype == t) xs
