-- Records in plain form, one after the other, are read in one way.
use Rattle.std.proofs.Common.{◌≡◌, ◌<◌, ℕ, List, [], ◌∷◌, ◌++◌, length, refl, sym, ◌∙◌, ap, arith, append_assoc, length-append, Bool, false}
use Rattle.std.proofs.Math.Logic.{∥∥₁_elim}
use Rattle.std.proofs.Props.{props}
use Rattle.std.specs.Prelude.{◌==◌}
use Rattle.std.specs.List.{AllByRecursion, flat_map}
use Rattle.dns_names.specs.Name.{Labels}
use Rattle.dns_records.specs.Record.{Record, IsRecord, plain}
use Rattle.dns_zone.specs.Zone.{IsZone}
use Rattle.dns_changes.proofs.Entries.{plain_first, OneMore, IsRead, plain_length}
use Rattle.dns_store.specs.Snapshot.{AreStored}

pub plain_some : (r : Record) (xs : List ℕ) → 0 < length (plain r ++ xs)
plain_some r xs = omega (arith, plain_length r, length-append (plain r) xs)

pub not_none : (xs : List ℕ) (b : Bool) → b ≡ (length xs == 0) → b ≡ false → 0 < length xs
not_none [] b is not = absurd cc
not_none (x ∷ xs) b is not = omega arith

flat_parts : (r : Record) (rs : List Record) (x : List ℕ) → flat_map plain (r ∷ rs) ++ x ≡ plain r ++ (flat_map plain rs ++ x)
flat_parts r rs x = append_assoc (plain r) (flat_map plain rs) x

-- where octets are left, there is one more record
next_one : (rs ss : List Record) (x : List ℕ) → 0 < length x → AllByRecursion IsRecord rs → AllByRecursion IsRecord ss → flat_map plain rs ++ x ≡ flat_map plain ss → OneMore x
next_one [] [] x some f g is = absurd (omega (arith, some, ap (λ (l : List ℕ). length l) is))
next_one [] (s ∷ ss) x some f g is = record { next = s; rest = flat_map plain ss; valid = g.0; is = is }
next_one (r ∷ rs) [] x some f g is = absurd (omega (arith, plain_some r (flat_map plain rs ++ x), ap (λ (l : List ℕ). length l) (sym (flat_parts r rs x) ∙ is)))
next_one (r ∷ rs) (s ∷ ss) x some f g is = next_one rs ss x some f.1 g.1 (plain_first r s (flat_map plain rs ++ x) (flat_map plain ss) f.0 g.0 (sym (flat_parts r rs x) ∙ is)).1

pub one_left : (octets : List ℕ) (rs : List Record) (rest : List ℕ) → IsRead octets rs rest → 0 < length rest → (ss : List Record) → AreStored octets ss → OneMore rest
one_left octets rs rest read some ss stored = next_one rs ss rest some read.valid stored.each (read.stands ∙ stored.octets_are)

pub flat_same : (rs ss : List Record) → AllByRecursion IsRecord rs → AllByRecursion IsRecord ss → flat_map plain rs ≡ flat_map plain ss → rs ≡ ss
flat_same [] [] f g is = refl
flat_same [] (s ∷ ss) f g is = absurd (omega (arith, plain_some s (flat_map plain ss), ap (λ (l : List ℕ). length l) is))
flat_same (r ∷ rs) [] f g is = absurd (omega (arith, plain_some r (flat_map plain rs), ap (λ (l : List ℕ). length l) is))
flat_same (r ∷ rs) (s ∷ ss) f g is =
    let first = plain_first r s (flat_map plain rs) (flat_map plain ss) f.0 g.0 is in
    let rest = flat_same rs ss f.1 g.1 first.1 in
    λ i. first.0 i ∷ rest i

records_set : IsSet (List Record)
records_set = hlevel props

-- a zone's records are those that were read
pub zone_records : (octets : List ℕ) (rs : List Record) → AreStored octets rs → (apex : Labels) (records : List Record) → IsZone (record { apex = apex; records = records }) → octets ≡ flat_map plain records → rs ≡ records
zone_records octets rs stored apex records valid is = ∥∥₁_elim valid.each (records_set rs records) (λ all. flat_same rs records stored.each all (sym stored.octets_are ∙ is))

pub zones_same : (apex : Labels) (rs records : List Record) → IsZone (record { apex = apex; records = rs }) → IsZone (record { apex = apex; records = records }) → flat_map plain rs ≡ flat_map plain records → rs ≡ records
zones_same apex rs records valid valid' is = ∥∥₁_elim valid.each (records_set rs records) (λ all. ∥∥₁_elim valid'.each (records_set rs records) (λ all'. flat_same rs records all all' is))
