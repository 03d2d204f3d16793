-- Tests of items and records.
use Rattle.std.proofs.Common.{◌≡◌, ℕ, zero, suc, ◌+◌, ◌<◌, true, ◌&&◌, List, [], ◌∷◌, ◌++◌, Option, Some, None, length, drop, get_or, refl, sym, ap, ◌∙◌, arith}
use Rattle.std.specs.Prelude.{is_some, ◌==◌}
use Rattle.std.specs.List.{find}
use Rattle.dns_names.specs.Name.{names_eq}
use Rattle.dns_records.specs.Record.{Record}
use Rattle.dns_zone.specs.Records.{alike, rrset}
use Rattle.dns_zone.specs.Order.{both_true, names_same, names_itself, number_itself}
use Rattle.dns_wire.specs.Message.{ResourceRecord}
use Rattle.dns_update.specs.ResourceRecord.{first_fault, otherwise}
use Rattle.dns_wire.specs.declared.codes.Rcode.{Rcode}
use Rattle.dns_zone.proofs.Kept.{find_kept, numbers_same}

pub found_here : (r : Record) (xs : List Record) → find (alike r) (rrset xs r.owner r.rtype) ≡ find (alike r) xs
found_here r xs = find_kept (alike r) (λ s. names_eq s.owner r.owner && s.rtype == r.rtype) xs
    (λ s e. (let two = both_true (names_eq r.owner s.owner && r.rtype == s.rtype) _ e in
    let three = both_true (names_eq r.owner s.owner) (r.rtype == s.rtype) two.0 in
    let owner = names_same r.owner s.owner three.0 in
    let rtype = numbers_same r.rtype s.rtype three.1 in
    (λ i. names_eq (sym owner i) r.owner && (sym rtype i == r.rtype)) ∙ (λ i. names_itself r.owner i && number_itself r.rtype i)))

-- ---- the first fault of items
pub next_at : (xs : List ResourceRecord) (i : ℕ) (r : ResourceRecord) → i < length xs → r ≡ get_or xs i r → drop i xs ≡ r ∷ drop (i + 1) xs
next_at [] i r lt is = absurd (omega arith)
next_at (x ∷ xs) zero r lt is = ap (λ (y : ResourceRecord). y ∷ xs) (sym is)
next_at (x ∷ xs) (suc i) r lt is =
    let next : suc i + 1 ≡ suc (i + 1) = omega arith in
    next_at xs i r (omega arith) is ∙ ap (λ (n : ℕ). r ∷ drop n (x ∷ xs)) (sym next)

pub fault_at : (fault : ResourceRecord → Option Rcode) (xs : List ResourceRecord) (i : ℕ) (r : ResourceRecord) → i < length xs → r ≡ get_or xs i r → first_fault fault (drop i xs) ≡ otherwise (fault r) (first_fault fault (drop (i + 1) xs))
fault_at fault xs i r lt is = ap (first_fault fault) (next_at xs i r lt is)

stops : (o x : Option Rcode) → is_some o ≡ true → otherwise o x ≡ o
stops (Some rcode) x e = refl
stops None x e = absurd cc

-- the item at a position fails, and none before it did
pub fault_stops : (fault : ResourceRecord → Option Rcode) (xs : List ResourceRecord) (i : ℕ) (r : ResourceRecord) (o : Option Rcode) → i < length xs → r ≡ get_or xs i r → o ≡ fault r → is_some o ≡ true → first_fault fault xs ≡ first_fault fault (drop i xs) → o ≡ first_fault fault xs
fault_stops fault xs i r o lt is e some h = sym (h ∙ fault_at fault xs i r lt is ∙ ap (λ (x : Option Rcode). otherwise x (first_fault fault (drop (i + 1) xs))) (sym e) ∙ stops o _ some)

-- ---- items that all pass
pub no_fault : (a b : Option Rcode) → otherwise a b ≡ None → (a ≡ None) × (b ≡ None)
no_fault (Some rcode) b e = absurd cc
no_fault None b e = (refl, e)

pub fault_parts : (fault : ResourceRecord → Option Rcode) (run rest : List ResourceRecord) → first_fault fault (run ++ rest) ≡ None → (first_fault fault run ≡ None) × (first_fault fault rest ≡ None)
fault_parts fault [] rest e = (refl, e)
fault_parts fault (i ∷ run) rest e =
    let both = no_fault (fault i) (first_fault fault (run ++ rest)) e in
    let parts = fault_parts fault run rest both.1 in
    (ap (λ (o : Option Rcode). otherwise o (first_fault fault run)) both.0 ∙ parts.0, parts.1)

pub passes_at : (fault : ResourceRecord → Option Rcode) (xs : List ResourceRecord) (i : ℕ) (r : ResourceRecord) → first_fault fault xs ≡ None → i < length xs → r ≡ get_or xs i r → fault r ≡ None
passes_at fault [] i r e lt is = absurd (omega arith)
passes_at fault (x ∷ xs) zero r e lt is = ap fault is ∙ (no_fault (fault x) (first_fault fault xs) e).0
passes_at fault (x ∷ xs) (suc i) r e lt is = passes_at fault xs i r (no_fault (fault x) (first_fault fault xs) e).1 (omega arith) is
