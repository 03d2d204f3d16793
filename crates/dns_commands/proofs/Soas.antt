-- The SOA of a zone among the records that it was made of.
use Rattle.std.proofs.Common.{◌≡◌, zero, suc, Bool, true, false, List, [], ◌∷◌, arith}
use Rattle.std.specs.Prelude.{Contains, filter, cond}
use Rattle.dns_records.specs.Record.{Record}
use Rattle.dns_zone.specs.Zone.{soas}
use Rattle.dns_zone.specs.Made.{IsSetOf}

later : {A : Type 0} (y x : A) (xs : List A) → Contains xs x → Contains (y ∷ xs) x
later y x xs h = (suc h.0, omega (arith, h.1), h.2)

-- what passes a test is in the list
kept_in : {A : Type 0} (p : A → Bool) (xs : List A) (x : A) (rest : List A) → filter p xs ≡ x ∷ rest → Contains xs x
kept_in p [] x rest e = absurd cc
kept_in p (y ∷ xs) x rest e = go (p y) e (λ h. kept_in p xs x rest h)
  where
    go : (b : Bool) → cond b (y ∷ filter p xs) (filter p xs) ≡ x ∷ rest → (filter p xs ≡ x ∷ rest → Contains xs x) → Contains (y ∷ xs) x
    go true h more = (zero, omega arith, cc)
    go false h more = later y x xs (more h)

pub soa_among : (records set : List Record) (soa : Record) → IsSetOf records set → soas set ≡ soa ∷ [] → Contains records soa
soa_among records set soa made one = (made.same soa).1 (kept_in _ set soa [] one)
