-- One pass over the records of a zone, of which some are written.
use Rattle.std.proofs.Common.{◌≡◌, ℕ, Bool, true, false, List, [], ◌∷◌, ◌++◌, refl, ap, ◌∙◌, append_assoc}
use Rattle.std.specs.Prelude.{Option, Some, None, cond, filter, flat_map, if◌then◌else◌}
use Rattle.std.specs.Io.KnownBytes.{Appends}
use Rattle.dns_records.specs.Record.{Record}
use Rattle.dns_masterfile.specs.Printed.{is_wanted, printed_record}

abbrev pub printed_wanted : Bool → List Record → List ℕ
printed_wanted soa records = flat_map printed_record (filter (is_wanted soa) records)

-- a record, and those after it
pub wanted_step : (soa : Bool) (r : Record) (rest : List Record) → printed_wanted soa (r ∷ rest) ≡ (if is_wanted soa r then printed_record r else []) ++ printed_wanted soa rest
wanted_step soa r rest = go (is_wanted soa r)
  where
    go : (b : Bool) → flat_map printed_record (cond b (r ∷ filter (is_wanted soa) rest) (filter (is_wanted soa) rest)) ≡ (if b then printed_record r else []) ++ printed_wanted soa rest
    go true = refl
    go false = refl

-- one text after another
pub appends_two : (a b c : Option (List ℕ)) (x y : List ℕ) → Appends a b x → Appends b c y → Appends a c (x ++ y)
appends_two None b c x y h k = tt
appends_two (Some xs) None c x y h k = absurd h
appends_two (Some xs) (Some ys) None x y h k = k
appends_two (Some xs) (Some ys) (Some zs) x y h k = k ∙ ap (λ (t : List ℕ). t ++ y) h ∙ append_assoc xs x y
