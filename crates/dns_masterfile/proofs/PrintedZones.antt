-- What is printed of a zone means its records, whatever the origin.
use Rattle.std.proofs.Common.{◌≡◌, ℕ, Bool, true, false, List, [], ◌∷◌, ◌++◌, Ok}
use Rattle.std.specs.Prelude.{Result, cond, filter, not}
use Rattle.std.specs.List.{AllByRecursion}
use Rattle.std.specs.List.Sorted.{IsPermutation}
use Rattle.std.proofs.lemmas.List.Sorted.{IsPermutation-refl, IsPermutation-cons, IsPermutation-middle, IsPermutation-trans}
use Rattle.std.proofs.Math.Logic.{∥∥₁_elim}
use Rattle.std.proofs.Props.{props}
use Rattle.dns_names.specs.Name.{Labels}
use Rattle.dns_records.specs.Record.{Record, IsRecord}
use Rattle.dns_masterfile.specs.declared.FileError.{FileError}
use Rattle.dns_zone.specs.Records.{is_ordered}
use Rattle.dns_zone.specs.Made.{IsSetOf}
use Rattle.dns_masterfile.specs.Meaning.{FileMeans}
use Rattle.dns_masterfile.specs.Reading.{read_file}
use Rattle.dns_zone.proofs.Gathering.{set_is}
use Rattle.dns_masterfile.specs.Printed.{is_wanted, in_print_order, printed_zone}
use Rattle.dns_masterfile.specs.Laws.{PrintMeansZone, PrintKeepsRecords, PrintIsZone}
use Rattle.dns_masterfile.proofs.Agree.{read_is_meant}
use Rattle.dns_masterfile.proofs.PrintMeans.{print_reads}
use Rattle.dns_masterfile.proofs.OneSet.{one_set}

outcome_set : IsSet (Result (List Record) (ℕ × FileError))
outcome_set = hlevel props

-- what is printed of records is read, whatever the origin
pub records_read : (records : List Record) → ∥ AllByRecursion IsRecord records ∥₁ → (origin : Labels) → read_file (printed_zone records) origin ≡ Ok (in_print_order records)
records_read records h origin = ∥∥₁_elim h (outcome_set (read_file (printed_zone records) origin) (Ok (in_print_order records))) (λ all. print_reads records all origin)

-- and so is what it means
pub records_mean : (records : List Record) → ∥ AllByRecursion IsRecord records ∥₁ → (origin : Labels) → FileMeans (printed_zone records) origin (in_print_order records)
records_mean records h origin = read_is_meant (printed_zone records) origin (in_print_order records) (records_read records h origin)

pub zone_means : PrintMeansZone
zone_means zone h origin = records_mean zone.records h.each origin

-- Those that pass a test, and then the others.
permuted_step : (b : Bool) (r : Record) (wanted others rest : List Record) → IsPermutation (wanted ++ others) rest → IsPermutation (cond b (r ∷ wanted) wanted ++ cond (not b) (r ∷ others) others) (r ∷ rest)
permuted_step true r wanted others rest h = IsPermutation-cons r (wanted ++ others) rest h
permuted_step false r wanted others rest h = IsPermutation-trans (wanted ++ r ∷ others) (r ∷ (wanted ++ others)) (r ∷ rest) (IsPermutation-middle wanted r others) (IsPermutation-cons r (wanted ++ others) rest h)

permuted : (records : List Record) → IsPermutation (in_print_order records) records
permuted [] = IsPermutation-refl []
permuted (r ∷ rest) = permuted_step (is_wanted true r) r (filter (is_wanted true) rest) (filter (is_wanted false) rest) rest (permuted rest)

-- records in order are those that are printed of them
pub records_kept : (records : List Record) → is_ordered records ≡ true → IsSetOf (in_print_order records) records
records_kept records h = set_is (in_print_order records) records (permuted records) h

pub print_keeps : PrintKeepsRecords
print_keeps zone h = records_kept zone.records h.ordered

pub print_is_zone : PrintIsZone
print_is_zone zone h set is = one_set (in_print_order zone.records) set zone.records is (print_keeps zone h)
