-- What a file that is read, or refused, means.
use Rattle.std.proofs.Common.{◌≡◌, ◌⊎◌, inl, inr, ℕ, List, Ok, Err}
use Rattle.std.specs.Prelude.{Result, MatchResult, IfOk, IfErr}
use Rattle.dns_names.specs.Name.{Labels}
use Rattle.dns_records.specs.Record.{Record}
use Rattle.dns_masterfile.specs.declared.FileError.{FileError}
use Rattle.dns_masterfile.specs.declared.FileError.TheVariants.{OutOfMemory}
use Rattle.dns_masterfile.specs.Meaning.{FileMeans}
use Rattle.dns_masterfile.specs.Reading.{read_file}
use Rattle.dns_masterfile.proofs.Agree.{read_is_meant, refused_means_none}

pub read_found : {V : Type 0} (shown : V → List Record) (octets : List ℕ) (origin : Labels) (r : Result V (ℕ × FileError)) → MatchResult r (λ v. read_file octets origin ≡ Ok (shown v)) (λ e. (e.1 ≡ OutOfMemory) ⊎ (read_file octets origin ≡ Err e)) → IfOk r (λ v. FileMeans octets origin (shown v))
read_found shown octets origin (Ok v) h = read_is_meant octets origin (shown v) h
read_found shown octets origin (Err e) h = tt

pub read_only : {V : Type 0} (shown : V → List Record) (octets : List ℕ) (origin : Labels) (r : Result V (ℕ × FileError)) (records : List Record) → MatchResult r (λ v. read_file octets origin ≡ Ok (shown v)) (λ e. (e.1 ≡ OutOfMemory) ⊎ (read_file octets origin ≡ Err e)) → FileMeans octets origin records → IfErr r (λ e. e.1 ≡ OutOfMemory)
read_only shown octets origin (Ok v) records h means = tt
read_only shown octets origin (Err e) records (inl h) means = h
read_only shown octets origin (Err e) records (inr h) means = absurd (refused_means_none octets origin e records h means)
