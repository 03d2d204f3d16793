-- How a run of `check` ends.
use Rattle.std.proofs.Common.{◌≡◌, ℕ, inl, inr, true, false, List, [], length, Option, Result, Ok, Err, IfOk, refl, ap, ◌∙◌, arith}
use Rattle.std.specs.Prelude.{◌⊎◌, Bool, Contains}
use Rattle.std.specs.Bool.{MatchBool}
use Rattle.std.specs.Io.KnownBytes.{Appends}
use Rattle.std.proofs.KnownBytes.{Keeps-refl}
use Rattle.dns_names.specs.Name.{Labels}
use Rattle.dns_names.specs.Text.{name_of_text}
use Rattle.dns_records.specs.Types.{type_soa}
use Rattle.dns_records.specs.Record.{Record, serial_of}
use Rattle.dns_configuration.specs.declared.files.Fault.{Fault}
use Rattle.dns_configuration.specs.Faults.{is_memory, line, loaded, fault_text}
use Rattle.dns_commands.specs.Check.{CheckEnds, ok_text}

-- A file that holds a zone.
pub good : (octets : Option (List ℕ)) (path origin : List ℕ) (out out_after err : Option (List ℕ)) (apex : Labels) (records : List Record) (soa : Record) (count serial : ℕ) → name_of_text [] origin ≡ Ok apex → loaded octets apex ≡ Ok records → Contains records soa → soa.rtype ≡ type_soa → count ≡ length records → serial ≡ serial_of soa → Appends out out_after (line (ok_text count serial)) → CheckEnds octets path origin out out_after err err 0
good octets path origin out out_after err apex records soa count serial named holds has is counted shown written = record {
  done = λ _. (ok_text count serial, record { apex = apex; records = records; soa = soa; named = named; holds = holds; has = (has, is); says = ap (λ n. ok_text n serial) counted ∙ ap (ok_text (length records)) shown }, written, Keeps-refl err);
  refused = λ e. absurd (omega (arith, e));
  others = inl (omega arith);
}

-- A file that holds none.
pub bad : {E : Type 0} (octets : Option (List ℕ)) (path origin : List ℕ) (out err err_after : Option (List ℕ)) (apex : Labels) (fault : Fault) (r : Result ℕ E) → name_of_text [] origin ≡ Ok apex → ((is_memory fault ≡ true) ⊎ (loaded octets apex ≡ Err fault)) → IfOk r (λ status. MatchBool (is_memory fault) (status ≡ 3) ((status ≡ 1) × Appends err err_after (line (fault_text path fault)))) → IfOk r (λ status. CheckEnds octets path origin out out err err_after status)
bad octets path origin out err err_after apex fault (Err e) named why h = tt
bad octets path origin out err err_after apex fault (Ok status) named why h = go (is_memory fault) refl h
  where
    failed : status ≡ 3 → CheckEnds octets path origin out out err err_after status
    failed e = record { done = λ f. absurd (omega (arith, e, f)); refused = λ f. absurd (omega (arith, e, f)); others = inr e }

    told_of : is_memory fault ≡ false → ((is_memory fault ≡ true) ⊎ (loaded octets apex ≡ Err fault)) → loaded octets apex ≡ Err fault
    told_of other (inl memory) = absurd cc
    told_of other (inr e) = e

    go : (b : Bool) → is_memory fault ≡ b → MatchBool b (status ≡ 3) ((status ≡ 1) × Appends err err_after (line (fault_text path fault))) → CheckEnds octets path origin out out err err_after status
    go true is e = failed e
    go false is e = record {
      done = λ f. absurd (omega (arith, e.0, f));
      refused = λ _. (fault_text path fault, inr (record { apex = apex; fault = fault; named = named; refused = told_of is why; says = refl }), e.1, Keeps-refl out);
      others = inl (omega (arith, e.0));
    }
