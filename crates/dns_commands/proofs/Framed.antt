-- A command that runs for a zone that a text names.
use Rattle.std.proofs.Common.{◌≡◌, ◌<◌, ℕ, zero, suc, true, false, inl, inr, List, [], ◌∷◌, length, take, arith, Option, Some, None, Result, Ok, Err, IfOk, refl, sym, ap, ◌∙◌}
use Rattle.std.specs.Prelude.{◌⊎◌, Bool, cond, find, slice_index_or}
use Rattle.std.specs.Option.{option_copied}
use Rattle.std.specs.Result.{result_unwrap_or}
use Rattle.std.proofs.KnownBytes.{Keeps-refl}
use Rattle.dns_names.specs.Name.{Labels}
use Rattle.dns_names.specs.Text.{name_of_text}
use Rattle.dns_names.specs.declared.NameError.{NameError}
use Rattle.dns_configuration.specs.declared.configuration.ZoneSettings.{ZoneSettings}
use Rattle.dns_configuration.specs.declared.configuration.Configuration.{Configuration}
use Rattle.dns_configuration.specs.declared.files.File.{File}
use Rattle.dns_configuration.specs.declared.files.Fault.{Fault}
use Rattle.dns_configuration.specs.declared.files.Fault.TheVariants.{BadOrigin, OutOfMemory}
use Rattle.dns_configuration.specs.Faults.{IsTold, fault_text, is_memory}
use Rattle.dns_configuration.specs.Files.{HoldsConfiguration}
use Rattle.dns_configuration.specs.Named.{IsNoZoneName, zone_configured}
use Rattle.dns_configuration.proofs.Called.{ended_as}
use Rattle.dns_configuration.proofs.Told.{fault_told}
use Rattle.dns_commands.specs.Frame.{Ended, EndsForNamed, run_end}

-- The origin is no name.
pub no_name : (config : File) (origin : List ℕ) (c : Configuration) (fault : Fault) → HoldsConfiguration (option_copied config.octets) (Ok c) → ((fault ≡ OutOfMemory) ⊎ ((fault ≡ BadOrigin) × ((e : NameError) × (name_of_text [] origin ≡ Err e)))) → (is_memory fault ≡ true) ⊎ IsNoZoneName config origin (fault_text origin fault)
no_name config origin c fault holds (inl memory) = inl (ap is_memory memory)
no_name config origin c fault holds (inr (bad, why)) = inr (inr (c, holds, inl why, ap (fault_text origin) bad))

-- It is that of no zone.
pub no_zone : (config : File) (origin : List ℕ) (c : Configuration) (name : Labels) → HoldsConfiguration (option_copied config.octets) (Ok c) → name_of_text [] origin ≡ Ok name → zone_configured name c.zones.items ≡ None → IsNoZoneName config origin (fault_text origin BadOrigin)
no_zone config origin c name holds named none = inr (c, holds, inr (name, named, none), refl)

-- ---- looking for a zone, one after another
found_on : (b : Bool) (x : ZoneSettings) (o : Option ZoneSettings) → cond b (Some x) o ≡ None → (b ≡ false) × (o ≡ None)
found_on true x o e = absurd cc
found_on false x o e = (refl, e)

-- One more is not it.
pub none_more : (test : ZoneSettings → Bool) (xs : List ZoneSettings) (n : ℕ) (d : ZoneSettings) → n < length xs → find test (take n xs) ≡ None → test (slice_index_or xs n d) ≡ false → find test (take (suc n) xs) ≡ None
none_more test [] n d inside none not = absurd (omega (arith, inside))
none_more test (x ∷ xs) zero d inside none not = ap (λ (b : Bool). cond b (Some x) None) not
none_more test (x ∷ xs) (suc n) d inside none not =
    let on = found_on (test x) x (find test (take n xs)) none in
    ap (λ (b : Bool). cond b (Some x) (find test (take (suc n) xs))) on.0 ∙ none_more test xs n d (omega (arith, inside)) on.1 not

-- The next one is.
pub found_next : (test : ZoneSettings → Bool) (xs : List ZoneSettings) (n : ℕ) (d : ZoneSettings) → n < length xs → find test (take n xs) ≡ None → test (slice_index_or xs n d) ≡ true → find test xs ≡ Some (slice_index_or xs n d)
found_next test [] n d inside none is = absurd (omega (arith, inside))
found_next test (x ∷ xs) zero d inside none is = ap (λ (b : Bool). cond b (Some x) (find test xs)) is
found_next test (x ∷ xs) (suc n) d inside none is =
    let on = found_on (test x) x (find test (take n xs)) none in
    ap (λ (b : Bool). cond b (Some x) (find test xs)) on.0 ∙ found_next test xs n d (omega (arith, inside)) on.1 is

-- What stands there, whatever stands behind the end.
pub same_at : (xs : List ZoneSettings) (n : ℕ) (d e : ZoneSettings) → n < length xs → slice_index_or xs n d ≡ slice_index_or xs n e
same_at [] n d e inside = absurd (omega (arith, inside))
same_at (x ∷ xs) zero d e inside = refl
same_at (x ∷ xs) (suc n) d e inside = same_at xs n d e (omega (arith, inside))

-- No zone was named, which was told.
pub unnamed_told : {C E : Type 0} (P : ZoneSettings → Ended C → Type 0) (config : File) (origin what : List ℕ) (fault : Fault) (explain : Bool) (out err err_after : Option (List ℕ)) (r : Result ℕ E) → ((is_memory fault ≡ true) ⊎ IsNoZoneName config origin (fault_text what fault)) → IfOk r (λ status. IsTold what fault err err_after status) → EndsForNamed config origin P (run_end [] explain out out err err_after (result_unwrap_or r 3))
unnamed_told P config origin what fault explain out err err_after r why told =
    ended_as ends r failed (fault_told ends what fault err err_after r told failed (λ is said. inr (refl, Keeps-refl out, inr (refl, fault_text what fault, unless is why, said))))
  where
    ends : ℕ → Type 0
    ends status = EndsForNamed config origin P (run_end [] explain out out err err_after status)

    failed : ends 3
    failed = inr (refl, Keeps-refl out, inl refl)

    unless : is_memory fault ≡ false → ((is_memory fault ≡ true) ⊎ IsNoZoneName config origin (fault_text what fault)) → IsNoZoneName config origin (fault_text what fault)
    unless is (inl memory) = absurd (let none : true ≡ false = sym memory ∙ is in cc)
    unless is (inr why) = why
