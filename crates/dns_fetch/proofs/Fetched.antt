-- How a run that takes a zone in ends.
use Rattle.std.proofs.Common.{◌≡◌, ℕ, Bool, true, false, inl, inr, List, [], Option, Some, Result, Ok, Err, IfOk, refl, sym, ap, subst, ◌∙◌, arith}
use Rattle.std.specs.Prelude.{◌⊎◌}
use Rattle.std.specs.Bool.{MatchBool}
use Rattle.std.specs.Option.{option_copied}
use Rattle.std.specs.Io.KnownBytes.{Appends}
use Rattle.std.specs.declared.net.socket_addr.SocketAddr.{SocketAddr}
use Rattle.std.proofs.KnownBytes.{Keeps-refl}
use Rattle.dns_names.specs.Name.{Labels}
use Rattle.dns_names.specs.Text.{name_of_text}
use Rattle.dns_names.specs.declared.NameError.{NameError}
use Rattle.dns_zone.specs.Zone.{Zone}
use Rattle.dns_masterfile.specs.Printed.{printed_zone}
use Rattle.dns_network.specs.declared.stream.Stream.{Ghosts}
use Rattle.dns_configuration.specs.declared.files.File.{File}
use Rattle.dns_configuration.specs.declared.files.Fault.{Fault}
use Rattle.dns_configuration.specs.declared.files.Fault.TheVariants as files
use Rattle.dns_configuration.specs.Faults.{IsTold, fault_text, is_memory, line, loaded}
use Rattle.dns_fetch.specs.declared.fetch_faults.FetchFault.{FetchFault}
use Rattle.dns_fetch.specs.declared.fetch_faults.FetchFault.TheVariants as fetch
use Rattle.dns_fetch.specs.FetchFaults.{ComesOfAsking, IsFetchTold, fetch_text, is_memory_refused, fetch_status}
use Rattle.dns_fetch.specs.TakingIn.{IsRefusedFrom, IsTakenFrom}
use Rattle.dns_fetch.specs.Fetch.{FetchEnds, IsAskedFor, IsNotAsked}
use Rattle.dns_configuration.proofs.Told.{fault_told}

-- The fault of a server was told: the status is 3, or it is 1 and the fault is one of those that are refusals.
pub fetch_told : {E : Type 0} (P : ℕ → Type 0) (server : List ℕ) (fault : FetchFault) (explain : Bool) (err err_after : Option (List ℕ)) (r : Result ℕ E) → IfOk r (λ status. IsFetchTold server fault explain err err_after status) → P 3 → (fetch_status fault ≡ 1 → Appends err err_after (line (fetch_text server fault explain)) → P 1) → IfOk r P
fetch_told P server fault explain err err_after (Err e) told failed refused = tt
fetch_told P server fault explain err err_after (Ok status) told failed refused = go (is_memory_refused fault) told
  where
    status_known : (f : FetchFault) → (fetch_status f ≡ 1) ⊎ (fetch_status f ≡ 3)
    status_known fetch.OutOfMemory = inr refl
    status_known fetch.BadAddress = inl refl
    status_known fetch.Unavailable = inr refl
    status_known fetch.Closed = inr refl
    status_known fetch.TimedOut = inr refl
    status_known (fetch.Refused why) = inl refl

    known : status ≡ fetch_status fault → Appends err err_after (line (fetch_text server fault explain)) → ((fetch_status fault ≡ 1) ⊎ (fetch_status fault ≡ 3)) → P status
    known e said (inl one) = subst P (sym (e ∙ one)) (refused one said)
    known e said (inr three) = subst P (sym (e ∙ three)) failed

    go : (b : Bool) → MatchBool b (status ≡ 3) ((status ≡ fetch_status fault) × Appends err err_after (line (fetch_text server fault explain))) → P status
    go true e = subst P (sym e) failed
    go false e = known e.0 e.1 (status_known fault)

module _ {S : Type 0} (g : Ghosts S) (reached : SocketAddr → S → Type 0) (server origin : List ℕ) (since : Option File) (explain : Bool) where
  pub fetch_failed : (out out_after err err_after : Option (List ℕ)) → FetchEnds g reached server origin since explain out out_after err err_after 3
  fetch_failed out out_after err err_after = record {
    done = λ e. absurd (omega (arith, e));
    refused = λ e. absurd (omega (arith, e));
    others = inr refl;
  }

  -- Nothing was asked for.
  pub not_asked : (out err err_after : Option (List ℕ)) (text : List ℕ) → IsNotAsked server origin since explain text → Appends err err_after (line text) → FetchEnds g reached server origin since explain out out err err_after 1
  not_asked out err err_after text why said = record {
    done = λ e. absurd (omega (arith, e));
    refused = λ _. (text, said, Keeps-refl out, inl why);
    others = inl (omega arith);
  }

  -- The origin is no name.
  pub no_origin : (fault : Fault) → ((fault ≡ files.OutOfMemory) ⊎ ((fault ≡ files.BadOrigin) × ((e : NameError) × (name_of_text [] origin ≡ Err e)))) → is_memory fault ≡ false → IsNotAsked server origin since explain (fault_text origin fault)
  no_origin fault (inl memory) is = absurd (let none : true ≡ false = sym (ap is_memory memory) ∙ is in cc)
  no_origin fault (inr (bad, why)) is = inr (inl (why.0, why.1, ap (fault_text origin) bad))

  -- The file holds no zone.
  pub no_version : (fault : Fault) (file : File) (apex : Labels) → ((is_memory fault ≡ true) ⊎ ((held : File) × (since ≡ Some held) × (loaded (option_copied held.octets) apex ≡ Err fault))) → since ≡ Some file → name_of_text [] origin ≡ Ok apex → is_memory fault ≡ false → IsNotAsked server origin since explain (fault_text file.path.now fault)
  no_version fault file apex (inl memory) from named is = absurd (let none : true ≡ false = sym memory ∙ is in cc)
  no_version fault file apex (inr (held, given, why)) from named is =
      let same : ◌≡◌ {A = Option File} (Some held) (Some file) = sym given ∙ from in
      let one : held ≡ file = cc in
      inr (inr (file, apex, fault, from, named, subst (λ (f : File). loaded (option_copied f.octets) apex ≡ Err fault) one why, refl))

  -- The answer was refused, or nothing came of the request.
  pub answer_told : (address : SocketAddr) (apex : Labels) (held : Option Zone) (fault : FetchFault) (out err err_after : Option (List ℕ)) → IsAskedFor server origin since address apex held → ComesOfAsking fault (λ f. IsRefusedFrom g (reached address) apex held f) → fetch_status fault ≡ 1 → Appends err err_after (line (fetch_text server fault explain)) → FetchEnds g reached server origin since explain out out err err_after 1
  answer_told address apex held fetch.OutOfMemory out err err_after asked why is said = absurd cc
  answer_told address apex held fetch.BadAddress out err err_after asked why is said = absurd why
  answer_told address apex held fetch.Unavailable out err err_after asked why is said = absurd cc
  answer_told address apex held fetch.Closed out err err_after asked why is said = absurd cc
  answer_told address apex held fetch.TimedOut out err err_after asked why is said = absurd cc
  answer_told address apex held (fetch.Refused fault) out err err_after asked why is said = record {
    done = λ e. absurd (omega (arith, e));
    refused = λ _. (fetch_text server (fetch.Refused fault) explain, said, Keeps-refl out, inr (fault, record { address = address; apex = apex; held = held; asked = asked; refused = why }, refl));
    others = inl (omega arith);
  }

  -- The zone was printed.
  pub shown : {E : Type 0} (address : SocketAddr) (apex : Labels) (held after : Option Zone) (zone : Zone) (out out_after err : Option (List ℕ)) (r : Result ℕ E) → IsAskedFor server origin since address apex held → after ≡ Some zone → IsTakenFrom g (reached address) apex held zone.records
      → IfOk r (λ status. (status ≡ 3) ⊎ ((status ≡ 0) × ((z : Zone) × (after ≡ Some z) × Appends out out_after (printed_zone z.records))))
      → IfOk r (λ status. FetchEnds g reached server origin since explain out out_after err err status)
  shown address apex held after zone out out_after err (Err e) asked is taken h = tt
  shown address apex held after zone out out_after err (Ok status) asked is taken (inl failed) = subst (λ (s : ℕ). FetchEnds g reached server origin since explain out out_after err err s) (sym failed) (fetch_failed out out_after err err)
  shown address apex held after zone out out_after err (Ok status) asked is taken (inr done) =
      let z = done.1 in
      let same : ◌≡◌ {A = Option Zone} (Some zone) (Some z.0) = sym is ∙ z.1 in
      let one : zone ≡ z.0 = cc in
      subst (λ (s : ℕ). FetchEnds g reached server origin since explain out out_after err err s) (sym done.0)
      (record {
        done = λ _. (zone.records, record { address = address; apex = apex; held = held; asked = asked; taken = taken }, subst (λ (x : Zone). Appends out out_after (printed_zone x.records)) (sym one) z.2, Keeps-refl err);
        refused = λ e. absurd (omega (arith, e));
        others = inl (omega arith);
      })

  -- What is wrong with the file was told.
  pub since_told : {E : Type 0} (fault : Fault) (apex : Labels) (out err err_after : Option (List ℕ)) (r : Result ℕ E) → name_of_text [] origin ≡ Ok apex → ((is_memory fault ≡ true) ⊎ ((held : File) × (since ≡ Some held) × (loaded (option_copied held.octets) apex ≡ Err fault)))
      → IfOk r (λ status. (status ≡ 3) ⊎ ((file : File) × (since ≡ Some file) × IsTold file.path.now fault err err_after status))
      → IfOk r (λ status. FetchEnds g reached server origin since explain out out err err_after status)
  since_told fault apex out err err_after (Err e) named why told = tt
  since_told fault apex out err err_after (Ok status) named why (inl failed) = subst (λ (s : ℕ). FetchEnds g reached server origin since explain out out err err_after s) (sym failed) (fetch_failed out out err err_after)
  since_told {E} fault apex out err err_after (Ok status) named why (inr told) =
      fault_told {E = E} (λ (s : ℕ). FetchEnds g reached server origin since explain out out err err_after s) told.0.path.now fault err err_after (Ok status) told.2
      (fetch_failed out out err err_after)
      (λ is said. not_asked out err err_after (fault_text told.0.path.now fault) (no_version fault told.0 apex why told.1 named is) said)
