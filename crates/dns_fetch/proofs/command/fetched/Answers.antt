use Rattle.std.proofs.Common.{ℕ, [], inl, inr, refl}
use Rattle.std.specs.Option.{option_copied}
use Rattle.dns_configuration.specs.Faults.{fault_text}
use Rattle.dns_configuration.proofs.Called.{ended_as, no_calls}
use Rattle.dns_configuration.proofs.Told.{fault_told}
use Rattle.dns_fetch.specs.Connecting.{IsStreamOf}
use Rattle.dns_fetch.specs.Fetch.{FetchEnds, IsAskedFor}
use Rattle.dns_fetch.specs.FetchFaults.{fetch_text}
use Rattle.dns_fetch.specs.declared.fetch_faults.FetchFault.TheVariants.{BadAddress}
use Rattle.dns_fetch.proofs.Fetched.{answer_told, fetch_failed, fetch_told, no_origin, not_asked, shown, since_told}
use Rattle.dns_fetch.proofs.command.fetched.Goals as goal

pub returns-in-Err-held_version : goal.returns-in-Err-held_version
returns-in-Err-held_version g c =
    let server = c.args.asked.server.now in
    let origin = c.args.asked.origin.now in
    let since = option_copied c.args.asked.since in
    let out = g.W.Write.contents c.args.out.now in
    let err = g.E.Write.contents c.args.err.now in
    let err_after = g.E.Write.contents c.tell_since.new.err in
    let ends : ℕ → Type 0 = λ status. FetchEnds g.S.Stream (IsStreamOf []) server origin since c.args.asked.explain out out err err_after status in
    no_calls _ _ (
      inl refl,
      ended_as ends c.tell_since.result (fetch_failed g.S.Stream (IsStreamOf []) server origin since c.args.asked.explain out out err err_after)
          (since_told g.S.Stream (IsStreamOf []) server origin since c.args.asked.explain c.in-Err-held_version.fault c.in-Ok.name out err err_after c.tell_since.result c.in-Ok.ensures c.in-Err-held_version.ensures.refused c.tell_since.ensures),
    )

pub returns-in-Ok-take_from : goal.returns-in-Ok-take_from
returns-in-Ok-take_from g c =
    let server = c.args.asked.server.now in
    let origin = c.args.asked.origin.now in
    let since = option_copied c.args.asked.since in
    let asked : IsAskedFor server origin since c.in-Some.address c.in-Ok.name c.in-Ok-held_version.held = record {
      address_is = c.in-Some.ensures;
      named = c.in-Ok.ensures;
      from = c.in-Ok-held_version.ensures.held;
    } in
    let calls = c.in-Ok-take_from.ensures.0 in
    let one = c.in-Ok-take_from.ensures.2.0 in
    let taken = c.in-Ok-take_from.ensures.2.1 in
    let out = g.W.Write.contents c.args.out.now in
    let out_after = g.W.Write.contents c.show_taken.new.out in
    let err = g.E.Write.contents c.args.err.now in
    let ends : ℕ → Type 0 = λ status. FetchEnds g.S.Stream (IsStreamOf calls) server origin since c.args.asked.explain out out_after err err status in (
      calls,
      c.in-Ok-take_from.ensures.1,
      (
        inr (c.in-Some.address, c.in-Some.ensures, one),
        ended_as ends c.show_taken.result (fetch_failed g.S.Stream (IsStreamOf calls) server origin since c.args.asked.explain out out_after err err)
            (shown g.S.Stream (IsStreamOf calls) server origin since c.args.asked.explain c.in-Some.address c.in-Ok.name c.in-Ok-held_version.held c.in-Ok-take_from.secondary.held taken.0 out out_after err c.show_taken.result
            asked taken.1 taken.2 c.show_taken.ensures),
      ),
    )

pub returns-in-Err-take_from : goal.returns-in-Err-take_from
returns-in-Err-take_from g c =
    let server = c.args.asked.server.now in
    let origin = c.args.asked.origin.now in
    let since = option_copied c.args.asked.since in
    let fault = c.in-Err-take_from.fault in
    let calls = c.in-Err-take_from.ensures.0 in
    let one = c.in-Err-take_from.ensures.2.0 in
    let out = g.W.Write.contents c.args.out.now in
    let err = g.E.Write.contents c.args.err.now in
    let err_after = g.E.Write.contents c.tell_fetch-in-Err-take_from.new.err in
    let asked : IsAskedFor server origin since c.in-Some.address c.in-Ok.name c.in-Ok-held_version.held = record {
      address_is = c.in-Some.ensures;
      named = c.in-Ok.ensures;
      from = c.in-Ok-held_version.ensures.held;
    } in
    let ends : ℕ → Type 0 = λ status. FetchEnds g.S.Stream (IsStreamOf calls) server origin since c.args.asked.explain out out err err_after status in
    let failed = fetch_failed g.S.Stream (IsStreamOf calls) server origin since c.args.asked.explain out out err err_after in (
      calls,
      c.in-Err-take_from.ensures.1,
      (
        inr (c.in-Some.address, c.in-Some.ensures, one),
        ended_as ends c.tell_fetch-in-Err-take_from.result failed
            (fetch_told ends server fault c.args.asked.explain err err_after c.tell_fetch-in-Err-take_from.result c.tell_fetch-in-Err-take_from.ensures failed
            (λ is said. answer_told g.S.Stream (IsStreamOf calls) server origin since c.args.asked.explain c.in-Some.address c.in-Ok.name c.in-Ok-held_version.held fault out err err_after asked c.in-Err-take_from.ensures.2.1 is said)),
      ),
    )

pub returns-in_default : goal.returns-in_default
returns-in_default g c =
    let server = c.args.asked.server.now in
    let origin = c.args.asked.origin.now in
    let since = option_copied c.args.asked.since in
    let fault = BadAddress in
    let out = g.W.Write.contents c.args.out.now in
    let err = g.E.Write.contents c.args.err.now in
    let err_after = g.E.Write.contents c.tell_fetch.new.err in
    let ends : ℕ → Type 0 = λ status. FetchEnds g.S.Stream (IsStreamOf []) server origin since c.args.asked.explain out out err err_after status in
    let failed = fetch_failed g.S.Stream (IsStreamOf []) server origin since c.args.asked.explain out out err err_after in
    no_calls _ _ (
      inl refl,
      ended_as ends c.tell_fetch.result failed
          (fetch_told ends server fault c.args.asked.explain err err_after c.tell_fetch.result c.tell_fetch.ensures failed
          (λ _ said. not_asked g.S.Stream (IsStreamOf []) server origin since c.args.asked.explain out err err_after (fetch_text server BadAddress c.args.asked.explain) (inl (c.in_default.ensures, refl)) said)),
    )

pub returns-in-Err : goal.returns-in-Err
returns-in-Err g c =
    let server = c.args.asked.server.now in
    let origin = c.args.asked.origin.now in
    let since = option_copied c.args.asked.since in
    let fault = c.in-Err.fault in
    let out = g.W.Write.contents c.args.out.now in
    let err = g.E.Write.contents c.args.err.now in
    let err_after = g.E.Write.contents c.tell.new.err in
    let ends : ℕ → Type 0 = λ status. FetchEnds g.S.Stream (IsStreamOf []) server origin since c.args.asked.explain out out err err_after status in
    let failed = fetch_failed g.S.Stream (IsStreamOf []) server origin since c.args.asked.explain out out err err_after in
    no_calls _ _ (
      inl refl,
      ended_as ends c.tell.result failed
          (fault_told ends origin fault err err_after c.tell.result c.tell.ensures failed
          (λ is said. not_asked g.S.Stream (IsStreamOf []) server origin since c.args.asked.explain out err err_after (fault_text origin fault) (no_origin g.S.Stream (IsStreamOf []) server origin since c.args.asked.explain fault c.in-Err.ensures is) said)),
    )
