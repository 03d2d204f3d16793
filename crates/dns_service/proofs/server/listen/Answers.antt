use Rattle.std.proofs.Common.{◌≡◌, ℕ, List, [], ◌++◌, ◌-◌, Option, None, inr, refl, sym, ap, subst, take, ◌∙◌}
use Rattle.std.specs.Prelude.{replicate}
use Rattle.std.specs.Io.KnownBytes.{Appends}
use Rattle.std.proofs.KnownBytes.{Appends-nil}
use Rattle.dns_service.specs.Log.{logged}
use Rattle.dns_service.specs.Telling.{telling_of}
use Rattle.dns_service.proofs.Counted.{begins_so}
use Rattle.dns_service.proofs.Logged.{has_listened}
use Rattle.dns_service.proofs.Turned.{none_run}
use Rattle.dns_service.proofs.server.listen.Goals as goal

-- Slots in a list that was empty.
none_yet : {T : Type 0} {old new : List (Option T)} {n : ℕ} → old ≡ [] → n ≡ 0 → new ≡ take 64 old ++ replicate (64 - n) None → new ≡ replicate 64 None
none_yet {T = T} empty none filled = filled ∙ (λ i. take 64 (empty i) ++ replicate (64 - none i) None)

pub returns-then-is_written-clause-ended : goal.returns-then-is_written-clause-ended
returns-then-is_written-clause-ended g c =
    let text = g.E.Write.contents in
    let told = c.in_ok-is_told.ensures.told c.if-is_told.true (begins_so c.args.service.now.count_every c.new.ensures) in
    let said = text c.run_recorded.new.log.err.now in
    let is = c.if-is_written.true in
    inr (
      refl,
      has_listened (telling_of c.args.service.now) told (λ log. log.err.ghost_name) (λ log. log.origins.now) (λ log. log.is_quiet) (λ log. log.has_failed) (λ log. logged (text log.err.now) log.lines.now.items log.counts log.addresses.now.items log.transfers.now.items) (λ old one new h. (h.1, h.2, h.3, h.4))
          (λ old event effects new h. (h.1, h.2, h.3, h.4)) refl refl
          (text c.args.err.now) said c.in_ok-tell_listening.ensures
          (record { none = c.new-lines.ensures.items; fresh = λ i. record { counts = c.new-counts.ensures i; addresses = none_yet c.new-opened.ensures.items c.new-opened.ensures.len c.in_ok-resize.ensures.items i; transfers = none_yet c.new-transfers.ensures.items c.new-transfers.ensures.len c.in_ok-resize-2.ensures.items i } }) (c.is_written.ensures.whole is)
          (subst (λ (lines : List ℕ). Appends said said lines) (sym (c.is_written.ensures.lines is)) (Appends-nil said)) (λ same. ap text (c.err-then-is_told-1.given.1 same)) (ap g.O.Write.contents (c.out-1.given.1 (sym c.in_ok-is_told.ensures.same_output))),
    )

pub returns-in_err-tell_unavailable-in-Err-clause-run : goal.returns-in_err-tell_unavailable-in-Err-clause-run
returns-in_err-tell_unavailable-in-Err-clause-run g c = none_run (λ x k kept honest z left. g.met.S.ZoneStore.at_rest x k kept honest z left) _

pub returns-in-Err-clause-run : goal.returns-in-Err-clause-run
returns-in-Err-clause-run g c = none_run (λ x k kept honest z left. g.met.S.ZoneStore.at_rest x k kept honest z left) _

pub returns-in_err-tell_listening-clause-run : goal.returns-in_err-tell_listening-clause-run
returns-in_err-tell_listening-clause-run g c = none_run (λ x k kept honest z left. g.met.S.ZoneStore.at_rest x k kept honest z left) _

pub returns-in_err-resize-clause-run : goal.returns-in_err-resize-clause-run
returns-in_err-resize-clause-run g c = none_run (λ x k kept honest z left. g.met.S.ZoneStore.at_rest x k kept honest z left) _

pub returns-in_err-resize-2-clause-run : goal.returns-in_err-resize-2-clause-run
returns-in_err-resize-2-clause-run g c = none_run (λ x k kept honest z left. g.met.S.ZoneStore.at_rest x k kept honest z left) _
