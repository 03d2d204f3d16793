use Rattle.std.proofs.Common.{◌≡◌, ℕ, [], inl, inr, refl, List, ap, subst, ◌∙◌}
use Rattle.std.specs.declared.net.socket_addr.SocketAddr.{SocketAddr}
use Rattle.dns_names.specs.Name.{Labels}
use Rattle.dns_configuration.specs.Known.{origins_of}
use Rattle.dns_configuration.proofs.Called.{called_on, ended_as, no_calls}
use Rattle.dns_configuration.proofs.Told.{fault_told}
use Rattle.dns_devices.proofs.Told.{failed_as}
use Rattle.dns_primary.specs.Keeps.{IsKept}
use Rattle.dns_primary.specs.Machine.{Machine}
use Rattle.dns_primary.specs.Runs.{Moment}
use Rattle.dns_store.specs.declared.kept_store.KeptStore.{KeptStore}
use Rattle.dns_service.specs.Log.{zone_lines}
use Rattle.dns_service.specs.ServedTurns.{HasTurned, IsLedTo}
use Rattle.dns_service.specs.Opening.{IsNotServed, IsOpenedAs, IsServed}
use Rattle.dns_service.specs.Serve.{ServingEnds}
use Rattle.dns_service.specs.Telling.{AreTurnsTold, Telling, Texts, texts_of}
use Rattle.dns_service.proofs.Served.{at_ok, configuration_refused, device_refused, served, served_for, served_somehow, serving_failed}
use Rattle.dns_service.proofs.server.serve_all.Goals as goal

pub returns-in-Err : goal.returns-in-Err
returns-in-Err g c =
    let config = c.args.config.now in
    let fault = c.in-Err.fault in
    let before = texts_of g.O.Write.contents g.E.Write.contents g.W.Write.contents c.args.streams.now in
    let after : Texts = record before { log = g.E.Write.contents c.tell.new.err } in
    let ends : ℕ → Type 0 = λ status. ServingEnds g.D.Sectors [] config c.args.options before after status in
    let failed = serving_failed g.D.Sectors [] config c.args.options before after (inl refl) in
    no_calls _ _ (ended_as ends c.tell.result failed (fault_told ends config.path.now fault before.log after.log c.tell.result c.tell.ensures failed
    (λ _ said. configuration_refused g.D.Sectors config c.args.options fault before after c.in-Err.ensures.held said)))

pub returns-in-Ok-open_primary : goal.returns-in-Ok-open_primary
returns-in-Ok-open_primary g c =
    let configuration = c.in-Ok.configuration in
    let primary = c.in-Ok-open_primary.primary in
    let after = c.serve_as-status.new.primary in
    let before = texts_of g.O.Write.contents g.E.Write.contents g.W.Write.contents c.args.streams.now in
    let told = texts_of g.O.Write.contents g.E.Write.contents g.W.Write.contents c.serve_as-status.new.streams in
    let origins = c.deref-in-Ok-open_primary.result.now in
    let addresses = c.deref-in-Ok-open_primary-2.result.now in
    let named = origins_of configuration.zones.items in
    let telling : List Labels → List SocketAddr → Telling = λ names listened. record { is_quiet = c.args.options.is_quiet; is_recorded = c.args.options.is_recorded; count_every = c.args.options.count_every; origins = names; addresses = listened } in
    let names : origins ≡ named = c.deref-in-Ok-open_primary.ensures.value ∙ at_ok c.origins_of.result (λ made. made.items ≡ origins_of c.deref.result.now) c.in_ok-origins.origins c.in_ok-origins.was c.origins_of.ensures ∙ ap origins_of c.deref.ensures.value in
    let opening = c.in-Ok-open_primary.ensures.0 in
    let is : IsServed g.D.Sectors opening configuration.zones.items (IsOpenedAs primary) = rw c.deref-2.ensures.value at c.in-Ok-open_primary.ensures.2 in
    let closed = rw c.deref-in-Ok-open_primary-3.ensures.value at c.close_primary.ensures in
    let ran = c.serve_as-status.ensures.run in
    let keeps : Machine → Type 0 = λ m. IsKept primary m in
    let zones = configuration.zones.items in
    let there : (start : Machine) (run : List Moment) (x y : KeptStore _ _ g.D.Sectors) (index : ℕ) → _ = λ start run x y index h. (h.0, λ honest. let left = h.1 honest in record { later = left.later; each = left.each; before = left.before }) in (
      _,
      called_on _ _ _ _ _ c.in-Ok-open_primary.ensures.1 (rw closed.2.0 at closed.1),
      served g.D.Sectors _ c.args.config.now configuration c.args.options before told c.serve_as-status.result c.in-Ok.ensures.held
          (served_somehow g.D.Sectors configuration opening primary after is there closed.2.1 ran)
          (elim c.serve_as-status.ensures.ended [
            | inl failed ↦ inl failed
            | inr (done, turned) ↦ inr (
              done,
              served_for g.D.Sectors configuration opening primary after is there closed.2.1 c.args.options before told
                  (subst (λ (x : List SocketAddr). HasTurned c.args.options.turns (λ turns m. AreTurnsTold (telling named x) (zone_lines named m.zones) m turns before told) keeps (IsLedTo primary after)) c.deref-in-Ok-open_primary-2.ensures.value
                  (subst (λ (x : List Labels). HasTurned c.args.options.turns (λ turns m. AreTurnsTold (telling x addresses) (zone_lines x m.zones) m turns before told) keeps (IsLedTo primary after)) names turned)),
            )
          ]),
    )

pub returns-in_err-origins : goal.returns-in_err-origins
returns-in_err-origins g c =
    let config = c.args.config.now in
    let texts = texts_of g.O.Write.contents g.E.Write.contents g.W.Write.contents c.args.streams.now in
    no_calls _ _ (failed_as (λ (status : ℕ). ServingEnds g.D.Sectors [] config c.args.options texts texts status) c.from_residual.result c.from_residual.ensures.0 (serving_failed g.D.Sectors [] config c.args.options texts texts (inl refl)))

pub returns : goal.returns
returns g c =
    let configuration = c.in-Ok.configuration in
    let zones = configuration.zones.items in
    let calls = c.in-Err-open_primary.ensures.0 in
    let index = c.in-Err-open_primary.refusal.index in
    let fault = c.in-Err-open_primary.refusal.fault in
    let before = texts_of g.O.Write.contents g.E.Write.contents g.W.Write.contents c.args.streams.now in
    let after : Texts = record before { log = g.E.Write.contents c.tell_refusal.new.err } in
    let why : IsNotServed g.D.Sectors calls zones index fault = rw c.deref-2.ensures.value at c.in-Err-open_primary.ensures.2 in (
      calls,
      c.in-Err-open_primary.ensures.1,
      device_refused g.D.Sectors calls c.args.config.now configuration c.args.options index fault before after c.tell_refusal.result c.in-Ok.ensures.held why
          (rw c.deref-in-Err-open_primary.ensures.value at c.tell_refusal.ensures),
    )
