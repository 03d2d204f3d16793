use Rattle.std.proofs.Common.{List, length, map, sym, subst, ap, refl, ◌∙◌, arith}
use Rattle.std.proofs.lemmas.List.{append-nil}
use Rattle.std.specs.Prelude.{◌↔◌, None}
use Rattle.dns_store.specs.Versions.{OpensAsLeft}
use Rattle.dns_versions.specs.Each.{Each2}
use Rattle.dns_versions.specs.Held.{HasVersions, newest_each}
use Rattle.dns_versions.specs.Flush.{first_true}
use Rattle.dns_primary.specs.declared.event.Waiting.{Waiting}
use Rattle.dns_primary.specs.Machine.{kept_of}
use Rattle.dns_primary.specs.Flush.{flushed, flush_sends}
use Rattle.dns_primary.specs.Step.{noted_of}
use Rattle.dns_primary.specs.Steps.{LeavesIfHonest}
use Rattle.dns_primary.specs.Keeps.{IsWaiting, header_out}
use Rattle.dns_primary.proofs.Flushed.{refilled, moved2, moved3, failed_at, flushed_settings}
use Rattle.dns_primary.proofs.primary.Primary.flush.Goals as goal

pub returns-clause-step : goal.returns-clause-step
returns-clause-step g c old kept =
    let zones = c.args.self.now.zones in
    let pending = c.args.self.now.pending in
    let a = c.deref_mut.ensures.value in
    let b = c.deref_mut-2.ensures.value in
    let given = moved3 (sym a) (sym b) (map kept_of old.zones) (λ z b k. HasVersions g.S.ZoneStore.keeps z b k) kept.zones_are in
    let done = c.flush_zones-failed.ensures.flushed old given kept.waiting_are in
    let fails = done.0 in
    let z = refilled zones.len c.flush_zones-failed.new.zones zones.items (omega (arith, c.flush_zones-failed.auto.zones, ap length a, zones.ok)) in
    let y = refilled pending.len c.flush_zones-failed.new.pending pending.items (omega (arith, c.flush_zones-failed.auto.pending, ap length b, pending.ok)) in
    record {
      fails = fails;
      failed = failed_at (λ b. g.S.ZoneStore.failed b.store) fails b (sym y) done.2;
      any_moment = moved3 b (sym y) (map kept_of old.zones) (λ a b k. LeavesIfHonest g.S.ZoneStore a.store b.store (OpensAsLeft g.S.ZoneStore.opens k)) (c.flush_zones-failed.ensures.any_moment (map kept_of old.zones) given);
      honest = moved2 b (sym y) (λ a b. g.S.ZoneStore.is_honest b.store ↔ g.S.ZoneStore.is_honest a.store) c.flush_zones-failed.ensures.honest;
      next = flushed fails old;
      stated = record { sent = flush_sends fails old; accepted = None; noted = noted_of (first_true fails) };
      is = (done.1, record { state = refl; sent = refl; accepted = refl; noted = refl });
      effects_are = record { sent = sym done.4 ∙ sym (append-nil (map header_out c.flush_zones-failed.new.headers.items)); told = done.5; accepted = refl; noted = sym (c.noted.ensures.value ∙ ap noted_of done.6) };
      kept = record {
        zones_are = moved3 (sym z) (sym y) (map kept_of (flushed fails old).zones) (λ z b k. HasVersions g.S.ZoneStore.keeps z b k) done.3;
        settings_are = flushed_settings c.args.self.now.settings.items fails old.zones kept.settings_are;
        connections_are = kept.connections_are;
        transfers_are = kept.transfers_are;
        as_many = kept.as_many;
        waiting_are = subst (λ (l : List Waiting). Each2 IsWaiting l (flushed fails old).waiting) (sym c.flush_zones-failed.ensures.empty) tt;
      };
    }

pub returns-clause-newest : goal.returns-clause-newest
returns-clause-newest g c =
    let zones = c.args.self.now.zones in
    let pending = c.args.self.now.pending in
    let a = c.deref_mut.ensures.value in
    let b = c.deref_mut-2.ensures.value in
    let z = refilled zones.len c.flush_zones-failed.new.zones zones.items (omega (arith, c.flush_zones-failed.auto.zones, ap length a, zones.ok)) in
    let y = refilled pending.len c.flush_zones-failed.new.pending pending.items (omega (arith, c.flush_zones-failed.auto.pending, ap length b, pending.ok)) in
    (λ i. newest_each (z i) (y i)) ∙ c.flush_zones-failed.ensures.newest ∙ (λ i. newest_each (a i) (b i))
