use Rattle.std.proofs.Common.{◌≡◌, List, [], length, map, inl, refl, sym, ap, subst, ◌∙◌}
use Rattle.std.proofs.lemmas.List.{length-map}
use Rattle.dns_versions.specs.Each.{Each2}
use Rattle.dns_primary.specs.declared.event.Waiting.{Waiting}
use Rattle.dns_primary.specs.Machine.{kept_of, Waits}
use Rattle.dns_primary.specs.Connections.{closed, without_connection}
use Rattle.dns_primary.specs.Keeps.{IsWaiting, sending_on}
use Rattle.dns_primary.specs.Steps.{nothing}
use Rattle.dns_primary.proofs.Connected.{closed_are, closed_as_many, map2}
use Rattle.dns_primary.proofs.Transferred.{closed_sending}
use Rattle.dns_primary.proofs.Served.{as_honest, rests}
use Rattle.dns_primary.proofs.Flushed.{refilled}
use Rattle.dns_primary.proofs.primary.Primary.close.Goals as goal

pub returns-clause-step : goal.returns-clause-step
returns-clause-step g c old kept =
    let number = c.args.number in
    let was = c.args.self.now.waiting.items in
    let f = λ (w : Waiting). record w { to = without_connection number w.to } in
    let h = λ (w : Waits). record w { to = without_connection number w.to } in
    let new : c.redirect.new.waiting ≡ map f was = c.redirect.ensures ∙ ap (map f) c.as_mut_slice.ensures.value in
    let y = refilled (length was) c.redirect.new.waiting was (ap length new ∙ length-map was f) in
    let waits : Each2 IsWaiting (map f was) (map h old.waiting) = map2 IsWaiting f h was old.waiting (λ a b r. record { to = ap (without_connection number) r.to; address = r.address; header = r.header; rcode = r.rcode; zone = r.zone; version = r.version; serial = r.serial }) kept.waiting_are in
    let slab = c.args.self.now.connections in
    let left = c.try_remove-closed.new.self in
    record {
      fails = [];
      failed = tt;
      any_moment = (rests g.S.ZoneStore c.args.self.now.zones.items c.args.self.now.pending.items (map kept_of old.zones) (λ x k h honest y left. g.met.S.ZoneStore.at_rest x k h honest y left) kept.zones_are);
      honest = as_honest g.S.ZoneStore c.args.self.now.pending.items;
      next = closed number old;
      stated = nothing;
      is = inl (refl, record { state = refl; sent = refl; accepted = refl; noted = refl });
      effects_are = c.nothing.ensures.effects_are;
      kept = record {
        zones_are = kept.zones_are;
        settings_are = kept.settings_are;
        waiting_are = subst (λ (l : List Waiting). Each2 IsWaiting l (map h old.waiting)) (sym (y ∙ new)) waits;
        transfers_are = λ n. ap (λ (ts : List _). sending_on n ts) c.forget.ensures ∙ closed_sending number c.args.self.now.transfers.items old.connections kept.transfers_are n;
        connections_are = closed_are slab left number old.connections c.try_remove-closed.ensures.updates kept.connections_are kept.as_many;
        as_many = closed_as_many slab left number old.connections c.try_remove-closed.ensures.updates kept.connections_are kept.as_many c.try_remove-closed.result c.try_remove-closed.ensures.value c.try_remove-closed.ensures.len c.try_remove-closed.ensures.absent;
      };
    }
