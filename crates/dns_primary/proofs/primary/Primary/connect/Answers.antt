use Rattle.std.proofs.Common.{map, ◌<◌, ◌≤◌, [], length, inl, inr, Some, refl, sym, ◌∙◌, arith}
use Rattle.dns_primary.specs.declared.event.Noted.TheVariants.{Nothing}
use Rattle.dns_primary.specs.Connections.{connected}
use Rattle.dns_primary.specs.Step.{Step, Connect}
use Rattle.dns_primary.specs.Steps.{nothing}
use Rattle.dns_primary.proofs.Connected.{connected_are}
use Rattle.dns_primary.proofs.Transferred.{made_sending}
use Rattle.dns_primary.specs.Machine.{kept_of}
use Rattle.dns_primary.proofs.Served.{as_honest, rests, gives_none, stays}
use Rattle.dns_primary.proofs.primary.Primary.connect.Goals as goal

pub returns-then-len-ge-MOST_CONNECTIONS-clause-step : goal.returns-then-len-ge-MOST_CONNECTIONS-clause-step
returns-then-len-ge-MOST_CONNECTIONS-clause-step g c old kept =
    let most : 64 ≤ length old.connections = omega (arith, kept.as_many, c.len.ensures, c.if-len-ge-MOST_CONNECTIONS.true) in
    stays c.args.self.now old c.nothing-effects.result nothing (λ fails stated next. Step fails old (Connect c.args.peer) stated next) (rests g.S.ZoneStore c.args.self.now.zones.items c.args.self.now.pending.items (map kept_of old.zones) (λ x k h honest y left. g.met.S.ZoneStore.at_rest x k h honest y left) kept.zones_are) kept c.nothing-effects.ensures.effects_are
    (inl (refl, inr (most, gives_none old)))

pub returns-clause-step : goal.returns-clause-step
returns-clause-step g c old kept =
    let number = c.insert_reserved-number.result in
    let made = c.insert_reserved-number.ensures in
    let effects_are = c.nothing-effects.ensures.effects_are in
    let few : length old.connections < 64 = omega (arith, kept.as_many, c.len.ensures, c.if-len-ge-MOST_CONNECTIONS.false) in
    let below : number < 64 = omega (arith, made.key_in_range, made.capacity, c.args.self.now.room) in
    let free = sym (kept.connections_are number) ∙ made.was_vacant in
    record {
      fails = [];
      failed = tt;
      any_moment = (rests g.S.ZoneStore c.args.self.now.zones.items c.args.self.now.pending.items (map kept_of old.zones) (λ x k h honest y left. g.met.S.ZoneStore.at_rest x k h honest y left) kept.zones_are);
      honest = as_honest g.S.ZoneStore c.args.self.now.pending.items;
      next = connected number c.args.peer old;
      stated = record { sent = []; accepted = Some number; noted = Nothing };
      is = inl (refl, inl (record { few = few; number = number; below = below; free = free; state = refl; reported = refl }));
      effects_are = record { sent = effects_are.sent; told = effects_are.told; accepted = refl; noted = effects_are.noted };
      kept = record {
        zones_are = kept.zones_are;
        settings_are = kept.settings_are;
        waiting_are = kept.waiting_are;
        transfers_are = λ n. kept.transfers_are n ∙ made_sending number n c.args.peer old.connections free;
        connections_are = connected_are c.args.self.now.connections c.insert_reserved-number.new.self number c.args.peer old.connections made.updates kept.connections_are;
        as_many = omega (arith, made.len, kept.as_many);
      };
    }
