use Rattle.std.proofs.Common.{map, ◌≡◌, ℕ, Option, Some, None, sym, ap, subst, ◌∙◌}
use Rattle.dns_answer.specs.Answer.{handled}
use Rattle.dns_request.specs.declared.request.Transport.TheVariants.{Tcp}
use Rattle.dns_primary.specs.declared.event.Peer.{Peer}
use Rattle.dns_primary.specs.declared.event.To.TheVariants.{Connection}
use Rattle.dns_primary.specs.Machine.{kept_of, peer_at, shown_zones}
use Rattle.dns_primary.specs.Step.{Arrives, Step, arrived_lacks, base_moved, request_lacks}
use Rattle.dns_primary.specs.Steps.{AtAnyMomentOf, nothing}
use Rattle.dns_primary.proofs.Events.{arrived, arrived_nowhere}
use Rattle.dns_primary.proofs.Moved.{on_any}
use Rattle.dns_primary.proofs.Served.{rests, stays}
use Rattle.dns_primary.proofs.primary.Primary.arrive.Goals as goal

pub returns-in-Some-clause-step : goal.returns-in-Some-clause-step
returns-in-Some-clause-step g c old kept =
    let event = Arrives c.args.number c.args.octets.now in
    let there : peer_at c.args.number old.connections ≡ Some c.in-Some.peer = sym (kept.connections_are c.args.number) ∙ sym c.get.ensures ∙ sym c.copied.ensures ∙ c.in-Some.is in
    let lacks : base_moved old event ≡ request_lacks old (Connection c.args.number) c.in-Some.peer (handled (shown_zones old) c.args.octets.now Tcp) = ap (λ (o : Option Peer). arrived_lacks old c.args.number o c.args.octets.now) there in
    let s = c.serve.ensures.step old kept in
    record {
      fails = s.fails;
      failed = s.failed;
      any_moment = subst (λ (o : Option (ℕ × ℕ)). AtAnyMomentOf g.S.ZoneStore o old c.args.self.now.pending.items c.serve.new.self.pending.items) (sym lacks) s.any_moment;
      honest = s.honest;
      next = s.next;
      stated = s.stated;
      is = arrived old s.next c.args.number c.in-Some.peer c.args.octets.now s.fails s.stated there s.is;
      effects_are = s.effects_are;
      kept = s.kept;
    }

pub serve-requires-clause-there : goal.serve-requires-clause-there
serve-requires-clause-there g c none = (let there = sym none ∙ sym c.get.ensures ∙ sym c.copied.ensures ∙ c.in-Some.is in cc)

pub returns-in-None-clause-step : goal.returns-in-None-clause-step
returns-in-None-clause-step g c old kept =
    let event = Arrives c.args.number c.args.octets.now in
    let none : peer_at c.args.number old.connections ≡ None = sym (kept.connections_are c.args.number) ∙ sym c.get.ensures ∙ sym c.copied.ensures ∙ c.in-None.is in
    on_any old c.args.self.now c.args.self.now c.nothing.result (base_moved old event) (λ fails stated next. Step fails old event stated next)
    (stays c.args.self.now old c.nothing.result nothing (λ fails stated next. Step fails old event stated next) (rests g.S.ZoneStore c.args.self.now.zones.items c.args.self.now.pending.items (map kept_of old.zones) (λ x k h honest y left. g.met.S.ZoneStore.at_rest x k h honest y left) kept.zones_are) kept c.nothing.ensures.effects_are (arrived_nowhere old c.args.number c.args.octets.now none))
