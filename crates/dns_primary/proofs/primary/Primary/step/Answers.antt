use Rattle.std.proofs.Common.{◌≡◌, inl, sym, ap, subst}
use Rattle.std.specs.Prelude.{None}
use Rattle.dns_primary.specs.Step.{Event, Datagram, Connect, Arrives, Flush, Pump, Closed}
use Rattle.dns_primary.specs.Steps.{event_shown, SteppedBy}
use Rattle.dns_primary.proofs.Events.{came}
use Rattle.dns_primary.proofs.Moved.{simple}
use Rattle.dns_primary.proofs.primary.Primary.step.Goals as goal

pub returns-in-Datagram-clause-step : goal.returns-in-Datagram-clause-step
returns-in-Datagram-clause-step g c old kept =
    let s = c.serve.ensures.step old kept in
    let event = Datagram c.in-Datagram.peer c.in-Datagram.octets.now in
    let is : event_shown c.args.event ≡ event = ap event_shown c.in-Datagram.is in
    subst (λ (e : Event). SteppedBy old e c.args.self.now c.serve.new.self c.serve.result) (sym is)
    (record { fails = s.fails; failed = s.failed; any_moment = s.any_moment; honest = s.honest; next = s.next; stated = s.stated; is = came old s.next c.in-Datagram.peer c.in-Datagram.octets.now s.fails s.stated s.is; effects_are = s.effects_are; kept = s.kept })

pub returns-in-Connect-clause-step : goal.returns-in-Connect-clause-step
returns-in-Connect-clause-step g c old kept =
    let event = Connect c.in-Connect.peer in
    let is : event_shown c.args.event ≡ event = ap event_shown c.in-Connect.is in
    subst (λ (e : Event). SteppedBy old e c.args.self.now c.connect.new.self c.connect.result) (sym is)
    (simple old event c.args.self.now c.connect.new.self c.connect.result (λ i. None) (c.connect.ensures.step old kept))

pub returns-in-Message-clause-step : goal.returns-in-Message-clause-step
returns-in-Message-clause-step g c old kept =
    let event = Arrives c.in-Message.number c.in-Message.octets.now in
    let is : event_shown c.args.event ≡ event = ap event_shown c.in-Message.is in
    subst (λ (e : Event). SteppedBy old e c.args.self.now c.arrive.new.self c.arrive.result) (sym is)
    (c.arrive.ensures.step old kept)

pub returns-in-Pump-clause-step : goal.returns-in-Pump-clause-step
returns-in-Pump-clause-step g c old kept =
    let event = Pump c.in-Pump.number in
    let is : event_shown c.args.event ≡ event = ap event_shown c.in-Pump.is in
    subst (λ (e : Event). SteppedBy old e c.args.self.now c.pump.new.self c.pump.result) (sym is)
    (simple old event c.args.self.now c.pump.new.self c.pump.result (λ i. None) (c.pump.ensures.step old kept))

pub returns-in-Closed-clause-step : goal.returns-in-Closed-clause-step
returns-in-Closed-clause-step g c old kept =
    let event = Closed c.in-Closed.number in
    let is : event_shown c.args.event ≡ event = ap event_shown c.in-Closed.is in
    subst (λ (e : Event). SteppedBy old e c.args.self.now c.close.new.self c.close.result) (sym is)
    (simple old event c.args.self.now c.close.new.self c.close.result (λ i. None) (c.close.ensures.step old kept))

pub returns-in-Flush-clause-step : goal.returns-in-Flush-clause-step
returns-in-Flush-clause-step g c old kept =
    let s = c.flush.ensures.step old kept in
    let is : event_shown c.args.event ≡ Flush = ap event_shown c.in-Flush.is in
    subst (λ (e : Event). SteppedBy old e c.args.self.now c.flush.new.self c.flush.result) (sym is)
    (simple old Flush c.args.self.now c.flush.new.self c.flush.result (λ i. None)
    (record { fails = s.fails; failed = s.failed; any_moment = s.any_moment; honest = s.honest; next = s.next; stated = s.stated; is = inl s.is; effects_are = s.effects_are; kept = s.kept }))
