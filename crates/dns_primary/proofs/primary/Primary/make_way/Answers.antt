use Rattle.std.proofs.Common.{ℕ, Option, None, sym, subst}
use Rattle.std.specs.Prelude.{option_map}
use Rattle.dns_primary.specs.Steps.{IsBegunOrLacks, SteppedOn}
use Rattle.std.proofs.Common.{inl}
use Rattle.dns_primary.proofs.Moved.{on_any}
use Rattle.dns_primary.proofs.primary.Primary.make_way.Goals as goal

pub returns-in-Some-clause-step : goal.returns-in-Some-clause-step
returns-in-Some-clause-step g c old kept =
    let lacked = λ (o : Option ℕ). option_map (λ (sectors : ℕ). (c.args.index, sectors)) o in
    subst (λ (o : Option ℕ). SteppedOn old (lacked o) c.args.self.now c.make_room.new.self c.make_room.result (IsBegunOrLacks old (lacked o))) (sym c.in-Some.is) (c.make_room.ensures.step old kept)

pub returns-in-None-clause-step : goal.returns-in-None-clause-step
returns-in-None-clause-step g c old kept =
    let lacked = λ (o : Option ℕ). option_map (λ (sectors : ℕ). (c.args.index, sectors)) o in
    let s = c.make_place.ensures.step old kept in
    subst (λ (o : Option ℕ). SteppedOn old (lacked o) c.args.self.now c.make_place.new.self c.make_place.result (IsBegunOrLacks old (lacked o))) (sym c.in-None.is)
    (on_any old c.args.self.now c.make_place.new.self c.make_place.result None (IsBegunOrLacks old None)
    (record { fails = s.fails; failed = s.failed; any_moment = s.any_moment; honest = s.honest; next = s.next; stated = s.stated; is = inl s.is; effects_are = s.effects_are; kept = s.kept }))
