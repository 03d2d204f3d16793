use Rattle.std.proofs.Common.{map, ◌≡◌, true, false, arith}
use Rattle.std.specs.Prelude.{None}
use Rattle.std.proofs.lemmas.Bool.Decides.{nat_tests}
use Rattle.dns_primary.specs.Update.{is_full}
use Rattle.dns_primary.proofs.Waited.{long2}
use Rattle.dns_primary.specs.Machine.{kept_of}
use Rattle.dns_primary.proofs.Served.{rests, placed_full, placed_free, stays}
use Rattle.dns_primary.specs.Step.{IsUpdateBegun}
use Rattle.dns_primary.specs.Steps.{nothing}
use Rattle.dns_primary.proofs.primary.Primary.make_place.Goals as goal

pub returns-then-is_full-clause-step : goal.returns-then-is_full-clause-step
returns-then-is_full-clause-step g c old kept =
    let long = long2 c.args.self.now.waiting.items old.waiting kept.waiting_are in
    let full : is_full old ≡ true = grind (arith, nat_tests, long, c.is_full.ensures.value, c.if-is_full.true) in
    let s = c.flush.ensures.step old kept in
    record { fails = s.fails; failed = s.failed; any_moment = s.any_moment; honest = s.honest; next = s.next; stated = s.stated; is = placed_full old s.fails s.stated s.next full s.is; effects_are = s.effects_are; kept = s.kept }

pub returns-clause-step : goal.returns-clause-step
returns-clause-step g c old kept =
    let long = long2 c.args.self.now.waiting.items old.waiting kept.waiting_are in
    let free : is_full old ≡ false = grind (arith, nat_tests, long, c.is_full.ensures.value, c.is_full.ensures.fits, c.if-is_full.false) in
    stays c.args.self.now old c.nothing.result nothing (λ fails stated next. IsUpdateBegun fails old None stated next) (rests g.S.ZoneStore c.args.self.now.zones.items c.args.self.now.pending.items (map kept_of old.zones) (λ x k h honest y left. g.met.S.ZoneStore.at_rest x k h honest y left) kept.zones_are) kept c.nothing.ensures.effects_are (placed_free old free)
