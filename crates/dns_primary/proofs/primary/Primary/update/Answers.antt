use Rattle.std.proofs.Common.{◌≡◌, ℕ, List, [], ◌∷◌, Option, length, map, inl, inr, refl, sym, ap, subst, ◌∙◌, arith}
use Rattle.std.specs.Prelude.{None, option_map}
use Rattle.std.proofs.lemmas.List.{length-map}
use Rattle.dns_zone.specs.Zone.{Zone}
use Rattle.dns_wire.specs.Message.{Header, header_of}
use Rattle.dns_wire.specs.Codes.{number_of_rcode}
use Rattle.dns_wire.specs.Text.{text}
use Rattle.dns_request.specs.Codes.{rcode_servfail}
use Rattle.dns_answer.specs.Answer.{bare_reply}
use Rattle.dns_versions.specs.Held.{HasVersions}
use Rattle.dns_primary.specs.Flush.{Replied}
use Rattle.dns_primary.specs.declared.update.Outcome.TheVariants as outcome
use Rattle.dns_primary.specs.Update.{Admission, Admits, Rejects, admission, admitted, room_lacked}
use Rattle.dns_primary.specs.Step.{IsUpdateBegun}
use Rattle.dns_primary.specs.Steps.{IsBegunOrLacks, IsUpdatedOrLacks, SteppedOn, answered_with}
use Rattle.dns_primary.specs.Keeps.{IsKept, admits_at}
use Rattle.dns_primary.specs.Queue.{IsAnswered, IsStageableAt, IsUpdatePlanned, asked_of}
use Rattle.dns_primary.specs.Machine.{Machine, kept_of}
use Rattle.dns_primary.proofs.Served.{rests, lack, stays, answered, lacks_begun}
use Rattle.dns_primary.proofs.Moved.{on_any}
use Rattle.dns_primary.proofs.Places.{long3_first, some_at}
use Rattle.dns_primary.proofs.Follows.{begun_follows, planned_lacks, still_rejected, rejected_lacks}
use Rattle.dns_primary.proofs.Roomy.{still_planned}
use Rattle.dns_primary.proofs.Answered.{failed_then, honest_then, moments_then, begun_with_memory}
use Rattle.dns_primary.proofs.primary.Primary.update.Goals as goal

pub returns-in_default-clause-step : goal.returns-in_default-clause-step
returns-in_default-clause-step g c old kept =
    let a = asked_of c.args.update.now in
    let reply = λ (h : Header). Replied c.args.update.now.to (text (bare_reply h rcode_servfail)) in
    on_any old c.args.self.now c.args.self.now c.out_of_memory.result (room_lacked old a) (IsUpdatedOrLacks old a)
    (stays c.args.self.now old c.out_of_memory.result (lack (reply (header_of c.args.update.now.header.now))) (IsUpdatedOrLacks old a) (rests g.S.ZoneStore c.args.self.now.zones.items c.args.self.now.pending.items (map kept_of old.zones) (λ x k h honest y left. g.met.S.ZoneStore.at_rest x k h honest y left) kept.zones_are) kept c.out_of_memory.ensures
    (inr (record { noted = refl; accepted = refl; stays = inl (refl, refl, ap (λ (h : Header). reply h ∷ []) c.requires.header) })))

pub returns-in_default-plan-clause-step : goal.returns-in_default-plan-clause-step
returns-in_default-plan-clause-step g c old kept =
    let a = asked_of c.args.update.now in
    let reply = λ (h : Header). Replied c.args.update.now.to (text (bare_reply h rcode_servfail)) in
    on_any old c.args.self.now c.args.self.now c.out_of_memory-in_default-plan.result (room_lacked old a) (IsUpdatedOrLacks old a)
    (stays c.args.self.now old c.out_of_memory-in_default-plan.result (lack (reply (header_of c.args.update.now.header.now))) (IsUpdatedOrLacks old a) (rests g.S.ZoneStore c.args.self.now.zones.items c.args.self.now.pending.items (map kept_of old.zones) (λ x k h honest y left. g.met.S.ZoneStore.at_rest x k h honest y left) kept.zones_are) kept c.out_of_memory-in_default-plan.ensures
    (inr (record { noted = refl; accepted = refl; stays = inl (refl, refl, ap (λ (h : Header). reply h ∷ []) c.requires.header) })))

pub returns-in-Err-clause-step : goal.returns-in-Err-clause-step
returns-in-Err-clause-step g c old kept =
    let a = asked_of c.args.update.now in
    let code = number_of_rcode c.in-Err.rcode in
    let rejected : admission old.zones a ≡ Rejects code = sym (c.in-Err.ensures.admission old kept) in
    let placed = c.make_place-effects.ensures.step old kept in
    let begun = subst (λ (o : Option (ℕ × ℕ)). IsUpdateBegun placed.fails old o placed.stated placed.next) (sym (rejected_lacks old a code rejected)) placed.is in
    let still = still_rejected old placed.next a (begun_follows placed.fails old None placed.stated placed.next placed.is) code rejected in
    let held = λ (m : Machine). IsKept c.make_place-effects.new.self m in
    let done : IsAnswered held placed.next a (admitted placed.next a (admission placed.next.zones a)) (outcome.AtOnce c.in-Err.rcode) =
    subst (λ (d : Admission). IsAnswered held placed.next a (admitted placed.next a d) (outcome.AtOnce c.in-Err.rcode)) (sym still) (refl, placed.kept) in
    let ends = answered held old placed.next a placed.fails placed.stated (outcome.AtOnce c.in-Err.rcode) begun done in
    on_any old c.args.self.now c.make_place-effects.new.self c.with_outcome.result (room_lacked old a) (IsUpdatedOrLacks old a)
    (record {
      fails = placed.fails;
      failed = placed.failed;
      any_moment = placed.any_moment;
      honest = placed.honest;
      next = ends.next;
      stated = answered_with placed.stated a (outcome.AtOnce c.in-Err.rcode);
      is = ends.is;
      effects_are = c.with_outcome.ensures placed.stated placed.effects_are;
      kept = ends.kept;
    })

pub returns-then-lacks_memory-clause-step : goal.returns-then-lacks_memory-clause-step
returns-then-lacks_memory-clause-step g c old kept =
    let a = asked_of c.args.update.now in
    let self = c.args.self.now in
    let index = c.in-Ok-admit.index in
    let planned = c.in-Ok-plan.planned in
    let long = long3_first (λ z b k. HasVersions g.S.ZoneStore.keeps z b k) self.zones.items self.pending.items (map kept_of old.zones) kept.zones_are in
    let at = some_at old.zones index (omega (arith, c.in-Ok-admit.ensures.inside, long, length-map old.zones kept_of)) in
    let admits : admission old.zones a ≡ Admits index at.0 = sym (c.in-Ok-admit.ensures.admission old kept) ∙ ap (admits_at index) at.1 in
    let is : IsUpdatePlanned old a index planned = record { zone = at.0; admits = admits; is = c.in-Ok-plan.ensures.planned old at.0 kept at.1; lacks = c.in-Ok-plan.ensures.lacks old at.0 kept at.1 } in
    let moved : option_map (λ (sectors : ℕ). (index, sectors)) c.lacked.result ≡ room_lacked old a =
    ap (λ (o : Option ℕ). option_map (λ (sectors : ℕ). (index, sectors)) o) c.lacked.ensures ∙ planned_lacks old a index planned is in
    let b = subst (λ (o : Option (ℕ × ℕ)). SteppedOn old o self c.make_way-effects.new.self c.make_way-effects.result (IsBegunOrLacks old o)) moved (c.make_way-effects.ensures.step old kept) in
    record {
      fails = b.fails;
      failed = b.failed;
      any_moment = b.any_moment;
      honest = b.honest;
      next = b.next;
      stated = answered_with b.stated a outcome.OutOfMemory;
      is = inr (lacks_begun old b.next a b.fails b.stated b.is);
      effects_are = c.with_outcome-then-lacks_memory.ensures b.stated b.effects_are;
      kept = b.kept;
    }

pub stage-outcome-requires-clause-stageable : goal.stage-outcome-requires-clause-stageable
stage-outcome-requires-clause-stageable g c =
    subst (λ (l : List Zone). IsStageableAt l c.in-Ok-admit.index c.in-Ok-plan.planned) (sym c.make_way-effects.ensures.newest) c.in-Ok-plan.ensures.stageable

pub returns-clause-step : goal.returns-clause-step
returns-clause-step g c old kept =
    let a = asked_of c.args.update.now in
    let self = c.args.self.now in
    let index = c.in-Ok-admit.index in
    let planned = c.in-Ok-plan.planned in
    let long = long3_first (λ z b k. HasVersions g.S.ZoneStore.keeps z b k) self.zones.items self.pending.items (map kept_of old.zones) kept.zones_are in
    let at = some_at old.zones index (omega (arith, c.in-Ok-admit.ensures.inside, long, length-map old.zones kept_of)) in
    let admits : admission old.zones a ≡ Admits index at.0 = sym (c.in-Ok-admit.ensures.admission old kept) ∙ ap (admits_at index) at.1 in
    let is : IsUpdatePlanned old a index planned = record { zone = at.0; admits = admits; is = c.in-Ok-plan.ensures.planned old at.0 kept at.1; lacks = c.in-Ok-plan.ensures.lacks old at.0 kept at.1 } in
    let moved : option_map (λ (sectors : ℕ). (index, sectors)) c.lacked.result ≡ room_lacked old a =
    ap (λ (o : Option ℕ). option_map (λ (sectors : ℕ). (index, sectors)) o) c.lacked.ensures ∙ planned_lacks old a index planned is in
    let b = subst (λ (o : Option (ℕ × ℕ)). SteppedOn old o self c.make_way-effects.new.self c.make_way-effects.result (IsBegunOrLacks old o)) moved (c.make_way-effects.ensures.step old kept) in
    let begun = begun_with_memory old b.next (room_lacked old a) b.fails b.stated (λ e. c.lacks_memory.ensures.none c.if-lacks_memory.false (sym (b.effects_are).noted ∙ e)) b.is in
    let holds = still_planned b.fails old a b.stated b.next begun index planned is in
    let done = c.stage-outcome.ensures.done b.next b.kept holds in
    let ends = answered (λ m. IsKept c.stage-outcome.new.self m) old b.next a b.fails b.stated c.stage-outcome.result begun done in
    record {
      fails = b.fails;
      failed = failed_then old self c.make_way-effects.new.self c.stage-outcome.new.self c.stage-outcome.ensures.still b.fails b.failed;
      any_moment = moments_then old self c.make_way-effects.new.self c.stage-outcome.new.self c.stage-outcome.ensures.still (room_lacked old a) b.any_moment;
      honest = honest_then old self c.make_way-effects.new.self c.stage-outcome.new.self c.stage-outcome.ensures.still b.honest;
      next = ends.next;
      stated = answered_with b.stated a c.stage-outcome.result;
      is = ends.is;
      effects_are = c.with_outcome-2.ensures b.stated b.effects_are;
      kept = ends.kept;
    }
