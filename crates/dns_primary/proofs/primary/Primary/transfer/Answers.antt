use Rattle.std.proofs.Common.{◌≡◌, [], map, Ok, Err, inl, inr, ⊎_elim, refl, subst}
use Rattle.std.specs.Prelude.{IfOk}
use Rattle.dns_wire.specs.Message.{Header}
use Rattle.dns_wire.specs.Text.{text}
use Rattle.dns_request.specs.Codes.{rcode_servfail}
use Rattle.dns_answer.specs.Answer.{bare_reply}
use Rattle.dns_primary.specs.Machine.{kept_of}
use Rattle.dns_primary.specs.Flush.{Replied}
use Rattle.dns_primary.specs.Transfer.{OpensFrom, is_free, may_have, refusal_of, transport_of, zone_named}
use Rattle.dns_primary.specs.Keeps.{AreEffects}
use Rattle.dns_primary.specs.Steps.{IsTransferredOrLacks, LacksAlone, one_reply}
use Rattle.dns_primary.proofs.Transferred.{allowed_when}
use Rattle.dns_primary.proofs.Served.{lack, rests, stays}
use Rattle.dns_primary.proofs.primary.Primary.transfer.Goals as goal

pub begin_transfer-requires-clause-some : goal.begin_transfer-requires-clause-some
begin_transfer-requires-clause-some g c = subst (λ r. IfOk r (λ s. s.left ≡ [] → ⊥)) c.in-Ok-opened.is c.in-Ok.ensures.some

pub returns-in-Ok-opened-clause-step : goal.returns-in-Ok-opened-clause-step
returns-in-Ok-opened-clause-step g c old kept =
    let q = c.args.request.now in
    let m = q.message.message in
    let s = c.in-Ok-opened.session in
    let o = subst (λ r. OpensFrom old c.args.to c.args.peer q.message.octets m q.question r) c.in-Ok-opened.is (c.in-Ok.ensures.opens old kept) in
    let allowed = allowed_when (transport_of c.args.to) q.question _ _ (may_have c.args.peer.address (zone_named q.question.name old.zones)) (is_free c.args.to old.connections) o.0 in
    let t = c.begin_transfer.ensures.step old kept allowed in
    record {
      fails = t.fails;
      failed = t.failed;
      any_moment = t.any_moment;
      honest = t.honest;
      next = t.next;
      stated = t.stated;
      is = ⊎_elim (λ h. inl (h.0, (Ok s, o, h.1), h.2)) (λ h. inr (subst (λ (x : Header). LacksAlone t.fails old c.args.to x t.stated t.next) c.header_octets-header.ensures.message h)) t.is;
      effects_are = t.effects_are;
      kept = t.kept;
    }

pub returns-in-Err-opened-clause-step : goal.returns-in-Err-opened-clause-step
returns-in-Err-opened-clause-step g c old kept =
    let q = c.args.request.now in
    let m = q.message.message in
    let rcode = c.in-Err-opened.rcode in
    let p = c.args.self.now in
    let o = subst (λ r. OpensFrom old c.args.to c.args.peer q.message.octets m q.question r) c.in-Err-opened.is (c.in-Ok.ensures.opens old kept) in
    let reply = Replied c.args.to (refusal_of (transport_of c.args.to) q.message.octets m q.question rcode) in
    let step = IsTransferredOrLacks old c.args.peer c.args.to q.message.octets m q.question in
    ⊎_elim
    (λ h. stays p old c.refusal.result (one_reply reply) step (rests g.S.ZoneStore c.args.self.now.zones.items c.args.self.now.pending.items (map kept_of old.zones) (λ x k h honest y left. g.met.S.ZoneStore.at_rest x k h honest y left) kept.zones_are) kept h (inl (refl, (Err rcode, o, (refl, refl)), record { sent = refl; accepted = refl; noted = refl })))
    (λ h. stays p old c.refusal.result (lack (Replied c.args.to (text (bare_reply m.header rcode_servfail)))) step (rests g.S.ZoneStore c.args.self.now.zones.items c.args.self.now.pending.items (map kept_of old.zones) (λ x k h honest y left. g.met.S.ZoneStore.at_rest x k h honest y left) kept.zones_are) kept h (inr (record { nothing = refl; stays = refl; is = refl })))
    c.refusal.ensures

pub returns-in-Err-clause-step : goal.returns-in-Err-clause-step
returns-in-Err-clause-step g c old kept =
    let q = c.args.request.now in
    let m = q.message.message in
    let step = IsTransferredOrLacks old c.args.peer c.args.to q.message.octets m q.question in
    stays c.args.self.now old c.out_of_memory.result (lack (Replied c.args.to (text (bare_reply m.header rcode_servfail)))) step (rests g.S.ZoneStore c.args.self.now.zones.items c.args.self.now.pending.items (map kept_of old.zones) (λ x k h honest y left. g.met.S.ZoneStore.at_rest x k h honest y left) kept.zones_are) kept
    (subst (λ (h : Header). AreEffects (lack (Replied c.args.to (text (bare_reply h rcode_servfail)))) c.out_of_memory.result) c.header_octets-header.ensures.message c.out_of_memory.ensures)
    (inr (record { nothing = refl; stays = refl; is = refl }))
