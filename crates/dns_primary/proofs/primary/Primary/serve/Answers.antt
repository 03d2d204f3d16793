use Rattle.std.proofs.Common.{map, ◌≡◌, inr, ⊎_elim, ℕ, Bool, true, List, [], Option, refl, sym, ap, subst, ◌∙◌}
use Rattle.dns_wire.specs.Codes.{number_of_rcode}
use Rattle.dns_wire.specs.Message.{Header, header_of}
use Rattle.dns_wire.specs.Text.{text}
use Rattle.dns_zone.specs.Zone.{Zone}
use Rattle.dns_request.specs.Codes.{rcode_servfail}
use Rattle.dns_request.specs.Request as request
use Rattle.dns_request.specs.Request.{request_of}
use Rattle.std.specs.Prelude.{IfOk, IfErr}
use Rattle.dns_primary.specs.Update.{Asked, room_lacked}
use Rattle.dns_primary.specs.Step.{is_update, request_lacks}
use Rattle.dns_answer.specs.Answer.{answered, bare_reply, fitted, handled, handled_as, with_question}
use Rattle.dns_primary.specs.Machine.{kept_of, shown_zones}
use Rattle.dns_primary.specs.Flush.{Replied}
use Rattle.dns_primary.specs.Keeps.{AreEffects}
use Rattle.dns_primary.specs.Steps.{AtAnyMomentOf, IsServedOrLacks, IsTransferredOrLacks, LacksRequest, nothing, one_reply}
use Rattle.dns_primary.proofs.Moved.{on_any}
use Rattle.dns_primary.proofs.Served.{transferred_as, rests, are_shown, asking, gives_none, gives_one, lack, lacks_update, replied, replies_or_lacks, served_as, stays}
use Rattle.dns_primary.proofs.primary.Primary.serve.Goals as goal

pub returns-in-Ignored-clause-step : goal.returns-in-Ignored-clause-step
returns-in-Ignored-clause-step g c old kept =
    let octets = c.args.octets.now in
    on_any old c.args.self.now c.args.self.now c.nothing.result (request_lacks old c.args.to c.args.peer (handled (shown_zones old) octets c.args.transport)) (IsServedOrLacks old c.args.peer c.args.to octets c.args.transport)
    (stays c.args.self.now old c.nothing.result nothing (IsServedOrLacks old c.args.peer c.args.to octets c.args.transport) (rests g.S.ZoneStore c.args.self.now.zones.items c.args.self.now.pending.items (map kept_of old.zones) (λ x k h honest y left. g.met.S.ZoneStore.at_rest x k h honest y left) kept.zones_are) kept c.nothing.ensures.effects_are
    (served_as old old c.args.peer c.args.to octets c.args.transport request.Ignored [] nothing c.in-Ignored.ensures.request (refl, gives_none old)))

pub returns-in-Refused-clause-step : goal.returns-in-Refused-clause-step
returns-in-Refused-clause-step g c old kept =
    let octets = c.args.octets.now in
    let rcode = number_of_rcode c.in-Refused.rcode in
    let reply = λ (h : Header). Replied c.args.to (text (bare_reply h rcode)) in
    on_any old c.args.self.now c.args.self.now c.refusal.result (request_lacks old c.args.to c.args.peer (handled (shown_zones old) octets c.args.transport)) (IsServedOrLacks old c.args.peer c.args.to octets c.args.transport)
    (stays c.args.self.now old c.refusal.result (one_reply (reply (header_of octets))) (IsServedOrLacks old c.args.peer c.args.to octets c.args.transport) (rests g.S.ZoneStore c.args.self.now.zones.items c.args.self.now.pending.items (map kept_of old.zones) (λ x k h honest y left. g.met.S.ZoneStore.at_rest x k h honest y left) kept.zones_are) kept
    (subst (λ (h : Header). AreEffects (one_reply (reply h)) c.refusal.result) c.in-Refused.ensures.of c.refusal.ensures)
    (served_as old old c.args.peer c.args.to octets c.args.transport (request.Refused rcode) [] (one_reply (reply (header_of octets))) c.in-Refused.ensures.request (refl, gives_one old (reply (header_of octets)))))

pub returns-in-NotServed-clause-step : goal.returns-in-NotServed-clause-step
returns-in-NotServed-clause-step g c old kept =
    let octets = c.args.octets.now in
    let q = c.in-NotServed.query in
    let rcode = number_of_rcode c.in-NotServed.rcode in
    let r = request.NotServed q.message.message q.question rcode in
    let of : q.message.octets ≡ octets = c.in-NotServed.ensures.of in
    let reply = fitted c.args.transport (with_question octets q.message.message q.question rcode) in
    let is = subst (λ (xs : List ℕ). IfOk c.refuse.result (λ v. v.items ≡ fitted c.args.transport (with_question xs q.message.message q.question rcode))) of c.refuse.ensures in
    let header : header_of c.header_octets-header.result.now ≡ header_of octets = c.header_octets-header.ensures.octets ∙ ap header_of of in
    let none = subst (λ (h : Header). IfErr c.refuse.result (λ _. AreEffects (lack (Replied c.args.to (text (bare_reply h rcode_servfail)))) c.reply.result)) header c.reply.ensures.failed in
    on_any old c.args.self.now c.args.self.now c.reply.result (request_lacks old c.args.to c.args.peer (handled (shown_zones old) octets c.args.transport)) (IsServedOrLacks old c.args.peer c.args.to octets c.args.transport)
    (replies_or_lacks c.args.self.now old c.reply.result c.args.peer c.args.to octets c.args.transport r reply c.in-NotServed.ensures.request (λ e. cc e) refl (rests g.S.ZoneStore c.args.self.now.zones.items c.args.self.now.pending.items (map kept_of old.zones) (λ x k h honest y left. g.met.S.ZoneStore.at_rest x k h honest y left) kept.zones_are) kept
    (replied (λ v. v.items) c.refuse.result c.reply.result c.args.to reply (text (bare_reply (header_of octets) rcode_servfail)) is c.reply.ensures.sent none))

pub returns-in-Query-clause-step : goal.returns-in-Query-clause-step
returns-in-Query-clause-step g c old kept =
    let octets = c.args.octets.now in
    let q = c.in-Query.query in
    let r = request.Query q.message.message q.question in
    let of : q.message.octets ≡ octets = c.in-Query.ensures.of in
    let zones : c.deref.result.now ≡ shown_zones old = c.deref.ensures.value ∙ are_shown g.S.ZoneStore.keeps c.args.self.now.zones.items c.args.self.now.pending.items old.zones kept.zones_are in
    let reply = fitted c.args.transport (answered (shown_zones old) octets q.message.message q.question) in
    let shown = subst (λ (zs : List Zone). IfOk c.reply-octets.result (λ v. v.items ≡ fitted c.args.transport (answered zs q.message.octets q.message.message q.question))) zones c.reply-octets.ensures in
    let is = subst (λ (xs : List ℕ). IfOk c.reply-octets.result (λ v. v.items ≡ fitted c.args.transport (answered (shown_zones old) xs q.message.message q.question))) of shown in
    let header : header_of c.header_octets-header-in-Query.result.now ≡ header_of octets = c.header_octets-header-in-Query.ensures.octets ∙ ap header_of of in
    let none = subst (λ (h : Header). IfErr c.reply-octets.result (λ _. AreEffects (lack (Replied c.args.to (text (bare_reply h rcode_servfail)))) c.reply-in-Query.result)) header c.reply-in-Query.ensures.failed in
    let s = on_any old c.args.self.now c.args.self.now c.reply-in-Query.result (request_lacks old c.args.to c.args.peer (handled (shown_zones old) octets c.args.transport)) (IsServedOrLacks old c.args.peer c.args.to octets c.args.transport)
    (replies_or_lacks c.args.self.now old c.reply-in-Query.result c.args.peer c.args.to octets c.args.transport r reply c.in-Query.ensures.request (λ e. cc e) refl (rests g.S.ZoneStore c.args.self.now.zones.items c.args.self.now.pending.items (map kept_of old.zones) (λ x k h honest y left. g.met.S.ZoneStore.at_rest x k h honest y left) kept.zones_are) kept
    (replied (λ v. v.items) c.reply-octets.result c.reply-in-Query.result c.args.to reply (text (bare_reply (header_of octets) rcode_servfail)) is c.reply-in-Query.ensures.sent none)) in
    record {
      fails = s.fails;
      failed = s.failed;
      any_moment = s.any_moment;
      honest = s.honest;
      next = s.next;
      stated = s.stated;
      is = s.is;
      effects_are = s.effects_are;
      kept = record {
        zones_are = s.kept.zones_are;
        settings_are = s.kept.settings_are;
        waiting_are = s.kept.waiting_are;
        connections_are = s.kept.connections_are;
        transfers_are = s.kept.transfers_are;
        as_many = s.kept.as_many;
      };
    }

pub returns-in-Update-clause-step : goal.returns-in-Update-clause-step
returns-in-Update-clause-step g c old kept =
    let octets = c.args.octets.now in
    let u = c.in-Update.request in
    let m = u.message.message in
    let r = request.Update m u.question in
    let e : r ≡ request_of octets c.args.transport = c.in-Update.ensures.request in
    let header : m.header ≡ header_of octets = sym c.header_octets-header-in-Update.ensures.message ∙ c.header_octets-header-in-Update.ensures.octets ∙ ap header_of c.in-Update.ensures.of in
    let a : Asked = record { to = c.args.to; address = c.args.peer.address; message = m; zone = u.question } in
    let lacked : room_lacked old a ≡ request_lacks old c.args.to c.args.peer (handled (shown_zones old) octets c.args.transport) =
    ap (λ (x : request.Request). request_lacks old c.args.to c.args.peer (handled_as (shown_zones old) octets c.args.transport x)) e in
    let s = c.update.ensures.step old kept in
    record {
      fails = s.fails;
      failed = s.failed;
      any_moment = subst (λ (o : Option (ℕ × ℕ)). AtAnyMomentOf g.S.ZoneStore o old c.args.self.now.pending.items c.update.new.self.pending.items) lacked s.any_moment;
      honest = s.honest;
      next = s.next;
      stated = s.stated;
      is = ⊎_elim (λ h. served_as old s.next c.args.peer c.args.to octets c.args.transport r s.fails s.stated e h)
          (λ h. inr (subst (λ (b : Bool). LacksRequest s.fails old c.args.to b (request_lacks old c.args.to c.args.peer (handled (shown_zones old) octets c.args.transport)) octets s.stated s.next)
          (ap (λ (x : request.Request). is_update (handled_as (shown_zones old) octets c.args.transport x)) e)
          (subst (λ (o : Option (ℕ × ℕ)). LacksRequest s.fails old c.args.to true o octets s.stated s.next) lacked
          (lacks_update s.fails old s.next a octets s.stated (asking octets c.args.transport r (sym e) (λ x. cc x)) header h)))) s.is;
      effects_are = s.effects_are;
      kept = s.kept;
    }

pub returns-in-Transfer-clause-step : goal.returns-in-Transfer-clause-step
returns-in-Transfer-clause-step g c old kept =
    let octets = c.args.octets.now in
    let t = c.in-Transfer.request in
    let m = t.message.message in
    let e : request.Transfer m t.question ≡ request_of octets c.args.transport = c.in-Transfer.ensures.request in
    let of : t.message.octets ≡ octets = c.in-Transfer.ensures.of in
    let s = c.transfer.ensures.step old kept in
    on_any old c.args.self.now c.transfer.new.self c.transfer.result (request_lacks old c.args.to c.args.peer (handled (shown_zones old) octets c.args.transport)) (IsServedOrLacks old c.args.peer c.args.to octets c.args.transport)
    (record {
      fails = s.fails;
      failed = s.failed;
      any_moment = s.any_moment;
      honest = s.honest;
      next = s.next;
      stated = s.stated;
      is = transferred_as old s.next c.args.peer c.args.to octets c.args.transport m t.question s.fails s.stated e (c.transfer.ensures.header ∙ ap header_of of)
          (subst (λ (xs : List ℕ). IsTransferredOrLacks old c.args.peer c.args.to xs m t.question s.fails s.stated s.next) of s.is);
      effects_are = s.effects_are;
      kept = s.kept;
    })
