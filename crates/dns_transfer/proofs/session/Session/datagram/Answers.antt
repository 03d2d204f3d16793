use Rattle.std.proofs.Common.{◌≡◌, ◌<◌, ◌≤◌, [], refl, length, ap, subst, ◌∙◌}
use Rattle.std.specs.Prelude.{IsTrue, false}
use Rattle.std.proofs.lemmas.Result.{IfOk-weaker}
use Rattle.dns_records.specs.Record.{Record}
use Rattle.dns_wire.specs.Building.{Building, with_record}
use Rattle.dns_wire.specs.Pushed.{IsPushed}
use Rattle.dns_wire.specs.Text.{text}
use Rattle.dns_transfer.specs.Left.{left_at}
use Rattle.dns_transfer.specs.Messages.{message_with}
use Rattle.dns_transfer.specs.Session.{IsFilled, Sending}
use Rattle.dns_transfer.specs.declared.unsent.Place.TheVariants.{End}
use Rattle.dns_transfer.proofs.Filled.{some_left, datagram_whole, datagram_alone, datagram_none}
use Rattle.dns_transfer.proofs.session.Session.datagram.Goals as goal

pub returns-then-is_end : goal.returns-then-is_end
returns-then-is_end g c =
    let d = c.args.self.now in
    let at = left_at c.self.inside.soa (g.I.ZoneIndex.records c.self.inside.index) c.self.inside.history in
    let octets = c.in_ok-whole.whole.items in
    let rest = at c.in_ok-whole.position in
    let as_begun = subst (λ (b : Building). IsFilled b.reply b.limit (at c.self.inside.position) octets rest) c.in_ok-message.ensures c.in_ok-whole.ensures in
    let filled = subst (λ (s : Sending). IsFilled (message_with d.heading d.question []) 512 s.left octets rest) c.self.view_is as_begun in
    let ended : c.in_ok-whole.position ≡ End = c.if-is_end.ensures.0 refl in
    datagram_whole d.heading d.question d.left d.soa rest octets (ap at ended) filled

pub returns-in-Open : goal.returns-in-Open
returns-in-Open g c =
    let d = c.args.self.now in
    let at = left_at c.self.inside.soa (g.I.ZoneIndex.records c.self.inside.index) c.self.inside.history in
    let octets = c.in_ok-whole.whole.items in
    let rest = at c.in_ok-whole.position in
    let as_begun = subst (λ (b : Building). IsFilled b.reply b.limit (at c.self.inside.position) octets rest) c.in_ok-message.ensures c.in_ok-whole.ensures in
    let filled = subst (λ (s : Sending). IsFilled (message_with d.heading d.question []) 512 s.left octets rest) c.self.view_is as_begun in
    let more = some_left c.self.inside.soa (g.I.ZoneIndex.records c.self.inside.index) c.self.inside.history c.in_ok-whole.position (λ e. (let no : IsTrue false = c.if-is_end.ensures.1 e in cc)) in
    let pushed = subst (IsPushed c.in_ok-begun.field-0 c.as_it_stands.result) c.in-Open.is c.in_ok-alone.ensures in
    let soa = c.as_it_stands.ensures ∙ ap (λ (s : Sending). s.soa) c.self.view_is in
    let is = pushed ∙ ap (λ (b : Building). record b { reply = with_record b.reply c.as_it_stands.result }) c.in_ok-begun.ensures ∙ ap (λ (r : Record). record { reply = with_record (message_with d.heading d.question []) r; limit = 512 }) soa in
    let text_is = c.finish.ensures.text ∙ ap (λ (b : Building). text b.reply) is in
    let fits = subst (λ (b : Building). length c.finish.result.items ≤ b.limit) is c.finish.ensures.fits in
    datagram_alone d.heading d.question d.left d.soa more.0 more.1 rest octets c.finish.result.items more.2 filled text_is fits

pub returns : goal.returns
returns g c =
    let d = c.args.self.now in
    let at = left_at c.self.inside.soa (g.I.ZoneIndex.records c.self.inside.index) c.self.inside.history in
    let octets = c.in_ok-whole.whole.items in
    let rest = at c.in_ok-whole.position in
    let as_begun = subst (λ (b : Building). IsFilled b.reply b.limit (at c.self.inside.position) octets rest) c.in_ok-message.ensures c.in_ok-whole.ensures in
    let filled = subst (λ (s : Sending). IsFilled (message_with d.heading d.question []) 512 s.left octets rest) c.self.view_is as_begun in
    let more = some_left c.self.inside.soa (g.I.ZoneIndex.records c.self.inside.index) c.self.inside.history c.in_ok-whole.position (λ e. (let no : IsTrue false = c.if-is_end.ensures.1 e in cc)) in
    let pushed = subst (IsPushed c.in_ok-begun.field-0 c.as_it_stands.result) c.in-Full.is c.in_ok-alone.ensures in
    let soa = c.as_it_stands.ensures ∙ ap (λ (s : Sending). s.soa) c.self.view_is in
    let over = subst (λ (b : Building). b.limit < length (text (with_record b.reply c.as_it_stands.result))) c.in_ok-begun.ensures pushed.2 in
    let over_soa = subst (λ (r : Record). 512 < length (text (with_record (message_with d.heading d.question []) r))) soa over in
    IfOk-weaker c.truncated.result _ _ (λ v is. datagram_none d.heading d.question d.left d.soa more.0 more.1 rest octets v.items more.2 filled over_soa is) c.truncated.ensures
