use Rattle.std.proofs.Common.{ℕ, ◌<◌, ◌∷◌, ◌++◌, [], length, sym, ap, subst, ◌∙◌, List}
use Rattle.dns_records.specs.Record.{Record}
use Rattle.dns_wire.specs.Building.{Building, with_record}
use Rattle.dns_wire.specs.Pushed.{IsPushed}
use Rattle.dns_wire.specs.Text.{text}
use Rattle.dns_transfer.specs.Left.{Remaining, left_of, left_at}
use Rattle.dns_transfer.specs.Session.{IsFilled}
use Rattle.dns_transfer.specs.declared.unsent.Place.{Place}
use Rattle.dns_transfer.proofs.Filled.{Filling, filling_next, filled_full}
use Rattle.dns_transfer.proofs.filling.fill.Goals as goal

pub returns-in-Full : goal.returns-in-Full
returns-in-Full g c =
    let inv = c.records.invariant in
    let reply = c.args.message.reply in
    let left = left_at c.args.soa.now (g.I.ZoneIndex.records c.args.index.now) c.args.history.now c.args.position in
    let became = subst (IsPushed c.records.message c.as_it_stands.result) c.in-Full.is c.in_ok-next.ensures in
    let over = subst (λ (r : Record). c.records.message.limit < length (text (with_record (c.records.message).reply r))) c.as_it_stands.ensures became.2 in
    let filled = filled_full reply (c.records.message).reply c.records.message.limit left inv.sent (left_of c.records.rest) (left_of c.next.new.self) c.in-Full.octets.items c.in-Some.record.now inv.filling c.in-Some.ensures.some became.0 became.1 over in
    let limited = subst (λ (k : ℕ). IsFilled reply k left c.in-Full.octets.items (left_of c.records.rest)) inv.limit filled in
    subst (λ (rest : List Record). IsFilled reply c.args.message.limit left c.in-Full.octets.items rest) (ap left_of inv.at) limited

pub records-preserved : goal.records-preserved
records-preserved g c =
    let inv = c.records.invariant in
    let became = subst (IsPushed c.records.message c.as_it_stands.result) c.in-Open.is c.in_ok-next.ensures in
    let is = became ∙ ap (λ (r : Record). record c.records.message { reply = with_record (c.records.message).reply r }) c.as_it_stands.ensures in
    let reply = c.args.message.reply in
    let left = left_at c.args.soa.now (g.I.ZoneIndex.records c.args.index.now) c.args.history.now c.args.position in
    let next = filling_next reply left inv.sent (left_of c.records.rest) (left_of c.next.new.self) (c.records.message).reply c.in-Some.record.now inv.filling c.in-Some.ensures.some in
    record {
      sent = inv.sent ++ c.in-Some.record.now ∷ [];
      filling = subst (λ (b : Building). Filling reply left (inv.sent ++ c.in-Some.record.now ∷ []) (left_of c.next.new.self) b.reply) (sym is) next;
      limit = ap (λ (b : Building). b.limit) is ∙ inv.limit;
      at = c.in-Some.ensures.same ∙ ap (λ (r : Remaining). record r { position = c.next.new.self.position }) inv.at ∙ ap (λ (p : Place). record { soa = c.args.soa.now; records = g.I.ZoneIndex.records c.args.index.now; changes = c.args.history.now; position = p }) (sym c.position-behind.ensures);
    }
