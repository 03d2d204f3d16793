use Rattle.std.proofs.Common.{◌≡◌, List, [], ◌∷◌, ◌++◌, map, Some, None, inl, inr, ⊎_elim, refl, sym, ap, subst, ◌∙◌}
use Rattle.std.specs.Prelude.{true}
use Rattle.std.proofs.lemmas.List.{length-map}
use Rattle.dns_wire.specs.Message.{header_of}
use Rattle.dns_wire.specs.Text.{text}
use Rattle.dns_request.specs.Codes.{rcode_servfail}
use Rattle.dns_answer.specs.Answer.{bare_reply}
use Rattle.dns_primary.specs.declared.event.To.{To}
use Rattle.dns_primary.specs.declared.event.To.TheVariants.{Connection}
use Rattle.dns_primary.specs.declared.transfers.OpenTransfer.{OpenTransfer}
use Rattle.dns_primary.specs.Machine.{kept_of}
use Rattle.dns_primary.specs.Flush.{Replied}
use Rattle.dns_primary.specs.Transfer.{TransferBegins, is_free, set_transfer, with_transfer}
use Rattle.dns_primary.specs.Keeps.{AreEffects, HasConnection, sending_on}
use Rattle.dns_primary.specs.Steps.{nothing, one_reply}
use Rattle.dns_primary.specs.Sending.{TransferBeginsOrLacks, SetsOn}
use Rattle.dns_primary.proofs.Transferred.{none_of, peer_with, pushed, set_are}
use Rattle.dns_primary.proofs.Served.{as_honest, lack, rests, stays}
use Rattle.dns_primary.proofs.primary.Primary.begin_transfer.Goals as goal

pub returns-in-Ok-clause-step : goal.returns-in-Ok-clause-step
returns-in-Ok-clause-step g c old kept free =
    let number = c.in-Connection.number in
    let s = c.args.session in
    let items = c.args.self.now.transfers.items in
    let news = c.keep.new.transfers.items in
    let one : OpenTransfer g.row.I.Denot = record { number = number; session = s } in
    let more : news ≡ items ++ one ∷ [] = c.in-Ok.ensures.kept in
    let here : is_free (Connection number) old.connections ≡ true = subst (λ (t : To). is_free t old.connections ≡ true) c.in-Connection.is free in
    let none : sending_on number items ≡ None = kept.transfers_are number ∙ none_of _ here in
    let sets : SetsOn number (Some s) items news = subst (λ (l : List (OpenTransfer g.row.I.Denot)). SetsOn number (Some s) items l) (sym more) (pushed number items one refl none) in
    let there : HasConnection c.args.self.now.connections (Connection number) = subst (λ (t : To). HasConnection c.args.self.now.connections t) c.in-Connection.is c.requires.there in
    let next = with_transfer number (Some s) old in
    record {
      fails = [];
      failed = tt;
      any_moment = (rests g.S.ZoneStore c.args.self.now.zones.items c.args.self.now.pending.items (map kept_of old.zones) (λ x k h honest y left. g.met.S.ZoneStore.at_rest x k h honest y left) kept.zones_are);
      honest = as_honest g.S.ZoneStore c.args.self.now.pending.items;
      next = next;
      stated = nothing;
      is = inl (refl, subst (λ (t : To). TransferBegins old t s [] next) (sym c.in-Connection.is) (refl, refl), record { sent = refl; accepted = refl; noted = refl });
      effects_are = c.nothing.ensures.effects_are;
      kept = record {
        zones_are = kept.zones_are;
        settings_are = kept.settings_are;
        waiting_are = kept.waiting_are;
        connections_are = λ n. kept.connections_are n ∙ sym (peer_with number (Some s) n old.connections);
        transfers_are = set_are number (Some s) items news old.connections sets kept.transfers_are (λ e. there (kept.connections_are number ∙ e));
        as_many = kept.as_many ∙ sym (length-map old.connections (set_transfer number (Some s)));
      };
    }

pub returns-in-Err-clause-step : goal.returns-in-Err-clause-step
returns-in-Err-clause-step g c old kept free =
    let same : c.keep.new.transfers.items ≡ c.args.self.now.transfers.items = c.in-Err.ensures.refused in
    record {
      fails = [];
      failed = tt;
      any_moment = (rests g.S.ZoneStore c.args.self.now.zones.items c.args.self.now.pending.items (map kept_of old.zones) (λ x k h honest y left. g.met.S.ZoneStore.at_rest x k h honest y left) kept.zones_are);
      honest = as_honest g.S.ZoneStore c.args.self.now.pending.items;
      next = old;
      stated = lack (Replied c.args.to (text (bare_reply (header_of c.args.header.now) rcode_servfail)));
      is = inr (record { nothing = refl; stays = refl; is = refl });
      effects_are = subst (λ (t : To). AreEffects (lack (Replied t (text (bare_reply (header_of c.args.header.now) rcode_servfail)))) c.out_of_memory.result) (sym c.in-Connection.is)
          c.out_of_memory.ensures;
      kept = record {
        zones_are = kept.zones_are;
        settings_are = kept.settings_are;
        waiting_are = kept.waiting_are;
        connections_are = kept.connections_are;
        transfers_are = λ n. ap (λ (l : List (OpenTransfer g.row.I.Denot)). sending_on n l) same ∙ kept.transfers_are n;
        as_many = kept.as_many;
      };
    }

pub returns-in-Address-clause-step : goal.returns-in-Address-clause-step
returns-in-Address-clause-step g c old kept free =
    let s = c.args.session in
    let p = c.args.self.now in
    let rest = (rests g.S.ZoneStore c.args.self.now.zones.items c.args.self.now.pending.items (map kept_of old.zones) (λ x k h honest y left. g.met.S.ZoneStore.at_rest x k h honest y left) kept.zones_are) in
    let step = TransferBeginsOrLacks old c.args.to (header_of c.args.header.now) s in
    ⊎_elim
    (λ h.
    (let reply = Replied c.args.to h.0 in
    stays p old c.at_once.result (one_reply reply) step rest kept h.3
    (inl (
      refl,
      subst (λ (t : To). TransferBegins old t s (Replied t h.0 ∷ []) old) (sym c.in-Address.is) (h.0, h.1, h.2, refl, refl),
      record { sent = refl; accepted = refl; noted = refl },
    ))))
    (λ h. stays p old c.at_once.result (lack (Replied c.args.to (text (bare_reply (header_of c.args.header.now) rcode_servfail)))) step rest kept h (inr (record { nothing = refl; stays = refl; is = refl })))
    c.at_once.ensures
