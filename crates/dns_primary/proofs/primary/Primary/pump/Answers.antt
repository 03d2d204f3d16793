use Rattle.std.proofs.Common.{List, [], ◌∷◌, map, Option, Some, None, inl, inr, ⊎_elim, refl, sym, ap, subst, ◌∙◌}
use Rattle.std.specs.Prelude.{MatchOption}
use Rattle.std.proofs.lemmas.List.{length-map}
use Rattle.dns_transfer.specs.Session.{Sending}
use Rattle.dns_primary.specs.declared.event.To.TheVariants.{Connection}
use Rattle.dns_primary.specs.declared.event.Noted.TheVariants.{OutOfMemory}
use Rattle.dns_primary.specs.declared.transfers.OpenTransfer.{OpenTransfer}
use Rattle.dns_primary.specs.Keeps.{sending_on}
use Rattle.dns_primary.specs.Machine.{kept_of}
use Rattle.dns_primary.specs.Flush.{Replied}
use Rattle.dns_primary.specs.Transfer.{IsPumped, open_still, set_transfer, with_transfer}
use Rattle.dns_primary.specs.Steps.{nothing, one_reply}
use Rattle.dns_primary.proofs.Transferred.{peer_with, set_are, there_open, sent_on, sent_none}
use Rattle.dns_primary.proofs.Served.{as_honest, rests}
use Rattle.dns_primary.proofs.primary.Primary.pump.Goals as goal

-- a message, or none, by what is known of either
by_message : {V A B P : Type 0} {C D : V → Type 0} (o : Option V) → MatchOption o A C → MatchOption o B D → (A → B → P) → ((v : V) → C v → D v → P) → P
by_message None h d none some = none h d
by_message (Some v) h d none some = some v h d

pub returns-in-Ok-clause-step : goal.returns-in-Ok-clause-step
returns-in-Ok-clause-step g c old kept =
    by_message c.in-Ok.message c.in-Ok.ensures.sent c.message_on.ensures
    (λ h are.
    (let number = c.args.number in
    let items = c.args.self.now.transfers.items in
    let news = c.next_on.new.transfers.items in
    let rest = (rests g.S.ZoneStore c.args.self.now.zones.items c.args.self.now.pending.items (map kept_of old.zones) (λ x k h honest y left. g.met.S.ZoneStore.at_rest x k h honest y left) kept.zones_are) in
    ⊎_elim
    (λ e.
    (let at = sym (kept.transfers_are number) ∙ e.0 in
    record {
      fails = [];
      failed = tt;
      any_moment = rest;
      honest = as_honest g.S.ZoneStore c.args.self.now.pending.items;
      next = old;
      stated = nothing;
      is = inl (refl, subst (λ (o : Option Sending). IsPumped old number o [] old) (sym at) (refl, refl), record { sent = refl; accepted = refl; noted = refl });
      effects_are = are;
      kept = record {
        zones_are = kept.zones_are;
        settings_are = kept.settings_are;
        waiting_are = kept.waiting_are;
        connections_are = kept.connections_are;
        transfers_are = λ n. ap (λ (l : List (OpenTransfer g.row.I.Denot)). sending_on n l) e.1 ∙ kept.transfers_are n;
        as_many = kept.as_many;
      };
    }))
    (λ e.
    (let s = e.0 in
    let at = sym (kept.transfers_are number) ∙ e.1 in
    let next = with_transfer number None old in
    record {
      fails = [];
      failed = tt;
      any_moment = rest;
      honest = as_honest g.S.ZoneStore c.args.self.now.pending.items;
      next = next;
      stated = nothing;
      is = inl (refl, subst (λ (o : Option Sending). IsPumped old number o [] next) (sym at) (sent_none old number s s.left e.2), record { sent = refl; accepted = refl; noted = refl });
      effects_are = are;
      kept = record {
        zones_are = kept.zones_are;
        settings_are = kept.settings_are;
        waiting_are = kept.waiting_are;
        connections_are = λ n. kept.connections_are n ∙ sym (peer_with number None n old.connections);
        transfers_are = set_are number None items news old.connections e.3 kept.transfers_are (there_open number s old.connections at);
        as_many = kept.as_many ∙ sym (length-map old.connections (set_transfer number None));
      };
    })) h))
    (λ v h are.
    (let number = c.args.number in
    let items = c.args.self.now.transfers.items in
    let news = c.next_on.new.transfers.items in
    let octets = v.items in
    let s = h.0 in
    let rest = (h.3).0 in
    let at = sym (kept.transfers_are number) ∙ h.1 in
    let next = with_transfer number (open_still rest.left rest) old in
    record {
      fails = [];
      failed = tt;
      any_moment = (rests g.S.ZoneStore c.args.self.now.zones.items c.args.self.now.pending.items (map kept_of old.zones) (λ x k h honest y left. g.met.S.ZoneStore.at_rest x k h honest y left) kept.zones_are);
      honest = as_honest g.S.ZoneStore c.args.self.now.pending.items;
      next = next;
      stated = one_reply (Replied (Connection number) octets);
      is = inl (refl, subst (λ (o : Option Sending). IsPumped old number o (Replied (Connection number) octets ∷ []) next) (sym at) (sent_on old number s s.left octets rest h.2 (h.3).1), record { sent = refl; accepted = refl; noted = refl });
      effects_are = are;
      kept = record {
        zones_are = kept.zones_are;
        settings_are = kept.settings_are;
        waiting_are = kept.waiting_are;
        connections_are = λ n. kept.connections_are n ∙ sym (peer_with number (open_still rest.left rest) n old.connections);
        transfers_are = set_are number (open_still rest.left rest) items news old.connections (h.3).2 kept.transfers_are (there_open number s old.connections at);
        as_many = kept.as_many ∙ sym (length-map old.connections (set_transfer number (open_still rest.left rest)));
      };
    }))

pub returns-in-Err-clause-step : goal.returns-in-Err-clause-step
returns-in-Err-clause-step g c old kept =
    record {
      fails = [];
      failed = tt;
      any_moment = (rests g.S.ZoneStore c.args.self.now.zones.items c.args.self.now.pending.items (map kept_of old.zones) (λ x k h honest y left. g.met.S.ZoneStore.at_rest x k h honest y left) kept.zones_are);
      honest = as_honest g.S.ZoneStore c.args.self.now.pending.items;
      next = old;
      stated = record nothing { noted = OutOfMemory };
      is = inr (record { takes = refl; noted = refl; accepted = refl; stays = inl (refl, refl, refl) });
      effects_are = c.lacking.ensures;
      kept = record {
        zones_are = kept.zones_are;
        settings_are = kept.settings_are;
        waiting_are = kept.waiting_are;
        connections_are = kept.connections_are;
        transfers_are = λ n. c.in-Err.ensures.refused n ∙ kept.transfers_are n;
        as_many = kept.as_many;
      };
    }
