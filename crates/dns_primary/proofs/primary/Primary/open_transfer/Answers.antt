use Rattle.std.proofs.Common.{◌≡◌, ◌<◌, List, map, length, Option, Some, None, sym, ap, subst, ◌∙◌, arith}
use Rattle.std.specs.Prelude.{IfOk, ◌&&◌, false, option_map}
use Rattle.std.proofs.lemmas.List.{length-map}
use Rattle.std.specs.List.{position}
use Rattle.dns_names.specs.Name.{names_eq}
use Rattle.dns_zone.specs.Zone.{Zone}
use Rattle.dns_store.specs.Versions.{Kept}
use Rattle.dns_transfer.specs.Session.{Opens}
use Rattle.dns_versions.specs.declared.zone_versions.ZoneVersions.{ZoneVersions}
use Rattle.dns_versions.specs.Held.{HasVersions}
use Rattle.dns_primary.specs.Machine.{ZoneState, kept_of}
use Rattle.dns_primary.specs.Update.{zone_position}
use Rattle.dns_primary.specs.Transfer.{is_free, may_have, transport_of, transfer_version, zone_at, zone_named}
use Rattle.dns_primary.proofs.Admitted.{same_place}
use Rattle.dns_primary.proofs.Places.{long3_first, some_at}
use Rattle.dns_primary.proofs.Transferred.{opens_as}
use Rattle.dns_primary.proofs.primary.Primary.open_transfer.Goals as goal

pub open_shown-requires : goal.open_shown-requires
open_shown-requires g c = omega (arith, c.in-Some.ensures.inside, ap length c.deref.ensures.value)

pub returns-in-None-clause-opens : goal.returns-in-None-clause-opens
returns-in-None-clause-opens g c m kept =
    let q = c.args.request.now in
    let name : c.lend.result ≡ q.question.name = c.lend.ensures ∙ c.in_ok-name.ensures ∙ c.name.ensures in
    let at : zone_position q.question.name m.zones ≡ None =
    ap (λ n. zone_position n m.zones) (sym name) ∙ sym (same_place g.S.ZoneStore.keeps c.lend.result c.args.self.now.zones.items c.args.self.now.pending.items m.zones kept.zones_are)
    ∙ ap (λ (zs : List Zone). position (λ (z : Zone). names_eq z.apex c.lend.result) zs) (sym c.deref.ensures.value) ∙ sym c.place_of.ensures.index ∙ c.in-None.is in
    let zone : zone_named q.question.name m.zones ≡ None = ap (zone_at m.zones) at in
    opens_as c.transport_of.result (transport_of c.args.to) q.message.octets q.message.message q.question None (option_map transfer_version (zone_named q.question.name m.zones)) false
    (may_have c.args.peer.address (zone_named q.question.name m.zones) && is_free c.args.to m.connections) c.open_unheld.result c.transport_of.ensures (ap (option_map transfer_version) (sym zone))
    (ap (λ o. may_have c.args.peer.address o && is_free c.args.to m.connections) (sym zone)) c.open_unheld.ensures.opens

pub returns-clause-opens : goal.returns-clause-opens
returns-clause-opens g c m kept =
    let q = c.args.request.now in
    let keeps = g.S.ZoneStore.keeps in
    let R = λ (z : Zone) (b : ZoneVersions g.row.I.Denot g.row.S.Denot) (k : Kept). HasVersions keeps z b k in
    let p = c.args.self.now in
    let index = c.in-Some.index in
    let name : c.lend.result ≡ q.question.name = c.lend.ensures ∙ c.in_ok-name.ensures ∙ c.name.ensures in
    let at : zone_position q.question.name m.zones ≡ Some index =
    ap (λ n. zone_position n m.zones) (sym name) ∙ sym (same_place keeps c.lend.result p.zones.items p.pending.items m.zones kept.zones_are)
    ∙ ap (λ (zs : List Zone). position (λ (z : Zone). names_eq z.apex c.lend.result) zs) (sym c.deref.ensures.value) ∙ sym c.place_of.ensures.index ∙ c.in-Some.is in
    let inside : index < length p.zones.items = omega (arith, c.in-Some.ensures.inside, ap length c.deref.ensures.value) in
    let long = long3_first R p.zones.items p.pending.items (map kept_of m.zones) kept.zones_are in
    let z = some_at m.zones index (omega (arith, inside, long, length-map m.zones kept_of)) in
    let zone : zone_named q.question.name m.zones ≡ Some z.0 = ap (zone_at m.zones) at ∙ z.1 in
    subst (λ (o : Option ZoneState). IfOk c.open_shown.result (λ opened. Opens (transport_of c.args.to) q.message.octets q.message.message q.question (option_map transfer_version o) (may_have c.args.peer.address o && is_free c.args.to m.connections) opened)) (sym zone)
    (c.open_shown.ensures.opens m z.0 kept z.1)
