use Rattle.std.proofs.Common.{◌≡◌, ℕ, List, map, drop, Some, sym, ap, subst}
use Rattle.std.specs.declared.net.ip_addr.IpAddr.{IpAddr}
use Rattle.dns_policy.specs.Prefix.{IsAllowed}
use Rattle.std.specs.Prelude.{IsTrue, ◌↔◌, ◌&&◌, slice_index_or}
use Rattle.dns_zone.specs.Zone.{Zone}
use Rattle.dns_store.specs.Versions.{Kept, version_at}
use Rattle.dns_transfer.specs.Session.{Version}
use Rattle.dns_versions.specs.declared.zone_versions.ZoneVersions.{ZoneVersions}
use Rattle.dns_versions.specs.Held.{HasVersions}
use Rattle.dns_primary.specs.declared.primary.ZoneSpec.{ZoneSpec}
use Rattle.dns_primary.specs.Machine.{kept_of, versions_of}
use Rattle.dns_primary.specs.Transfer.{is_free, transport_of, transfer_version}
use Rattle.dns_primary.specs.Keeps.{IsSet}
use Rattle.dns_primary.proofs.Admitted.{get2}
use Rattle.dns_primary.proofs.Places.{at3, map_get}
use Rattle.dns_primary.proofs.Transferred.{along_is, opened_some, same_test, opens_as}
use Rattle.dns_primary.proofs.primary.Primary.open_shown.Goals as goal

pub returns-clause-opens : goal.returns-clause-opens
returns-clause-opens g c m z kept there =
    let q = c.args.request.now in
    let keeps = g.S.ZoneStore.keeps in
    let R = λ (z : Zone) (b : ZoneVersions g.row.I.Denot g.row.S.Denot) (k : Kept). HasVersions keeps z b k in
    let p = c.args.self.now in
    let index = c.args.index in
    let held : HasVersions keeps c.index.result.now c.index-2.result.now (kept_of z) =
    subst (λ (x : Zone). HasVersions keeps x c.index-2.result.now (kept_of z)) (sym c.index.ensures)
    (subst (λ (x : ZoneVersions g.row.I.Denot g.row.S.Denot). HasVersions keeps (slice_index_or p.zones.items index c.index.result.now) x (kept_of z)) (sym c.index-2.ensures)
    (at3 R p.zones.items p.pending.items (map kept_of m.zones) index c.index.result.now c.index-2.result.now (kept_of z) kept.zones_are (map_get kept_of m.zones index z there))) in
    let set : IsSet c.index-3.result.now z = subst (λ (x : ZoneSpec). IsSet x z) (sym c.index-3.ensures) (get2 IsSet p.settings.items m.zones index c.index-3.result.now z kept.settings_are there) in
    let changes = along_is (version_at (kept_of z) z.base) (drop z.base (versions_of z.shown)) c.changes.result.now (c.changes.ensures c.index.result.now (kept_of z) held) in
    let version : ◌≡◌ {A = Version} (record { zone = c.index.result.now; changes = c.changes.result.now }) (transfer_version z) = λ i. record { zone = held.zone_is i; changes = changes i } in
    let listed = same_test c.allows-is_listed.result (z.setting.may_transfer c.args.peer.address) (IsAllowed c.deref.result.now c.args.peer.address) c.allows-is_listed.ensures
    (subst (λ (l : List (IpAddr × ℕ)). IsTrue (z.setting.may_transfer c.args.peer.address) ↔ IsAllowed l c.args.peer.address) (sym c.deref.ensures.value) (set.transfer c.args.peer.address)) in
    let free = c.is_free.ensures m kept in
    opens_as c.transport_of.result (transport_of c.args.to) q.message.octets q.message.message q.question (Some (record { zone = c.index.result.now; changes = c.changes.result.now })) (Some (transfer_version z))
    (c.allows-is_listed.result && c.is_free.result) (z.setting.may_transfer c.args.peer.address && is_free c.args.to m.connections) c.open.result c.transport_of.ensures
    (ap (λ (v : Version). Some v) version) (λ i. listed i && free i) c.open.ensures

pub returns-clause-some : goal.returns-clause-some
returns-clause-some g c =
    let q = c.args.request.now in
    opened_some c.transport_of.result q.message.octets q.message.message q.question (Some (record { zone = c.index.result.now; changes = c.changes.result.now })) (c.allows-is_listed.result && c.is_free.result) c.open.result
    c.open.ensures
