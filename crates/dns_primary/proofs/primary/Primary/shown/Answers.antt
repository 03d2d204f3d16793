use Rattle.std.proofs.Common.{length, map, ap, arith}
use Rattle.std.proofs.lemmas.List.{length-map}
use Rattle.std.proofs.lemmas.Option.{slice_get_past}
use Rattle.dns_versions.specs.Held.{HasVersions}
use Rattle.dns_primary.specs.Machine.{kept_of}
use Rattle.dns_primary.proofs.Loaded.{shown_at}
use Rattle.dns_primary.proofs.Places.{long3_first}
use Rattle.dns_primary.proofs.primary.Primary.shown.Goals as goal
use Rattle.std.proofs.Common.{◌<◌, ◌≤◌, ◌∙◌}
use Rattle.std.specs.Prelude.{slice_index_or}

pub returns-in-Some : goal.returns-in-Some
returns-in-Some g c m kept =
    let h = c.in-Some.ensures.lookup in
    let self = c.args.self.now in
    let long = long3_first (λ z b k. HasVersions g.S.ZoneStore.keeps z b k) self.zones.items self.pending.items (map kept_of m.zones) kept.zones_are in
    let inside : c.args.index < length m.zones = omega (arith, h.3.0, ap length c.deref.ensures.value, long, length-map m.zones kept_of) in
    shown_at g.S.ZoneStore.keeps self.zones.items self.pending.items m.zones c.args.index c.in-Some.zone.now c.index.result.now kept.zones_are inside
    (h.1 ∙ ap (λ l. slice_index_or l c.args.index c.in-Some.zone.now) c.deref.ensures.value) c.index.ensures

pub returns-in-None : goal.returns-in-None
returns-in-None g c m kept =
    let h = c.in-None.ensures.lookup in
    let self = c.args.self.now in
    let long = long3_first (λ z b k. HasVersions g.S.ZoneStore.keeps z b k) self.zones.items self.pending.items (map kept_of m.zones) kept.zones_are in
    let past : length m.zones ≤ c.args.index = omega (arith, h.3, ap length c.deref.ensures.value, long, length-map m.zones kept_of) in
    slice_get_past m.zones c.args.index past
