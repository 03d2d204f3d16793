use Rattle.std.proofs.Common.{◌<◌, ◌≤◌, ◌∙◌, length, map, ap, arith, subst, sym}
use Rattle.std.specs.Prelude.{slice_get, slice_index_or, ℕ}
use Rattle.std.proofs.lemmas.List.{length-map}
use Rattle.std.proofs.lemmas.Option.{slice_get_past}
use Rattle.dns_versions.specs.Held.{HasVersions}
use Rattle.dns_primary.specs.Fullness.{IsFullness}
use Rattle.dns_primary.specs.Machine.{kept_of}
use Rattle.dns_primary.proofs.Full.{full_at}
use Rattle.dns_primary.proofs.Places.{long3_first}
use Rattle.dns_primary.proofs.primary.Primary.fullness.Goals as goal

pub returns-in-Some : goal.returns-in-Some
returns-in-Some g c m kept =
    let h = c.in-Some.ensures.lookup in
    let self = c.args.self.now in
    let b = c.in-Some.pending.now in
    let long = long3_first (λ z b k. HasVersions g.S.ZoneStore.keeps z b k) self.zones.items self.pending.items (map kept_of m.zones) kept.zones_are in
    let inside : c.args.index < length m.zones = omega (arith, h.3.0, ap length c.deref.ensures.value, long, self.as_many, length-map m.zones kept_of) in
    let full = full_at g.S.ZoneStore.keeps self.zones.items self.pending.items m.zones c.args.index b c.left.result c.is_closed.result kept.zones_are inside
    (h.1 ∙ ap (λ l. slice_index_or l c.args.index b) c.deref.ensures.value) c.left.ensures c.is_closed.ensures in
    subst (λ (x : ℕ). IsFullness (record { snapshot_taken = x; snapshot_sectors = b.snapshot; journal_left = c.left.result; journal_sectors = b.journal; is_closed = c.is_closed.result }) (slice_get m.zones c.args.index)) (sym c.snapshot_sectors.ensures) full

pub returns-in-None : goal.returns-in-None
returns-in-None g c m kept =
    let h = c.in-None.ensures.lookup in
    let self = c.args.self.now in
    let long = long3_first (λ z b k. HasVersions g.S.ZoneStore.keeps z b k) self.zones.items self.pending.items (map kept_of m.zones) kept.zones_are in
    let past : length m.zones ≤ c.args.index = omega (arith, h.3, ap length c.deref.ensures.value, long, self.as_many, length-map m.zones kept_of) in
    slice_get_past m.zones c.args.index past
