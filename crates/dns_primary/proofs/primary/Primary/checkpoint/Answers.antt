use Rattle.std.proofs.Common.{map, arith}
use Rattle.std.proofs.lemmas.List.{length-map}
use Rattle.dns_zone.specs.Zone.{Zone}
use Rattle.dns_store.specs.Versions.{Kept}
use Rattle.dns_versions.specs.declared.zone_versions.ZoneVersions.{ZoneVersions}
use Rattle.dns_versions.specs.Held.{HasVersions}
use Rattle.dns_primary.specs.Machine.{kept_of}
use Rattle.dns_primary.proofs.Flushed.{beyond}
use Rattle.dns_primary.proofs.Places.{some_at, long3_first}
use Rattle.dns_primary.proofs.Served.{rests}
use Rattle.dns_primary.proofs.Moved.{not_there, step_of}
use Rattle.dns_primary.proofs.primary.Primary.checkpoint.Goals as goal

pub returns-then-index-len-clause-step : goal.returns-then-index-len-clause-step
returns-then-index-len-clause-step g c old kept =
    let p = c.args.self.now in
    let long = long3_first (λ (z : Zone) (b : ZoneVersions g.row.I.Denot g.row.S.Denot) (k : Kept). HasVersions g.S.ZoneStore.keeps z b k) p.zones.items p.pending.items (map kept_of old.zones) kept.zones_are in
    let many = length-map old.zones kept_of in
    not_there old c.args.index p c.nothing.result (beyond old.zones c.args.index (omega (arith, long, many, c.if-index-len.true, c.len.ensures, p.pending.ok, p.as_many)))
    (rests g.S.ZoneStore p.zones.items p.pending.items (map kept_of old.zones) (λ x k h honest y left. g.met.S.ZoneStore.at_rest x k h honest y left) kept.zones_are) kept c.nothing.ensures.effects_are

pub returns-clause-step : goal.returns-clause-step
returns-clause-step g c old kept =
    let p = c.args.self.now in
    let long = long3_first (λ (z : Zone) (b : ZoneVersions g.row.I.Denot g.row.S.Denot) (k : Kept). HasVersions g.S.ZoneStore.keeps z b k) p.zones.items p.pending.items (map kept_of old.zones) kept.zones_are in
    let many = length-map old.zones kept_of in
    let z = some_at old.zones c.args.index (omega (arith, long, many, c.if-index-len.false, c.len.ensures, p.pending.ok, p.as_many)) in
    let s = c.make_room.ensures.step old kept in
    record { fails = s.fails; failed = s.failed; any_moment = s.any_moment; honest = s.honest; next = s.next; stated = s.stated; is = step_of s.fails old c.args.index z.0 s.stated s.next z.1 s.is; effects_are = s.effects_are; kept = s.kept }
