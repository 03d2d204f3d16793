use Rattle.std.proofs.Common.{◌≡◌, sym, subst, ap, ◌∙◌}
use Rattle.dns_zone.specs.Zone.{Zone, IsZone}
use Rattle.dns_changes.specs.Change.{Change, IsChange}
use Rattle.dns_store.specs.Versions.{newest_of}
use Rattle.dns_store.specs.Plain.{octets_of}
use Rattle.dns_versions.specs.Held.{newer, newest_zone}
use Rattle.dns_versions.proofs.Room.{newer_is, room_fits, staged_newest}
use Rattle.dns_versions.proofs.zone_versions.ZoneVersions.stage.Goals as goal

pub returns-clause-staged : goal.returns-clause-staged
returns-clause-staged g c k held room =
    let plan = c.args.plan in
    let after = plan.version.records in
    let parts = c.into_parts-entry in
    let before = newer c.args.zone.now c.args.self.now.tip in
    let is : before ≡ newest_zone k = newer_is g.S.ZoneStore.keeps c.args.zone.now c.args.self.now k held in
    let version : parts.result.1 ≡ record { apex = k.shape.apex; records = after } = parts.ensures.1 ∙ c.requires.version ∙ (λ i. record { apex = (is i).apex; records = after }) in
    record {
      zone_is = held.zone_is;
      tip_is = version ∙ (λ i. record { apex = k.shape.apex; records = sym (staged_newest k after) i });
      number_is = held.number_is;
      octets_are = parts.ensures.2 ∙ room.octets ∙ ap octets_of (sym (staged_newest k after));
      snapshot_is = held.snapshot_is;
      journal_is = held.journal_is;
      kept = c.in_ok-stage.ensures.staged k after held.kept (record {
        change = subst (λ (d : Change). IsChange (newest_of k) after d) (sym parts.ensures.0) (subst (λ (z : Zone). IsChange z.records after plan.change) is c.requires.change);
        valid = subst (λ (z : Zone). IsZone z) version c.apex-valid.ensures.valid;
        fits = room_fits k after room.room;
      });
    }
