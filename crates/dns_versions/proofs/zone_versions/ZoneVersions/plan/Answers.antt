use Rattle.std.proofs.Common.{◌≡◌, ◌≤◌, ◌<◌, ◌+◌, ◌^◌, ◌∷◌, true, ℕ, List, length, sym, subst, ap, ◌∙◌}
use Rattle.dns_zone.specs.Zone.{Zone, IsZone}
use Rattle.dns_records.specs.Record.{Record}
use Rattle.dns_changes.specs.Change.{Change, IsChange}
use Rattle.dns_layout.specs.Sector.{entry_sectors}
use Rattle.dns_store.specs.Versions.{newest_of}
use Rattle.dns_store.specs.Room.{entry_between}
use Rattle.dns_store.specs.Staged.{entry_is}
use Rattle.dns_store.specs.Plain.{octets_of}
use Rattle.dns_versions.specs.Held.{newer, newest_zone}
use Rattle.dns_versions.specs.Staging.{has_room}
use Rattle.dns_versions.proofs.Room.{newer_is, counted, next_valid}
use Rattle.dns_versions.proofs.zone_versions.ZoneVersions.plan.Goals as goal

-- what is counted of a change is counted of the same
counted_of : (before n : ℕ) (c d : Change) → c ≡ d
    → ((kept : ℕ) → before ≡ octets_of (c.old_soa ∷ c.removed) + kept → octets_of (c.new_soa ∷ c.added) + kept < 2 ^ 64 → n ≡ octets_of (c.new_soa ∷ c.added) + kept)
    → (kept : ℕ) → before ≡ octets_of (d.old_soa ∷ d.removed) + kept → octets_of (d.new_soa ∷ d.added) + kept < 2 ^ 64 → n ≡ octets_of (d.new_soa ∷ d.added) + kept
counted_of before n c d same h =
    subst (λ (x : Change). (kept : ℕ) → before ≡ octets_of (x.old_soa ∷ x.removed) + kept → octets_of (x.new_soa ∷ x.added) + kept < 2 ^ 64 → n ≡ octets_of (x.new_soa ∷ x.added) + kept) same h

pub returns-then-not-has_room-clause-room : goal.returns-then-not-has_room-clause-room
returns-then-not-has_room-clause-room g c k held =
    let before = newer c.args.zone.now c.args.self.now.tip in
    let is : before ≡ newest_zone k = newer_is g.S.ZoneStore.keeps c.args.zone.now c.args.self.now k held in
    let valid : IsZone before = subst (λ (z : Zone). IsZone z) c.newest-newest.ensures.either c.apex-valid.ensures.valid in
    let after = g.I.ZoneIndex.records c.args.records in
    let change : IsChange (newest_of k) after c.args.entry = subst (λ (z : Zone). IsChange z.records after c.args.entry) is c.requires.change in
    let octets = counted before c.args.self.now.octets c.octets_after-octets.result after c.args.entry valid c.requires.next c.requires.change (held.octets_are ∙ ap (λ (z : Zone). octets_of z.records) (sym is))
    (counted_of c.args.self.now.octets c.octets_after-octets.result c.change.result.now c.args.entry c.change.ensures c.octets_after-octets.ensures) in
    let size : c.entry_sectors-sectors.result ≡ entry_between (newest_of k) after = c.entry_sectors-sectors.ensures ∙ ap (λ (l : List ℕ). entry_sectors (length l)) c.octets.ensures.octets ∙ sym (entry_is (newest_of k) after c.args.entry change) in
    sym (c.has_room.ensures.room k c.args.zone.now held octets size) ∙ c.if-not-has_room.true

pub returns-in-Ok-clause-room : goal.returns-in-Ok-clause-room
returns-in-Ok-clause-room g c k held =
    let before = newer c.args.zone.now c.args.self.now.tip in
    let is : before ≡ newest_zone k = newer_is g.S.ZoneStore.keeps c.args.zone.now c.args.self.now k held in
    let valid : IsZone before = subst (λ (z : Zone). IsZone z) c.newest-newest.ensures.either c.apex-valid.ensures.valid in
    let after = g.I.ZoneIndex.records c.args.records in
    let change : IsChange (newest_of k) after c.args.entry = subst (λ (z : Zone). IsChange z.records after c.args.entry) is c.requires.change in
    let octets = counted before c.args.self.now.octets c.octets_after-octets.result after c.args.entry valid c.requires.next c.requires.change (held.octets_are ∙ ap (λ (z : Zone). octets_of z.records) (sym is))
    (counted_of c.args.self.now.octets c.octets_after-octets.result c.change.result.now c.args.entry c.change.ensures c.octets_after-octets.ensures) in
    let size : c.entry_sectors-sectors.result ≡ entry_between (newest_of k) after = c.entry_sectors-sectors.ensures ∙ ap (λ (l : List ℕ). entry_sectors (length l)) c.octets.ensures.octets ∙ sym (entry_is (newest_of k) after c.args.entry change) in
    let has : has_room k after ≡ true = sym (c.has_room.ensures.room k c.args.zone.now held octets size) ∙ c.if-not-has_room.false in
    let records : c.in-Ok.plan.version.records ≡ after = ap (λ (z : Zone). z.records) c.in-Ok.ensures.2 in
    record {
      room = subst (λ (rs : List Record). has_room k rs ≡ true) (sym records) has;
      octets = c.in-Ok.ensures.1 ∙ octets (c.has_room.ensures.few c.if-not-has_room.false) ∙ sym (ap octets_of records);
    }
