use Rattle.std.proofs.Common.{◌≡◌, ◌≤◌, sym, ◌∙◌, ap, subst, arith}
use Rattle.dns_zone.specs.Zone.{IsZone}
use Rattle.dns_changes.specs.Change.{Change, IsChange, applied}
use Rattle.dns_layout.specs.Sector.{snapshot_sectors_in}
use Rattle.dns_store.specs.Plain.{octets_of, sectors_of_snapshot_in}
use Rattle.dns_store.proofs.Chosen.{octets_made}
use Rattle.dns_store.proofs.versions.take_step.Goals as goal

pub returns-clause-fits : goal.returns-clause-fits
returns-clause-fits g c =
    let found = c.in-Ok.ensures.found in
    let made : c.octets_after-len.result ≡ octets_of c.in-Ok.next.records =
    octets_made c.args.zone.now.apex c.args.zone.now.records c.in-Ok.next.records c.in_ok-change.change c.args.len c.octets_after-len.result c.apex-valid.ensures.valid
    (subst (λ a. IsZone (record { apex = a; records = c.in-Ok.next.records })) found.2 found.3) found.1 found.0 c.requires c.octets_after-len.ensures in
    let le : c.snapshot_sectors_in.result ≤ c.args.room = omega (arith, c.if-snapshot_sectors_in-room.false) in
    (made, subst (λ n. n ≤ c.args.room) (c.snapshot_sectors_in.ensures ∙ ap (snapshot_sectors_in c.args.format) made) le)

pub returns-clause-only : goal.returns-clause-only
returns-clause-only g c after d leads written is valid fits =
    let same = c.in_ok-change.ensures.only d written is in
    (same, c.in-Ok.ensures.only after (subst (λ (x : Change). IsChange c.args.zone.now.records after x) (sym same) leads) valid)

pub returns-clause-taken : goal.returns-clause-taken
returns-clause-taken g c d written is applies valid fits = c.in_ok-change.ensures.only d written is

pub returns-then-snapshot_sectors_in-room-clause-only : goal.returns-then-snapshot_sectors_in-room-clause-only
returns-then-snapshot_sectors_in-room-clause-only g c after d leads written is valid fits =
    let found = c.in-Ok.ensures.found in
    let made : c.octets_after-len.result ≡ octets_of c.in-Ok.next.records =
    octets_made c.args.zone.now.apex c.args.zone.now.records c.in-Ok.next.records c.in_ok-change.change c.args.len c.octets_after-len.result c.apex-valid.ensures.valid
    (subst (λ a. IsZone (record { apex = a; records = c.in-Ok.next.records })) found.2 found.3) found.1 found.0 c.requires c.octets_after-len.ensures in
    let same = c.in_ok-change.ensures.only d written is in
    let next : c.in-Ok.next.records ≡ after = c.in-Ok.ensures.only after (subst (λ (x : Change). IsChange c.args.zone.now.records after x) (sym same) leads) valid in
    let sectors : c.snapshot_sectors_in.result ≡ sectors_of_snapshot_in c.args.format after = c.snapshot_sectors_in.ensures ∙ ap (snapshot_sectors_in c.args.format) (made ∙ ap octets_of next) in
    absurd (omega (arith, c.if-snapshot_sectors_in-room.true, sectors, fits))

pub returns-then-snapshot_sectors_in-room-clause-taken : goal.returns-then-snapshot_sectors_in-room-clause-taken
returns-then-snapshot_sectors_in-room-clause-taken g c d written is applies valid fits =
    let found = c.in-Ok.ensures.found in
    let made : c.octets_after-len.result ≡ octets_of c.in-Ok.next.records =
    octets_made c.args.zone.now.apex c.args.zone.now.records c.in-Ok.next.records c.in_ok-change.change c.args.len c.octets_after-len.result c.apex-valid.ensures.valid
    (subst (λ a. IsZone (record { apex = a; records = c.in-Ok.next.records })) found.2 found.3) found.1 found.0 c.requires c.octets_after-len.ensures in
    let same = c.in_ok-change.ensures.only d written is in
    let next : c.in-Ok.next.records ≡ applied d c.args.zone.now.records = sym found.0 ∙ ap (λ (x : Change). applied x c.args.zone.now.records) same in
    let sectors : c.snapshot_sectors_in.result ≡ sectors_of_snapshot_in c.args.format (applied d c.args.zone.now.records) = c.snapshot_sectors_in.ensures ∙ ap (snapshot_sectors_in c.args.format) (made ∙ ap octets_of next) in
    absurd (omega (arith, c.if-snapshot_sectors_in-room.true, sectors, fits))
