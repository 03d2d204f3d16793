use Rattle.std.proofs.Common.{arith, inl, inr, ⊎_elim, refl, ◌≡◌, ◌⊎◌, ◌+◌, ◌*◌, ◌≤◌, length, ℕ, List, sym, ◌∙◌, ap, subst}
use Rattle.std.specs.Prelude.{drop}
use Rattle.std.specs.List.{flat_map}
use Rattle.std.proofs.lemmas.Result.{err_from_is_err_and}
use Rattle.dns_names.specs.Name.{wire}
use Rattle.dns_records.specs.Record.{Record, plain}
use Rattle.dns_zone.specs.Zone.{Zone, IsZone}
use Rattle.dns_layout.specs.Sector.{sector_at, number, snapshot_sectors_in}
use Rattle.dns_layout.specs.Own.{IsIntactIn, IsAltered}
use Rattle.dns_layout.specs.Journal.{place_behind, version_behind}
use Rattle.dns_layout.specs.Store.{Sizes, snapshot_place}
use Rattle.dns_journal.specs.declared.read.Cursor.{Cursor}
use Rattle.dns_journal.specs.Reads.{NamesSpoilt}
use Rattle.dns_journal.proofs.Looking.{reads_then}
use Rattle.dns_journal.proofs.Altered.{altered_itself}
use Rattle.dns_store.specs.declared.root.OpenError.{OpenError}
use Rattle.dns_store.specs.Root.{RootRefusalIn}
use Rattle.dns_store.specs.Snapshot.{IsBadSnapshotIn, HoldsSnapshotIn, IsReachedPartIn}
use Rattle.dns_store.specs.Opens.{AreChangesIn, base_of, sizes_of}
use Rattle.dns_store.specs.Versions.{Shape, newest_after}
use Rattle.dns_store.specs.Reading.{IsReadBy}
use Rattle.dns_store.specs.Recovered.{AreLed}
use Rattle.dns_store.specs.Damage.{NamesSpoiltIn, NamesWrongEntryIn, IsReachedEntryIn, NamesSector}
use Rattle.dns_store.proofs.Damage.{root_named, snapshot_named, zone_named, journal_named, sector_named}
use Rattle.dns_store.proofs.Leaves.{newest_split}
use Rattle.dns_store.proofs.InMemory.{sectors_grow_in}
use Rattle.dns_store.proofs.Plains.{zones_same}
use Rattle.dns_store.proofs.Parts.{snapshot_is}
use Rattle.dns_store.proofs.Opening.{stands_first, root_there, bank_altered, snapshot_there, journal_there, place_of, of_reading, of_fault, bank_refused, root_refused, found_there}
use Rattle.dns_store.proofs.Reaching.{reaches, root_reached, snapshot_reached}
use Rattle.dns_store.proofs.recovery.read_store.Goals as goal

pub returns-in_err-root-clause-found : goal.returns-in_err-root-clause-found
returns-in_err-root-clause-found g c honest range k altered o s opens part =
    let f = c.args.format in
    let d = g.D.Sectors.seen c.args.device.now in
    let shape : Shape = record { apex = c.args.apex.now; snapshot = c.args.snapshot; journal = c.args.journal } in
    let sz = sizes_of shape in
    let there = stands_first f sz k s opens in
    let count = sym (g.met.D.Sectors.all_seen c.args.device.now honest) in
    let p = err_from_is_err_and c.from_residual.result c.from_residual.ensures.1 in
    let e = c.in_err-root.field-0.0 in
    rw (p.1, p.2)
    (root_there f sz k s there.0 there.1 d shape c.apex_of.ensures.plain (g.D.Sectors.count c.args.device.now) (count ∙ altered.size) e
    (subst (λ a. (e ≡ OpenError.Device) ⊎ NamesSpoiltIn f d 0 1 e ⊎ RootRefusalIn f (record { snapshot = c.args.snapshot; journal = c.args.journal; apex = a }) (g.D.Sectors.count c.args.device.now) (sector_at k 0) e) c.apex_of.ensures.octets
    (c.in_err-root.ensures.refused honest k altered)))

pub returns-in_err-octets-clause-found : goal.returns-in_err-octets-clause-found
returns-in_err-octets-clause-found g c honest range k altered o s opens part =
    let f = c.args.format in
    let d = g.D.Sectors.seen c.args.device.now in
    let shape : Shape = record { apex = c.args.apex.now; snapshot = c.args.snapshot; journal = c.args.journal } in
    let sz = sizes_of shape in
    let there = stands_first f sz k s opens in
    let one = c.read_root.ensures.reads in
    let found = c.in_ok-root.ensures.found honest k altered in
    let says = found.says in
    let at = 1 + c.number.result * (c.args.snapshot + c.args.journal) in
    let still = subst (λ e. IsAltered f k e) (sym (one.seen honest)) altered in
    let position = place_of f sz k c.in_ok-root.root c.number.result says c.number.ensures in
    let p = err_from_is_err_and c.from_residual-in_err-octets.result c.from_residual-in_err-octets.ensures.1 in
    let e = c.in_err-octets.field-0.0 in
    let size = snapshot_sectors_in f c.in_ok-root.root.snapshot_length in
    let bad = subst (λ b. NamesSpoilt f b at (at + size) e ⊎ IsBadSnapshotIn f (sector_at k 0) at k e) (one.seen honest) (c.in_err-octets.ensures.damaged (one.honest.1 honest) k still (sector_at k 0) says) in
    rw p.1
    (snapshot_there f sz k s there.0 there.1 d shape c.in_ok-root.root (c.in_ok-root.ensures.found honest d (altered_itself f d)).says at position (ap (λ n. 1 + n * (c.args.snapshot + c.args.journal)) c.number.ensures) size c.in_ok-root.ensures.fits.0 c.in_ok-root.ensures.fits.0 e p.0 p.2
    bad)

pub returns-in-Err-clause-found : goal.returns-in-Err-clause-found
returns-in-Err-clause-found g c honest range k altered o s opens part =
    let f = c.args.format in
    let d = g.D.Sectors.seen c.args.device.now in
    let shape : Shape = record { apex = c.args.apex.now; snapshot = c.args.snapshot; journal = c.args.journal } in
    let sz = sizes_of shape in
    let there = stands_first f sz k s opens in
    let one = c.read_root.ensures.reads in
    let found = c.in_ok-root.ensures.found honest k altered in
    let says = found.says in
    let at = 1 + c.number.result * (c.args.snapshot + c.args.journal) in
    let still = subst (λ e. IsAltered f k e) (sym (one.seen honest)) altered in
    let position : at ≡ snapshot_place sz (number (sector_at k 0)) = place_of f sz k c.in_ok-root.root c.number.result says c.number.ensures in
    let holds = c.in_ok-octets.ensures.found (one.honest.1 honest) k still (sector_at k 0) says in
    let octets = snapshot_is f sz k (sector_at k 0) there.0 s there.1 c.in_ok-octets.octets.items (subst (λ n. HoldsSnapshotIn f (sector_at k 0) n k c.in_ok-octets.octets.items) position holds) in
    ⊎_elim (λ memory. inl (inr (inl (c.fault_at.ensures.memory memory)))) (λ bad. absurd (bad.1 (base_of o) part.valid (c.deref.ensures.value ∙ octets ∙ part.snapshot))) c.in-Err.ensures.refused

pub returns-in_err-newest-clause-found : goal.returns-in_err-newest-clause-found
returns-in_err-newest-clause-found g c honest range k altered o s opens part =
    let f = c.args.format in
    let d = g.D.Sectors.seen c.args.device.now in
    let shape : Shape = record { apex = c.args.apex.now; snapshot = c.args.snapshot; journal = c.args.journal } in
    let sz = sizes_of shape in
    let there = stands_first f sz k s opens in
    let one = c.read_root.ensures.reads in
    let found = c.in_ok-root.ensures.found honest k altered in
    let says = found.says in
    let at = 1 + c.number.result * (c.args.snapshot + c.args.journal) in
    let still = subst (λ e. IsAltered f k e) (sym (one.seen honest)) altered in
    let position : at ≡ snapshot_place sz (number (sector_at k 0)) = place_of f sz k c.in_ok-root.root c.number.result says c.number.ensures in
    let holds = c.in_ok-octets.ensures.found (one.honest.1 honest) k still (sector_at k 0) says in
    let octets = snapshot_is f sz k (sector_at k 0) there.0 s there.1 c.in_ok-octets.octets.items (subst (λ n. HoldsSnapshotIn f (sector_at k 0) n k c.in_ok-octets.octets.items) position holds) in
    let two = reads_then _ _ _ one c.read_snapshot.ensures.reads in
    let mine = c.in-Ok.ensures.found in
    let base : c.in-Ok.base.records ≡ base_of o =
    zones_same c.args.apex.now c.in-Ok.base.records (base_of o) (subst (λ a. IsZone (record { apex = a; records = c.in-Ok.base.records })) mine.1 mine.0) part.valid (sym mine.2 ∙ c.deref.ensures.value ∙ octets ∙ part.snapshot) in
    let copied = c.in_ok-copy.ensures in
    let are =
    subst (λ rs. AreChangesIn f c.in_ok-copy.copy.apex c.args.snapshot rs (drop o.base o.versions) s.entries) (sym (copied.1 ∙ base))
    (subst (λ a. AreChangesIn f a c.args.snapshot (base_of o) (drop o.base o.versions) s.entries) (sym (copied.0 ∙ mine.1)) part.changes) in
    let cursor : Cursor = record { at = at + c.args.snapshot; until = at + c.args.snapshot + c.args.journal; version = c.in_ok-root.root.base; opened = c.in_ok-root.root.bank_open } in
    let reads = journal_there f sz k s there.0 there.1 d c.in_ok-root.root says cursor (ap (λ n. n + c.args.snapshot) position) (ap (λ n. n + c.args.snapshot + c.args.journal) position) refl refl in
    let still' = subst (λ e. IsAltered f k e) (sym (two.seen honest)) altered in
    let all = c.in_err-newest.ensures.reads_all (two.honest.1 honest) k still' (drop o.base o.versions) s.entries reads are in
    let p = err_from_is_err_and c.from_residual-in_err-newest.result c.from_residual-in_err-newest.ensures.1 in
    let e = c.in_err-newest.field-0.0 in
    rw (p.1, p.2)
    (⊎_elim (λ failed. inl (inl failed)) (λ rest. ⊎_elim (λ memory. inl (inr (inl memory)))
    (λ spoilt. inr (bank_altered f sz k s there.0 there.1 d shape c.in_ok-root.root (c.in_ok-root.ensures.found honest d (altered_itself f d)).says cursor.at cursor.until (omega (arith, position)) (omega (arith, position))
    (omega (arith, ap (λ n. 1 + n * (c.args.snapshot + c.args.journal)) c.number.ensures)) (omega (arith, ap (λ n. 1 + n * (c.args.snapshot + c.args.journal)) c.number.ensures)) e (subst (λ b. NamesSpoiltIn f b cursor.at cursor.until e) (two.seen honest) spoilt))) rest) all)

pub returns-clause-found : goal.returns-clause-found
returns-clause-found g c honest range k altered o s opens part =
    let f = c.args.format in
    let d = g.D.Sectors.seen c.args.device.now in
    let shape : Shape = record { apex = c.args.apex.now; snapshot = c.args.snapshot; journal = c.args.journal } in
    let sz = sizes_of shape in
    let there = stands_first f sz k s opens in
    let one = c.read_root.ensures.reads in
    let found = c.in_ok-root.ensures.found honest k altered in
    let says = found.says in
    let at = 1 + c.number.result * (c.args.snapshot + c.args.journal) in
    let still = subst (λ e. IsAltered f k e) (sym (one.seen honest)) altered in
    let position : at ≡ snapshot_place sz (number (sector_at k 0)) = place_of f sz k c.in_ok-root.root c.number.result says c.number.ensures in
    let holds = c.in_ok-octets.ensures.found (one.honest.1 honest) k still (sector_at k 0) says in
    let octets = snapshot_is f sz k (sector_at k 0) there.0 s there.1 c.in_ok-octets.octets.items (subst (λ n. HoldsSnapshotIn f (sector_at k 0) n k c.in_ok-octets.octets.items) position holds) in
    let two = reads_then _ _ _ one c.read_snapshot.ensures.reads in
    let mine = c.in-Ok.ensures.found in
    let base : c.in-Ok.base.records ≡ base_of o =
    zones_same c.args.apex.now c.in-Ok.base.records (base_of o) (subst (λ a. IsZone (record { apex = a; records = c.in-Ok.base.records })) mine.1 mine.0) part.valid (sym mine.2 ∙ c.deref.ensures.value ∙ octets ∙ part.snapshot) in
    let copied = c.in_ok-copy.ensures in
    let are =
    subst (λ rs. AreChangesIn f c.in_ok-copy.copy.apex c.args.snapshot rs (drop o.base o.versions) s.entries) (sym (copied.1 ∙ base))
    (subst (λ a. AreChangesIn f a c.args.snapshot (base_of o) (drop o.base o.versions) s.entries) (sym (copied.0 ∙ mine.1)) part.changes) in
    let cursor : Cursor = record { at = at + c.args.snapshot; until = at + c.args.snapshot + c.args.journal; version = c.in_ok-root.root.base; opened = c.in_ok-root.root.bank_open } in
    let reads = journal_there f sz k s there.0 there.1 d c.in_ok-root.root says cursor (ap (λ n. n + c.args.snapshot) position) (ap (λ n. n + c.args.snapshot + c.args.journal) position) refl refl in
    let still' = subst (λ e. IsAltered f k e) (sym (two.seen honest)) altered in
    let all = c.in_ok-newest.ensures.reads_all (two.honest.1 honest) k still' (drop o.base o.versions) s.entries reads are in
    let rs = copied.1 ∙ base in
    record {
      says = says;
      until_is = c.read_versions.ensures.until ∙ ap (λ n. n + c.args.snapshot + c.args.journal) position;
      at_is = all.position ∙ ap (λ n. place_behind (n + c.args.snapshot) s.entries) position;
      version_is = all.version_is ∙ ap (λ n. version_behind n s.entries) (sym says.base_is ∙ there.1.base);
      base_is = base;
      led = subst (λ (b : List Record). AreLed b (drop o.base o.versions) c.in_ok-newest.changes.items) rs all.led;
      newest_is = all.newest_is ∙ ap (λ (b : List Record). newest_after b (drop o.base o.versions)) rs ∙ newest_split o.loaded o.base o.versions;
    }

pub returns-clause-memory : goal.returns-clause-memory
returns-clause-memory g c =
    let f = c.args.format in
    let at = 1 + c.number.result * (c.args.snapshot + c.args.journal) in
    let start : Cursor = record { at = at + c.args.snapshot; until = at + c.args.snapshot + c.args.journal; version = c.in_ok-root.root.base; opened = c.in_ok-root.root.bank_open } in
    let mine = c.in-Ok.ensures.found in
    let copied = c.in_ok-copy.ensures in
    let same : c.in_ok-copy.copy ≡ c.in-Ok.base = λ i. record { apex = copied.0 i; records = copied.1 i } in
    let octets : length (flat_map plain c.in-Ok.base.records) ≤ c.in_ok-root.root.snapshot_length =
    subst (λ (xs : List ℕ). length xs ≤ c.in_ok-root.root.snapshot_length) (sym (sym mine.2 ∙ c.deref.ensures.value)) c.in_ok-octets.ensures.len in
    let grows = sectors_grow_in f (length (flat_map plain c.in-Ok.base.records)) c.in_ok-root.root.snapshot_length octets in
    record {
      start = start;
      version_is = refl;
      place_is = refl;
      until_is = c.read_versions.ensures.until;
      snapshot_room_is = c.in_ok-root.ensures.rooms.0;
      journal_room_is = c.in_ok-root.ensures.rooms.1;
      apex_is = mine.1;
      base_valid = mine.0;
      base_fits = omega (arith, grows, c.in_ok-root.ensures.fits.0);
      reads = subst (λ (z : Zone). IsReadBy f start c.read_versions.new.cursor z c.args.snapshot c.in_ok-newest.newest.records c.in_ok-newest.changes.items) same c.in_ok-newest.ensures.memory;
    }

pub returns-in_err-newest-clause-reads : goal.returns-in_err-newest-clause-reads
returns-in_err-newest-clause-reads g c = reads_then _ _ _ (reads_then _ _ _ c.read_root.ensures.reads c.read_snapshot.ensures.reads) c.read_versions.ensures.reads

pub returns-clause-reads : goal.returns-clause-reads
returns-clause-reads g c = reads_then _ _ _ (reads_then _ _ _ c.read_root.ensures.reads c.read_snapshot.ensures.reads) c.read_versions.ensures.reads

pub returns-in_err-root-clause-refused : goal.returns-in_err-root-clause-refused
returns-in_err-root-clause-refused g c honest =
    let f = c.args.format in
    let d = g.D.Sectors.seen c.args.device.now in
    let shape : Shape = record { apex = c.args.apex.now; snapshot = c.args.snapshot; journal = c.args.journal } in
    let s = sizes_of shape in
    let count = g.D.Sectors.count c.args.device.now in
    let e = c.in_err-root.field-0.0 in
    let p = err_from_is_err_and c.from_residual.result c.from_residual.ensures.1 in
    rw (p.1, p.2)
    (root_refused f s count d e
    (subst (λ a. (e ≡ OpenError.Device) ⊎ NamesSpoiltIn f d 0 1 e ⊎ RootRefusalIn f (record { snapshot = c.args.snapshot; journal = c.args.journal; apex = a }) count (sector_at d 0) e) c.apex_of.ensures.octets
    (c.in_err-root.ensures.refused honest d (altered_itself f d))))

pub returns-in_err-octets-clause-refused : goal.returns-in_err-octets-clause-refused
returns-in_err-octets-clause-refused g c honest =
    let f = c.args.format in
    let d = g.D.Sectors.seen c.args.device.now in
    let shape : Shape = record { apex = c.args.apex.now; snapshot = c.args.snapshot; journal = c.args.journal } in
    let s : Sizes = record { snapshot = c.args.snapshot; journal = c.args.journal; apex = wire c.args.apex.now } in
    let count = g.D.Sectors.count c.args.device.now in
    let root = found_there f c.args.snapshot c.args.journal c.apex_of.result (wire c.args.apex.now) count d c.in_ok-root.root c.apex_of.ensures.octets (c.in_ok-root.ensures.found honest d (altered_itself f d)) in
    let p = err_from_is_err_and c.from_residual-in_err-octets.result c.from_residual-in_err-octets.ensures.1 in
    rw p.1 (bank_refused f s count (sector_at d 0) root p.0 (of_reading c.in_err-octets.field-0.0 p.0 p.2))

pub returns-in-Err-clause-refused : goal.returns-in-Err-clause-refused
returns-in-Err-clause-refused g c honest =
    let f = c.args.format in
    let d = g.D.Sectors.seen c.args.device.now in
    let shape : Shape = record { apex = c.args.apex.now; snapshot = c.args.snapshot; journal = c.args.journal } in
    let s : Sizes = record { snapshot = c.args.snapshot; journal = c.args.journal; apex = wire c.args.apex.now } in
    let count = g.D.Sectors.count c.args.device.now in
    let root = found_there f c.args.snapshot c.args.journal c.apex_of.result (wire c.args.apex.now) count d c.in_ok-root.root c.apex_of.ensures.octets (c.in_ok-root.ensures.found honest d (altered_itself f d)) in
    bank_refused f s count (sector_at d 0) root c.fault_at.result (of_fault _ c.fault_at.result c.fault_at.ensures.other)

pub returns-in_err-newest-clause-refused : goal.returns-in_err-newest-clause-refused
returns-in_err-newest-clause-refused g c honest =
    let f = c.args.format in
    let d = g.D.Sectors.seen c.args.device.now in
    let shape : Shape = record { apex = c.args.apex.now; snapshot = c.args.snapshot; journal = c.args.journal } in
    let s : Sizes = record { snapshot = c.args.snapshot; journal = c.args.journal; apex = wire c.args.apex.now } in
    let count = g.D.Sectors.count c.args.device.now in
    let root = found_there f c.args.snapshot c.args.journal c.apex_of.result (wire c.args.apex.now) count d c.in_ok-root.root c.apex_of.ensures.octets (c.in_ok-root.ensures.found honest d (altered_itself f d)) in
    let p = err_from_is_err_and c.from_residual-in_err-newest.result c.from_residual-in_err-newest.ensures.1 in
    rw (p.1, p.2) (bank_refused f s count (sector_at d 0) root c.in_err-newest.field-0.0 c.in_err-newest.ensures.refused)

pub returns-clause-root : goal.returns-clause-root
returns-clause-root g c honest =
    let f = c.args.format in
    let d = g.D.Sectors.seen c.args.device.now in
    let shape : Shape = record { apex = c.args.apex.now; snapshot = c.args.snapshot; journal = c.args.journal } in
    let s : Sizes = record { snapshot = c.args.snapshot; journal = c.args.journal; apex = wire c.args.apex.now } in
    let count = g.D.Sectors.count c.args.device.now in
    let root = found_there f c.args.snapshot c.args.journal c.apex_of.result (wire c.args.apex.now) count d c.in_ok-root.root c.apex_of.ensures.octets (c.in_ok-root.ensures.found honest d (altered_itself f d)) in
    root

pub returns-in_err-root-clause-damaged : goal.returns-in_err-root-clause-damaged
returns-in_err-root-clause-damaged g c honest =
    let f = c.args.format in
    let d = g.D.Sectors.seen c.args.device.now in
    let shape : Shape = record { apex = c.args.apex.now; snapshot = c.args.snapshot; journal = c.args.journal } in
    let p = err_from_is_err_and c.from_residual.result c.from_residual.ensures.1 in
    let sizes : Sizes = record { snapshot = c.args.snapshot; journal = c.args.journal; apex = c.apex_of.result } in
    rw (p.1, p.2) (root_named f shape d sizes (g.D.Sectors.count c.args.device.now) c.in_err-root.field-0.0 (c.in_err-root.ensures.refused honest d (altered_itself f d)))

pub returns-in_err-octets-clause-damaged : goal.returns-in_err-octets-clause-damaged
returns-in_err-octets-clause-damaged g c honest =
    let f = c.args.format in
    let d = g.D.Sectors.seen c.args.device.now in
    let shape : Shape = record { apex = c.args.apex.now; snapshot = c.args.snapshot; journal = c.args.journal } in
    let one = c.read_root.ensures.reads in
    let found = c.in_ok-root.ensures.found honest d (altered_itself f d) in
    let says = found.says in
    let at = 1 + c.number.result * (c.args.snapshot + c.args.journal) in
    let at_is = ap (λ n. 1 + n * (c.args.snapshot + c.args.journal)) c.number.ensures in
    let still = subst (λ e. IsAltered f d e) (sym (one.seen honest)) (altered_itself f d) in
    let p = err_from_is_err_and c.from_residual-in_err-octets.result c.from_residual-in_err-octets.ensures.1 in
    let e = c.in_err-octets.field-0.0 in
    let size = snapshot_sectors_in f c.in_ok-root.root.snapshot_length in
    let bad = subst (λ b. NamesSpoilt f b at (at + size) e ⊎ IsBadSnapshotIn f (sector_at d 0) at d e) (one.seen honest) (c.in_err-octets.ensures.damaged (one.honest.1 honest) d still (sector_at d 0) says) in
    rw p.1 (snapshot_named f shape d c.in_ok-root.root says at at_is size c.in_ok-root.ensures.fits.0 e p.0 p.2 bad)

pub returns-in-Err-clause-damaged : goal.returns-in-Err-clause-damaged
returns-in-Err-clause-damaged g c honest =
    let f = c.args.format in
    let d = g.D.Sectors.seen c.args.device.now in
    let shape : Shape = record { apex = c.args.apex.now; snapshot = c.args.snapshot; journal = c.args.journal } in
    let one = c.read_root.ensures.reads in
    let found = c.in_ok-root.ensures.found honest d (altered_itself f d) in
    let says = found.says in
    let at = 1 + c.number.result * (c.args.snapshot + c.args.journal) in
    let still = subst (λ e. IsAltered f d e) (sym (one.seen honest)) (altered_itself f d) in
    let holds = c.in_ok-octets.ensures.found (one.honest.1 honest) d still (sector_at d 0) says in
    let at_is = ap (λ n. 1 + n * (c.args.snapshot + c.args.journal)) c.number.ensures in
    zone_named f shape d c.in_ok-root.root says at at_is c.in_ok-octets.octets.items holds c.fault_at.result c.fault_at.ensures.other
    (⊎_elim (λ memory. inl (c.fault_at.ensures.memory memory)) (λ bad. inr (λ records valid is. bad.1 records valid (c.deref.ensures.value ∙ is))) c.in-Err.ensures.refused)

pub returns-in_err-newest-clause-damaged : goal.returns-in_err-newest-clause-damaged
returns-in_err-newest-clause-damaged g c honest =
    let f = c.args.format in
    let d = g.D.Sectors.seen c.args.device.now in
    let shape : Shape = record { apex = c.args.apex.now; snapshot = c.args.snapshot; journal = c.args.journal } in
    let one = c.read_root.ensures.reads in
    let found = c.in_ok-root.ensures.found honest d (altered_itself f d) in
    let says = found.says in
    let at = 1 + c.number.result * (c.args.snapshot + c.args.journal) in
    let still = subst (λ e. IsAltered f d e) (sym (one.seen honest)) (altered_itself f d) in
    let holds = c.in_ok-octets.ensures.found (one.honest.1 honest) d still (sector_at d 0) says in
    let at_is = ap (λ n. 1 + n * (c.args.snapshot + c.args.journal)) c.number.ensures in
    let two = reads_then _ _ _ one c.read_snapshot.ensures.reads in
    let mine = c.in-Ok.ensures.found in
    let base = c.in-Ok.base.records in
    let valid = subst (λ a. IsZone (record { apex = a; records = base })) mine.1 mine.0 in
    let plains = subst (λ (xs : List ℕ). HoldsSnapshotIn f (sector_at d 0) at d xs) (sym c.deref.ensures.value ∙ mine.2) holds in
    let copied = c.in_ok-copy.ensures in
    let cursor : Cursor = record { at = at + c.args.snapshot; until = at + c.args.snapshot + c.args.journal; version = c.in_ok-root.root.base; opened = c.in_ok-root.root.bank_open } in
    let p = err_from_is_err_and c.from_residual-in_err-newest.result c.from_residual-in_err-newest.ensures.1 in
    let e = c.in_err-newest.field-0.0 in
    let wrong = c.in_err-newest.ensures.damaged (two.honest.1 honest) in
    let here = subst (λ b. NamesSpoiltIn f b cursor.at cursor.until e ⊎ NamesWrongEntryIn f c.in_ok-copy.copy.apex c.args.snapshot c.in_ok-copy.copy.records cursor b e) (two.seen honest) wrong in
    let mine' = subst (λ a. NamesSpoiltIn f d cursor.at cursor.until e ⊎ NamesWrongEntryIn f a c.args.snapshot base cursor d e) (copied.0 ∙ mine.1) (subst (λ (rs : List Record). NamesSpoiltIn f d cursor.at cursor.until e ⊎ NamesWrongEntryIn f c.in_ok-copy.copy.apex c.args.snapshot rs cursor d e) copied.1 here) in
    rw (p.1, p.2) (journal_named f shape d c.in_ok-root.root says at at_is base plains valid e mine')

pub returns-in_err-root-clause-not_own : goal.returns-in_err-root-clause-not_own
returns-in_err-root-clause-not_own g c honest range position reached not =
    let f = c.args.format in
    let d = g.D.Sectors.seen c.args.device.now in
    let shape : Shape = record { apex = c.args.apex.now; snapshot = c.args.snapshot; journal = c.args.journal } in
    let e = c.in_err-root.field-0.0 in
    let p = err_from_is_err_and c.from_residual.result c.from_residual.ensures.1 in
    let count = sym (g.met.D.Sectors.all_seen c.args.device.now honest) in
    rw (p.1, p.2)
    (⊎_elim
    (λ first. subst (λ n. NamesSector n e) (sym first.0) (c.in_err-root.ensures.not_own honest (λ own. not (subst (λ n. IsIntactIn f n (sector_at d n)) (sym first.0) own))))
    (λ bank. root_reached f shape d bank.0 bank.1 c.apex_of.ensures.plain position e
    (subst (λ n. (e ≡ OpenError.Device) ⊎ NamesSpoiltIn f d 0 1 e ⊎ RootRefusalIn f (sizes_of shape) n (sector_at d 0) e) count
    (subst (λ a. (e ≡ OpenError.Device) ⊎ NamesSpoiltIn f d 0 1 e ⊎ RootRefusalIn f (record { snapshot = c.args.snapshot; journal = c.args.journal; apex = a }) (g.D.Sectors.count c.args.device.now) (sector_at d 0) e) c.apex_of.ensures.octets
    (c.in_err-root.ensures.refused honest d (altered_itself f d)))))
    reached)

pub returns-in_err-octets-clause-not_own : goal.returns-in_err-octets-clause-not_own
returns-in_err-octets-clause-not_own g c honest range position reached not =
    let f = c.args.format in
    let d = g.D.Sectors.seen c.args.device.now in
    let shape : Shape = record { apex = c.args.apex.now; snapshot = c.args.snapshot; journal = c.args.journal } in
    let one = c.read_root.ensures.reads in
    let found = c.in_ok-root.ensures.found honest d (altered_itself f d) in
    let says = found.says in
    let at = 1 + c.number.result * (c.args.snapshot + c.args.journal) in
    let still = subst (λ e. IsAltered f d e) (sym (one.seen honest)) (altered_itself f d) in
    let p = err_from_is_err_and c.from_residual-in_err-octets.result c.from_residual-in_err-octets.ensures.1 in
    let e = c.in_err-octets.field-0.0 in
    let size = snapshot_sectors_in f c.in_ok-root.root.snapshot_length in
    let bad = subst (λ b. NamesSpoilt f b at (at + size) e ⊎ IsBadSnapshotIn f (sector_at d 0) at d e) (one.seen honest) (c.in_err-octets.ensures.damaged (one.honest.1 honest) d still (sector_at d 0) says) in
    rw p.1
    (⊎_elim
    (λ first. absurd (c.in_ok-root.ensures.not_own honest (λ own. not (subst (λ n. IsIntactIn f n (sector_at d n)) (sym first.0) own))))
    (λ bank. ⊎_elim
    (λ part. subst (λ n. NamesSector n p.0) (sym part.1) (sector_named (at + part.0) e p.0 p.2
    (c.in_err-octets.ensures.not_own (one.honest.1 honest) (sector_at d 0) says part.0 (subst (λ b. IsReachedPartIn f (sector_at d 0) at b part.0) (sym (one.seen honest)) part.2)
    (λ own. not (subst (λ n. IsIntactIn f n (sector_at d n)) (sym part.1) (subst (λ b. IsIntactIn f (at + part.0) (sector_at b (at + part.0))) (one.seen honest) own))))))
    (λ behind. snapshot_reached f d (sector_at d 0) at (flat_map plain behind.base) behind.holds behind.own size (ap (snapshot_sectors_in f) (sym says.snapshot_length_is)) position e p.0 p.2 bad)
    (reaches f shape d bank.0 bank.1 c.in_ok-root.root says c.number.result c.number.ensures position bank.2))
    reached)

pub returns-in-Err-clause-not_own : goal.returns-in-Err-clause-not_own
returns-in-Err-clause-not_own g c honest range position reached not =
    let f = c.args.format in
    let d = g.D.Sectors.seen c.args.device.now in
    let shape : Shape = record { apex = c.args.apex.now; snapshot = c.args.snapshot; journal = c.args.journal } in
    let one = c.read_root.ensures.reads in
    let found = c.in_ok-root.ensures.found honest d (altered_itself f d) in
    let says = found.says in
    let at = 1 + c.number.result * (c.args.snapshot + c.args.journal) in
    let still = subst (λ e. IsAltered f d e) (sym (one.seen honest)) (altered_itself f d) in
    let holds = c.in_ok-octets.ensures.found (one.honest.1 honest) d still (sector_at d 0) says in
    ⊎_elim
    (λ first. absurd (c.in_ok-root.ensures.not_own honest (λ own. not (subst (λ n. IsIntactIn f n (sector_at d n)) (sym first.0) own))))
    (λ bank. ⊎_elim
    (λ part. absurd (c.in_ok-octets.ensures.not_own (one.honest.1 honest) (sector_at d 0) says part.0 (subst (λ b. IsReachedPartIn f (sector_at d 0) at b part.0) (sym (one.seen honest)) part.2)
    (λ own. not (subst (λ n. IsIntactIn f n (sector_at d n)) (sym part.1) (subst (λ b. IsIntactIn f (at + part.0) (sector_at b (at + part.0))) (one.seen honest) own)))))
    (λ behind. (let same = holds.octets_are ∙ sym behind.holds.octets_are in
    ⊎_elim (λ memory. inr (inl (c.fault_at.ensures.memory memory))) (λ bad. absurd (bad.1 behind.base behind.valid (c.deref.ensures.value ∙ same))) c.in-Err.ensures.refused))
    (reaches f shape d bank.0 bank.1 c.in_ok-root.root says c.number.result c.number.ensures position bank.2))
    reached

pub returns-in_err-newest-clause-not_own : goal.returns-in_err-newest-clause-not_own
returns-in_err-newest-clause-not_own g c honest range position reached not =
    let f = c.args.format in
    let d = g.D.Sectors.seen c.args.device.now in
    let shape : Shape = record { apex = c.args.apex.now; snapshot = c.args.snapshot; journal = c.args.journal } in
    let one = c.read_root.ensures.reads in
    let found = c.in_ok-root.ensures.found honest d (altered_itself f d) in
    let says = found.says in
    let at = 1 + c.number.result * (c.args.snapshot + c.args.journal) in
    let still = subst (λ e. IsAltered f d e) (sym (one.seen honest)) (altered_itself f d) in
    let holds = c.in_ok-octets.ensures.found (one.honest.1 honest) d still (sector_at d 0) says in
    let two = reads_then _ _ _ one c.read_snapshot.ensures.reads in
    let mine = c.in-Ok.ensures.found in
    let copied = c.in_ok-copy.ensures in
    let cursor : Cursor = record { at = at + c.args.snapshot; until = at + c.args.snapshot + c.args.journal; version = c.in_ok-root.root.base; opened = c.in_ok-root.root.bank_open } in
    let p = err_from_is_err_and c.from_residual-in_err-newest.result c.from_residual-in_err-newest.ensures.1 in
    rw (p.1, p.2)
    (⊎_elim
    (λ first. absurd (c.in_ok-root.ensures.not_own honest (λ own. not (subst (λ n. IsIntactIn f n (sector_at d n)) (sym first.0) own))))
    (λ bank. ⊎_elim
    (λ part. absurd (c.in_ok-octets.ensures.not_own (one.honest.1 honest) (sector_at d 0) says part.0 (subst (λ b. IsReachedPartIn f (sector_at d 0) at b part.0) (sym (one.seen honest)) part.2)
    (λ own. not (subst (λ n. IsIntactIn f n (sector_at d n)) (sym part.1) (subst (λ b. IsIntactIn f (at + part.0) (sector_at b (at + part.0))) (one.seen honest) own)))))
    (λ behind. (let same = holds.octets_are ∙ sym behind.holds.octets_are in
    let base : c.in-Ok.base.records ≡ behind.base =
    zones_same c.args.apex.now c.in-Ok.base.records behind.base (subst (λ a. IsZone (record { apex = a; records = c.in-Ok.base.records })) mine.1 mine.0) behind.valid (sym mine.2 ∙ c.deref.ensures.value ∙ same) in
    let reach = subst (λ b. IsReachedEntryIn f c.in_ok-copy.copy.apex c.args.snapshot c.in_ok-copy.copy.records cursor b position) (sym (two.seen honest))
    (subst (λ (rs : List Record). IsReachedEntryIn f c.in_ok-copy.copy.apex c.args.snapshot rs cursor d position) (sym (copied.1 ∙ base))
    (subst (λ a. IsReachedEntryIn f a c.args.snapshot behind.base cursor d position) (sym (copied.0 ∙ mine.1)) behind.reached)) in
    c.in_err-newest.ensures.not_own (two.honest.1 honest) position reach (subst (λ b. IsIntactIn f position (sector_at b position) → ⊥) (sym (two.seen honest)) not)))
    (reaches f shape d bank.0 bank.1 c.in_ok-root.root says c.number.result c.number.ensures position bank.2))
    reached)

pub returns-clause-not_own : goal.returns-clause-not_own
returns-clause-not_own g c honest range position reached not =
    let f = c.args.format in
    let d = g.D.Sectors.seen c.args.device.now in
    let shape : Shape = record { apex = c.args.apex.now; snapshot = c.args.snapshot; journal = c.args.journal } in
    let one = c.read_root.ensures.reads in
    let found = c.in_ok-root.ensures.found honest d (altered_itself f d) in
    let says = found.says in
    let at = 1 + c.number.result * (c.args.snapshot + c.args.journal) in
    let still = subst (λ e. IsAltered f d e) (sym (one.seen honest)) (altered_itself f d) in
    let holds = c.in_ok-octets.ensures.found (one.honest.1 honest) d still (sector_at d 0) says in
    let two = reads_then _ _ _ one c.read_snapshot.ensures.reads in
    let mine = c.in-Ok.ensures.found in
    let copied = c.in_ok-copy.ensures in
    let cursor : Cursor = record { at = at + c.args.snapshot; until = at + c.args.snapshot + c.args.journal; version = c.in_ok-root.root.base; opened = c.in_ok-root.root.bank_open } in
    ⊎_elim
    (λ first. absurd (c.in_ok-root.ensures.not_own honest (λ own. not (subst (λ n. IsIntactIn f n (sector_at d n)) (sym first.0) own))))
    (λ bank. ⊎_elim
    (λ part. absurd (c.in_ok-octets.ensures.not_own (one.honest.1 honest) (sector_at d 0) says part.0 (subst (λ b. IsReachedPartIn f (sector_at d 0) at b part.0) (sym (one.seen honest)) part.2)
    (λ own. not (subst (λ n. IsIntactIn f n (sector_at d n)) (sym part.1) (subst (λ b. IsIntactIn f (at + part.0) (sector_at b (at + part.0))) (one.seen honest) own)))))
    (λ behind. (let same = holds.octets_are ∙ sym behind.holds.octets_are in
    let base : c.in-Ok.base.records ≡ behind.base =
    zones_same c.args.apex.now c.in-Ok.base.records behind.base (subst (λ a. IsZone (record { apex = a; records = c.in-Ok.base.records })) mine.1 mine.0) behind.valid (sym mine.2 ∙ c.deref.ensures.value ∙ same) in
    let reach = subst (λ b. IsReachedEntryIn f c.in_ok-copy.copy.apex c.args.snapshot c.in_ok-copy.copy.records cursor b position) (sym (two.seen honest))
    (subst (λ (rs : List Record). IsReachedEntryIn f c.in_ok-copy.copy.apex c.args.snapshot rs cursor d position) (sym (copied.1 ∙ base))
    (subst (λ a. IsReachedEntryIn f a c.args.snapshot behind.base cursor d position) (sym (copied.0 ∙ mine.1)) behind.reached)) in
    c.in_ok-newest.ensures.not_own (two.honest.1 honest) position reach (subst (λ b. IsIntactIn f position (sector_at b position) → ⊥) (sym (two.seen honest)) not)))
    (reaches f shape d bank.0 bank.1 c.in_ok-root.root says c.number.result c.number.ensures position bank.2))
    reached
