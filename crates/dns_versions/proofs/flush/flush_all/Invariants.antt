use Rattle.std.proofs.Common.{◌≡◌, List, Bool, length, drop}
use Rattle.std.specs.Prelude.{◌↔◌}
use Rattle.dns_sectors.specs.Device.{LeavesOnly}
use Rattle.dns_store.specs.Versions.{Kept, OpensAsLeft}
use Rattle.dns_versions.specs.Each.{Each2, Each3}
use Rattle.dns_versions.specs.Held.{HasVersions, newest_each}
use Rattle.dns_versions.specs.Flush.{flushed_to, first_true, FailedWhere}
use Rattle.dns_versions.proofs.flush.flush_all.Given as goal

abbrev pub invariant-loop-i : goal.invariant-loop-i
invariant-loop-i g l = record {
  as_many : length l.zones ≡ length l.pending;
  count : length l.pending ≡ length l.initial.pending;
  rest : drop l.i l.pending ≡ drop l.i l.initial.pending;
  newest : newest_each l.zones l.pending ≡ newest_each l.initial.zones l.initial.pending;
  held : (ks : List Kept) → Each3 (λ z b k. HasVersions g.S.ZoneStore.keeps z b k) l.initial.zones l.initial.pending ks
      → (fails : List Bool) × (length fails ≡ l.i) × Each3 (λ z b k. HasVersions g.S.ZoneStore.keeps z b k) l.zones l.pending (flushed_to fails ks) × (l.first ≡ first_true fails)
      × FailedWhere (λ b. g.S.ZoneStore.failed b.store) fails l.initial.pending l.pending;
  moments : (ks : List Kept) → Each3 (λ z b k. HasVersions g.S.ZoneStore.keeps z b k) l.initial.zones l.initial.pending ks
      → Each3 (λ a b k. g.S.ZoneStore.is_honest a.store → g.S.ZoneStore.is_honest b.store × LeavesOnly g.S.ZoneStore.moment g.S.ZoneStore.left_since a.store b.store (OpensAsLeft g.S.ZoneStore.opens k)) l.initial.pending l.pending ks;
  honest : Each2 (λ a b. g.S.ZoneStore.is_honest b.store ↔ g.S.ZoneStore.is_honest a.store) l.initial.pending l.pending;
}
