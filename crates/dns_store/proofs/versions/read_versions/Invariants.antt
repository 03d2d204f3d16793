use Rattle.std.proofs.Common.{◌≡◌, ◌≤◌, ◌-◌, ℕ, List}
use Rattle.dns_zone.specs.Zone.{IsZone}
use Rattle.dns_layout.specs.Sector.{sector_at}
use Rattle.dns_layout.specs.Own.{IsIntactIn, IsAltered}
use Rattle.dns_layout.specs.Journal.{Entry}
use Rattle.dns_journal.specs.Reads.{OnlyReads, ReadsFrom}
use Rattle.dns_store.specs.Versions.{Versions}
use Rattle.dns_store.specs.Plain.{octets_of}
use Rattle.dns_store.specs.Opens.{AreChangesIn}
use Rattle.dns_store.specs.Reading.{IsReadBy}
use Rattle.dns_store.specs.Damage.{ReadChange, AreStepsIn, IsReachedEntryIn}
use Rattle.dns_store.proofs.Recovering.{Goes}
use Rattle.dns_store.proofs.versions.read_versions.Given as goal

abbrev pub invariant-entries : goal.invariant-entries
invariant-entries g l = record {
  reads : OnlyReads g.D.Sectors l.fn.device l.device;
  quiet : g.D.Sectors.failed l.device ≡ g.D.Sectors.failed l.fn.device;
  until : l.cursor.until ≡ l.fn.cursor.until;
  within : l.cursor.at ≤ l.cursor.until;
  rises : l.fn.cursor.at ≤ l.cursor.at;
  memory : IsReadBy l.format l.fn.cursor l.cursor l.fn.base l.room l.zone.records l.changes.items;
  valid : IsZone l.zone;
  apex : l.zone.apex ≡ l.fn.base.apex;
  len : l.len ≡ octets_of l.zone.records;
  steps : g.D.Sectors.is_honest l.fn.device → (ss : List ReadChange) × AreStepsIn l.format l.fn.base.apex l.room (g.D.Sectors.seen l.fn.device) l.fn.cursor l.fn.base.records ss l.cursor l.zone.records;
  goes : g.D.Sectors.is_honest l.fn.device → (k : List (List ℕ)) → IsAltered l.format k (g.D.Sectors.seen l.fn.device) → (vs : Versions) (es : List Entry) → ReadsFrom l.format l.fn.cursor k es → AreChangesIn l.format l.fn.base.apex l.room l.fn.base.records vs es
      → Goes l.format l.fn.cursor l.cursor k l.fn.base.apex l.room l.fn.base.records vs es l.zone.records l.changes.items;
  reached : g.D.Sectors.is_honest l.fn.device → (position : ℕ) → IsReachedEntryIn l.format l.fn.base.apex l.room l.fn.base.records l.fn.cursor (g.D.Sectors.seen l.fn.device) position → (IsIntactIn l.format position (sector_at (g.D.Sectors.seen l.fn.device) position) → ⊥)
      → IsReachedEntryIn l.format l.fn.base.apex l.room l.zone.records l.cursor (g.D.Sectors.seen l.fn.device) position;
}

abbrev pub decreases-entries : goal.decreases-entries
decreases-entries g l = l.cursor.until - l.cursor.at
