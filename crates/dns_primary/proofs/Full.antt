-- How full the store of a zone is.
use Rattle.std.proofs.Common.{◌≡◌, ◌<◌, ℕ, Bool, List, length, map, refl, sym, subst}
use Rattle.std.specs.Prelude.{Option, slice_get, slice_index_or}
use Rattle.dns_zone.specs.Zone.{Zone}
use Rattle.dns_layout.specs.Sector.{snapshot_sectors}
use Rattle.dns_store.specs.Versions.{Kept}
use Rattle.dns_store.specs.Room.{sectors_left}
use Rattle.dns_versions.specs.declared.zone_versions.ZoneVersions.{ZoneVersions}
use Rattle.dns_versions.specs.Held.{HasVersions, shown_zone}
use Rattle.dns_primary.specs.declared.fullness.Fullness.{Fullness}
use Rattle.dns_primary.specs.Fullness.{IsFullness, fullness_of}
use Rattle.dns_primary.specs.Machine.{ZoneState, kept_of}
use Rattle.dns_primary.specs.Keeps.{HaveVersions}
use Rattle.dns_primary.proofs.Places.{at3, map_get, some_at}

-- what is read of a store and of what backs it
abbrev pub read_of : {I S : Type 0} → ZoneVersions I S → ℕ → Bool → Fullness
read_of b left closed = record {
  snapshot_taken = snapshot_sectors b.octets;
  snapshot_sectors = b.snapshot;
  journal_left = left;
  journal_sectors = b.journal;
  is_closed = closed;
}

read_is : {I S : Type 0} (keeps : S → Kept → Type 0) (zone : Zone) (b : ZoneVersions I S) (k : Kept) (left : ℕ) (closed : Bool) → HasVersions keeps zone b k
    → left ≡ sectors_left k → closed ≡ k.closed → read_of b left closed ≡ fullness_of k
read_is keeps zone b k left closed h left_is closed_is =
    subst (λ (x : ℕ). record { snapshot_taken = snapshot_sectors x; snapshot_sectors = b.snapshot; journal_left = left; journal_sectors = b.journal; is_closed = closed } ≡ fullness_of k) (sym h.octets_are)
    (subst (λ (x : ℕ). record { snapshot_taken = (fullness_of k).snapshot_taken; snapshot_sectors = x; journal_left = left; journal_sectors = b.journal; is_closed = closed } ≡ fullness_of k) (sym h.snapshot_is)
    (subst (λ (x : ℕ). record { snapshot_taken = (fullness_of k).snapshot_taken; snapshot_sectors = k.shape.snapshot; journal_left = x; journal_sectors = b.journal; is_closed = closed } ≡ fullness_of k) (sym left_is)
    (subst (λ (x : ℕ). record { snapshot_taken = (fullness_of k).snapshot_taken; snapshot_sectors = k.shape.snapshot; journal_left = sectors_left k; journal_sectors = x; is_closed = closed } ≡ fullness_of k) (sym h.journal_is)
    (subst (λ (x : Bool). record { snapshot_taken = (fullness_of k).snapshot_taken; snapshot_sectors = k.shape.snapshot; journal_left = sectors_left k; journal_sectors = k.shape.journal; is_closed = x } ≡ fullness_of k) (sym closed_is) refl))))

-- of the zone at a position
pub full_at : {I S : Type 0} (keeps : S → Kept → Type 0) (zones : List Zone) (pending : List (ZoneVersions I S)) (states : List ZoneState) (index : ℕ) (b : ZoneVersions I S) (left : ℕ) (closed : Bool)
    → HaveVersions keeps zones pending states → index < length states → b ≡ slice_index_or pending index b
    → ((k : Kept) → keeps b.store k → left ≡ sectors_left k) → ((k : Kept) → keeps b.store k → closed ≡ k.closed) → IsFullness (read_of b left closed) (slice_get states index)
full_at {I} {S} keeps zones pending states index b left closed held lt b_is left_is closed_is =
    let z = some_at states index lt in
    let zone = shown_zone (kept_of z.0) in
    let here = slice_index_or zones index zone in
    let h = at3 (λ (z : Zone) (b : ZoneVersions I S) (k : Kept). HasVersions keeps z b k) zones pending (map kept_of states) index zone b (kept_of z.0) held (map_get kept_of states index z.0 z.1) in
    let mine : HasVersions keeps here b (kept_of z.0) = subst (λ (x : ZoneVersions I S). HasVersions keeps here x (kept_of z.0)) (sym b_is) h in
    subst (λ (o : Option ZoneState). IsFullness (read_of b left closed) o) (sym z.1)
    (read_is keeps here b (kept_of z.0) left closed mine (left_is (kept_of z.0) mine.kept) (closed_is (kept_of z.0) mine.kept))
