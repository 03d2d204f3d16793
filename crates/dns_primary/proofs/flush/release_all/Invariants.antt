use Rattle.std.proofs.Common.{◌≡◌, ◌≤◌, List, length, map, take}
use Rattle.std.specs.Prelude.{vec_capacity}
use Rattle.dns_zone.specs.Zone.{Zone}
use Rattle.dns_versions.specs.Each.{Each2}
use Rattle.dns_primary.specs.Machine.{ZoneState, Waits}
use Rattle.dns_primary.specs.Flush.{all_out, answered_of, released}
use Rattle.dns_primary.specs.Keeps.{HaveVersions, IsWaiting, header_out}
use Rattle.dns_primary.proofs.flush.release_all.Given as goal

abbrev pub invariant-loop-one : goal.invariant-loop-one
invariant-loop-one g l = record {
  few : length l.headers.items ≤ l.one-index;
  most : length l.waiting ≤ 32;
  places : length l.waiting ≤ vec_capacity l.headers;
  sent : (shown : List Zone) (zones : List ZoneState) (ws : List Waits) → HaveVersions g.S.ZoneStore.keeps shown l.pending zones → Each2 IsWaiting l.waiting ws
      → map header_out l.headers.items ≡ all_out (map (released zones) (take l.one-index ws));
  told : (zones : List ZoneState) (ws : List Waits) → Each2 IsWaiting l.waiting ws → Each2 (λ h w. IsWaiting h.waited w) l.headers.items (answered_of (map (released zones) (take l.one-index ws)));
}
