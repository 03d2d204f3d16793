use Rattle.std.proofs.Common.{List, map, sym, subst, ◌∙◌}
use Rattle.std.proofs.lemmas.List.{length-map}
use Rattle.dns_store.specs.Versions.{Kept}
use Rattle.dns_versions.specs.Each.{Each3}
use Rattle.dns_versions.specs.Held.{HasVersions}
use Rattle.dns_primary.specs.Machine.{kept_of}
use Rattle.dns_primary.specs.Flush.{flushed_zones}
use Rattle.dns_primary.proofs.Flushed.{kept_flushed_all}
use Rattle.dns_primary.proofs.flush.flush_zones.Goals as goal

pub returns-clause-flushed : goal.returns-clause-flushed
returns-clause-flushed g c m each waits =
    let done = c.flush_all-failed.ensures.held (map kept_of m.zones) each in
    let fails = done.0 in
    let after = subst (λ (ks : List Kept). Each3 (λ z b k. HasVersions g.S.ZoneStore.keeps z b k) c.flush_all-failed.new.zones c.flush_all-failed.new.pending ks) (sym (kept_flushed_all fails m.zones)) done.2 in (
      fails,
      done.1 ∙ length-map m.zones kept_of,
      done.4,
      after,
      c.release_all.ensures.sent c.flush_all-failed.new.zones (flushed_zones fails m.zones) m.waiting after waits,
      c.release_all.ensures.told (flushed_zones fails m.zones) m.waiting waits,
      done.3,
    )
