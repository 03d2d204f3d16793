use Rattle.std.proofs.Common.{◌≡◌}
use Rattle.dns_store.specs.Versions.{Versions}
use Rattle.dns_store.specs.Recovered.{AreLed}
use Rattle.dns_store.specs.Checkpoint.{AllZones}
use Rattle.dns_store.specs.Choosing.{version_from, IsFirstFitting}
use Rattle.dns_store.specs.Plain.{octets_of}
use Rattle.dns_store.proofs.choosing.first_fitting.Given as goal

abbrev pub invariant-loop-i : goal.invariant-loop-i
invariant-loop-i g l =
    (vs : Versions) → AreLed l.base.records vs l.changes → AllZones l.base.apex vs
    → (l.octets ≡ octets_of (version_from l.base.records vs l.i)) × IsFirstFitting l.room l.base.records vs l.i l.first
