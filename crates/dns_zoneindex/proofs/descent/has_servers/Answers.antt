use Rattle.std.proofs.Common.{length, ap, ◌∙◌}
use Rattle.std.specs.Prelude.{◌==◌, not}
use Rattle.dns_records.specs.Types.{type_ns}
use Rattle.dns_zone.specs.Owned.{owns_no_type}
use Rattle.dns_zone.specs.Records.{owns_type}
use Rattle.dns_zone.proofs.Kept.{twice}
use Rattle.dns_zoneindex.proofs.descent.has_servers.Goals as goal

pub returns : goal.returns
returns c = λ set name ordered held.
    ap not (c.is_empty.ensures ∙ ap (λ rs. length rs == 0) (c.of_type.ensures set name ordered held) ∙ owns_no_type set name type_ns) ∙ twice (owns_type set name type_ns)
