use Rattle.std.proofs.Common.{rules, List, ℕ, sym, ◌∙◌, subst}
use Rattle.dns_journal.proofs.Looking.{got_at}
use Rattle.dns_store.specs.Formats.{IsFormat}
use Rattle.dns_store.proofs.Formats.{none_there}
use Rattle.dns_store.proofs.device_format.format_of.Goals as goal

pub returns-then-len-eq0-clause-format : goal.returns-then-len-eq0-clause-format
returns-then-len-eq0-clause-format g c honest =
    none_there (g.D.Sectors.seen c.args.device.now) (g.met.D.Sectors.all_seen c.args.device.now honest ∙ search rules)

pub returns-clause-format : goal.returns-clause-format
returns-clause-format g c honest =
    subst (λ (x : List ℕ). IsFormat x c.told_by.result)
    (sym (got_at (g.D.Sectors.seen c.args.device.now) 0 c.in_ok-sector.sector (c.in_ok-sector.ensures.octets honest))) c.told_by.ensures
