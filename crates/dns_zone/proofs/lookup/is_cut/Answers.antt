use Rattle.std.proofs.Common.{sym, ◌∙◌}
use Rattle.dns_zone.specs.Zone.{Zone}
use Rattle.dns_zone.proofs.Uncut.{cuts_below, outside}
use Rattle.dns_zone.proofs.lookup.is_cut.Goals as goal

pub returns-then-is_below : goal.returns-then-is_below
returns-then-is_below c = λ set ordered held.
    let z : Zone = record { apex = c.args.apex.now; records = set } in
    cuts_below z c.args.name.now c.has_servers.result (sym c.is_below.ensures ∙ c.if-is_below.true) (c.has_servers.ensures set c.args.name.now ordered held)

pub returns-else-is_below : goal.returns-else-is_below
returns-else-is_below c = λ set ordered held.
    let z : Zone = record { apex = c.args.apex.now; records = set } in
    c.if-is_below.false ∙ sym (outside z c.args.name.now (sym c.is_below.ensures ∙ c.if-is_below.false))
