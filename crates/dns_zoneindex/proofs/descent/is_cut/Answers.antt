use Rattle.std.proofs.Common.{length, sym, ap, ◌∙◌, arith}
use Rattle.dns_records.specs.Types.{type_ns}
use Rattle.dns_zone.specs.Ancestry.{tied_under}
use Rattle.dns_zone.specs.Records.{owns_type}
use Rattle.dns_zoneindex.proofs.Longer.{not_below, below_if_under}
use Rattle.dns_zoneindex.proofs.descent.is_cut.Goals as goal

pub returns-then-as_wire : goal.returns-then-as_wire
returns-then-as_wire c = λ set ordered held.
    not_below c.args.name.now c.args.apex.now (owns_type set c.args.name.now type_ns)
    (omega (arith, c.if-as_wire.true, ap length c.as_wire.ensures.octets, ap length c.as_wire-2.ensures.octets))

pub returns-then-has_servers : goal.returns-then-has_servers
returns-then-has_servers c = λ set ordered held.
    let name = c.args.name.now in
    let apex = c.args.apex.now in
    tied_under c.is_under.result name apex c.is_under.ensures.0 c.is_under.ensures.1
    ∙ below_if_under name apex (owns_type set name type_ns)
    (omega (arith, c.if-as_wire.false, ap length c.as_wire.ensures.octets, ap length c.as_wire-2.ensures.octets))
    (sym (c.has_servers.ensures set name ordered held) ∙ c.if-has_servers.true)
