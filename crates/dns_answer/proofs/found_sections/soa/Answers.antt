use Rattle.std.proofs.Common.{◌≡◌, true, ◌++◌, refl, sym, ap, ◌∙◌, arith}
use Rattle.std.specs.Prelude.{Some, length, slice_get}
use Rattle.std.proofs.lemmas.Option.{slice_get_read}
use Rattle.std.proofs.lemmas.Bool.Decides.{nat_tests}
use Rattle.dns_records.specs.Record.{Record}
use Rattle.dns_records.specs.Types.{type_soa}
use Rattle.dns_zone.specs.Zone.{soas}
use Rattle.dns_zone.proofs.OneSoa.{zone_soa, is_soa}
use Rattle.dns_answer.proofs.OneSoa.{one_kept}
use Rattle.dns_answer.proofs.found_sections.soa.Goals as goal

typed_soa : (r : Record) → r.rtype ≡ type_soa → is_soa r ≡ true
typed_soa r e = grind (arith, nat_tests, e)

pub returns-in-Some-clause-one : goal.returns-in-Some-clause-one
returns-in-Some-clause-one g c =
    let z = c.args.zone.now in
    let r = c.in-Some.record.now in
    let first = c.run_from-first.result.now in
    let run = c.run_from-first.ensures.run in
    let all : z.records ≡ first ++ run.0 = sym c.index.ensures ∙ run.1 in
    let soa = zone_soa z c.apex-valid.ensures.valid in
    let got : slice_get first c.partition_point-position.result ≡ Some r = slice_get_read first (length first) c.partition_point-position.result r refl c.in-Some.ensures.lookup.3.0 c.in-Some.ensures.lookup.1 in
    let typed : r.rtype ≡ type_soa = sym c.rtype.ensures ∙ c.if-rtype-eq-SOA.true in
    ap soas all ∙ one_kept is_soa run.0 first c.partition_point-position.result soa.soa r (ap soas (sym all) ∙ soa.one) got (typed_soa r typed)
