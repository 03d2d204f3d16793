use Rattle.std.proofs.Common.{◌≡◌, true, ◌+◌, ◌∷◌, [], length, ap, sym, subst, ◌∙◌}
use Rattle.std.specs.Result.{OnOk, IfErr}
use Rattle.dns_names.specs.Name.{labels_of}
use Rattle.dns_names.specs.Plain.{IsPlain}
use Rattle.dns_records.specs.Typed.{is_name_type}
use Rattle.dns_records.specs.Types.{Values, Name, type_soa}
use Rattle.dns_records.specs.Record.{AreFields}
use Rattle.dns_wire.specs.Compress.{Compressing, compressed_name, compressed_fields, compressed_rdata}
use Rattle.dns_wire.specs.Puts.{Wrote, RefusesUpTo}
use Rattle.dns_wire.proofs.FewForms.{name_rdata, name_plain, five, soa_fields, soa_rdata}
use Rattle.dns_wire.proofs.compressor.Compressor.put_rdata.Goals as goal

pub put_name-requires-clause-plain : goal.put_name-requires-clause-plain
put_name-requires-clause-plain c =
    let r = c.args.one.now in
    let e : is_name_type r.rtype ≡ true = ap is_name_type (sym c.rtype.ensures) ∙ sym c.is_one_name.ensures ∙ c.if-is_one_name.true in
    subst IsPlain (sym c.rdata-rdata.ensures.octets) (name_plain r e c.rdata-rdata.ensures.valid)

pub returns-then-is_one_name-clause-written : goal.returns-then-is_one_name-clause-written
returns-then-is_one_name-clause-written c =
    let s = c.args.self.now in
    let r = c.args.one.now in
    let at = length s.octets.items in
    let e : is_name_type r.rtype ≡ true = ap is_name_type (sym c.rtype.ensures) ∙ sym c.is_one_name.ensures ∙ c.if-is_one_name.true in
    let same : compressed_name s.places at (labels_of c.rdata-rdata.result.now) ≡ compressed_rdata s.places at r = ap (λ xs. compressed_name s.places at (labels_of xs)) c.rdata-rdata.ensures.octets ∙ name_rdata s.places at r e c.rdata-rdata.ensures.valid in
    subst (λ (more : Compressing). OnOk c.put_name.result (Wrote s.limit s.octets.items c.put_name.new.self.octets.items c.put_name.new.self.limit c.put_name.new.self.places more)) same c.put_name.ensures.written

pub returns-then-is_one_name-clause-refused : goal.returns-then-is_one_name-clause-refused
returns-then-is_one_name-clause-refused c =
    let s = c.args.self.now in
    let r = c.args.one.now in
    let at = length s.octets.items in
    let e : is_name_type r.rtype ≡ true = ap is_name_type (sym c.rtype.ensures) ∙ sym c.is_one_name.ensures ∙ c.if-is_one_name.true in
    let same : compressed_name s.places at (labels_of c.rdata-rdata.result.now) ≡ compressed_rdata s.places at r = ap (λ xs. compressed_name s.places at (labels_of xs)) c.rdata-rdata.ensures.octets ∙ name_rdata s.places at r e c.rdata-rdata.ensures.valid in
    subst (λ (more : Compressing). IfErr c.put_name.result (RefusesUpTo s.limit (length s.octets.items + length more.octets))) same c.put_name.ensures.refused

pub put_two_names-requires-clause-form : goal.put_two_names-requires-clause-form
put_two_names-requires-clause-form c =
    let r = c.args.one.now in
    let e : r.rtype ≡ type_soa = sym c.rtype-2.ensures ∙ c.if-rtype-eq-SOA.true in
    (five, subst (AreFields (Name ∷ Name ∷ Values five ∷ [])) (sym c.rdata-rdata.ensures.octets) (soa_fields r e c.rdata-rdata.ensures.valid))

pub returns-then-rtype-eq-SOA-clause-written : goal.returns-then-rtype-eq-SOA-clause-written
returns-then-rtype-eq-SOA-clause-written c =
    let s = c.args.self.now in
    let r = c.args.one.now in
    let at = length s.octets.items in
    let e : r.rtype ≡ type_soa = sym c.rtype-2.ensures ∙ c.if-rtype-eq-SOA.true in
    let same : compressed_fields s.places at (Name ∷ Name ∷ Values five ∷ []) c.rdata-rdata.result.now ≡ compressed_rdata s.places at r = ap (compressed_fields s.places at (Name ∷ Name ∷ Values five ∷ [])) c.rdata-rdata.ensures.octets ∙ soa_rdata s.places at r e in
    subst (λ (more : Compressing). OnOk c.put_two_names.result (Wrote s.limit s.octets.items c.put_two_names.new.self.octets.items c.put_two_names.new.self.limit c.put_two_names.new.self.places more)) same (c.put_two_names.ensures.written five)

pub returns-then-rtype-eq-SOA-clause-refused : goal.returns-then-rtype-eq-SOA-clause-refused
returns-then-rtype-eq-SOA-clause-refused c =
    let s = c.args.self.now in
    let r = c.args.one.now in
    let at = length s.octets.items in
    let e : r.rtype ≡ type_soa = sym c.rtype-2.ensures ∙ c.if-rtype-eq-SOA.true in
    let same : compressed_fields s.places at (Name ∷ Name ∷ Values five ∷ []) c.rdata-rdata.result.now ≡ compressed_rdata s.places at r = ap (compressed_fields s.places at (Name ∷ Name ∷ Values five ∷ [])) c.rdata-rdata.ensures.octets ∙ soa_rdata s.places at r e in
    subst (λ (more : Compressing). IfErr c.put_two_names.result (RefusesUpTo s.limit (length s.octets.items + length more.octets))) same (c.put_two_names.ensures.refused five)
