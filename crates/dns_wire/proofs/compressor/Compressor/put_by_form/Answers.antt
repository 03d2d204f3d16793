use Rattle.std.proofs.Common.{◌≡◌, ◌+◌, length, ap, sym, subst, ◌∙◌}
use Rattle.std.specs.Result.{OnOk, IfErr}
use Rattle.dns_records.specs.Types.{form}
use Rattle.dns_wire.specs.Compress.{Compressing, compressed_rdata}
use Rattle.dns_wire.specs.Puts.{Wrote, RefusesUpTo, plain_octets}
use Rattle.dns_wire.proofs.FieldsPut.{formless_rdata, nameless_rdata}
use Rattle.dns_wire.proofs.compressor.Compressor.put_by_form.Goals as goal
use Rattle.dns_wire.proofs.compressor.Compressor.put_by_form.Goals.{After-put, in_default-via-in-Some+else-have_name, in_default-via-in_default}

in_one_piece : (c : After-put) → plain_octets c.args.self.now.places c.rdata-rdata.result.now ≡ compressed_rdata c.args.self.now.places (length c.args.self.now.octets.items) c.args.one.now
in_one_piece c = ap (plain_octets c.args.self.now.places) c.rdata-rdata.ensures.octets ∙ sym (elim c.in_default.branch [
  | in_default-via-in-Some+else-have_name w ↦ nameless_rdata c.args.self.now.places (length c.args.self.now.octets.items) c.args.one.now w.in-Some.fields.now (ap form (sym c.rtype.ensures) ∙ w.in-Some.ensures.known) (sym w.have_name.ensures ∙ w.if-have_name.false)
  | in_default-via-in_default w ↦ formless_rdata c.args.self.now.places (length c.args.self.now.octets.items) c.args.one.now (ap form (sym c.rtype.ensures) ∙ w.in_default.ensures.unknown)
])

pub returns-in_default-clause-written : goal.returns-in_default-clause-written
returns-in_default-clause-written c =
    let s = c.args.self.now in
    subst (λ more. OnOk c.put.result (Wrote s.limit s.octets.items c.put.new.self.octets.items c.put.new.self.limit c.put.new.self.places more)) (in_one_piece (goal.at.returns-in_default-clause-written c).After-put) c.put.ensures.written

pub returns-in_default-clause-refused : goal.returns-in_default-clause-refused
returns-in_default-clause-refused c =
    let s = c.args.self.now in
    subst (λ (more : Compressing). IfErr c.put.result (RefusesUpTo s.limit (length s.octets.items + length more.octets))) (in_one_piece (goal.at.returns-in_default-clause-refused c).After-put) c.put.ensures.refused
