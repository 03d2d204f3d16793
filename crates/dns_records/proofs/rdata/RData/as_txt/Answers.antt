use Rattle.std.proofs.Common.{sym, ◌∙◌}
use Rattle.dns_records.proofs.StringParts.{txt_of}
use Rattle.dns_records.proofs.rdata.RData.as_txt.Goals as goal

pub invariant_of-result : goal.invariant_of-result
invariant_of-result c = (txt_of c.args.self.now c.octets.result.now c.octets.ensures.valid (sym c.rtype.ensures ∙ c.if-rtype-ne-TXT.false) c.octets.ensures.octets).plain

pub returns : goal.returns
returns c =
    let t = txt_of c.args.self.now c.octets.result.now c.octets.ensures.valid (sym c.rtype.ensures ∙ c.if-rtype-ne-TXT.false) c.octets.ensures.octets in
    (t.whole, t.fits)
