use Rattle.std.proofs.Common.{refl, arith}
use Rattle.dns_names.specs.Lower.{AreOctets}
use Rattle.dns_zone.proofs.key.key_of.Goals as goal

pub returns : goal.returns
returns c =
    let octets : AreOctets c.args.label.now = λ i. omega (arith, c.type_inv.label i) in
    (c.key_of_halves.ensures c.args.label.now refl c.in-Some-Some.ensures.cases.same c.in-Some-Some.ensures'.cases.1.same octets, octets)
