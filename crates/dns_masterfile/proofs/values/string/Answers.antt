use Rattle.std.proofs.Common.{arith, inr, refl}
use Rattle.dns_masterfile.proofs.Strings.{letter_more, no_octets, octets_in, string_short, string_long}
use Rattle.dns_masterfile.proofs.values.string.Goals as goal

pub letters-preserved : goal.letters-preserved
letters-preserved c = letter_more (octets_in c.args.text.now) c.letters.octets.items c.push.new.self.items c.letters.rest.now c.in-Some.behind.now c.in-Some.field-0-1 c.in-Some.octet c.letters.invariant c.in-Some.ensures.0 c.in_ok-push.ensures.ok

pub returns-then-len-gt255 : goal.returns-then-len-gt255
returns-then-len-gt255 c = inr (refl, string_long c.args.text.now c.letters.octets.items c.letters.rest.now c.letters.invariant (no_octets c.letters.rest.now c.letters-test.ensures) (omega arith))

pub returns : goal.returns
returns c = string_short c.args.text.now c.letters.octets.items c.letters.rest.now c.letters.invariant (no_octets c.letters.rest.now c.letters-test.ensures) (omega arith)
