use Rattle.std.proofs.Common.{◌≡◌, length}
use Rattle.dns_masterfile.proofs.Strings.{octets_in, onto_all}
use Rattle.dns_masterfile.proofs.values.string.Given as goal

abbrev pub invariant-letters : goal.invariant-letters
invariant-letters l = octets_in l.text ≡ onto_all l.octets.items (octets_in l.rest)

abbrev pub decreases-letters : goal.decreases-letters
decreases-letters l = length l.rest
