use Rattle.std.proofs.Common.{◌↔◌, length}
use Rattle.dns_records.proofs.Forms.{AreStrings}
use Rattle.dns_records.proofs.fields.are_strings.Given as goal

abbrev pub invariant-strings : goal.invariant-strings
invariant-strings l = AreStrings l.octets ↔ AreStrings l.rest

abbrev pub decreases-strings : goal.decreases-strings
decreases-strings l = length l.rest
