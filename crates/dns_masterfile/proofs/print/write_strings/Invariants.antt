use Rattle.std.proofs.Common.{◌≡◌, ◌++◌, List, ℕ, length}
use Rattle.std.specs.Prelude.{map}
use Rattle.std.specs.Fmt.{HasWritten, IsPlainFormatter}
use Rattle.dns_masterfile.specs.Text.{printed_string}
use Rattle.dns_masterfile.specs.Printed.{spaced}
use Rattle.dns_masterfile.proofs.print.write_strings.Given as goal

abbrev pub invariant-strings : goal.invariant-strings
invariant-strings g l =
    (text : List ℕ) × (spaced (map printed_string l.initial.rest) ≡ text ++ spaced (map printed_string l.rest))
    × (IsPlainFormatter l.initial.f → HasWritten g.W.Write.write_str_gives l.initial.f text l.f)

abbrev pub decreases-strings : goal.decreases-strings
decreases-strings g l = length l.rest
