use Rattle.std.proofs.Common.{◌≡◌, ◌∷◌, length}
use Rattle.dns_masterfile.specs.Left.{entry_at}
use Rattle.dns_masterfile.specs.Contexts.{stated_context}
use Rattle.dns_masterfile.specs.Reading.{with_records_before, read_entries, read_file}
use Rattle.dns_masterfile.proofs.read.read_records.Given as goal

abbrev pub invariant-entries : goal.invariant-entries
invariant-entries l = read_file l.octets l.origin ≡ with_records_before l.records.items (read_entries (stated_context l.context) (entry_at l.start.line l.start.blank l.scanner ∷ l.scanner.behind))

abbrev pub decreases-entries : goal.decreases-entries
decreases-entries l = length l.scanner.behind
