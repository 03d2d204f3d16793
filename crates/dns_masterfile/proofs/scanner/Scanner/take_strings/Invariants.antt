use Rattle.std.proofs.Common.{◌≡◌, ℕ, ◌+◌, ◌<◌, ◌≤◌, List, ◌++◌, length}
use Rattle.std.specs.Prelude.{flat_map}
use Rattle.std.specs.List.{AllByRecursion}
use Rattle.dns_records.specs.Record.{string}
use Rattle.dns_masterfile.specs.Reading.{take_strings}
use Rattle.dns_masterfile.proofs.Joins.{strung}
use Rattle.dns_masterfile.proofs.scanner.Scanner.take_strings.Given as goal

abbrev pub invariant-strings : goal.invariant-strings
invariant-strings l = record {
  some : 0 < length l.fn.self.words;
  so_far : (strings : List (List ℕ)) × (take_strings 0 l.fn.self.words ≡ strung (flat_map string strings) (take_strings l.size l.self.words)) × (l.octets.items ≡ l.fn.octets.items ++ flat_map string strings) × AllByRecursion (λ s. length s < 256) strings × (l.size ≡ length (flat_map string strings)) × (0 < length strings + length l.self.words);
  room : l.size ≤ 4096;
  stays : l.self ≡ record l.fn.self { words = l.self.words };
}

abbrev pub decreases-strings : goal.decreases-strings
decreases-strings l = length l.self.words
