use Rattle.std.proofs.Common.{◌≡◌, ℕ, ◌+◌, List, ◌++◌, length, drop}
use Rattle.dns_masterfile.specs.Reading.{take_values}
use Rattle.dns_masterfile.proofs.Joins.{joined}
use Rattle.dns_masterfile.proofs.scanner.Scanner.take_values.Given as goal
use Rattle.dns_records.specs.Types.{octet_count}
use Rattle.dns_records.specs.Fields.{stated_values}

abbrev pub invariant-parts : goal.invariant-parts
invariant-parts l =
    let all = stated_values l.values in
    let left = stated_values (drop l.value-index l.values) in
    record {
      so_far : (front : List ℕ) × (take_values all l.fn.self.words ≡ joined front (take_values left l.self.words)) × (l.octets.items ≡ l.fn.octets.items ++ front) × (length front + octet_count left ≡ octet_count all);
      stays : l.self ≡ record l.fn.self { words = l.self.words };
    }
