use Rattle.std.proofs.Common.{◌≡◌, ℕ, List, ◌++◌, drop}
use Rattle.dns_records.specs.Fields.{stated_fields}
use Rattle.dns_masterfile.specs.Reading.{take_data}
use Rattle.dns_masterfile.proofs.Joins.{joined, Completes}
use Rattle.dns_masterfile.proofs.scanner.Scanner.take_fields.Given as goal

abbrev pub invariant-fields : goal.invariant-fields
invariant-fields l =
    let all = stated_fields l.fields in
    let left = stated_fields (drop l.field-index l.fields) in
    record {
      so_far : (front : List ℕ) × (take_data l.origin all l.fn.self.words ≡ joined front (take_data l.origin left l.self.words)) × (l.octets.items ≡ l.fn.octets.items ++ front) × Completes all left front;
      stays : l.self ≡ record l.fn.self { words = l.self.words };
    }
