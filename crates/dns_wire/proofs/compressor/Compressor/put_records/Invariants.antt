use Rattle.std.proofs.Common.{◌≡◌, ◌<◌, ◌≤◌, length, drop}
use Rattle.dns_wire.specs.Puts.{compressed_all}
use Rattle.dns_wire.proofs.RecordsPut.{RecordsLeft}
use Rattle.dns_wire.proofs.compressor.Compressor.put_records.Given as goal

abbrev pub invariant-loop-one : goal.invariant-loop-one
invariant-loop-one l = record {
  room : length l.self.octets.items ≤ l.self.limit;
  small : l.self.limit < 65536;
  same : l.self.limit ≡ l.fn.self.limit;
  left : RecordsLeft l.fn.self.octets.items (compressed_all l.fn.self.places (length l.fn.self.octets.items) l.records) l.self.octets.items l.self.places (drop l.one-index l.records);
}
