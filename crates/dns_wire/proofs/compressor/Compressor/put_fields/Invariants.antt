use Rattle.std.proofs.Common.{◌≡◌, ◌≤◌, length, drop}
use Rattle.dns_records.specs.Record.{AreFields}
use Rattle.dns_records.specs.Fields.{stated_fields}
use Rattle.dns_wire.specs.Compress.{compressed_fields}
use Rattle.dns_wire.proofs.FieldsPut.{FieldsLeft}
use Rattle.dns_wire.proofs.compressor.Compressor.put_fields.Given as goal

abbrev pub invariant-loop-field : goal.invariant-loop-field
invariant-loop-field l = record {
  room : length l.self.octets.items ≤ l.self.limit;
  same : l.self.limit ≡ l.fn.self.limit;
  form : AreFields (stated_fields (drop l.field-index l.fields)) l.rest;
  left : FieldsLeft l.fn.self.octets.items (compressed_fields l.fn.self.places (length l.fn.self.octets.items) (stated_fields l.fields) l.rdata) l.self.octets.items l.self.places (stated_fields (drop l.field-index l.fields)) l.rest;
}
