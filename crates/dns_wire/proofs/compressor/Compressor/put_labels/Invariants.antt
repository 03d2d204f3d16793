use Rattle.std.proofs.Common.{◌≡◌, ◌≤◌, length}
use Rattle.dns_names.specs.Name.{labels_of}
use Rattle.dns_names.specs.Plain.{IsPlain}
use Rattle.dns_wire.specs.Compress.{compressed_name}
use Rattle.dns_wire.proofs.Indexed.{StillKnown}
use Rattle.dns_wire.proofs.NamePut.{NameLeft}
use Rattle.dns_wire.proofs.compressor.Compressor.put_labels.Given as goal

abbrev pub invariant-labels : goal.invariant-labels
invariant-labels l = record {
  room : length l.self.octets.items ≤ l.self.limit;
  same : l.self.limit ≡ l.fn.self.limit;
  plain : IsPlain l.rest;
  still : StillKnown l.fn.self.places l.self.places (labels_of l.rest);
  left : NameLeft l.fn.self.octets.items (compressed_name l.fn.self.places (length l.fn.self.octets.items) (labels_of l.name)) l.fn.self.places l.self.octets.items l.self.places (labels_of l.rest);
}

abbrev pub decreases-labels : goal.decreases-labels
decreases-labels l = length l.rest
