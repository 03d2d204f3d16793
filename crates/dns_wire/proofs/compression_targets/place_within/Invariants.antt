use Rattle.std.proofs.Common.{◌≡◌, ◌+◌, [], length}
use Rattle.dns_names.specs.Name.{labels_of}
use Rattle.dns_names.specs.Plain.{IsPlain}
use Rattle.dns_wire.specs.Compress.{new_places}
use Rattle.dns_wire.specs.Indexed.{offset_at}
use Rattle.dns_wire.proofs.compression_targets.place_within.Given as goal

abbrev pub invariant-labels : goal.invariant-labels
invariant-labels l = record {
  plain : IsPlain l.rest;
  size : l.at + length l.rest ≡ 12 + length l.name;
  position : offset_at (new_places [] 12 (labels_of l.name)) (labels_of l.suffix) ≡ offset_at (new_places [] l.at (labels_of l.rest)) (labels_of l.suffix);
}

abbrev pub decreases-labels : goal.decreases-labels
decreases-labels l = length l.rest
