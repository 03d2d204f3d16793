use Rattle.std.proofs.Common.{◌≡◌, drop}
use Rattle.dns_names.specs.Name.{labels_of}
use Rattle.dns_wire.specs.Compress.{place_of}
use Rattle.dns_wire.proofs.compression_targets.place_of.Given as goal

abbrev pub invariant-loop-position : goal.invariant-loop-position
invariant-loop-position l = place_of l.places (labels_of l.suffix) ≡ place_of (drop l.position-index l.places) (labels_of l.suffix)
