use Rattle.dns_names.specs.Name.{labels_of}
use Rattle.dns_wire.specs.Indexed.{head_of, suffix_number}
use Rattle.dns_wire.proofs.Linked.{StillLinked}
use Rattle.dns_wire.proofs.compression_targets.linked_place.Given as goal

abbrev pub invariant-links : goal.invariant-links
invariant-links l = StillLinked l.linked (labels_of l.suffix) (head_of (suffix_number l.suffix)) l.link

abbrev pub decreases-links : goal.decreases-links
decreases-links l = l.link
