use Rattle.std.proofs.Common.{◌-◌, length}
use Rattle.dns_names.specs.Name.{wire, labels_of}
use Rattle.dns_wire.proofs.Fronts.{NameBehind}
use Rattle.dns_wire.proofs.record_put.split_name.Given as goal

abbrev pub invariant-labels : goal.invariant-labels
invariant-labels l = NameBehind l.octets l.root (length (wire (labels_of l.octets)))

abbrev pub decreases-labels : goal.decreases-labels
decreases-labels l = length l.octets - l.root
