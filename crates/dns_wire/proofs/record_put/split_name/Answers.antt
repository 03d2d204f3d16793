use Rattle.std.proofs.Common.{◌<◌, ◌+◌, ◌∙◌, ℕ, length, drop, get_or, refl, sym, ap, subst, arith}
use Rattle.dns_names.specs.Name.{wire, labels_of}
use Rattle.dns_names.specs.Plain.{IsPlain}
use Rattle.dns_wire.proofs.Fronts.{behind_begin, behind_inside, behind_next, behind_root, Split, split_root}
use Rattle.dns_wire.proofs.record_put.split_name.Goals as goal
use Rattle.dns_wire.proofs.record_put.split_name.Goals.{After-split_at}

pub labels-init : goal.labels-init
labels-init c = behind_begin c.args.octets.now c.requires

pub bounds-octets-root : goal.bounds-octets-root
bounds-octets-root c = behind_inside c.args.octets.now c.labels.root (length (wire (labels_of c.args.octets.now))) c.labels.invariant

pub labels-preserved : goal.labels-preserved
labels-preserved c =
    let m = c.args.octets.now in
    behind_next m c.labels.root (length (wire (labels_of m))) (get_or m c.labels.root 0) refl c.labels-test.true c.labels.invariant

pub overflow_add-root-2 : goal.overflow_add-root-2
overflow_add-root-2 c =
    let inside : c.labels.root < length c.args.octets.now = behind_inside c.args.octets.now c.labels.root (length (wire (labels_of c.args.octets.now))) c.labels.invariant in
    omega arith

pub split_at-requires : goal.split_at-requires
split_at-requires c =
    let inside : c.labels.root < length c.args.octets.now = behind_inside c.args.octets.now c.labels.root (length (wire (labels_of c.args.octets.now))) c.labels.invariant in
    omega arith

split : (c : After-split_at) → Split c.args.octets.now (c.labels.root + 1)
split c =
    let m = c.args.octets.now in
    split_root m c.labels.root c.requires (behind_root m c.labels.root (length (wire (labels_of m))) c.labels-test.false c.labels.invariant)

pub returns-clause-labels : goal.returns-clause-labels
returns-clause-labels c = ap labels_of c.split_at.ensures.front ∙ (split c).labels

pub returns-clause-plain : goal.returns-clause-plain
returns-clause-plain c = subst IsPlain (sym c.split_at.ensures.front) (split c).plain

pub returns-clause-behind : goal.returns-clause-behind
returns-clause-behind c = c.split_at.ensures.back ∙ ap (λ (k : ℕ). drop k c.args.octets.now) (split c).size
