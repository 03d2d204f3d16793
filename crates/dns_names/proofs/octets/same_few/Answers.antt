use Rattle.std.proofs.Common.{arith}
use Rattle.dns_names.proofs.Alike.{octets, last_half, all_same, half_tells}
use Rattle.dns_names.proofs.octets.same_few.Goals as goal

pub returns-then-half_at : goal.returns-then-half_at
returns-then-half_at c =
    let xs = c.args.octets.now in
    let ys = c.args.others.now in
    last_half xs ys _ _ _ (omega arith) (omega arith) c.requires.same (octets xs c.type_inv.octets) (octets ys c.type_inv.others)
    (half_tells xs ys 0 _ _ (omega arith) c.requires.same (octets xs c.type_inv.octets) (octets ys c.type_inv.others) c.half_at.ensures c.half_at-then-size-ge4.ensures c.if-half_at.true)
    c.half_at-then-half_at.ensures c.half_at-then-half_at-2.ensures

pub returns : goal.returns
returns c = all_same c.args.octets.now c.args.others.now c.octets.at (omega arith) c.requires.same c.octets.invariant.same
