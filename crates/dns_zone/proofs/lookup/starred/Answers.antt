use Rattle.std.proofs.Common.{◌≡◌, true, length, refl, ap, arith}
use Rattle.std.specs.Prelude.{Result, Ok, Err, is_ok, OnOk}
use Rattle.dns_zone.proofs.Starred.{Starred, starred}
use Rattle.dns_zone.proofs.lookup.starred.Goals as goal
use Rattle.dns_zone.proofs.lookup.starred.Goals.{After-unwrap}

of_ok : {T E P : Type 0} (r : Result T E) → is_ok r ≡ true → OnOk r P → P
of_ok (Ok x) is p = p
of_ok (Err e) is p = absurd cc

done : (c : After-unwrap) → Starred c.args.name.now c.try_extend_from_slice.new.self.items
done c =
    let fits : is_ok c.try_extend_from_slice.result ≡ true = c.try_extend_from_slice.ensures.variant.1 (omega (arith, c.push-2.ensures.len, c.push.ensures.len, c.requires, ap length c.as_wire.ensures.octets, ap length c.new-octets.ensures)) in
    let added = of_ok c.try_extend_from_slice.result fits c.try_extend_from_slice.ensures.ok in
    starred c.args.name.now c.try_extend_from_slice.new.self.items c.as_wire.ensures.valid c.requires
    (rw (added, c.push-2.ensures.items, c.push.ensures.items, c.new-octets.ensures, c.as_wire.ensures.octets) refl)

pub returns-clause-plain : goal.returns-clause-plain
returns-clause-plain c = (done c).plain

pub returns-clause-labels : goal.returns-clause-labels
returns-clause-labels c = (done c).labels
